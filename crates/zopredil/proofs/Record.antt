-- A record's bytes are 81, and zeros where every edge is absent; what is told of the pixels above right. Assumes nothing.
use Prim.Native.Nat.{ℕ}
use mathlib.Core.Path.{◌≡◌, refl, ap}
use mathlib.Core.List.{List}
use lib.ListN.{length, replicate}
use Rattle.std.specs.Prelude.{Result, Ok, Err}
use Rattle.lists.specs.Lists.{table, part, ◌beside◌}
use Rattle.macroblock.specs.declared.reply.Refusal.{Refusal}
use Rattle.right_pixels.specs.Answers.{RightPixels, told}
use Rattle.zopredil.specs.Told.{told as made}
use Rattle.macroblock.specs.declared.neighbors.MbNeighbors.{MbNeighbors}
use Rattle.macroblock.specs.Neighbors.{no_luma, no_chroma, absent}
use Rattle.record_bytes.specs.Bytes.{luma_marks, chroma_marks, luma_bytes, chroma_bytes, bytes_of}

pub bytes-number : (n : MbNeighbors) → length (bytes_of n) ≡ 81
unfolding table part luma_marks chroma_marks luma_bytes chroma_bytes bytes_of
bytes-number n = refl

pub absent-zeros : bytes_of absent ≡ replicate 81 0
unfolding table part luma_marks chroma_marks luma_bytes chroma_bytes bytes_of no_luma no_chroma absent
absent-zeros = refl

-- what is told of the pixels above right
pub right-says : (r : Result (List ℕ) Refusal) {a : RightPixels} → told r ≡ a → made 0 4 r ≡ (a.reply beside a.pixels)
right-says (Ok pixels) e = ap (λ (a : RightPixels). a.reply beside a.pixels) e
right-says (Err r) e = ap (λ (a : RightPixels). a.reply beside a.pixels) e
