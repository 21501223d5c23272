-- What the functions of `residue` answer, and what they leave in what was lent to them.
use Rattle.std.specs.Prelude.{ℕ, zero, suc, ◌+◌, ◌*◌, Bool, true, List, eqb, ℤ, nat_abs, length, Result, Ok, Err}
use Rattle.lists.specs.Lists.{both, pick}
use Rattle.macroblock.specs.Reply.{done, wrong_length, outside_plane, number}
use Rattle.macroblock.specs.declared.reply.Refusal.{Refusal}
use Rattle.rfc6386.specs.Dct.{entry, idct}
use Rattle.rfc6386.specs.Residue.{summed, lies, added_at}
use Rattle.clipping.specs.Clipped.{block_clipped, clipped_at}
use Rattle.residue.specs.declared.Summed.{Summed}

-- ---- `add_residue_4x4`: the sixteen pixels, and how many of the sums were clipped
unfoldable pub summed_block : List ℕ → List ℤ → Summed
summed_block prediction residue = record { pixels = summed 16 prediction residue; clipped = block_clipped 16 prediction residue }

-- ---- `add_residue`: nothing is written unless the three lengths are equal
unfoldable pub same_lengths : ℕ → ℕ → ℕ → Bool
same_lengths prediction residue out = both (eqb residue prediction) (eqb out prediction)

unfoldable pub residue_reply : ℕ → ℕ → ℕ → ℕ
residue_reply prediction residue out = pick (same_lengths prediction residue out) done wrong_length

unfoldable pub residue_added : List ℕ → List ℤ → List ℕ → List ℕ
residue_added prediction residue out =
    pick (same_lengths (length prediction) (length residue) (length out)) (summed (length prediction) prediction residue) out

-- ---- `inverse_dct_4x4_add_into`: the plane is untouched unless the block lies in it
unfoldable pub add_reply : ℕ → ℕ → ℕ → ℕ → ℕ
add_reply n stride r c = pick (lies n stride r c) done outside_plane

unfoldable pub added_into : List ℤ → ℕ → ℕ → ℕ → List ℕ → List ℕ
added_into input stride r c l = pick (lies (length l) stride r c) (added_at (4 * r * stride + 4 * c) stride (idct input) l) l

-- how many of the block's sums were clipped: a refused block counts nothing
unfoldable pub add_clipped : List ℤ → ℕ → ℕ → ℕ → List ℕ → ℕ
add_clipped input stride r c l = pick (lies (length l) stride r c) (clipped_at (4 * r * stride + 4 * c) stride (idct input) l) 0

-- the reply, beside the count
pub record AddedInto : Type 0 where
  pub reply : ℕ
  pub clipped : ℕ

-- what an answer says
abbrev pub told : Result ℕ Refusal → AddedInto
told (Ok n) = record { reply = done; clipped = n }
told (Err e) = record { reply = number e; clipped = 0 }

unfoldable pub added_reply : List ℤ → ℕ → ℕ → ℕ → List ℕ → AddedInto
added_reply input stride r c l = record { reply = add_reply (length l) stride r c; clipped = add_clipped input stride r c l }

-- ---- the test for AC: coefficients 1 to n are all 0
unfoldable pub zeros_to : ℕ → List ℤ → Bool
zeros_to zero l = true
zeros_to (suc n) l = both (zeros_to n l) (eqb (nat_abs (entry l (n + 1))) 0)

unfoldable pub ac_free : List ℤ → Bool
ac_free l = zeros_to 15 l
