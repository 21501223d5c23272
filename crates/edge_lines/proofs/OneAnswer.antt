-- Each promise of `edge_lines` leaves one thing only in each plane. Assumes nothing.
use mathlib.Core.Path.{refl}
use mathlib.Core.List.{List}
use Prim.Native.Nat.{ℕ}
use Rattle.lists.proofs.Answer.{OneAnswerIn, same}
use Rattle.edge_lines.proofs.filter_luma.Reads as filter-luma
use Rattle.edge_lines.proofs.filter_luma.Kinds as filter-luma-k
use Rattle.edge_lines.proofs.filter_chroma.Reads as filter-chroma
use Rattle.edge_lines.proofs.filter_chroma.Kinds as filter-chroma-k

pub filter-luma-one : OneAnswerIn 1 filter-luma-k.ps filter-luma-k.r filter-luma.Post (λ κs s. s.0.now)
filter-luma-one κs a x y s t p q = (refl, same p q)

pub filter-chroma-one : OneAnswerIn 2 filter-chroma-k.ps filter-chroma-k.r filter-chroma.Post {A = List ℕ × List ℕ} (λ κs s. (s.0.now, s.1.0.now))
filter-chroma-one κs a x y s t p q = (refl, same p q)
