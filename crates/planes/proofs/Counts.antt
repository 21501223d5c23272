-- A run of n: at most n of its sums are outside, and the sum over its pairs of a pixel and its residue counts them. Assumes nothing.
use Prim.Native.Nat.{ℕ, ◌+◌, ◌<◌, ◌≤◌}
use mathlib.Core.Path.{◌≡◌, ap, ◌∙◌}
use mathlib.Core.List.{List}
use native.Mathlib.Omega.{arith}
use lib.IntN.{ℤ, pos}
use lib.ListN.{length, get_or, take, drop, length-drop}
use lib.Seq.{length-take-le, get_or-take, get_or-drop}
use Rattle.std.specs.List.{sum_by, zip}
use Rattle.std.proofs.lemmas.Slice.Zip.{length-zip, get_or-zip}
use Rattle.lists.proofs.Total.{sum-total, total_ext, total-≤}
use Rattle.clipping.specs.Clipped.{over}
use Rattle.clipping.proofs.Counted.{over-≤}
use Rattle.planes.specs.Steps.{run_clipped}

pub run-≤ : (px : List ℕ) (o : List ℤ) (at start n : ℕ) → run_clipped px o at start n ≤ n
unfolding run_clipped
run-≤ px o at start n = let h = total-≤ 1 n (λ k. over (get_or px (at + k) 0) (get_or o (start + k) (pos 0))) (λ k l. over-≤ (get_or px (at + k) 0) (get_or o (start + k) (pos 0))) in omega (arith, h)

part-length : {A : Type 0} (l : List A) (at n : ℕ) → at + n ≤ length l → length (take n (drop at l)) ≡ n
part-length l at n h = length-take-le n (drop at l) (rw length-drop (omega (arith, h)))

part-at : {A : Type 0} (l : List A) (at n i : ℕ) (d : A) → i < n → get_or (take n (drop at l)) i d ≡ get_or l (at + i) d
part-at l at n i d h = get_or-take n (drop at l) i d h ∙ get_or-drop at l i d

abbrev pub counted : ℕ × ℤ → ℕ
counted z = over z.0 z.1

pub run-pairs : (px : List ℕ) (o : List ℤ) (at start n : ℕ) → at + n ≤ length px → start + n ≤ length o
    → sum_by counted (zip (take n (drop at px)) (take n (drop start o))) ≡ run_clipped px o at start n
unfolding run_clipped
run-pairs px o at start n h k =
    let ps = take n (drop at px) in
    let rs = take n (drop start o) in
    let hp = part-length px at n h in
    let hr = part-length o start n k in
    sum-total counted (zip ps rs) (0, pos 0) n (length-zip ps rs ∙ omega (arith, hp, hr))
    ∙ total_ext n (λ i. counted (get_or (zip ps rs) i (0, pos 0))) (λ i. over (get_or px (at + i) 0) (get_or o (start + i) (pos 0))) λ i l.
    ap counted (get_or-zip ps rs i (0, pos 0) (omega (arith, hp)) (omega (arith, hr)))
    ∙ rw (part-at px at n i 0 l, part-at o start n i (pos 0) l)
