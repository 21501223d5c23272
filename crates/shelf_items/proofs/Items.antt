-- An item as it is drawn, from the parts of the lists that its turn reads. Assumes nothing.
use Prim.Native.Nat.{ℕ, ◌+◌, ◌-◌, ◌*◌, ◌≤◌}
use mathlib.Core.Path.{◌≡◌, refl, sym, ap, ◌∙◌}
use mathlib.Core.Bool.{true}
use mathlib.Core.List.{List, [], ◌∷◌}
use native.Mathlib.Nat.{add-zero}
use native.Mathlib.Omega.{arith}
use borrow.Rule.Slice.PartMut.{mid_of}
use lib.IntN.{ℤ}
use lib.ListN.{length, get_or, take, drop, replicate}
use Rattle.slices.specs.Copies.{or_zeros, cleared, put_in}
use Rattle.lists.specs.Lists.{item_of}
use Rattle.slices.proofs.Copied.{put_fit}
use Rattle.slices.proofs.Parts.{part-is, part_length, part-whole}
use Rattle.reconstruct.specs.Answers.{MbAnswer}
use Rattle.drawing.specs.Drawn.{drawn_with, drawn_bytes}
use Rattle.drawing.proofs.Shape.{Shape, with-shape}
use Rattle.drawing.proofs.Shape.{bytes-shape as item-shape}
use Rattle.shelf_items.specs.declared.Job.{Job}
use Rattle.shelf_items.specs.Shelf.{no_job, job_drawn, job_at, bytes_at}

-- ---- what a refused item leaves
pub part-cleared : (n at : ℕ) (l to : List ℕ) → at + n ≤ length l → to ≡ cleared (mid_of at (at + n - at) l)
    → to ≡ put_in n (replicate n 0) (mid_of at (at + n - at) l)
unfolding cleared
part-cleared n at l to h e =
    let size : length (mid_of at (at + n - at) l) ≡ n = ap (λ (m : List ℕ). length m) (part-is n at l) ∙ part_length n at l h in
    rw size at e ∙ sym (put_fit n (replicate n 0) (mid_of at (at + n - at) l) size)

pub one-kept : (l : List ℕ) → length l ≡ 1 → l ≡ (get_or l 0 0 + 0) ∷ []
one-kept [] e = absurd (omega (arith, e))
one-kept (a ∷ []) e = rw add-zero refl
one-kept (a ∷ b ∷ l) e = absurd (omega (arith, e))

-- ---- a job
pub job-drawn : (job : Job) (subs : List ℕ) (coeffs : List ℤ) (i : ℕ) (s : List ℕ) (r : MbAnswer) → 16 * i + 16 ≤ length subs
    → s ≡ or_zeros 0 16 (take (16 * i + 16 - 16 * i) (drop (16 * i) subs))
    → r ≡ drawn_with job.modes s true job.neighbors (take (400 * i + 400 - 400 * i) (drop (400 * i) coeffs))
    → r ≡ job_drawn job subs coeffs i
unfolding job_drawn
job-drawn job subs coeffs i s r h e d = rw (← part-whole 0 16 (16 * i) subs h, ← e, ← part-is 400 (400 * i) coeffs) d

pub job-shape : (job : Job) (subs : List ℕ) (coeffs : List ℤ) (i : ℕ) → Shape (job_drawn job subs coeffs i)
unfolding job_drawn
job-shape job subs coeffs i = with-shape job.modes (item_of 16 i subs) true job.neighbors (item_of 400 i coeffs)

pub jobs-shape : (jobs : List Job) (subs : List ℕ) (coeffs : List ℤ) (k : ℕ) → Shape (job_at jobs subs coeffs k)
unfolding job_at
jobs-shape jobs subs coeffs k = job-shape (get_or jobs k no_job) subs coeffs k

-- ---- bytes
pub bytes-drawn : (modes records subs : List ℕ) (coeffs : List ℤ) (i : ℕ) (b s : List ℕ) (r : MbAnswer) → 81 * i + 81 ≤ length records
    → 16 * i + 16 ≤ length subs
    → b ≡ or_zeros 0 81 (take (81 * i + 81 - 81 * i) (drop (81 * i) records))
    → s ≡ or_zeros 0 16 (take (16 * i + 16 - 16 * i) (drop (16 * i) subs))
    → r
    ≡ drawn_bytes (get_or modes (3 * i) 0) (get_or modes (3 * i + 1) 0) (get_or modes (3 * i + 2) 0) s true b
    (take (400 * i + 400 - 400 * i) (drop (400 * i) coeffs))
    → r ≡ bytes_at modes records subs coeffs i
unfolding bytes_at
bytes-drawn modes records subs coeffs i b s r g h p e d =
    rw (← part-whole 0 81 (81 * i) records g, ← p, ← part-whole 0 16 (16 * i) subs h, ← e, ← part-is 400 (400 * i) coeffs) d

pub bytes-shape : (modes records subs : List ℕ) (coeffs : List ℤ) (k : ℕ) → Shape (bytes_at modes records subs coeffs k)
unfolding bytes_at
bytes-shape modes records subs coeffs k =
    item-shape (get_or modes (3 * k) 0) (get_or modes (3 * k + 1) 0) (get_or modes (3 * k + 2) 0) (item_of 16 k subs) true (item_of 81 k records) (item_of 400 k coeffs)
