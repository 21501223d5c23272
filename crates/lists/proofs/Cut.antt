-- A part of a list of numbers is taken and dropped.
--     part-take      n numbers from `at` on, where the list has them
-- Assumes nothing.
use Rattle.std.proofs.Common.{◌≡◌, sym, ◌∙◌, ℕ, ◌+◌, ◌≤◌, List, length, take, drop, get_or, arith, length-drop}
use Rattle.std.proofs.lemmas.List.{get_or-drop}
use Rattle.lists.specs.Lists.{table, part}
use Rattle.lists.proofs.Table.{table-ext, table-take}

pub part-take : (n at : ℕ) (s : List ℕ) → at + n ≤ length s → part n s at ≡ take n (drop at s)
unfolding part
part-take n at s h =
    table-ext n (λ i. get_or s (at + i) 0) (λ i. get_or (drop at s) i 0) (λ i q. sym (get_or-drop at s i 0))
    ∙ table-take n (drop at s) 0 (rw length-drop (omega (arith, h)))
