-- The pixels that a sub-block reads, one after another. Assumes nothing.
use Prim.Native.Nat.{ℕ, ◌+◌, ◌*◌, ◌-◌, ◌≤◌}
use mathlib.Core.Path.{◌≡◌}
use mathlib.Core.List.{List}
use native.Mathlib.Omega.{arith}
use lib.Dec.{lit≤}
use lib.ListN.{get_or}
use Rattle.lists.specs.Lists.{table}
use Rattle.rfc6386.specs.Walk.{above_in, left_in}

-- i pixels on from the one above
on : (at i : ℕ) → 22 ≤ at → i ≤ 21 → at - 21 + i ≡ at - (21 - i)
on at i h k = omega arith

pub above-is : (b : List ℕ) (at : ℕ) → 22 ≤ at → table 8 (λ c. get_or b (at - 21 + c) 0) ≡ above_in b at
unfolding table above_in
above-is b at h =
    rw (
      on at 0 h (lit≤ tt),
      on at 1 h (lit≤ tt),
      on at 2 h (lit≤ tt),
      on at 3 h (lit≤ tt),
      on at 4 h (lit≤ tt),
      on at 5 h (lit≤ tt),
      on at 6 h (lit≤ tt),
      on at 7 h (lit≤ tt),
    )

pub left_is : (b : List ℕ) (at : ℕ) → 22 ≤ at → table 4 (λ r. get_or b (at - 1 + 21 * r) 0) ≡ left_in b at
unfolding table left_in
left_is b at h =
    let e : at - 1 + 0 ≡ at - 1 = omega arith in
    let f : at - 1 + 21 ≡ at + 20 = omega arith in
    let g : at - 1 + 42 ≡ at + 41 = omega arith in
    let i : at - 1 + 63 ≡ at + 62 = omega arith in
    rw (e, f, g, i)
