-- `record_bytes::marks_known` meets its contract: the marks are the first ten bytes. Assumes nothing.
use Prim.Native.Nat.{ℕ}
use mathlib.Core.Path.{◌≡◌, ap, ◌∙◌}
use native.Mathlib.Nat.{le_refl}
use native.Mathlib.Omega.{arith}
use lib.ListN.{length, take}
use lib.Seq.{length-take-le}
use Rattle.lists.specs.Lists.{within}
use Rattle.lists.proofs.Within.{within_first}
use Rattle.record_bytes.specs.Bytes.{marks_known}
use Rattle.record_bytes.proofs.marks_known.Goals as goal

pub returns : goal.returns
unfolding marks_known
returns c =
    let a = c.args in
    let n : length (take 10 a.bytes) ≡ 10 = length-take-le 10 a.bytes (omega (arith, c.well_formed)) in
    c.all_within.ensures ∙ ap (λ (k : ℕ). within 1 k (take 10 a.bytes)) n ∙ within_first 1 10 10 a.bytes (le_refl 10)
