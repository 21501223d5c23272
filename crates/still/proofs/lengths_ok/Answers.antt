-- `still::lengths_ok` meets its contract. Assumes nothing.
use Rattle.std.proofs.Common.{arith}
use Rattle.std.proofs.lemmas.Bool.Decides.{nat_tests}
use Rattle.still.specs.Answers.{lengths_ok}
use Rattle.still.proofs.lengths_ok.Goals as goal
use Rattle.still.proofs.lengths_ok.Goals.{then-modes-n, else-modes-n, then-sub_modes-n, else-sub_modes-n}

pub returns-then-coeffs-n : goal.returns-then-coeffs-n
unfolding lengths_ok
returns-then-coeffs-n c =
    elim c.if-sub_modes-n.branch [
      | then-sub_modes-n w ↦ elim c.if-modes-n.branch [ then-modes-n v ↦ grind (arith, nat_tests) | else-modes-n v ↦ grind (arith, nat_tests) ]
      | else-sub_modes-n w ↦ elim c.if-modes-n.branch [ then-modes-n v ↦ grind (arith, nat_tests) | else-modes-n v ↦ grind (arith, nat_tests) ]
    ]

pub returns-else-coeffs-n : goal.returns-else-coeffs-n
unfolding lengths_ok
returns-else-coeffs-n c =
    elim c.if-sub_modes-n.branch [
      | then-sub_modes-n w ↦ elim c.if-modes-n.branch [ then-modes-n v ↦ grind (arith, nat_tests) | else-modes-n v ↦ grind (arith, nat_tests) ]
      | else-sub_modes-n w ↦ elim c.if-modes-n.branch [ then-modes-n v ↦ grind (arith, nat_tests) | else-modes-n v ↦ grind (arith, nat_tests) ]
    ]
