-- `picture_limits::sizes_ok` meets its contract: y counts the macroblocks. Assumes nothing.
use Rattle.std.proofs.Common.{arith}
use Rattle.std.proofs.lemmas.Bool.Decides.{nat_tests}
use Rattle.rfc6386.specs.Picture.{sizes_ok}
use Rattle.picture_limits.proofs.sizes_ok.Goals as goal
use Rattle.picture_limits.proofs.sizes_ok.Goals.{then-luma_ok, else-luma_ok}

pub returns-then-u-n : goal.returns-then-u-n
unfolding sizes_ok
returns-then-u-n c = elim c.if-luma_ok.branch [ then-luma_ok w ↦ grind (arith, nat_tests) | else-luma_ok w ↦ grind (arith, nat_tests) ]

pub returns-else-u-n : goal.returns-else-u-n
unfolding sizes_ok
returns-else-u-n c = elim c.if-luma_ok.branch [ then-luma_ok w ↦ grind (arith, nat_tests) | else-luma_ok w ↦ grind (arith, nat_tests) ]
