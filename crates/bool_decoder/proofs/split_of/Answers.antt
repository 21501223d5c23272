use Rattle.std.proofs.Common.{◌*◌, ◌≤◌, arith}
use Rattle.bool_decoder.proofs.Range.{product-fits, split-is}
use Rattle.bool_decoder.proofs.split_of.Goals as goal

product : (c : goal.After-from-2) → c.from.result * c.from-2.result ≤ 1095216660225
product c =
    rw c.from-2.ensures (product-fits c.from.result c.args.prob (omega arith) (omega (arith, c.from.ensures)))

pub returns : goal.returns
returns c =
    rw c.from-2.ensures (split-is c.args.range c.args.prob c.from.result (omega arith) (omega (arith, c.from.ensures)) (omega (arith, c.from.ensures)))

pub overflow_mul-result : goal.overflow_mul-result
overflow_mul-result c = omega (arith, product c)

pub overflow_cast-result : goal.overflow_cast-result
overflow_cast-result c = omega (arith, product c)

pub overflow_add-result : goal.overflow_add-result
overflow_add-result c = omega (arith, product c)
