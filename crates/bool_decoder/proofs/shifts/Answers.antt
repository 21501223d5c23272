use Rattle.bool_decoder.proofs.Range.{zeros-is}
use Rattle.bool_decoder.proofs.shifts.Goals as goal

pub returns : goal.returns
returns c = zeros-is c.args.range
