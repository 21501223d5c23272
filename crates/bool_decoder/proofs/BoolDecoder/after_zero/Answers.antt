use Rattle.std.proofs.Common.{arith}
use Rattle.bool_decoder.proofs.Step.{down_to}
use Rattle.bool_decoder.proofs.BoolDecoder.after_zero.Goals as goal

pub returns : goal.returns
returns c =
    let a = c.args in
    let k = c.split_of in
    record {
      is =
          λ src z h l g.
          down_to src a.self z h a.prob k.result k.ensures 7 l c.renewed.result g c.renewed.ensures (omega (arith, c.renewed.ensures.few));
    }
