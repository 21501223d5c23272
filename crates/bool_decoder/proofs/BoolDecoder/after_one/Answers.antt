use Rattle.std.proofs.Common.{arith}
use Rattle.bool_decoder.proofs.Step.{up}
use Rattle.bool_decoder.proofs.BoolDecoder.after_one.Goals as goal

pub returns : goal.returns
returns c =
    let a = c.args in
    let k = c.split_of-split in
    record {
      is =
          λ src z h l g.
          up src a.self z h a.prob k.result k.ensures 7 l c.renewed.result _ _ (omega arith) (omega arith) (omega (arith, c.from.ensures)) (omega arith) g
          (rw c.from.ensures at c.renewed.ensures) (omega (arith, c.renewed.ensures.few));
    }
