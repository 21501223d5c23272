use Rattle.bool_decoder.proofs.Step.{one-is}
use Rattle.bool_decoder.proofs.BoolDecoder.is_one.Goals as goal

pub returns : goal.returns
returns c =
    let a = c.args in
    let k = c.split_of in
    record { is = λ src x h. rw c.from.ensures (one-is src a.self x h a.prob k.result k.ensures) }
