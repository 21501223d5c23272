use Rattle.std.proofs.Common.{◌≡◌, ◌+◌, ◌*◌, ◌%◌, get_or, refl, arith}
use Rattle.bool_decoder.specs.BoolCoder.{opened}
use Rattle.bool_decoder.specs.State.{state_of}
use Rattle.bool_decoder.proofs.States.{same-saved}
use Rattle.bool_decoder.proofs.state.BoolState.begin.Goals as goal

pub returns : goal.returns
unfolding state_of opened
returns c =
    let s = c.args.src.now in
    let e : 256 * c.from.result + c.from-2.result ≡ get_or s 0 0 * 256 + get_or s 1 0 * 1 % 256
    = omega (arith, c.from.ensures, c.from-2.ensures, c.byte_or_none.ensures, c.byte_or_none-2.ensures) in
    same-saved refl refl e refl
