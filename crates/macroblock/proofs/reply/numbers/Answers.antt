-- `macroblock::reply::numbers` meets its contract. Assumes nothing.
use mathlib.Core.Path.{refl}
use Rattle.macroblock.specs.Reply.{replies}
use Rattle.macroblock.proofs.reply.numbers.Goals as goal

pub returns : goal.returns
unfolding replies
returns c =
    rw (c.number.ensures, c.number-2.ensures, c.number-3.ensures, c.number-4.ensures, c.number-5.ensures, c.number-6.ensures, c.number-7.ensures, c.number-8.ensures) refl
