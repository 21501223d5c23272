use Rattle.std.proofs.Common.{arith}
use Rattle.partition.specs.Answers.{flagged_answer}
use Rattle.partition.proofs.Nine.{flags-known}
use Rattle.partition.proofs.Told.{put-told}
use Rattle.partition.proofs.flagged.Goals as goal

pub returns-then-not-y2-all_flags : goal.returns-then-not-y2-all_flags
unfolding flagged_answer
returns-then-not-y2-all_flags c = rw (← flags-known c.args.above c.all_flags.result (omega (arith, c.well_formed)) c.all_flags.ensures, ← flags-known c.args.left c.all_flags-2.result (omega (arith, c.well_formed)) c.all_flags-2.ensures, c.if-not-y2-all_flags.true)

pub returns : goal.returns
unfolding flagged_answer
returns c =
    rw (
      ← flags-known c.args.above c.all_flags.result (omega (arith, c.well_formed)) c.all_flags.ensures,
      ← flags-known c.args.left c.all_flags-2.result (omega (arith, c.well_formed)) c.all_flags-2.ensures,
      c.if-not-y2-all_flags.false,
      ← c.flags_of.ensures,
      ← c.flags_of-2.ensures,
      ← c.state_of.ensures,
      ← c.decode_macroblock.ensures,
    )
    (put-told c.flags_of.result c.flags_of-2.result c.state_of.result c.decode_macroblock.result c.args.above c.args.left c.args.state)
