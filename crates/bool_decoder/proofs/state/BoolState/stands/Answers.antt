use Rattle.std.proofs.Common.{le-ltb, lt-ltb}
use Rattle.bool_decoder.specs.State.{stands_of}
use Rattle.bool_decoder.proofs.state.BoolState.stands.Goals as goal

pub returns-then-self-lt2 : goal.returns-then-self-lt2
unfolding stands_of
returns-then-self-lt2 c = rw (lt-ltb _ 2 c.if-self-lt2.true)

pub returns-then-src-self : goal.returns-then-src-self
unfolding stands_of
returns-then-src-self c = rw (le-ltb _ 2 c.if-self-lt2.false, lt-ltb _ _ c.if-src-self.true)

pub returns : goal.returns
unfolding stands_of
returns c =
    rw (
      le-ltb _ 2 c.if-self-lt2.false,
      le-ltb _ _ c.if-src-self.false,
      c.in_range.ensures,
      c.shown-low.ensures,
      c.byte_or_none-last.ensures,
      c.byte_or_none-first.ensures,
    )
