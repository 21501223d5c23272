-- `quantiser::with_delta` meets its contract: in 64 bits the sum is exact, and the test decides. Assumes nothing.
use mathlib.Core.Path.{refl, ◌∙◌}
use mir.Facts.{to_z-of_z}
use Rattle.quantiser.specs.Factors.{with_delta}
use Rattle.quantiser.proofs.Sum.{signed32-fits, exact, tested}
use Rattle.quantiser.proofs.with_delta.Goals as goal

pub overflow_cast-result : goal.overflow_cast-result
overflow_cast-result c =
    let f = c.ranges in
    let e = tested f.index f.delta c.from.ensures c.from-2.ensures _ c.signed32.ensures ∙ c.if-signed32.true in
    rw (exact f.index f.delta c.from.ensures c.from-2.ensures) (signed32-fits _ e)

pub returns-then-signed32 : goal.returns-then-signed32
unfolding with_delta
returns-then-signed32 c =
    let f = c.ranges in
    let e = tested f.index f.delta c.from.ensures c.from-2.ensures _ c.signed32.ensures ∙ c.if-signed32.true in
    rw (exact f.index f.delta c.from.ensures c.from-2.ensures, to_z-of_z (signed32-fits _ e), e) refl

pub returns-else-signed32 : goal.returns-else-signed32
unfolding with_delta
returns-else-signed32 c =
    let f = c.ranges in
    let e = tested f.index f.delta c.from.ensures c.from-2.ensures _ c.signed32.ensures ∙ c.if-signed32.false in
    rw e refl
