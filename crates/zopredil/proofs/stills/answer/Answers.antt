-- `zopredil::stills::answer` meets its contract. Assumes nothing.
use mathlib.Core.Path.{refl, ap, ◌∙◌}
use Prim.Native.Nat.{ℕ, ◌+◌, ◌*◌}
use Rattle.lists.proofs.Pairs.{pair}
use Rattle.slices.proofs.Copied.{put_fit}
use Rattle.zopredil.proofs.stills.answer.Goals as goal

pub returns-in-Ok : goal.returns-in-Ok
returns-in-Ok c = rw c.in-Ok.is (pair refl (c.put_count.ensures ∙ put_fit 1 _ _ c.requires.0))

pub returns-in-Err : goal.returns-in-Err
returns-in-Err c =
    rw c.in-Err.is
    (pair (ap (λ (k : ℕ). c.in-Err.stopped.index * 256 + k) (c.from.ensures ∙ c.number.ensures)) (c.put_count-in-Err.ensures ∙ put_fit 1 _ _ c.requires.0))
