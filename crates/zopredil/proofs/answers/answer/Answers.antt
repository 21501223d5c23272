-- `zopredil::answers::answer` meets its contract. Assumes nothing.
use mathlib.Core.Path.{refl, ◌∙◌}
use Rattle.lists.proofs.Pairs.{pair}
use Rattle.slices.proofs.Copied.{put_fit}
use Rattle.zopredil.proofs.answers.answer.Goals as goal

pub returns-in-Ok : goal.returns-in-Ok
returns-in-Ok g c = rw c.in-Ok.is (pair refl (c.put.ensures ∙ put_fit _ _ _ c.requires))

pub returns-in-Err : goal.returns-in-Err
returns-in-Err g c = rw c.in-Err.is (pair c.number.ensures (c.put-in-Err.ensures ∙ put_fit _ _ _ c.requires))
