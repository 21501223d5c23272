use mathlib.Core.Path.{refl}
use Rattle.token_probs.specs.Defaults.{default_probs}
use Rattle.token_probs.proofs.defaults.default_probs.Goals as goal

pub returns : goal.returns
unfolding default_probs
returns c = refl
