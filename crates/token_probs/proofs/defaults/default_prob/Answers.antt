use mathlib.Core.Path.{refl, sym}
use native.Mathlib.Omega.{arith}
use Rattle.token_probs.specs.Defaults.{default_probs}
use Rattle.token_probs.proofs.Default.{default-rule, past_end}
use Rattle.token_probs.proofs.defaults.default_prob.Goals as goal

pub returns-then-i-lt1056 : goal.returns-then-i-lt1056
unfolding default_probs
returns-then-i-lt1056 c = record { is = refl; rule = λ h. default-rule c.args.i h }

pub returns-else-i-lt1056 : goal.returns-else-i-lt1056
returns-else-i-lt1056 c = record { is = sym (past_end c.args.i c.if-i-lt1056.false); rule = λ h. absurd (omega (arith, c.if-i-lt1056.false)) }
