-- Each promise of `token_probs` admits one answer only. Assumes nothing.
use Rattle.lists.proofs.Answer.{OneAnswer, same}
use Rattle.token_probs.proofs.no_zero.Reads as no_zero
use Rattle.token_probs.proofs.no_zero.Kinds as no-zero-k
use Rattle.token_probs.proofs.defaults.default_prob.Reads as default-prob
use Rattle.token_probs.proofs.defaults.default_prob.Kinds as default-prob-k
use Rattle.token_probs.proofs.defaults.default_probs.Reads as default-probs
use Rattle.token_probs.proofs.defaults.default_probs.Kinds as default-probs-k

pub no-zero-one : OneAnswer 1 no-zero-k.ps no-zero-k.r no_zero.Post
no-zero-one κs a x y s t = same

pub default-prob-one : OneAnswer 0 default-prob-k.ps default-prob-k.r default-prob.Post
default-prob-one κs a x y s t p q = same p.is q.is

pub default-probs-one : OneAnswer 0 default-probs-k.ps default-probs-k.r default-probs.Post
default-probs-one κs a x y s t = same
