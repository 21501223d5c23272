-- The promise of `filter_limits` admits one answer only. Assumes nothing.
use Rattle.lists.proofs.Answer.{OneAnswer, same}
use Rattle.filter_limits.proofs.rule_of.Reads as rule-of
use Rattle.filter_limits.proofs.rule_of.Kinds as rule-of-k

pub rule-of-one : OneAnswer 0 rule-of-k.ps rule-of-k.r rule-of.Post
rule-of-one κs a x y s t = same
