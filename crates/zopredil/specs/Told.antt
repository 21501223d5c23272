-- What a call tells by its answer, as C has it: the number of the reply, beside the n elements that are written, each of them `zero` where the call is refused.
use Rattle.std.specs.Prelude.{ℕ, List, replicate, Result}
use Rattle.lists.specs.Lists.{◌beside◌}
use Rattle.macroblock.specs.Reply.{reply_of, value_or}
use Rattle.macroblock.specs.declared.reply.Refusal.{Refusal}

abbrev pub told : {A : Type 0} → A → ℕ → Result (List A) Refusal → ℕ × List A
told zero n r = reply_of r beside value_or (replicate n zero) r
