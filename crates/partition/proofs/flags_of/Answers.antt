use Rattle.std.proofs.Common.{◌≡◌, ℕ, ◌<◌, false, get_or, eqb, rules}
use Rattle.lists.specs.Lists.{table}
use Rattle.partition.specs.Answers.{flags_of}
use Rattle.partition.proofs.Nine.{drawn_by}
use Rattle.partition.proofs.flags_of.Goals as goal

at : (c : goal.After-map) (i : ℕ) → i < 9 → get_or c.map.result i false ≡ eqb (get_or c.args.from i 0) 1
at c i h = let t = c.map.ensures.items.at i 0 false h in search rules

pub returns : goal.returns
unfolding flags_of table
returns c = drawn_by 9 false c.map.result (λ i. eqb (get_or c.args.from i 0) 1) c.map.ensures.items.long (at c)
