use Rattle.std.proofs.Common.{◌≡◌, ℕ, ◌<◌, false, get_or, ◌∙◌, rules}
use Rattle.std.specs.Int.{from_bool}
use Rattle.bool_decoder.specs.BoolCoder.{bit_of}
use Rattle.lists.specs.Lists.{table}
use Rattle.tokens.proofs.Trees.{bit_is}
use Rattle.partition.specs.Answers.{bytes_of}
use Rattle.partition.proofs.Nine.{drawn_by}
use Rattle.partition.proofs.bytes_of.Goals as goal

at : (c : goal.After-map) (i : ℕ) → i < 9 → get_or c.map.result i 0 ≡ from_bool (get_or c.args.flags i false)
at c i h = let t = c.map.ensures.items.at i false 0 h in search rules

pub returns : goal.returns
unfolding bytes_of table
returns c =
    drawn_by 9 0 c.map.result (λ i. bit_of (get_or c.args.flags i false)) c.map.ensures.items.long (λ i h. at c i h ∙ bit_is (get_or c.args.flags i false))
