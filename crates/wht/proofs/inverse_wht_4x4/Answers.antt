-- `wht::inverse_wht_4x4` meets its contract: numbers of 16 bits, so that each pass has what it asks. Assumes nothing.
use mathlib.Core.Path.{ap, ◌∙◌}
use native.Mathlib.Omega.{arith}
use lib.IntN.{pos}
use lib.ListN.{get_or}
use lib.Signed.{nat_abs-le}
use Rattle.whole.proofs.Held.{elem16}
use Rattle.wht.specs.Pass.{Within, passed, rounded_of}
use Rattle.wht.proofs.Passes.{within_more, passed-within, two-passes}
use Rattle.wht.proofs.inverse_wht_4x4.Goals as goal

first : (c : goal.After-widened) → Within 32768 c.widened.result
first c =
    rw c.widened.ensures
    (record { within = λ k. nat_abs-le (get_or c.args.input k (pos 0)) (elem16 c.args.input c.well_formed.0.0 k c.well_formed.0.1.1) })

second : (c : goal.After-pass) → Within 131072 c.pass.result
second c = rw c.pass.ensures (passed-within 32768 c.widened.result (first c.before))

third : (c : goal.After-pass-2) → Within 524288 c.pass-2.result
third c = rw c.pass-2.ensures (passed-within 131072 c.pass.result (second c.before))

pub returns : goal.returns
returns c =
    c.rounded.ensures ∙ ap rounded_of (c.pass-2.ensures ∙ ap passed (c.pass.ensures ∙ ap passed c.widened.ensures))
    ∙ two-passes c.args.input

pub pass-requires : goal.pass-requires
pass-requires c = within_more 32768 131072 (omega arith) (first c)

pub pass-requires-2 : goal.pass-requires-2
pass-requires-2 c = second c

pub rounded-requires : goal.rounded-requires
rounded-requires c = third c
