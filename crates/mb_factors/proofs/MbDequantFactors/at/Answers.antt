-- `mb_factors::MbDequantFactors::at` meets its contract. Assumes nothing.
use mathlib.Core.Path.{◌≡◌, ap, ◌∙◌}
use mathlib.Core.List.{map}
use Prim.Native.Nat.{ℕ, ◌*◌, ◌/◌, min, max}
use native.Mathlib.Omega.{arith}
use lib.IntN.{ℤ, pos}
use mir.Syntax.{w32}
use mir.Val.{SFits}
use mir.Facts.{to_z-of_z}
use Rattle.whole.proofs.Held.{R32, held16}
use Rattle.rfc6386.specs.Quantiser.{dc_lookup, ac_lookup}
use Rattle.rfc6386.specs.MbFactors.{dc_entry, ac_entry}
use Rattle.mb_factors.specs.Entries.{entry_of}
use Rattle.mb_factors.proofs.Tables.{dc-numbers, ac-numbers, dc-is, ac-is, dc-most, ac-most}
use Rattle.mb_factors.proofs.Answers.{given_is}
use Rattle.mb_factors.proofs.MbDequantFactors.at.Goals as goal

-- what a call read of each table
dc-read : {n : ℕ} {q : ℤ} → SFits w32 q → n ≡ entry_of (map pos dc_lookup) (R32 q) → n ≡ dc_entry q
dc-read {n} {q} f e = e ∙ ap (entry_of (map pos dc_lookup)) (to_z-of_z f) ∙ dc-is q

ac-read : {n : ℕ} {q : ℤ} → SFits w32 q → n ≡ entry_of (map pos ac_lookup) (R32 q) → n ≡ ac_entry q
ac-read {n} {q} f e = e ∙ ap (entry_of (map pos ac_lookup)) (to_z-of_z f) ∙ ac-is q

pub returns : goal.returns
unfolding dc_lookup ac_lookup
returns c =
    let f = c.ranges in
    given_is _ _ _ _ _ _ _ _ _ _ _ _
    (held16 _ c.plain.type_inv ∙ c.plain.ensures ∙ ap pos (dc-read f.y1_dc c.entry.ensures))
    (held16 _ c.plain-2.type_inv ∙ c.plain-2.ensures ∙ ap pos (ac-read f.y1_ac c.entry-2.ensures))
    (held16 _ c.twice.type_inv ∙ c.twice.ensures ∙ ap (λ (n : ℕ). pos (n * 2)) (dc-read f.y2_dc c.entry-3.ensures))
    (held16 _ c.at_least_eight.type_inv ∙ c.at_least_eight.ensures ∙ ap (λ (n : ℕ). pos (max (n * 155 / 100) 8)) (ac-read f.y2_ac c.entry-4.ensures))
    (held16 _ c.capped.type_inv ∙ c.capped.ensures ∙ ap (λ (n : ℕ). pos (min n 132)) (dc-read f.uv_dc c.entry-5.ensures))
    (held16 _ c.plain-3.type_inv ∙ c.plain-3.ensures ∙ ap pos (ac-read f.uv_ac c.entry-6.ensures))

pub entry-requires : goal.entry-requires
unfolding dc_lookup
entry-requires c = dc-numbers

pub entry-requires-2 : goal.entry-requires-2
unfolding ac_lookup
entry-requires-2 c = ac-numbers

pub entry-requires-3 : goal.entry-requires-3
unfolding dc_lookup
entry-requires-3 c = dc-numbers

pub entry-requires-4 : goal.entry-requires-4
unfolding ac_lookup
entry-requires-4 c = ac-numbers

pub entry-requires-5 : goal.entry-requires-5
unfolding dc_lookup
entry-requires-5 c = dc-numbers

pub entry-requires-6 : goal.entry-requires-6
unfolding ac_lookup
entry-requires-6 c = ac-numbers

pub plain-requires : goal.plain-requires
unfolding dc_lookup
plain-requires c = let m = dc-most (R32 c.args.y1_dc) in omega (arith, c.entry.ensures, m)

pub plain-requires-2 : goal.plain-requires-2
unfolding ac_lookup
plain-requires-2 c = rw c.entry-2.ensures (ac-most _)

pub twice-requires : goal.twice-requires
unfolding dc_lookup
twice-requires c = rw c.entry-3.ensures (dc-most _)

pub at_least_eight-requires : goal.at_least_eight-requires
unfolding ac_lookup
at_least_eight-requires c = rw c.entry-4.ensures (ac-most _)

pub plain-requires-3 : goal.plain-requires-3
unfolding ac_lookup
plain-requires-3 c = rw c.entry-6.ensures (ac-most _)
