-- The answer of the whole call, by its three ways out.
--     no-places     totals of another length than 3
--     refused       12, 7 or 1: the reports as found, the totals zeros
--     given         the reports and their totals
-- Assumes nothing.
use Prim.Native.Nat.{ℕ, ◌/◌}
use mathlib.Core.List.{List}
use mathlib.Core.Path.{◌≡◌}
use borrow.Author.Tests.{eq-eqb, ne_eqb}
use lib.ListN.{length}
use Rattle.macroblock.specs.Reply.{wrong_length}
use Rattle.plane_distance.specs.Apart.{no_distance}
use Rattle.plane_distance.specs.declared.Distance.{Distance}
use Rattle.lists.specs.Lists.{◌beside◌}
use Rattle.distance.specs.Stills.{report_of, reported, summed}
use Rattle.distance.specs.Answer.{refusal, distance_answer}

module _ (sizes drawn measured reports totals : List ℕ) where
  abbrev refusal_of : ℕ
  refusal_of = refusal sizes (length drawn) (length measured) (length reports)

  pub no-places : (length totals ≡ 3 → ⊥) → (wrong_length beside reports beside totals) ≡ distance_answer sizes drawn measured reports totals
  unfolding distance_answer
  no-places h = rw (ne_eqb (length totals) 3 h)

  module _ (places : length totals ≡ 3) (r : ℕ) (e : r ≡ refusal_of) where
    pub refused : (t : List ℕ) → (r ≡ 0 → ⊥) → t ≡ report_of no_distance → (r beside reports beside t) ≡ distance_answer sizes drawn measured reports totals
    unfolding distance_answer
    refused t h q = rw (eq-eqb (length totals) 3 places, ← e, ne_eqb r 0 h, q)

    pub given : (t made : List ℕ) (d : Distance) → r ≡ 0 → d ≡ summed sizes drawn measured (length sizes / 2)
        → made ≡ reported sizes drawn measured (length sizes / 2) → t ≡ report_of d → (r beside made beside t) ≡ distance_answer sizes drawn measured reports totals
    unfolding distance_answer
    given t made d z s m q = rw (eq-eqb (length totals) 3 places, ← e, eq-eqb r 0 z, z, q, s, m)
