-- `distance::report_each` meets its contract: after k turns the first k reports stand and are summed. Assumes nothing.
use mathlib.Core.Path.{◌≡◌}
use lib.ListN.{length}
use Rattle.distance.specs.Stills.{start_of, still_at, summed}
use Rattle.distance.proofs.Reports.{reports_after}
use Rattle.distance.proofs.report_each.Given as goal

abbrev pub invariant-loop-k : goal.invariant-loop-k
invariant-loop-k l = (l.at ≡ start_of l.sizes l.k)
    × (l.sum ≡ summed l.sizes l.drawn l.measured l.k)
    × (l.reports ≡ reports_after (still_at l.sizes l.drawn l.measured) l.k l.initial.reports)
    × (length l.reports ≡ length l.initial.reports)
