-- `shelf::shelf`: what i items leave in each list.
use mathlib.Core.Path.{◌≡◌}
use Rattle.shelf_items.specs.Shelf.{job_at}
use Rattle.shelf_items.proofs.Turns.{out_after, replies_after, count_after}
use Rattle.shelf.proofs.shelf.Given as goal

abbrev pub invariant-loop-i : goal.invariant-loop-i
invariant-loop-i l = record {
  planes : l.out ≡ out_after (job_at l.fn.jobs l.fn.sub_modes l.fn.coeffs) l.i l.initial.out;
  told : l.replies ≡ replies_after (job_at l.fn.jobs l.fn.sub_modes l.fn.coeffs) l.i l.initial.replies;
  counted : l.clipped ≡ count_after (job_at l.fn.jobs l.fn.sub_modes l.fn.coeffs) l.i l.initial.clipped;
}
