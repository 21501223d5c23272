-- `shelf_items::shelf_bytes` meets its contract. Assumes nothing.
use Prim.Native.Nat.{◌*◌}
use mathlib.Core.Path.{◌≡◌, refl, sym, ◌∙◌}
use native.Mathlib.Omega.{arith}
use borrow.Author.Tests.{eqb-true}
use lib.ListN.{length}
use Rattle.std.proofs.lemmas.Result.{err_from_is_err_and}
use Rattle.shelf_items.specs.Shelf.{bytes_at}
use Rattle.shelf_items.proofs.Turns.{out-zero, replies-zero, count-zero, out-turn, replies-turn, count_turn}
use Rattle.shelf_items.proofs.Answered.{begun-fits, turn-fits}
use Rattle.shelf_items.proofs.Items.{bytes-shape}
use Rattle.shelf_items.proofs.Told.{no-modes, no-records, bytes-told, bytes-refused}
use Rattle.shelf_items.proofs.shelf_bytes.Goals as goal
use Rattle.shelf_items.proofs.shelf_bytes.Goals.{then-not-has_items-via-then-not-has_items, then-not-has_items-via-else-not-has_items+then-not-has_items-2}

pub returns-then-not-has_items : goal.returns-then-not-has_items
returns-then-not-has_items c =
    elim c.then-not-has_items.branch [
      | then-not-has_items-via-then-not-has_items w ↦ no-modes _ _ _ _ _ _ _ (sym c.has_items.ensures ∙ w.if-not-has_items.true)
      | then-not-has_items-via-else-not-has_items+then-not-has_items-2 w ↦
          no-records _ _ _ _ _ _ _ (sym c.has_items.ensures ∙ w.if-not-has_items.false)
          (sym w.has_items-else-not-has_items.ensures ∙ w.if-not-has_items-2.true)
    ]

pub returns-in_err-begin : goal.returns-in_err-begin
returns-in_err-begin c =
    let p = err_from_is_err_and c.from_residual.result c.from_residual.ensures.1 in
    let e = c.in_err-begin.ensures in
    rw (p.1, p.2)
    (bytes-refused _ _ _ _ _ _ _ (sym c.has_items.ensures ∙ c.if-not-has_items.false)
    (sym c.has_items-else-not-has_items.ensures ∙ c.if-not-has_items-2.false) _ e.0 e.1)

pub loop-i-init : goal.loop-i-init
loop-i-init c = (omega arith, sym (out-zero _ _), sym (replies-zero _ _), sym (count-zero _ _))

pub put_bytes-requires : goal.put_bytes-requires
put_bytes-requires c =
    let a = c.args in
    let s = c.loop-i in
    let e = c.in_ok-begin.ensures in
    let em : length a.modes.now ≡ 3 * length a.replies.now = eqb-true _ _ (sym c.has_items.ensures ∙ c.if-not-has_items.false) in
    let er : length a.records.now ≡ 81 * length a.replies.now = eqb-true _ _ (sym c.has_items-else-not-has_items.ensures ∙ c.if-not-has_items-2.false) in
    let t = turn-fits (bytes_at a.modes.now a.records.now a.sub_modes.now a.coeffs.now)
    (bytes-shape a.modes.now a.records.now a.sub_modes.now a.coeffs.now)
    _ _ _ _ _ a.clipped.now (begun-fits _ _ _ _ _ _ _ e.0) s.i c.loop-i-test.true s.auto.out s.auto.replies e.1 s.invariant.3 in
    (omega (arith, em, c.loop-i-test.true), omega (arith, er, c.loop-i-test.true), t.0, t.1, t.2)

pub loop-i-preserved : goal.loop-i-preserved
loop-i-preserved c =
    let a = c.args in
    let s = c.loop-i in
    let item = bytes_at a.modes.now a.records.now a.sub_modes.now a.coeffs.now in (
      omega (arith, c.loop-i-test.true),
      out-turn item s.i _ _ _ refl s.invariant.1 c.put_bytes.ensures.0,
      replies-turn item s.i _ _ _ refl s.invariant.2 c.put_bytes.ensures.1,
      count_turn item s.i _ _ _ refl s.invariant.3 c.put_bytes.ensures.2,
    )

pub returns : goal.returns
returns c =
    let a = c.args in
    let s = c.loop-i in
    let e = c.in_ok-begin.ensures in
    let full : s.i ≡ length a.replies.now = omega arith in
    bytes-told _ _ _ _ _ _ _ (sym c.has_items.ensures ∙ c.if-not-has_items.false)
    (sym c.has_items-else-not-has_items.ensures ∙ c.if-not-has_items-2.false) (begun-fits _ _ _ _ _ _ _ e.0)
    (rw full at s.invariant.1) (rw full at s.invariant.2) e.1 (rw full at s.invariant.3)
