-- `plane_distance::comparable` meets its contract. Assumes nothing.
use Prim.Native.Nat.{◌%◌}
use mathlib.Core.Bool.{Bool, true, false}
use mathlib.Core.Path.{◌≡◌, refl, sym, ◌∙◌}
use borrow.Author.Tests.{eq-eqb, ne_eqb}
use lib.Dec.{eqb, leb}
use Rattle.lists.specs.Lists.{both}
use Rattle.lists.proofs.Tests.{left-holds, right-holds}
use Rattle.plane_distance.specs.Apart.{comparable}
use Rattle.plane_distance.proofs.comparable.Goals as goal
use Rattle.plane_distance.proofs.comparable.Goals.{then-m-n, else-m-n}

held : (p q r : Bool) → both p q ≡ true → r ≡ both p (both q r)
held p q r e = rw (left-holds p q e, right-holds p q e)

missed : (p q r : Bool) → both p q ≡ false → both p q ≡ both p (both q r)
missed true q r e = rw e
missed false q r e = refl

pub returns-then-m-eq0 : goal.returns-then-m-eq0
unfolding comparable
returns-then-m-eq0 c =
    let tests : c.if-m-n.value ≡ both (eqb c.args.m c.args.n) (eqb (c.args.m % 256) 0) =
    elim c.if-m-n.branch [
      | then-m-n w ↦ w.value-is ∙ rw (eq-eqb _ _ w.if-m-n.true)
      | else-m-n w ↦ w.value-is ∙ rw (ne_eqb _ _ w.if-m-n.false)
    ]
    in held (eqb c.args.m c.args.n) (eqb (c.args.m % 256) 0) (leb c.args.m 268435456) (sym tests ∙ c.if-m-eq0.true)

pub returns-else-m-eq0 : goal.returns-else-m-eq0
unfolding comparable
returns-else-m-eq0 c =
    let tests : c.if-m-n.value ≡ both (eqb c.args.m c.args.n) (eqb (c.args.m % 256) 0) =
    elim c.if-m-n.branch [
      | then-m-n w ↦ w.value-is ∙ rw (eq-eqb _ _ w.if-m-n.true)
      | else-m-n w ↦ w.value-is ∙ rw (ne_eqb _ _ w.if-m-n.false)
    ]
    in tests ∙ missed (eqb c.args.m c.args.n) (eqb (c.args.m % 256) 0) (leb c.args.m 268435456) (sym tests ∙ c.if-m-eq0.false)
