-- Each promise of `loop_filter` admits one answer only, and leaves one thing only in each plane. Assumes nothing.
use mathlib.Core.Path.{◌≡◌, refl, sym, ap, ◌∙◌}
use mathlib.Core.List.{List}
use Prim.Native.Nat.{ℕ}
use Rattle.lists.proofs.Answer.{OneAnswerIn}
use Rattle.std.specs.Prelude.{Result}
use Rattle.macroblock.specs.Reply.{reply_of}
use Rattle.macroblock.specs.declared.reply.Refusal.{Refusal}
use Rattle.macroblock.proofs.Refusals.{one_answer}
use Rattle.loop_filter.specs.Answers.{Planes, Answer}
use Rattle.loop_filter.proofs.filter.Reads as filter
use Rattle.loop_filter.proofs.filter.Kinds as filter-k
use Rattle.loop_filter.proofs.filter_levels.Reads as filter-levels
use Rattle.loop_filter.proofs.filter_levels.Kinds as filter-levels-k

unfoldable planes-in : Answer → Planes
planes-in a = (a.1, a.2, a.3)

-- what was done or refused is told by its number
reply-one : (r s : Result (Unit {0}) Refusal) → reply_of r ≡ reply_of s → ◌≡◌ {A = Result (Unit {0}) Refusal} r s
reply-one r s h = one_answer (λ (t : Result (Unit {0}) Refusal). reply_of t) (λ n. n) (λ _. tt) (λ _. refl) (λ _. refl) (λ _. refl) r s h

same_answer : (x y : Result (Unit {0}) Refusal) (a b c d e f : List ℕ) {z : Answer} → ◌≡◌ {A = Answer} (reply_of x, a, b, c) z → ◌≡◌ {A = Answer} (reply_of y, d, e, f) z
    → (◌≡◌ {A = Result (Unit {0}) Refusal} x y) × (◌≡◌ {A = Planes} (a, b, c) (d, e, f))
unfolding planes-in
same_answer x y a b c d e f p q = (reply-one x y (ap (λ (w : Answer). w.0) (p ∙ sym q)), ap planes-in (p ∙ sym q))

pub filter-one : OneAnswerIn 4 filter-k.ps filter-k.r filter.Post {A = Planes}
    (λ κs s. (s.1.1.1.1.1.1.0.now, s.1.1.1.1.1.1.1.0.now, s.1.1.1.1.1.1.1.1.0.now))
filter-one κs a x y s t = same_answer x y _ _ _ _ _ _

pub filter-levels-one : OneAnswerIn 5 filter-levels-k.ps filter-levels-k.r filter-levels.Post {A = Planes}
    (λ κs s. (s.1.1.1.1.1.1.0.now, s.1.1.1.1.1.1.1.0.now, s.1.1.1.1.1.1.1.1.0.now))
filter-levels-one κs a x y s t = same_answer x y _ _ _ _ _ _
