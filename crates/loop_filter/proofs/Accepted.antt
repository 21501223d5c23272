-- What it says that nothing is refused. Assumes nothing.
use Prim.Native.Nat.{ℕ, ◌*◌, ◌<◌, ◌≤◌}
use mathlib.Core.Path.{◌≡◌, refl, ap, ◌∙◌}
use mathlib.Core.Bool.{Bool, true, false}
use mathlib.Core.List.{List}
use native.Mathlib.Omega.{arith}
use lib.Dec.{leb, ltb, eqb}
use lib.ListN.{length}
use borrow.Author.Tests.{leb-true, eqb-true, ne_eqb}
use Rattle.lists.specs.Lists.{pick, both}
use Rattle.lists.proofs.Tests.{left-holds, right-holds}
use Rattle.std.specs.Prelude.{Result, Err}
use Rattle.macroblock.specs.Reply.{number, reply_of}
use Rattle.macroblock.specs.declared.reply.Refusal.{Refusal}
use Rattle.macroblock.proofs.Refusals.{number-more}
use Rattle.rfc6386.specs.Picture.{place_ok, sizes_ok}
use Rattle.picture_limits.proofs.Accepted.{place-says, sizes-say}
use Rattle.loop_filter.specs.Picture.{Ready}
use Rattle.loop_filter.specs.Answers.{fits, refusal_of, Planes, Answer, answered}

pub record Tests (size fit low kind : Bool) : Type 0 where
  pub sized : size ≡ true
  pub fitting : fit ≡ true
  pub lows : low ≡ true
  pub kinds : kind ≡ true

unfoldable number_of : Bool → Bool → Bool → Bool → ℕ
number_of size fit low kind = pick size (pick fit (pick low (pick kind 0 8) 11) 1) 7

by : (size fit low kind : Bool) → number_of size fit low kind ≡ 0 → Tests size fit low kind
unfolding number_of
by true true true true e = record { sized = refl; fitting = refl; lows = refl; kinds = refl }
by true true true false e = absurd (omega arith)
by true true false k e = absurd (omega arith)
by true false l k e = absurd (omega arith)
by false f l k e = absurd (omega arith)

module _ (cols rows : ℕ) (y u v inner : List ℕ) (levels : ℕ) (low : Bool) (sharp kind : ℕ)
    (e : refusal_of cols rows (length y) (length u) (length v) (length inner) levels low sharp kind ≡ 0) where
  tests : Tests (place_ok cols rows 0 0) (fits cols rows (length y) (length u) (length v) (length inner) levels) (both low (leb sharp 7)) (ltb kind 2)
  unfolding refusal_of number_of
  tests = by (place_ok cols rows 0 0) (fits cols rows (length y) (length u) (length v) (length inner) levels) (both low (leb sharp 7)) (ltb kind 2) e

  pub low-holds : low ≡ true
  low-holds = left-holds low (leb sharp 7) tests.lows

  bytes-hold : both (eqb (length inner) (cols * rows)) (eqb levels (cols * rows)) ≡ true
  bytes-hold = right-holds (sizes_ok (length y) (length u) (length v) cols rows) _ tests.fitting

  pub levels-fit : levels ≡ cols * rows
  levels-fit = eqb-true levels (cols * rows) (right-holds (eqb (length inner) (cols * rows)) _ bytes-hold)

  pub ready : (level : ℕ → ℕ) → ((k : ℕ) → k < cols * rows → level k ≤ 63) → Ready cols rows sharp level inner y u v
  ready level h =
      let p = place-says cols rows 0 0 tests.sized in
      let l = sizes-say (length y) (length u) (length v) cols rows (left-holds (sizes_ok (length y) (length u) (length v) cols rows) _ tests.fitting) in
      record {
        narrow = p.width;
        short = p.height;
        luma = l.y-plane;
        chroma_u = l.u-plane;
        chroma_v = l.v-plane;
        bytes = eqb-true (length inner) (cols * rows) (left-holds (eqb (length inner) (cols * rows)) _ bytes-hold);
        low = h;
        sharpness = leb-true sharp 7 (right-holds low (leb sharp 7) tests.lows);
      }

-- ---- the answer of a refusal, and of a picture that is filtered
pub refused-is : (n m : ℕ) (a b : Planes) → m ≡ n → (m ≡ 0 → ⊥) → ◌≡◌ {A = Answer} (m, b.0, b.1, b.2) (answered n a b)
unfolding answered
refused-is n m a b e h = rw (← e, ne_eqb m 0 h)

pub err-is : (n : ℕ) (r : Result (Unit {0}) Refusal) (e : Refusal) (a b : Planes) → r ≡ Err e → number e ≡ n → ◌≡◌ {A = Answer} (reply_of r, b.0, b.1, b.2) (answered n a b)
err-is n r e a b f h = refused-is n (reply_of r) a b (ap reply_of f ∙ h) (λ z. let m = number-more e in let i : reply_of r ≡ number e = ap reply_of f in omega (arith, m, z, i))

pub done-is : (n : ℕ) (a b : Planes) (y u v : List ℕ) → n ≡ 0 → y ≡ a.0 → u ≡ a.1 → v ≡ a.2 → ◌≡◌ {A = Answer} (0, y, u, v) (answered n a b)
unfolding answered
done-is n a b y u v e f g h = rw (e, f, g, h)
