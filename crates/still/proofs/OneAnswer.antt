-- Each promise of `still` admits one answer only, and leaves one thing only in each plane. Assumes nothing.
use mathlib.Core.Path.{◌≡◌, sym, ap, ◌∙◌}
use mathlib.Core.List.{List}
use Prim.Native.Nat.{ℕ}
use native.Mathlib.Omega.{arith}
use Rattle.std.specs.Prelude.{Result, Ok, Err}
use Rattle.lists.proofs.Answer.{OneAnswer, OneAnswerIn, same}
use Rattle.lists.specs.Lists.{◌beside◌}
use Rattle.macroblock.specs.Reply.{done, number}
use Rattle.macroblock.proofs.Refusals.{number-one, number-more}
use Rattle.still.specs.declared.StillRefusal.{StillRefusal}
use Rattle.still.specs.Picture.{Progress}
use Rattle.still.specs.Answers.{told}
use Rattle.still.proofs.StillRefusalFromRefusal.from.Reads as refusal-from
use Rattle.still.proofs.StillRefusalFromRefusal.from.Kinds as refusal-from-k
use Rattle.still.proofs.still.Reads as still
use Rattle.still.proofs.still.Kinds as still-k
use Rattle.still.proofs.still_alone.Reads as still-alone
use Rattle.still.proofs.still_alone.Kinds as still-alone-k

abbrev reply-in : Progress × ℕ → ℕ
reply-in t = t.0.reply

abbrev planes-in : Progress × ℕ → List ℕ × (List ℕ × List ℕ)
planes-in t = (t.0.y, (t.0.u, t.0.v))

same-refusal : (x y : StillRefusal) → x.refusal ≡ y.refusal → x.index ≡ y.index → x.clipped ≡ y.clipped → x ≡ y
same-refusal x y e f g = rw (e, f, g)

module _ (a b c d e f : List ℕ) where
  -- what is told of an answer tells it, and the planes
  one : (x y : Result ℕ StillRefusal) → told x a b c ≡ told y d e f → (x ≡ y) × ((a beside b beside c) ≡ (d beside e beside f))
  one (Ok m) (Ok n) k = (ap (λ (t : Progress × ℕ). Ok t.1) k, ap planes-in k)
  one (Ok m) (Err s) k =
      let n = number-more s.refusal in
      let q : done ≡ number s.refusal = ap reply-in k in
      absurd (omega (arith, n, q))
  one (Err r) (Ok m) k =
      let n = number-more r.refusal in
      let q : number r.refusal ≡ done = ap reply-in k in
      absurd (omega (arith, n, q))
  one (Err r) (Err s) k = (
    ap (λ (t : StillRefusal). Err t)
        (same-refusal r s (number-one r.refusal s.refusal (ap reply-in k)) (ap (λ (t : Progress × ℕ). t.0.index) k) (ap (λ (t : Progress × ℕ). t.1) k)),
    ap planes-in k,
  )

pub same-told : (x y : Result ℕ StillRefusal) (a b c d e f : List ℕ) {z : Progress × ℕ} → told x a b c ≡ z → told y d e f ≡ z
    → (x ≡ y) × ((a beside b beside c) ≡ (d beside e beside f))
same-told x y a b c d e f p q = one a b c d e f x y (p ∙ sym q)

pub still_one : OneAnswerIn 7 still-k.ps still-k.r still.Post {A = List ℕ × (List ℕ × List ℕ)}
    (λ κs s. (s.1.1.1.1.1.1.0.now, (s.1.1.1.1.1.1.1.0.now, s.1.1.1.1.1.1.1.1.0.now)))
still_one κs a x y s t = same-told x y _ _ _ _ _ _

pub still-alone-one : OneAnswerIn 6 still-alone-k.ps still-alone-k.r still-alone.Post {A = List ℕ × (List ℕ × List ℕ)}
    (λ κs s. (s.1.1.1.1.1.0.now, (s.1.1.1.1.1.1.0.now, s.1.1.1.1.1.1.1.0.now)))
still-alone-one κs a x y s t = same-told x y _ _ _ _ _ _

pub refusal-from-one : OneAnswer 0 refusal-from-k.ps refusal-from-k.r refusal-from.Post
refusal-from-one κs a x y s t = same
