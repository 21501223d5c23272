-- Refusals and their numbers.
--     number-not-done    no refusal has the number of what is done
--     number-one         two refusals have two numbers
--     one_answer         what is told of a call, by its reply and its value, tells the answer
-- Assumes nothing.
use mathlib.Core.Path.{◌≡◌, refl, sym, ap, ◌∙◌}
use Prim.Native.Nat.{ℕ, ◌<◌}
use native.Mathlib.Omega.{arith}
use Rattle.std.specs.Prelude.{false, eqb, List, [], ◌∷◌, get_or, Result, Ok, Err}
use Rattle.macroblock.specs.Reply.{number, done}
use Rattle.macroblock.specs.declared.reply.Refusal.{Refusal}
use Rattle.macroblock.specs.declared.reply.Refusal.TheVariants as refusal

pub number-not-done : (e : Refusal) → eqb (number e) done ≡ false
number-not-done refusal.WrongLength = refl
number-not-done refusal.OutsidePlane = refl
number-not-done refusal.BPred = refl
number-not-done refusal.NoSubModes = refl
number-not-done refusal.IndexSum = refl
number-not-done refusal.OutsidePicture = refl
number-not-done refusal.UnknownByte = refl
number-not-done refusal.PastEnd = refl
number-not-done refusal.NoProbability = refl
number-not-done refusal.OutsideLevels = refl
number-not-done refusal.TooManyStills = refl

pub number-more : (e : Refusal) → done < number e
number-more refusal.WrongLength = omega arith
number-more refusal.OutsidePlane = omega arith
number-more refusal.BPred = omega arith
number-more refusal.NoSubModes = omega arith
number-more refusal.IndexSum = omega arith
number-more refusal.OutsidePicture = omega arith
number-more refusal.UnknownByte = omega arith
number-more refusal.PastEnd = omega arith
number-more refusal.NoProbability = omega arith
number-more refusal.OutsideLevels = omega arith
number-more refusal.TooManyStills = omega arith

-- the refusals at the places of their numbers
listed : List Refusal
listed =
    refusal.WrongLength ∷ refusal.WrongLength ∷ refusal.OutsidePlane ∷ refusal.BPred ∷ refusal.NoSubModes ∷ refusal.IndexSum ∷ refusal.WrongLength
    ∷ refusal.OutsidePicture ∷ refusal.UnknownByte ∷ refusal.PastEnd ∷ refusal.NoProbability ∷ refusal.OutsideLevels ∷ refusal.TooManyStills ∷ []

abbrev of-number : ℕ → Refusal
of-number k = get_or listed k refusal.WrongLength

of-its-number : (e : Refusal) → of-number (number e) ≡ e
unfolding listed
of-its-number refusal.WrongLength = refl
of-its-number refusal.OutsidePlane = refl
of-its-number refusal.BPred = refl
of-its-number refusal.NoSubModes = refl
of-its-number refusal.IndexSum = refl
of-its-number refusal.OutsidePicture = refl
of-its-number refusal.UnknownByte = refl
of-its-number refusal.PastEnd = refl
of-its-number refusal.NoProbability = refl
of-its-number refusal.OutsideLevels = refl
of-its-number refusal.TooManyStills = refl

pub number-one : (e f : Refusal) → number e ≡ number f → e ≡ f
number-one e f h = sym (of-its-number e) ∙ ap of-number h ∙ of-its-number f

-- `told` says a reply and a value: 0 beside the value that is answered, or a refusal's number
module _ {A B : Type 0} (told : Result A Refusal → B) (reply : B → ℕ) (value : B → A)
    (ok-reply : (a : A) → reply (told (Ok a)) ≡ done) (ok-value : (a : A) → value (told (Ok a)) ≡ a)
    (err-reply : (e : Refusal) → reply (told (Err e)) ≡ number e) where
  pub one_answer : (r s : Result A Refusal) → told r ≡ told s → r ≡ s
  one_answer (Ok a) (Ok b) h = ap (λ (x : A). Ok x) (sym (ok-value a) ∙ ap value h ∙ ok-value b)
  one_answer (Ok a) (Err f) h =
      let m = number-more f in
      let e : done ≡ number f = sym (ok-reply a) ∙ ap reply h ∙ err-reply f in
      absurd (omega (arith, m, e))
  one_answer (Err e) (Ok b) h =
      let m = number-more e in
      let q : number e ≡ done = sym (err-reply e) ∙ ap reply h ∙ ok-reply b in
      absurd (omega (arith, m, q))
  one_answer (Err e) (Err f) h = ap (λ (x : Refusal). Err x) (number-one e f (sym (err-reply e) ∙ ap reply h ∙ err-reply f))
