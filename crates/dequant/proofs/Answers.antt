-- The answer of `dequantise`, from what their callees promise. Assumes nothing.
use mathlib.Core.Path.{◌≡◌, refl, ap, ◌∙◌}
use mathlib.Core.Bool.{Bool, true, false}
use mathlib.Core.List.{List}
use native.Mathlib.Omega.{arith}
use borrow.Author.Tests.{eq-eqb, ne_eqb}
use lib.IntN.{ℤ}
use lib.ListN.{length}
use Rattle.std.specs.Prelude.{Err}
use Rattle.macroblock.specs.Reply.{number, index_sum}
use Rattle.macroblock.specs.declared.reply.Refusal.{Refusal}
use Rattle.macroblock.specs.declared.reply.Refusal.TheVariants as refusal
use Rattle.macroblock.proofs.Refusals.{number-more}
use Rattle.mb_factors.specs.declared.MbDequantFactors.{MbDequantFactors}
use Rattle.mb_factors.specs.Factors.{FactorsAnswer, sums_fit, factors_given, no_factors, mb_factors, of_factors, told}
use Rattle.dequant.specs.Answers.{mb_dequantised, dequantise_answer}

module _ (q ydc y2dc y2ac uvdc uvac : ℤ) where
  -- six factors say that no sum was refused
  accepted : (f : MbDequantFactors) → of_factors f ≡ mb_factors q ydc y2dc y2ac uvdc uvac
      → (sums_fit q ydc y2dc y2ac uvdc uvac ≡ true) × (of_factors f ≡ factors_given q ydc y2dc y2ac uvdc uvac)
  unfolding mb_factors no_factors
  accepted f is = by (sums_fit q ydc y2dc y2ac uvdc uvac) refl
    where
      by : (b : Bool) → sums_fit q ydc y2dc y2ac uvdc uvac ≡ b → (sums_fit q ydc y2dc y2ac uvdc uvac ≡ true) × (of_factors f ≡ factors_given q ydc y2dc y2ac uvdc uvac)
      by true e = (e, is ∙ rw e refl)
      by false e = let n : 0 ≡ index_sum = ap (λ (w : FactorsAnswer). w.reply) is ∙ rw e refl in absurd (omega arith)

  pub sums-refused : (r : Refusal) (l : List ℤ) → told (Err r) ≡ mb_factors q ydc y2dc y2ac uvdc uvac
      → ◌≡◌ {A = FactorsAnswer × List ℤ} (told (Err r), l) (dequantise_answer q ydc y2dc y2ac uvdc uvac l)
  unfolding mb_factors factors_given no_factors dequantise_answer
  sums-refused r l is = by (sums_fit q ydc y2dc y2ac uvdc uvac) refl
    where
      by : (b : Bool) → sums_fit q ydc y2dc y2ac uvdc uvac ≡ b → ◌≡◌ {A = FactorsAnswer × List ℤ} (told (Err r), l) (dequantise_answer q ydc y2dc y2ac uvdc uvac l)
      by true e = let m = number-more r in let n : number r ≡ 0 = ap (λ (w : FactorsAnswer). w.reply) is ∙ rw e refl in absurd (omega arith)
      by false e = rw e (ap (λ (w : FactorsAnswer). (w, l)) (is ∙ rw e refl))

  module _ (f : MbDequantFactors) (is : of_factors f ≡ mb_factors q ydc y2dc y2ac uvdc uvac) where
    pub length-refused : (l : List ℤ) → (length l ≡ 400 → ⊥)
        → ◌≡◌ {A = FactorsAnswer × List ℤ} (told (Err refusal.WrongLength), l) (dequantise_answer q ydc y2dc y2ac uvdc uvac l)
    unfolding dequantise_answer
    length-refused l k = rw ((accepted f is).0, ne_eqb (length l) 400 k) refl

    pub scaled : (l m : List ℤ) → length l ≡ 400 → m ≡ mb_dequantised (of_factors f) l
        → ◌≡◌ {A = FactorsAnswer × List ℤ} (of_factors f, m) (dequantise_answer q ydc y2dc y2ac uvdc uvac l)
    unfolding dequantise_answer
    scaled l m k e = let h = accepted f is in rw (h.0, eq-eqb (length l) 400 k, e, h.1) refl
