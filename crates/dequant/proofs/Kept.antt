-- What holds of every answer of `dequantise`: a coefficient that is 0 stays 0, and an index and deltas of a bitstream are never refused.
-- Assumes nothing.
use mathlib.Core.Path.{◌≡◌}
use mathlib.Core.Bool.{Bool, true, false}
use mathlib.Core.List.{List}
use Prim.Native.Nat.{ℕ, ◌<◌}
use borrow.Author.Tests.{eq-eqb}
use lib.Dec.{eqb}
use lib.IntN.{ℤ, pos}
use lib.ListN.{length, get_or}
use Rattle.lists.specs.Lists.{pick}
use Rattle.whole.proofs.Range.{Small}
use Rattle.macroblock.specs.Reply.{wrong_length, index_sum}
use Rattle.rfc6386.proofs.MbFactors.{blocks-zero}
use Rattle.mb_factors.specs.Factors.{FactorsAnswer, sums_fit, factors_given, no_factors}
use Rattle.mb_factors.proofs.Unrefused.{bitstream-sums}
use Rattle.dequant.specs.Answers.{dc_of, ac_of, mb_dequantised, dequantise_answer}

zero-either : (b c : Bool) (f g h : FactorsAnswer) (m l : List ℤ) (j : ℕ) → get_or m j (pos 0) ≡ pos 0 → get_or l j (pos 0) ≡ pos 0
    → get_or (pick {A = FactorsAnswer × List ℤ} b (pick c (f, m) (g, l)) (h, l)).1 j (pos 0) ≡ pos 0
zero-either true true f g h m l j p q = p
zero-either true false f g h m l j p q = q
zero-either false c f g h m l j p q = q

pub zero-kept : (q ydc y2dc y2ac uvdc uvac : ℤ) (l : List ℤ) (j : ℕ) → j < 400 → get_or l j (pos 0) ≡ pos 0
    → get_or (dequantise_answer q ydc y2dc y2ac uvdc uvac l).1 j (pos 0) ≡ pos 0
unfolding dequantise_answer mb_dequantised
zero-kept q ydc y2dc y2ac uvdc uvac l j h e =
    let f = factors_given q ydc y2dc y2ac uvdc uvac in
    zero-either (sums_fit q ydc y2dc y2ac uvdc uvac) (eqb (length l) 400) f (no_factors wrong_length) (no_factors index_sum) (mb_dequantised f l) l j
    (blocks-zero 25 (dc_of f) (ac_of f) l j h e) e

pub bitstream-done : (q ydc y2dc y2ac uvdc uvac : ℤ) (l : List ℤ) → Small 254 q → Small 15 ydc → Small 15 y2dc → Small 15 y2ac → Small 15 uvdc → Small 15 uvac
    → length l ≡ 400
    → let f = factors_given q ydc y2dc y2ac uvdc uvac in
    ◌≡◌ {A = FactorsAnswer × List ℤ} (dequantise_answer q ydc y2dc y2ac uvdc uvac l) (f, mb_dequantised f l)
unfolding dequantise_answer
bitstream-done q ydc y2dc y2ac uvdc uvac l h i j k m o e = rw (bitstream-sums q ydc y2dc y2ac uvdc uvac h i j k m o, eq-eqb (length l) 400 e)
