-- The promise of `dequant` admits one answer only, and leaves one thing only in what was lent. Assumes nothing.
use mathlib.Core.Path.{ap}
use mathlib.Core.List.{List}
use lib.IntN.{ℤ}
use Rattle.lists.proofs.Answer.{OneAnswerIn, same}
use Rattle.mb_factors.specs.Factors.{FactorsAnswer}
use Rattle.mb_factors.proofs.OneAnswer.{told-one}
use Rattle.dequant.proofs.dequantise.Reads as dequantise
use Rattle.dequant.proofs.dequantise.Kinds as dequantise-k

pub dequantise-one : OneAnswerIn 1 dequantise-k.ps dequantise-k.r dequantise.Post (λ κs s. s.1.1.1.1.1.1.0.now)
dequantise-one κs a x y s t p q =
    let e = same p q in
    (told-one x y (ap (λ (w : FactorsAnswer × List ℤ). w.0) e), ap (λ (w : FactorsAnswer × List ℤ). w.1) e)
