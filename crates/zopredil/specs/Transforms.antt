-- Dequantising, the transforms and the residue sum: what each call answers, beside what the slices that it writes then hold. A slice of another length than it must
-- have is reply 1, and nothing is written.
use Rattle.std.specs.Prelude.{ℕ, Bool, List, [], ◌∷◌, ℤ, length}
use Rattle.lists.specs.Lists.{pick, both, sized, ◌beside◌}
use Rattle.macroblock.specs.Reply.{done, wrong_length}
use Rattle.rfc6386.specs.Quantiser.{dequantised}
use Rattle.rfc6386.specs.Wht.{iwht, iwht_dc}
use Rattle.rfc6386.specs.Dct.{idct}
use Rattle.quantiser.specs.Factors.{Y1Answer, y1_factors}
use Rattle.mb_factors.specs.Factors.{FactorsAnswer}
use Rattle.dequant.specs.Answers.{dequantise_answer}
use Rattle.residue.specs.Answer.{AddedInto, add_reply, added_into, add_clipped, residue_reply, residue_added}

-- the factors of an index and its delta: dc, ac
abbrev pub factor_pair : Y1Answer → ℕ × List ℤ
factor_pair a = a.reply beside a.dc ∷ a.ac ∷ []

unfoldable pub factors_answer : ℤ → ℤ → List ℤ → ℕ × List ℤ
factors_answer yac ydc out = pick (sized 2 out) (factor_pair (y1_factors yac ydc)) (wrong_length beside out)

-- a block dequantised where it stands
unfoldable pub dequant_answer : List ℤ → ℤ → ℤ → ℕ × List ℤ
dequant_answer block dc ac = pick (sized 16 block) (done beside dequantised block dc ac) (wrong_length beside block)

-- the six factors of a macroblock, in the order of their slice
unfoldable pub factor_list : FactorsAnswer → List ℤ
factor_list f = f.y1_dc ∷ f.y1_ac ∷ f.y2_dc ∷ f.y2_ac ∷ f.uv_dc ∷ f.uv_ac ∷ []

-- what is told, beside the coefficients
abbrev pub six_made : FactorsAnswer × List ℤ → (ℕ × List ℤ) × List ℤ
six_made a = (a.0.reply beside factor_list a.0) beside a.1

-- a macroblock's coefficients dequantised where they stand, and its factors; 1 for factors that are not 6, before all else, and both slices stay
unfoldable pub six_answer : ℤ → ℤ → ℤ → ℤ → ℤ → ℤ → List ℤ → List ℤ → ℕ × (List ℤ × List ℤ)
six_answer q ydc y2dc y2ac uvdc uvac coeffs factors =
    let a = dequantise_answer q ydc y2dc y2ac uvdc uvac coeffs in
    pick (sized 6 factors) (a.0.reply beside a.1 beside factor_list a.0) (wrong_length beside coeffs beside factors)

-- sixteen numbers in, sixteen out
abbrev pub sixteens : List ℤ → List ℤ → Bool
sixteens input out = both (sized 16 input) (sized 16 out)

unfoldable pub wht_answer : List ℤ → List ℤ → ℕ × List ℤ
wht_answer input out = pick (sixteens input out) (done beside iwht input) (wrong_length beside out)

unfoldable pub wht_dc_answer : ℤ → List ℤ → ℕ × List ℤ
wht_dc_answer dc out = pick (sized 16 out) (done beside iwht_dc dc) (wrong_length beside out)

unfoldable pub dct_answer : List ℤ → List ℤ → ℕ × List ℤ
dct_answer input out = pick (sixteens input out) (done beside idct input) (wrong_length beside out)

-- what is told of it: the reply, and the count in a slice of 1
abbrev pub counted : AddedInto → ℕ × List ℕ
counted a = a.reply beside a.clipped ∷ []

-- a block's inverse DCT added to its place in a plane, and the count of its clipped sums in a slice of 1
unfoldable pub add_into_answer : List ℤ → List ℕ → ℕ → ℕ → ℕ → List ℕ → ℕ × (List ℕ × List ℕ)
add_into_answer input plane stride row col clipped =
    pick (both (sized 16 input) (sized 1 clipped))
    (add_reply (length plane) stride row col beside added_into input stride row col plane beside add_clipped input stride row col plane ∷ [])
    (wrong_length beside plane beside clipped)

-- prediction plus residue
unfoldable pub residue_answer : List ℕ → List ℤ → List ℕ → ℕ × List ℕ
residue_answer prediction residue out =
    residue_reply (length prediction) (length residue) (length out) beside residue_added prediction residue out
