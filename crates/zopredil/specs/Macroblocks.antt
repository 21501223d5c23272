-- One macroblock: three mode bytes, sixteen sub-block bytes or none, 81 record bytes, 400 coefficients, and 384 bytes (Y, U, V) to
-- write, and a count of the sums that were below 0 or above 255. Another length is reply 1, and nothing is written; every other refusal writes zeros.
use Rattle.std.specs.Prelude.{ℕ, Bool, true, List, [], ◌∷◌, eqb, ℤ, length, get_or, replicate}
use Rattle.lists.specs.Lists.{pick, both, sized, ◌beside◌}
use Rattle.slices.specs.Copies.{or_zeros}
use Rattle.macroblock.specs.Reply.{wrong_length, unknown_byte}
use Rattle.record_bytes.specs.Bytes.{marks_known, record_of}
use Rattle.drawing.specs.Drawn.{planes_of, drawn}

unfoldable pub sub_modes_fit : ℕ → Bool
sub_modes_fit subs = pick (eqb subs 16) true (eqb subs 0)

unfoldable pub lengths_fit : ℕ → ℕ → ℕ → ℕ → ℕ → ℕ → Bool
lengths_fit modes subs «record» coeffs out clipped =
    both (eqb modes 3) (both (sub_modes_fit subs) (both (eqb «record» 81) (both (eqb coeffs 400) (both (eqb out 384) (eqb clipped 1)))))

unfoldable pub mb_answer : List ℕ → List ℕ → List ℕ → List ℤ → List ℕ → List ℕ → ℕ × (List ℕ × List ℕ)
mb_answer modes subs «record» coeffs out clipped =
    let r = drawn (get_or modes 0 0) (get_or modes 1 0) (get_or modes 2 0) (or_zeros 0 16 subs) (sized 16 subs) (record_of «record») coeffs in
    pick (lengths_fit (length modes) (length subs) (length «record») (length coeffs) (length out) (length clipped))
    (pick (marks_known «record») (r.reply beside planes_of r beside r.clipped ∷ []) (unknown_byte beside replicate 384 0 beside 0 ∷ []))
    (wrong_length beside out beside clipped)
