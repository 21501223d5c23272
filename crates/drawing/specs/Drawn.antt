-- One macroblock from its bytes: three mode bytes (luma, chroma, skip), sixteen sub-block bytes and 400 coefficients, of which luma mode B skips the
-- first 16. It is what the walkers of `reconstruct` answer; a luma or chroma byte that is no mode's number, a skip byte above 1 and, in luma mode B, a
-- sub-block byte that is no mode's number are reply 8. Sub-block bytes are looked at in luma mode B alone, and where they are marked as there.
use Rattle.std.specs.Prelude.{ℕ, Bool, true, List, ◌++◌, eqb, leb, ℤ, length, get_or, drop}
use Rattle.lists.specs.Lists.{table, pick, both, within}
use Rattle.macroblock.specs.Reply.{done, wrong_length, unknown_byte}
use Rattle.macroblock.specs.declared.modes.IntraBmode.{IntraBmode}
use Rattle.macroblock.specs.declared.modes.MbModes.{MbModes}
use Rattle.macroblock.specs.declared.neighbors.MbNeighbors.{MbNeighbors}
use Rattle.macroblock.specs.Says.{y_reply, y_mode, uv_reply, uv_mode, b_mode}
use Rattle.record_bytes.specs.Bytes.{marks_known, record_of}
use Rattle.rfc6386.specs.Edges.{is_b}
use Rattle.reconstruct.specs.Answers.{MbAnswer, refusal, non_b, walk_b}

-- the planes one after another: Y, U, V
unfoldable pub planes_of : MbAnswer → List ℕ
planes_of r = r.y ++ (r.u ++ r.v)

-- the three mode bytes
unfoldable pub modes_known : ℕ → ℕ → ℕ → Bool
modes_known luma chroma skip = both (eqb (y_reply luma) done) (both (eqb (uv_reply chroma) done) (leb skip 1))

unfoldable pub modes_of : ℕ → ℕ → ℕ → MbModes
modes_of luma chroma skip = record { y = y_mode luma; uv = uv_mode chroma; skip = eqb skip 1 }

-- the sixteen sub-block bytes
unfoldable pub sub_modes_of : List ℕ → List IntraBmode
sub_modes_of subs = table 16 (λ k. b_mode (get_or subs k 0))

-- bytes that are not there are not looked at
abbrev pub subs_known : List ℕ → Bool → Bool
subs_known subs there = pick there (within 9 16 subs) true

-- luma mode B: the first 16 coefficients are skipped
unfoldable pub drawn_b : MbModes → List ℕ → Bool → MbNeighbors → List ℤ → MbAnswer
drawn_b modes subs there n coeffs =
    pick (subs_known subs there) (walk_b (sub_modes_of subs) there modes n (drop 16 coeffs)) (refusal unknown_byte)

-- a macroblock of known modes
unfoldable pub drawn_in : MbModes → List ℕ → Bool → MbNeighbors → List ℤ → MbAnswer
drawn_in modes subs there n coeffs = pick (is_b modes.y) (drawn_b modes subs there n coeffs) (non_b modes n coeffs)

-- the same, with its number of coefficients tested
unfoldable pub drawn_with : MbModes → List ℕ → Bool → MbNeighbors → List ℤ → MbAnswer
drawn_with modes subs there n coeffs = pick (eqb (length coeffs) 400) (drawn_in modes subs there n coeffs) (refusal wrong_length)

-- the macroblock
unfoldable pub drawn : ℕ → ℕ → ℕ → List ℕ → Bool → MbNeighbors → List ℤ → MbAnswer
drawn luma chroma skip subs there n coeffs =
    pick (eqb (length coeffs) 400)
    (pick (modes_known luma chroma skip) (drawn_in (modes_of luma chroma skip) subs there n coeffs) (refusal unknown_byte))
    (refusal wrong_length)

-- the macroblock whose neighbours are 81 record bytes
unfoldable pub drawn_bytes : ℕ → ℕ → ℕ → List ℕ → Bool → List ℕ → List ℤ → MbAnswer
drawn_bytes luma chroma skip subs there «record» coeffs =
    pick (marks_known «record») (drawn luma chroma skip subs there (record_of «record») coeffs) (refusal unknown_byte)
