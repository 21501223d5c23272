-- A shelf of loose macroblocks: every item is what its own call draws, and none knows of the others.
--     job_drawn      item k of a list of jobs: what the walkers of `reconstruct` answer to its modes, record, sub-block bytes and coefficients
--     bytes_at       item k of lists of bytes: what `drawing` answers to them
--     shelved       what n items leave, one after another
use Rattle.std.specs.Prelude.{ℕ, ◌+◌, ◌*◌, Bool, true, false, List, [], ◌∷◌, eqb, ℤ, length, get_or, take}
use Rattle.lists.specs.Lists.{table, pick, both, item_of, ◌beside◌, total, joined}
use Rattle.macroblock.specs.Neighbors.{absent}
use Rattle.macroblock.specs.Reply.{done, wrong_length}
use Rattle.macroblock.specs.declared.modes.IntraYMode.TheVariants as y
use Rattle.macroblock.specs.declared.modes.IntraUvMode.TheVariants as uv
use Rattle.reconstruct.specs.Answers.{MbAnswer}
use Rattle.drawing.specs.Drawn.{planes_of, drawn_with, drawn_bytes}
use Rattle.shelf_items.specs.declared.Job.{Job}

-- what n items leave: reply 0; Y, U and V of each; a reply of each; and how many sums of all of them were below 0 or above 255
unfoldable pub shelved : ℕ → (ℕ → MbAnswer) → ℕ × (List ℕ × (List ℕ × List ℕ))
shelved n item = done beside joined n (λ k. planes_of (item k)) beside table n (λ k. (item k).reply) beside total n (λ k. (item k).clipped) ∷ []

-- 16 and 400 an item to read, 384 and 1 to write, and one count
unfoldable pub lengths_fit : ℕ → ℕ → ℕ → ℕ → ℕ → ℕ → Bool
lengths_fit n subs coeffs out replies clipped =
    both (eqb subs (16 * n)) (both (eqb coeffs (400 * n)) (both (eqb out (384 * n)) (both (eqb replies n) (eqb clipped 1))))

-- ---- from jobs
-- what `get_or` gives past the end: no caller sees it
abbrev pub no_job : Job
no_job = record { modes = record { y = y.Dc; uv = uv.Dc; skip = false }; neighbors = absent }

unfoldable pub job_drawn : Job → List ℕ → List ℤ → ℕ → MbAnswer
job_drawn job subs coeffs k =
    drawn_with job.modes (item_of 16 k subs) true job.neighbors (item_of 400 k coeffs)

unfoldable pub job_at : List Job → List ℕ → List ℤ → ℕ → MbAnswer
job_at jobs subs coeffs k = job_drawn (get_or jobs k no_job) subs coeffs k

unfoldable pub shelf_answer : List Job → List ℕ → List ℤ → List ℕ → List ℕ → List ℕ → ℕ × (List ℕ × (List ℕ × List ℕ))
shelf_answer jobs subs coeffs out replies clipped =
    pick (lengths_fit (length jobs) (length subs) (length coeffs) (length out) (length replies) (length clipped))
    (shelved (length jobs) (job_at jobs subs coeffs))
    (wrong_length beside out beside replies beside clipped)

-- the first `count` of some
unfoldable pub few_answer : List Job → ℕ → List ℕ → List ℤ → List ℕ → List ℕ → List ℕ → ℕ × (List ℕ × (List ℕ × List ℕ))
few_answer jobs count subs coeffs out replies clipped = shelf_answer (take count jobs) subs coeffs out replies clipped

-- ---- from bytes: three mode bytes and 81 record bytes an item
unfoldable pub bytes_at : List ℕ → List ℕ → List ℕ → List ℤ → ℕ → MbAnswer
bytes_at modes records subs coeffs k =
    drawn_bytes (get_or modes (3 * k) 0) (get_or modes (3 * k + 1) 0) (get_or modes (3 * k + 2) 0) (item_of 16 k subs) true (item_of 81 k records) (item_of 400 k coeffs)

-- as many items as there are replies
unfoldable pub bytes_answer : List ℕ → List ℕ → List ℕ → List ℤ → List ℕ → List ℕ → List ℕ → ℕ × (List ℕ × (List ℕ × List ℕ))
bytes_answer modes records subs coeffs out replies clipped =
    let n = length replies in
    pick (both (eqb (length modes) (3 * n)) (both (eqb (length records) (81 * n)) (lengths_fit n (length subs) (length coeffs) (length out) n (length clipped))))
    (shelved n (bytes_at modes records subs coeffs))
    (wrong_length beside out beside replies beside clipped)
