-- No item reads what belongs to another: items whose own job, sub-block bytes and coefficients agree are equal, whatever stands elsewhere in the lists.
-- Assumes nothing.
use Prim.Native.Nat.{ℕ, ◌+◌, ◌*◌}
use mathlib.Core.Path.{◌≡◌, refl}
use mathlib.Core.List.{List}
use lib.IntN.{ℤ}
use lib.ListN.{get_or}
use Rattle.lists.specs.Lists.{item_of}
use Rattle.shelf_items.specs.declared.Job.{Job}
use Rattle.shelf_items.specs.Shelf.{no_job, job_drawn, job_at, bytes_at}

pub jobs-apart : (k : ℕ) (jobs others : List Job) (subs bytes : List ℕ) (coeffs numbers : List ℤ) → get_or jobs k no_job ≡ get_or others k no_job
    → item_of 16 k subs ≡ item_of 16 k bytes → item_of 400 k coeffs ≡ item_of 400 k numbers → job_at jobs subs coeffs k ≡ job_at others bytes numbers k
unfolding job_at job_drawn
jobs-apart k jobs others subs bytes coeffs numbers j s c = rw (j, s, c) refl

pub bytes_apart : (k : ℕ) (modes others records edges subs bytes : List ℕ) (coeffs numbers : List ℤ)
    → get_or modes (3 * k) 0 ≡ get_or others (3 * k) 0 → get_or modes (3 * k + 1) 0 ≡ get_or others (3 * k + 1) 0
    → get_or modes (3 * k + 2) 0 ≡ get_or others (3 * k + 2) 0 → item_of 81 k records ≡ item_of 81 k edges → item_of 16 k subs ≡ item_of 16 k bytes
    → item_of 400 k coeffs ≡ item_of 400 k numbers → bytes_at modes records subs coeffs k ≡ bytes_at others edges bytes numbers k
unfolding bytes_at
bytes_apart k modes others records edges subs bytes coeffs numbers y uv skip r s c = rw (y, uv, skip, r, s, c) refl
