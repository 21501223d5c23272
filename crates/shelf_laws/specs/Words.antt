-- The words of the theorems on a shelf: the job that an item's bytes stand for, and lists whose bytes all say something.
use Rattle.std.specs.Prelude.{ℕ, ◌+◌, ◌*◌, ◌<◌, true, ◌≡◌, List, get_or}
use Rattle.lists.specs.Lists.{table, item_of}
use Rattle.record_bytes.specs.Bytes.{marks_known, record_of}
use Rattle.drawing.specs.Drawn.{modes_known, modes_of}
use Rattle.shelf_items.specs.declared.Job.{Job}

-- the job of an item's mode bytes and record bytes
unfoldable pub job_of : List ℕ → List ℕ → ℕ → Job
job_of modes records k =
    record {
      modes = modes_of (get_or modes (3 * k) 0) (get_or modes (3 * k + 1) 0) (get_or modes (3 * k + 2) 0);
      neighbors = record_of (item_of 81 k records);
    }

unfoldable pub jobs_of : ℕ → List ℕ → List ℕ → List Job
jobs_of n modes records = table n (job_of modes records)

-- the mode, skip and mark bytes of the first n items all say something
pub record Known (n : ℕ) (modes records : List ℕ) : Type 0 where
  pub modes-say : (k : ℕ) → k < n → modes_known (get_or modes (3 * k) 0) (get_or modes (3 * k + 1) 0) (get_or modes (3 * k + 2) 0) ≡ true
  pub marks-say : (k : ℕ) → k < n → marks_known (item_of 81 k records) ≡ true
