-- The shelf of bytes and the shelf of jobs are one: where every mode, skip and mark byte says something, the bytes' answer is that of the jobs that they
-- stand for, in every byte that is written and in the count; and where one says nothing, its item alone is refused with 8. Assumes nothing.
use Prim.Native.Nat.{ℕ, ◌+◌, ◌*◌, ◌<◌}
use mathlib.Core.Path.{◌≡◌, refl, sym, ap, ◌∙◌}
use mathlib.Core.Bool.{Bool, true, false}
use mathlib.Core.List.{List}
use borrow.Author.Tests.{eq-eqb}
use lib.IntN.{ℤ}
use lib.ListN.{length, get_or}
use Rattle.lists.specs.Lists.{pick, item_of}
use Rattle.lists.proofs.Table.{table-length, table_at}
use Rattle.macroblock.specs.Reply.{unknown_byte}
use Rattle.record_bytes.specs.Bytes.{marks_known}
use Rattle.reconstruct.specs.Answers.{MbAnswer, refusal}
use Rattle.drawing.specs.Drawn.{modes_known, drawn_with, drawn, drawn_bytes}
use Rattle.shelf_items.specs.declared.Job.{Job}
use Rattle.shelf_items.specs.Shelf.{no_job, job_drawn, job_at, shelf_answer, bytes_at, bytes_answer}
use Rattle.shelf_laws.specs.Words.{job_of, jobs_of, Known}
use Rattle.shelf_laws.proofs.Items.{shelved-ext}

module _ (modes records subs : List ℕ) (coeffs : List ℤ) (k : ℕ) where
  -- an item whose bytes all say something is its job
  pub item-same : modes_known (get_or modes (3 * k) 0) (get_or modes (3 * k + 1) 0) (get_or modes (3 * k + 2) 0) ≡ true
      → marks_known (item_of 81 k records) ≡ true → bytes_at modes records subs coeffs k ≡ job_drawn (job_of modes records k) subs coeffs k
  unfolding bytes_at drawn_bytes drawn job_drawn drawn_with job_of
  item-same e f = rw (e, f) refl

  -- a mark that says nothing refuses its item
  pub unknown-mark : marks_known (item_of 81 k records) ≡ false → bytes_at modes records subs coeffs k ≡ refusal unknown_byte
  unfolding bytes_at drawn_bytes
  unknown-mark f = rw f refl

  -- and so does a mode or skip byte
  pub unknown-mode : length (item_of 400 k coeffs) ≡ 400
      → modes_known (get_or modes (3 * k) 0) (get_or modes (3 * k + 1) 0) (get_or modes (3 * k + 2) 0) ≡ false
      → bytes_at modes records subs coeffs k ≡ refusal unknown_byte
  unfolding bytes_at drawn_bytes drawn
  unknown-mode h e = either (marks_known (item_of 81 k records)) (rw (e, eq-eqb _ _ h) refl)
    where
      either : (b : Bool) {x : MbAnswer} → x ≡ refusal unknown_byte → pick b x (refusal unknown_byte) ≡ refusal unknown_byte
      either true p = p
      either false p = refl

-- item k of the jobs of n items
job_read : (n : ℕ) (modes records subs : List ℕ) (coeffs : List ℤ) (k : ℕ) → k < n
    → job_drawn (job_of modes records k) subs coeffs k ≡ job_at (jobs_of n modes records) subs coeffs k
unfolding job_at jobs_of
job_read n modes records subs coeffs k l = ap (λ (j : Job). job_drawn j subs coeffs k) (sym (table_at n (job_of modes records) k no_job l))

jobs-length : (n : ℕ) (modes records : List ℕ) → length (jobs_of n modes records) ≡ n
unfolding jobs_of
jobs-length n modes records = table-length n (job_of modes records)

module _ (modes records subs : List ℕ) (coeffs : List ℤ) (out replies clipped : List ℕ) where
  pub bytes-are-jobs : Known (length replies) modes records → length modes ≡ 3 * length replies → length records ≡ 81 * length replies
      → bytes_answer modes records subs coeffs out replies clipped ≡ shelf_answer (jobs_of (length replies) modes records) subs coeffs out replies clipped
  unfolding bytes_answer shelf_answer
  bytes-are-jobs known em er =
      let n = length replies in
      rw (
        eq-eqb (length modes) (3 * n) em,
        eq-eqb (length records) (81 * n) er,
        jobs-length n modes records,
        shelved-ext n (bytes_at modes records subs coeffs) (job_at (jobs_of n modes records) subs coeffs)
            (λ k l. item-same modes records subs coeffs k (known.modes-say k l) (known.marks-say k l) ∙ job_read n modes records subs coeffs k l),
      ) refl
