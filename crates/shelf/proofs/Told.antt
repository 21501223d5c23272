-- The answers of the two calls on jobs, from the beginning and what the turns left. Assumes nothing.
use Prim.Native.Nat.{ℕ, ◌+◌, ◌<◌}
use mathlib.Core.Path.{◌≡◌, ap, ◌∙◌}
use mathlib.Core.Bool.{true}
use mathlib.Core.List.{List}
use lib.IntN.{ℤ}
use lib.ListN.{length, get_or, take}
use Rattle.std.specs.Prelude.{Err, min}
use Rattle.std.proofs.lemmas.List.{get_or_default, take_min}
use Rattle.lists.specs.Lists.{◌beside◌}
use Rattle.macroblock.specs.Reply.{done, number}
use Rattle.macroblock.specs.declared.reply.Refusal.{Refusal}
use Rattle.shelf_items.specs.declared.Job.{Job}
use Rattle.shelf_items.specs.Shelf.{no_job, lengths_fit, job_drawn, job_at, shelf_answer, few_answer}
use Rattle.shelf_items.specs.Steps.{told, planned, begun, has_place, PutIf}
use Rattle.shelf_items.proofs.Turns.{out_after, replies_after, count_after, out-turn, replies-turn, count_turn}
use Rattle.shelf_items.proofs.Answered.{answered, not_begun, turn-fits}
use Rattle.shelf_items.proofs.Places.{has-place}
use Rattle.shelf_items.proofs.Items.{jobs-shape}

-- ---- jobs
-- the job that a turn reads, whatever would stand for one past the end
is-job : (jobs : List Job) (subs : List ℕ) (coeffs : List ℤ) (k : ℕ) (d : Job) → k < length jobs
    → job_drawn (get_or jobs k d) subs coeffs k ≡ job_at jobs subs coeffs k
unfolding job_at
is-job jobs subs coeffs k d inside = ap (λ (j : Job). job_drawn j subs coeffs k) (get_or_default jobs k d no_job inside)

-- a turn: item k has its places, and what it makes of what the items before it left is what k + 1 items leave
module _ (jobs : List Job) (subs : List ℕ) (coeffs : List ℤ) (out replies clipped : List ℕ)
    (fit : lengths_fit (length jobs) (length subs) (length coeffs) (length out) (length replies) (length clipped) ≡ true) where
  pub turned : (k : ℕ) {start o r c z s m : List ℕ} (d : Job)
      → start ≡ begun (length jobs) (length subs) (length coeffs) (length out) (length replies) clipped
      → k < length jobs
      → o ≡ out_after (job_at jobs subs coeffs) k out
      → r ≡ replies_after (job_at jobs subs coeffs) k replies
      → c ≡ count_after (job_at jobs subs coeffs) k start
      → length o ≡ length out → length r ≡ length replies
      → PutIf (has_place k (length subs) (length coeffs) (length o) (length r) c) k (job_drawn (get_or jobs k d) subs coeffs k) o r c z s m
      → (z ≡ out_after (job_at jobs subs coeffs) (k + 1) out)
      × (s ≡ replies_after (job_at jobs subs coeffs) (k + 1) replies)
      × (m ≡ count_after (job_at jobs subs coeffs) (k + 1) start)
  turned k {start = start} {o = o} {r = r} {c = c} d es inside eo er ec lo lr put =
      let item = job_at jobs subs coeffs in
      let there : has_place k (length subs) (length coeffs) (length o) (length r) c ≡ true =
      has-place k (length subs) (length coeffs) (length o) (length r) c
      (turn-fits item (jobs-shape jobs subs coeffs) (length jobs) (length subs) (length coeffs) (length out) (length replies) clipped fit k inside lo lr es ec) in
      let same = is-job jobs subs coeffs k d inside in
      let all = rw there at put in (
        out-turn item k out o _ same eo all.0,
        replies-turn item k replies r _ same er all.1,
        count_turn item k start c _ same ec all.2,
      )

  pub jobs-told : {o r c start : List ℕ}
      → o ≡ out_after (job_at jobs subs coeffs) (length jobs) out
      → r ≡ replies_after (job_at jobs subs coeffs) (length jobs) replies
      → start ≡ begun (length jobs) (length subs) (length coeffs) (length out) (length replies) clipped
      → c ≡ count_after (job_at jobs subs coeffs) (length jobs) start
      → (done beside o beside r beside c) ≡ shelf_answer jobs subs coeffs out replies clipped
  unfolding shelf_answer
  jobs-told = answered (job_at jobs subs coeffs) (jobs-shape jobs subs coeffs) (length jobs) (length subs) (length coeffs) out replies clipped fit

module _ (jobs : List Job) (subs : List ℕ) (coeffs : List ℤ) (out replies clipped : List ℕ) where
  pub jobs-refused : {c : List ℕ} (e : Refusal)
      → told (length jobs) (Err e) ≡ planned (length jobs) (length subs) (length coeffs) (length out) (length replies) (length clipped)
      → c ≡ begun (length jobs) (length subs) (length coeffs) (length out) (length replies) clipped
      → (number e beside out beside replies beside c) ≡ shelf_answer jobs subs coeffs out replies clipped
  unfolding shelf_answer
  jobs-refused = not_begun (job_at jobs subs coeffs) (jobs-shape jobs subs coeffs) (length jobs) (length subs) (length coeffs) out replies clipped

-- ---- the front of 32 jobs
module _ (count : ℕ) (all : List Job) (n : length all ≡ 32) where
  -- no more of them are taken than there are
  pub front_same : take (min count 32) all ≡ take count all
  front_same = rw (← n) (take_min count all)

module _ (count : ℕ) (all : List Job) (subs : List ℕ) (coeffs : List ℤ) (out replies clipped : List ℕ) (n : length all ≡ 32) where
  pub few-told : {t : ℕ × (List ℕ × (List ℕ × List ℕ))} → t ≡ shelf_answer (take (min count 32) all) subs coeffs out replies clipped
      → t ≡ few_answer all count subs coeffs out replies clipped
  unfolding few_answer
  few-told e = e ∙ ap (λ (jobs : List Job). shelf_answer jobs subs coeffs out replies clipped) (front_same count all n)
