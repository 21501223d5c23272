-- A stretch of two planes from `at` on, 64 pixels a turn: lane k of turn j is pixel 64 j + k.
--     squares-turn, raise-turn, count_turn      what a turn with the differences d makes of the sum and of the lanes
--     squares-fit, lanes-below                  the sum fits 32 bits and a lane's count a byte, up to 255 turns
--     squares-of, sum-of, largest-of            a lane's list, place by place
--     raised_all, counted-all                   the lanes together; stretched, the whole answer
-- Assumes nothing.
use Prim.Native.Nat.{ℕ, ◌+◌, ◌*◌, ◌<◌, ◌≤◌, max}
use mathlib.Core.List.{List}
use mathlib.Core.Path.{◌≡◌, refl, ap, ◌∙◌}
use native.Mathlib.Nat.{mul-one}
use native.Mathlib.Omega.{arith}
use lib.Dec.{eqb, lit<}
use lib.ListN.{length, get_or}
use Rattle.std.specs.Prelude.{sum, fold}
use Rattle.std.specs.List.{sum_by}
use Rattle.lists.specs.Lists.{table, pick, total}
use Rattle.lists.proofs.Table.{table-length, table_at, table-ext}
use Rattle.lists.proofs.Each.{each_all}
use Rattle.plane_distance.specs.Sums.{largest}
use Rattle.plane_distance.specs.Apart.{apart_at, square_at, same_at, distance_from, raised, counted}
use Rattle.plane_distance.specs.declared.Distance.{Distance}
use Rattle.lists.proofs.Total.{total-turn, total-≤, total_ext, total-add}
use Rattle.plane_distance.proofs.Totals.{largest-turn, largest-ext, sum_by-total, fold-largest, total-lanes, largest-lanes}
use Rattle.plane_distance.proofs.Pixels.{Bytes, same-apart, same-≤, square-≤}

-- a lane's list, as its places
module _ (l : List ℕ) (e : length l ≡ 64) where
  pub squares-of : sum_by (λ g. g * g) l ≡ total 64 (λ k. get_or l k 0 * get_or l k 0)
  squares-of = sum_by-total (λ g. g * g) l ∙ ap (λ (n : ℕ). total n (λ k. get_or l k 0 * get_or l k 0)) e

  pub sum-of : sum l ≡ total 64 (λ k. get_or l k 0)
  sum-of = sum_by-total (λ g. g) l ∙ ap (λ (n : ℕ). total n (λ k. get_or l k 0)) e

  pub largest-of : fold max 0 l ≡ largest 64 (λ k. get_or l k 0)
  largest-of = fold-largest 0 l ∙ rw e (omega arith)

module _ (a b : List ℕ) (at : ℕ) where
  -- the first t turns of lane k
  abbrev pub gap_lane : ℕ → ℕ → ℕ
  gap_lane t k = largest t λ j. apart_at a b (at + (64 * j + k))

  abbrev pub same_lane : ℕ → ℕ → ℕ
  same_lane t k = total t λ j. same_at a b (at + (64 * j + k))

  -- turn t, with the differences d
  module _ (t : ℕ) (d : List ℕ) (e : d ≡ table 64 (λ k. apart_at a b (at + 64 * t + k))) where
    gap_at : (k : ℕ) → k < 64 → get_or d k 0 ≡ apart_at a b (at + (64 * t + k))
    gap_at k h =
        rw (e, table_at 64 (λ k. apart_at a b (at + 64 * t + k)) k 0 h)
        (let g : at + 64 * t + k ≡ at + (64 * t + k) = omega arith in ap (apart_at a b) g)

    pub squares-turn : (s v : ℕ) → s ≡ total (64 * t) (λ i. square_at a b (at + i)) → v ≡ total 64 (λ k. get_or d k 0 * get_or d k 0)
        → s + v ≡ total (64 * (t + 1)) (λ i. square_at a b (at + i))
    unfolding square_at
    squares-turn s v p q =
        let g : 64 * (t + 1) ≡ 64 * t + 64 = omega arith in
        rw (g, total-add (64 * t) 64 (λ i. square_at a b (at + i)), p, q)
        (ap (λ (n : ℕ). total (64 * t) (λ i. square_at a b (at + i)) + n)
        (total_ext 64 _ (λ k. square_at a b (at + (64 * t + k))) (λ k h. ap (λ (n : ℕ). n * n) (gap_at k h))))

    pub raise-turn : (m m' : List ℕ) → m ≡ table 64 (gap_lane t) → m' ≡ raised d m → m' ≡ table 64 (gap_lane (t + 1))
    unfolding raised
    raise-turn m m' p q =
        q
        ∙ each_all 0 (λ k x. max x (get_or d k 0)) m 64 (rw p (table-length 64 (gap_lane t)))
        ∙ table-ext 64 _ (gap_lane (t + 1)) (λ k h.
        largest-turn t (λ j. apart_at a b (at + (64 * j + k))) _ _ (rw p (table_at 64 (gap_lane t) k 0 h)) (gap_at k h))

    pub count_turn : (n n' : List ℕ) → n ≡ table 64 (same_lane t) → n' ≡ counted d n → n' ≡ table 64 (same_lane (t + 1))
    unfolding counted
    count_turn n n' p q =
        q
        ∙ each_all 0 (λ k x. x + pick (eqb (get_or d k 0) 0) 1 0) n 64 (rw p (table-length 64 (same_lane t)))
        ∙ table-ext 64 _ (same_lane (t + 1)) (λ k h.
        total-turn t (λ j. same_at a b (at + (64 * j + k))) _ _ (rw p (table_at 64 (same_lane t) k 0 h))
        (ap (λ (g : ℕ). pick (eqb g 0) 1 0) (gap_at k h) ∙ same-apart a b (at + (64 * t + k))))

  -- ---- how far they grow
  pub squares-fit : Bytes a → Bytes b → (n : ℕ) → total n (λ i. square_at a b (at + i)) ≤ n * 65025
  squares-fit p q n = total-≤ 65025 n _ (λ i h. square-≤ a b (at + i) p q)

  pub lanes-below : (t : ℕ) (n : List ℕ) → n ≡ table 64 (same_lane t) → (k : ℕ) → k < 64 → get_or n k 0 ≤ t
  lanes-below t n p k h =
      rw (p, table_at 64 (same_lane t) k 0 h)
      (omega (arith, total-≤ 1 t (λ j. same_at a b (at + (64 * j + k))) (λ j l. same-≤ a b (at + (64 * j + k))), mul-one t))

  -- ---- the lanes together
  pub raised_all : (t : ℕ) (m : List ℕ) → m ≡ table 64 (gap_lane t) → largest 64 (λ k. get_or m k 0) ≡ largest (64 * t) (λ i. apart_at a b (at + i))
  raised_all t m p =
      largest-ext 64 _ (gap_lane t) (λ k h. rw p (table_at 64 (gap_lane t) k 0 h))
      ∙ largest-lanes 64 t (λ i. apart_at a b (at + i)) (lit< tt)

  pub counted-all : (t : ℕ) (n : List ℕ) → n ≡ table 64 (same_lane t) → total 64 (λ k. get_or n k 0) ≡ total (64 * t) (λ i. same_at a b (at + i))
  counted-all t n p =
      total_ext 64 _ (same_lane t) (λ k h. rw p (table_at 64 (same_lane t) k 0 h))
      ∙ total-lanes 64 t (λ i. same_at a b (at + i))

  pub stretched : (t s h e : ℕ) (m n : List ℕ) → s ≡ total (64 * t) (λ i. square_at a b (at + i)) → m ≡ table 64 (gap_lane t) → n ≡ table 64 (same_lane t)
      → h ≡ largest 64 (λ k. get_or m k 0) → e ≡ total 64 (λ k. get_or n k 0) → ◌≡◌ {A = Distance} (record { squares = s; largest = h; equal = e }) (distance_from a b at (64 * t))
  unfolding distance_from
  stretched t s h e m n p q r x y = rw (p, x ∙ raised_all t m q, y ∙ counted-all t n r)

  -- before the first turn
  pub no_gaps : table 64 (λ k. 0) ≡ table 64 (gap_lane 0)
  unfolding largest
  no_gaps = refl

  pub no-sames : table 64 (λ k. 0) ≡ table 64 (same_lane 0)
  unfolding total
  no-sames = refl
