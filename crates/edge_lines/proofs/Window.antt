-- Lines of a window and the places of a plane that they were taken from: an edge filtered in the one is the edge filtered in the other.
-- Once over the direction: `step` is the distance across the edge and `next` the distance along it. Assumes nothing.
use Prim.Native.Nat.{ℕ, zero, suc, ◌+◌, ◌-◌, ◌*◌, ◌<◌, ◌≤◌, min}
use mathlib.Core.Path.{◌≡◌, refl, sym, ap, subst, ◌∙◌}
use mathlib.Core.Bool.{Bool, true, false}
use mathlib.Core.Logic.{◌≢◌, ◌⊎◌, inl, inr, ⊎_elim}
use mathlib.Core.List.{List}
use native.Mathlib.Nat.{eq-or-lt_of_le, le_of_suc-le-suc, not-suc-le-zero, le_refl, lt_of_not-le}
use native.Mathlib.Decide.{dec_le}
use native.Mathlib.Omega.{arith}
use lib.Dec.{eqb}
use lib.ListN.{length, get_or, set, length-set}
use lib.Seq.{get_or-set_same, get_or-set_other, ext_get_or}
use borrow.Author.Tests.{eqb-true, eqb-false}
use Rattle.macroblock.specs.declared.filter.Across.{Across}
use Rattle.macroblock.specs.declared.filter.Limits.{Limits}
use Rattle.macroblock.specs.declared.filter.Kind.{Kind}
use Rattle.rfc6386.specs.LoopFilter.{filtered}
use Rattle.lists.specs.Lists.{turns}
use Rattle.rfc6386.proofs.FilterReach.{length-crossed}
use Rattle.rfc6386.specs.LoopFilter.{taken, laid, crossed, edge_turn, edge}

same_by : (i j : ℕ) (t : Bool) → eqb i j ≡ t → (i ≡ j) ⊎ (i ≢ j)
same_by i j true e = inl (eqb-true i j e)
same_by i j false e = inr (eqb-false i j e)

pub same_or_not : (i j : ℕ) → (i ≡ j) ⊎ (i ≢ j)
same_or_not i j = same_by i j (eqb i j) refl

less-or-not : (a b : ℕ) → Dec (b ≤ a) → (a < b) ⊎ (b ≤ a)
less-or-not a b (yes p) = inr p
less-or-not a b (no h) = inl (lt_of_not-le h)

pub lt-or-ge : (a b : ℕ) → (a < b) ⊎ (b ≤ a)
lt-or-ge a b = less-or-not a b (dec_le b a)

module _ (lines a n base step next : ℕ) where
  abbrev pub seat : ℕ → ℕ → ℕ
  seat d k = 16 * d + (a + k)

  abbrev pub place : ℕ → ℕ → ℕ
  place d k = base + d * step + k * next

  pub record Agree (w b : List ℕ) : Type 0 where
    pub here : (d k : ℕ) → d < lines → k < n → get_or w (seat d k) 0 ≡ get_or b (place d k) 0
    pub wide : (d k : ℕ) → d < lines → k < n → seat d k < length w
    pub deep : (d k : ℕ) → d < lines → k < n → place d k < length b

  -- the lanes are no more than sixteen, and no two places are one
  pub record Distinct : Type 0 where
    pub fit : a + n ≤ 16
    pub one : (d k e m : ℕ) → d < lines → k < n → e < lines → m < n → place d k ≡ place e m → (d ≡ e) × (k ≡ m)

  module _ (z : Distinct) where
    agree-set : (w b : List ℕ) → Agree w b → (d k v : ℕ) → d < lines → k < n → Agree (set w (seat d k) v) (set b (place d k) v)
    agree-set w b h d k v p q =
        record {
          here =
              λ e m x y.
              ⊎_elim
              (λ (s : seat d k ≡ seat e m).
              let f = z.fit in
              let i : d ≡ e = omega arith in
              let j : k ≡ m = omega arith in
              let t : place e m ≡ place d k = rw (i, j) in
              ap (λ (r : ℕ). get_or (set w (seat d k) v) r 0) (sym s)
              ∙ get_or-set_same w (seat d k) v 0 (h.wide d k p q)
              ∙ sym (ap (λ (r : ℕ). get_or (set b (place d k) v) r 0) t ∙ get_or-set_same b (place d k) v 0 (h.deep d k p q)))
              (λ (s : seat d k ≢ seat e m).
              let u : seat e m ≢ seat d k = λ (r : seat e m ≡ seat d k). s (sym r) in
              let t : place e m ≢ place d k = λ (r : place e m ≡ place d k). let o = z.one e m d k x y p q r in s (omega arith) in
              get_or-set_other w (seat d k) (seat e m) v 0 u
              ∙ h.here e m x y
              ∙ sym (get_or-set_other b (place d k) (place e m) v 0 t))
              (same_or_not (seat d k) (seat e m));
          wide = λ e m x y. subst (λ (r : ℕ). seat e m < r) (sym (length-set w (seat d k) v)) (h.wide e m x y);
          deep = λ e m x y. subst (λ (r : ℕ). place e m < r) (sym (length-set b (place d k) v)) (h.deep e m x y);
        }

    agree-put : (w b : List ℕ) → Agree w b → (d k v i j : ℕ) → d < lines → k < n → i ≡ seat d k → j ≡ place d k → Agree (set w i v) (set b j v)
    agree-put w b h d k v i j p q s t = rw (s, t) (agree-set w b h d k v p q)

    meet : (w b : List ℕ) → Agree w b → (d k i j : ℕ) → d < lines → k < n → i ≡ seat d k → j ≡ place d k → get_or w i 0 ≡ get_or b j 0
    meet w b h d k i j p q s t = rw (s, t) (h.here d k p q)

    module _ (kind : Kind) (l : Limits) (f k : ℕ) (high : f + 8 ≤ lines) (q : k < n) where
      agree-taken : (w b : List ℕ) → Agree w b → taken 16 (seat (f + 4) k) w ≡ taken step (place (f + 4) k) b
      unfolding taken
      agree-taken w b h =
          rw (
            meet w b h f k (seat (f + 4) k - 4 * 16) (place (f + 4) k - 4 * step) (omega arith) q (omega arith) (omega arith),
            meet w b h (f + 1) k (seat (f + 4) k - 3 * 16) (place (f + 4) k - 3 * step) (omega arith) q (omega arith) (omega arith),
            meet w b h (f + 2) k (seat (f + 4) k - 2 * 16) (place (f + 4) k - 2 * step) (omega arith) q (omega arith) (omega arith),
            meet w b h (f + 3) k (seat (f + 4) k - 16) (place (f + 4) k - step) (omega arith) q (omega arith) (omega arith),
            meet w b h (f + 4) k (seat (f + 4) k) (place (f + 4) k) (omega arith) q refl refl,
            meet w b h (f + 5) k (seat (f + 4) k + 16) (place (f + 4) k + step) (omega arith) q (omega arith) (omega arith),
            meet w b h (f + 6) k (seat (f + 4) k + 2 * 16) (place (f + 4) k + 2 * step) (omega arith) q (omega arith) (omega arith),
            meet w b h (f + 7) k (seat (f + 4) k + 3 * 16) (place (f + 4) k + 3 * step) (omega arith) q (omega arith) (omega arith),
          )

      agree-laid : (w b : List ℕ) → Agree w b → (x : Across) → Agree (laid 16 (seat (f + 4) k) x w) (laid step (place (f + 4) k) x b)
      unfolding laid
      agree-laid w b h x =
          agree-put _ _
          (agree-put _ _
          (agree-put _ _
          (agree-put _ _
          (agree-put _ _
          (agree-put w b h (f + 1) k x.p2 (seat (f + 4) k - 3 * 16) (place (f + 4) k - 3 * step) (omega arith) q (omega arith) (omega arith))
          (f + 6) k x.q2 (seat (f + 4) k + 2 * 16) (place (f + 4) k + 2 * step) (omega arith) q (omega arith) (omega arith))
          (f + 2) k x.p1 (seat (f + 4) k - 2 * 16) (place (f + 4) k - 2 * step) (omega arith) q (omega arith) (omega arith))
          (f + 5) k x.q1 (seat (f + 4) k + 16) (place (f + 4) k + step) (omega arith) q (omega arith) (omega arith))
          (f + 3) k x.p0 (seat (f + 4) k - 16) (place (f + 4) k - step) (omega arith) q (omega arith) (omega arith))
          (f + 4) k x.q0 (seat (f + 4) k) (place (f + 4) k) (omega arith) q refl refl

      agree-crossed : (w b : List ℕ) → Agree w b → Agree (crossed kind l 16 (seat (f + 4) k) w) (crossed kind l step (place (f + 4) k) b)
      unfolding crossed
      agree-crossed w b h = rw (agree-taken w b h) (agree-laid w b h (filtered kind l (taken step (place (f + 4) k) b)))

    -- the first m lanes of an edge
    pub agree-edge : (kind : Kind) (l : Limits) (f m : ℕ) → f + 8 ≤ lines → m ≤ n → (w b : List ℕ) → Agree w b
        → Agree (edge kind l m (seat (f + 4) 0) 16 1 w) (edge kind l m (place (f + 4) 0) step next b)
    unfolding edge turns
    agree-edge kind l f zero p q w b h = h
    agree-edge kind l f (suc m) p q w b h =
        let s : seat (f + 4) 0 + m * 1 ≡ seat (f + 4) m = omega arith in
        let t : place (f + 4) 0 + m * next ≡ place (f + 4) m = omega arith in
        rw (s, t) (agree-crossed kind l f m p q _ _ (agree-edge kind l f m p (omega arith) w b h))

  -- a place that is none of the window's
  abbrev pub Off : ℕ → Type 0
  Off j = (d k : ℕ) → d < lines → k < n → j ≢ place d k

  off : (j d k i : ℕ) → Off j → d < lines → k < n → i ≡ place d k → j ≢ i
  off j d k i h p q e = λ (r : j ≡ i). h d k p q (r ∙ e)

  off-crossed : (kind : Kind) (l : Limits) (f k : ℕ) → f + 8 ≤ lines → k < n → (b : List ℕ) (j : ℕ) → Off j
      → get_or (crossed kind l step (place (f + 4) k) b) j 0 ≡ get_or b j 0
  unfolding crossed laid
  off-crossed kind l f k p q b j h =
      let n0 : j ≢ place (f + 4) k - 3 * step = off j (f + 1) k (place (f + 4) k - 3 * step) h (omega arith) q (omega arith) in
      let n1 : j ≢ place (f + 4) k - 2 * step = off j (f + 2) k (place (f + 4) k - 2 * step) h (omega arith) q (omega arith) in
      let n2 : j ≢ place (f + 4) k - step = off j (f + 3) k (place (f + 4) k - step) h (omega arith) q (omega arith) in
      let n3 : j ≢ place (f + 4) k = off j (f + 4) k (place (f + 4) k) h (omega arith) q refl in
      let n4 : j ≢ place (f + 4) k + step = off j (f + 5) k (place (f + 4) k + step) h (omega arith) q (omega arith) in
      let n5 : j ≢ place (f + 4) k + 2 * step = off j (f + 6) k (place (f + 4) k + 2 * step) h (omega arith) q (omega arith) in
      simp get_or-set_other

  pub off-edge : (kind : Kind) (l : Limits) (f m : ℕ) → f + 8 ≤ lines → m ≤ n → (b : List ℕ) (j : ℕ) → Off j
      → get_or (edge kind l m (place (f + 4) 0) step next b) j 0 ≡ get_or b j 0
  unfolding edge turns
  off-edge kind l f zero p q b j h = refl
  off-edge kind l f (suc m) p q b j h =
      let t : place (f + 4) 0 + m * next ≡ place (f + 4) m = omega arith in
      rw t (off-crossed kind l f m p q (turns m (edge_turn kind l (place (f + 4) 0) step next) b) j h ∙ off-edge kind l f m p (omega arith) b j h)

  -- a place is the window's or none of it
  pub record At (j : ℕ) : Type 0 where
    pub d : ℕ
    pub k : ℕ
    pub low : d < lines
    pub lane : k < n
    pub is : j ≡ place d k

  in-line : (j d m : ℕ) → d < lines → m ≤ n → At j ⊎ ((k : ℕ) → k < m → j ≢ place d k)
  in-line j d zero p q = inr (λ k h. absurd (not-suc-le-zero h))
  in-line j d (suc m) p q =
      ⊎_elim
      (λ (e : j ≡ place d m). inl (record { d = d; k = m; low = p; lane = q; is = e }))
      (λ (u : j ≢ place d m).
      ⊎_elim
      (λ (x : At j). inl x)
      (λ (h : (k : ℕ) → k < m → j ≢ place d k).
      inr
      (λ k s.
      ⊎_elim
      (λ (e : k ≡ m). subst (λ (i : ℕ). j ≢ place d i) (sym e) u)
      (λ (r : k < m). h k r)
      (eq-or-lt_of_le (le_of_suc-le-suc s))))
      (in-line j d m p (omega arith)))
      (same_or_not j (place d m))

  in_lines : (j c : ℕ) → c ≤ lines → At j ⊎ ((d k : ℕ) → d < c → k < n → j ≢ place d k)
  in_lines j zero p = inr (λ d k h. absurd (not-suc-le-zero h))
  in_lines j (suc c) p =
      ⊎_elim
      (λ (x : At j). inl x)
      (λ (u : (k : ℕ) → k < n → j ≢ place c k).
      ⊎_elim
      (λ (x : At j). inl x)
      (λ (h : (d k : ℕ) → d < c → k < n → j ≢ place d k).
      inr
      (λ d k s q.
      ⊎_elim
      (λ (e : d ≡ c). subst (λ (i : ℕ). j ≢ place i k) (sym e) (u k q))
      (λ (r : d < c). h d k r q)
      (eq-or-lt_of_le (le_of_suc-le-suc s))))
      (in_lines j c (omega arith)))
      (in-line j c n p (le_refl n))

  pub at-or-off : (j : ℕ) → At j ⊎ Off j
  at-or-off j = in_lines j lines (le_refl lines)

  -- what is put back from a window that agrees with the plane as it is to be: for one edge or several
  pub window-back : (w b b' c : List ℕ) → Agree w b' → length c ≡ length b'
      → ((d k : ℕ) → d < lines → k < n → get_or c (place d k) 0 ≡ get_or w (seat d k) 0)
      → ((j : ℕ) → Off j → get_or c j 0 ≡ get_or b j 0)
      → ((j : ℕ) → Off j → get_or b' j 0 ≡ get_or b j 0)
      → c ≡ b'
  window-back w b b' c e size ins out keep =
      ext_get_or 0 c b' size
      (λ j p.
      ⊎_elim
      (λ (x : At j).
      ap (λ (i : ℕ). get_or c i 0) x.is
      ∙ ins x.d x.k x.low x.lane
      ∙ e.here x.d x.k x.low x.lane
      ∙ sym (ap (λ (i : ℕ). get_or b' i 0) x.is))
      (λ (h : Off j). out j h ∙ sym (keep j h))
      (at-or-off j))

  -- an edge of all sixteen lanes, of which n from a on are the plane's: U in lanes 0 to 7, V in lanes 8 to 15
  module _ (z : Distinct) (kind : Kind) (l : Limits) (f : ℕ) (high : f + 8 ≤ lines) where
    skip_at : (w : List ℕ) (t d k : ℕ) → t < 16 → k < n → t ≢ a + k → get_or (crossed kind l 16 (16 * (f + 4) + t) w) (seat d k) 0 ≡ get_or w (seat d k) 0
    unfolding crossed laid
    skip_at w t d k p q u =
        let fit = z.fit in
        let n0 : seat d k ≢ 16 * (f + 4) + t - 3 * 16 = λ (e : seat d k ≡ 16 * (f + 4) + t - 3 * 16). u (omega arith) in
        let n1 : seat d k ≢ 16 * (f + 4) + t - 2 * 16 = λ (e : seat d k ≡ 16 * (f + 4) + t - 2 * 16). u (omega arith) in
        let n2 : seat d k ≢ 16 * (f + 4) + t - 16 = λ (e : seat d k ≡ 16 * (f + 4) + t - 16). u (omega arith) in
        let n3 : seat d k ≢ 16 * (f + 4) + t = λ (e : seat d k ≡ 16 * (f + 4) + t). u (omega arith) in
        let n4 : seat d k ≢ 16 * (f + 4) + t + 16 = λ (e : seat d k ≡ 16 * (f + 4) + t + 16). u (omega arith) in
        let n5 : seat d k ≢ 16 * (f + 4) + t + 2 * 16 = λ (e : seat d k ≡ 16 * (f + 4) + t + 2 * 16). u (omega arith) in
        simp get_or-set_other

    agree-skip : (w b : List ℕ) → Agree w b → (t : ℕ) → t < 16 → ((k : ℕ) → k < n → t ≢ a + k) → Agree (crossed kind l 16 (16 * (f + 4) + t) w) b
    agree-skip w b h t p u =
        record {
          here = λ d k x y. skip_at w t d k p y (u k y) ∙ h.here d k x y;
          wide = λ d k x y. subst (λ (r : ℕ). seat d k < r) (sym (length-crossed kind l 16 (16 * (f + 4) + t) w)) (h.wide d k x y);
          deep = h.deep;
        }

    none : (w b : List ℕ) → Agree w b → Agree (edge kind l 0 (16 * (f + 4)) 16 1 w) (edge kind l 0 (place (f + 4) 0) step next b)
    unfolding edge turns
    none w b h = h

    skipped : (m : ℕ) → suc m ≤ 16 → (w b : List ℕ) (r : ℕ) → ((k : ℕ) → k < n → m ≢ a + k)
        → Agree (edge kind l m (16 * (f + 4)) 16 1 w) (edge kind l r (place (f + 4) 0) step next b)
        → Agree (edge kind l (suc m) (16 * (f + 4)) 16 1 w) (edge kind l r (place (f + 4) 0) step next b)
    unfolding edge turns
    skipped m q w b r u h = let s : 16 * (f + 4) + m * 1 ≡ 16 * (f + 4) + m = omega arith in rw s (agree-skip _ _ h m q u)

    crossed-too : (k : ℕ) → k < n → (w b : List ℕ)
        → Agree (edge kind l (a + k) (16 * (f + 4)) 16 1 w) (edge kind l k (place (f + 4) 0) step next b)
        → Agree (edge kind l (suc (a + k)) (16 * (f + 4)) 16 1 w) (edge kind l (suc k) (place (f + 4) 0) step next b)
    unfolding edge turns
    crossed-too k q w b h =
        let s : 16 * (f + 4) + (a + k) * 1 ≡ seat (f + 4) k = omega arith in
        let t : place (f + 4) 0 + k * next ≡ place (f + 4) k = omega arith in
        rw (s, t) (agree-crossed z kind l f k high q _ _ h)

    more : (m : ℕ) → suc m ≤ 16 → (w b : List ℕ)
        → Agree (edge kind l m (16 * (f + 4)) 16 1 w) (edge kind l (min n (m - a)) (place (f + 4) 0) step next b)
        → Agree (edge kind l (suc m) (16 * (f + 4)) 16 1 w) (edge kind l (min n (suc m - a)) (place (f + 4) 0) step next b)
    more m q w b h =
        ⊎_elim
        (λ (x : m < a).
        let e : min n (suc m - a) ≡ min n (m - a) = omega arith in
        rw e (skipped m q w b (min n (m - a)) (λ k y (r : m ≡ a + k). omega arith) h))
        (λ (x : a ≤ m).
        ⊎_elim
        (λ (y : m < a + n).
        let e : min n (suc m - a) ≡ suc (m - a) = omega arith in
        let g : min n (m - a) ≡ m - a = omega arith in
        let i : a + (m - a) ≡ m = omega arith in
        rw e
        (subst
        (λ (j : ℕ). Agree (edge kind l (suc j) (16 * (f + 4)) 16 1 w) (edge kind l (suc (m - a)) (place (f + 4) 0) step next b))
        i
        (crossed-too (m - a) (omega arith) w b
        (subst
        (λ (j : ℕ). Agree (edge kind l j (16 * (f + 4)) 16 1 w) (edge kind l (m - a) (place (f + 4) 0) step next b))
        (sym i)
        (subst (λ (j : ℕ). Agree (edge kind l m (16 * (f + 4)) 16 1 w) (edge kind l j (place (f + 4) 0) step next b)) g h)))))
        (λ (y : a + n ≤ m).
        let e : min n (suc m - a) ≡ min n (m - a) = omega arith in
        rw e (skipped m q w b (min n (m - a)) (λ k v (r : m ≡ a + k). omega arith) h))
        (lt-or-ge m (a + n)))
        (lt-or-ge m a)

    pub agree-lanes : (m : ℕ) → m ≤ 16 → (w b : List ℕ) → Agree w b
        → Agree (edge kind l m (16 * (f + 4)) 16 1 w) (edge kind l (min n (m - a)) (place (f + 4) 0) step next b)
    agree-lanes zero q w b h = let e : min n (0 - a) ≡ 0 = omega arith in rw e (none w b h)
    agree-lanes (suc m) q w b h = more m q w b (agree-lanes m (omega arith) w b h)

    pub agree-all : (t q : ℕ) → t ≡ 16 * (f + 4) → q ≡ place (f + 4) 0 → (w b : List ℕ) → Agree w b
        → Agree (edge kind l 16 t 16 1 w) (edge kind l n q step next b)
    agree-all t q x y w b h =
        let fit = z.fit in
        let e : min n (16 - a) ≡ n = omega arith in
        rw (x, y)
        (subst (λ (m : ℕ). Agree (edge kind l 16 (16 * (f + 4)) 16 1 w) (edge kind l m (place (f + 4) 0) step next b)) e (agree-lanes 16 (le_refl 16) w b h))

    pub off-all : (q : ℕ) → q ≡ place (f + 4) 0 → (b : List ℕ) (j : ℕ) → Off j → get_or (edge kind l n q step next b) j 0 ≡ get_or b j 0
    off-all q y b j u = rw y (off-edge kind l f n high (le_refl n) b j u)
