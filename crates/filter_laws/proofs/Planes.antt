-- No pixel of a plane beyond the reach of its filtered edges changes, and the plane keeps its length. Assumes nothing.
--     plane-keeps      j is beyond every edge that is filtered: it keeps its value
--     inside-keeps     where no inner edge is filtered: a pixel at least `reach` from each side of its macroblock keeps its value
--     simple-chroma    the simple filter leaves U and V as they are
--     plane-ext        only the levels of the picture's macroblocks count
use Prim.Native.Nat.{ℕ, zero, suc, ◌+◌, ◌-◌, ◌*◌, ◌/◌, ◌<◌, ◌≤◌}
use native.Mathlib.Nat.{le_refl, mul-le-mul, mul-le-mul_right}
use native.Mathlib.Decide.{dec_lt}
use native.Mathlib.Omega.{arith}
use mathlib.Core.Path.{◌≡◌, refl, sym, ap, ◌∙◌}
use mathlib.Core.Bool.{Bool, true, false}
use mathlib.Core.List.{List}
use lib.Dec.{ltb, eqb}
use lib.ListN.{get_or}
use borrow.Author.Tests.{ltb-true}
use Rattle.lists.specs.Lists.{turns, pick}
use Rattle.lists.proofs.Nested.{turns-ext}
use Rattle.macroblock.specs.declared.filter.Kind.{Kind}
use Rattle.macroblock.specs.declared.filter.Rule.{Rule}
use Rattle.rfc6386.specs.LoopFilter.{
  reach,
  outer_kind,
  inner_kind,
  rule_of,
  own_edge,
  inner_turn,
  inner_edges,
  side,
  sides,
  corner,
  mb_of,
  mb_at,
  luma_at,
  chroma_at,
  luma_row,
  chroma_row,
  luma_of,
  chroma_of,
}
use Rattle.rfc6386.proofs.FilterReach.{Beyond, edge-keeps}

turns_keeps : (n : ℕ) (f : ℕ → List ℕ → List ℕ) (b : List ℕ) (j : ℕ) → ((k : ℕ) → k < n → (m : List ℕ) → get_or (f k m) j 0 ≡ get_or m j 0)
    → get_or (turns n f b) j 0 ≡ get_or b j 0
unfolding turns
turns_keeps zero f b j h = refl
turns_keeps (suc n) f b j h = h n (le_refl (suc n)) (turns n f b) ∙ turns_keeps n f b j (λ k p m. h k (omega arith) m)

-- j is beyond every place of an edge
abbrev pub Clear : Kind → ℕ → ℕ → ℕ → ℕ → ℕ → Type 0
Clear kind n at step next j = (k : ℕ) → k < n → Beyond (reach kind) step (at + k * next) j

-- j is beyond the edges of one direction of a macroblock
pub record Away (simple : Bool) (n at step next : ℕ) (there inner : Bool) (j : ℕ) : Type 0 where
  pub own : there ≡ true → (4 * step ≤ at) × Clear (outer_kind simple) n at step next j
  pub ins : inner ≡ true → (i : ℕ) → i < n / 4 - 1 → Clear (inner_kind simple) n (at + 4 * (i + 1) * step) step next j

own-keeps : (rule : Rule) (n at step next : ℕ) (there inner : Bool) (j : ℕ) → Away rule.simple n at step next there inner j
    → (b : List ℕ) → get_or (own_edge rule n at step next there b) j 0 ≡ get_or b j 0
unfolding own_edge
own-keeps rule n at step next true inner j a b =
    edge-keeps (outer_kind rule.simple) rule.outer n at step next b j (a.own refl).0 (a.own refl).1
own-keeps rule n at step next false inner j a b = refl

low : (at step i : ℕ) → 4 * step ≤ at + 4 * (i + 1) * step
low at step i = let f : 4 * step ≤ 4 * (i + 1) * step = mul-le-mul_right step (omega arith) in omega arith

inner-keeps : (rule : Rule) (n at step next : ℕ) (there inner : Bool) (j : ℕ) → Away rule.simple n at step next there inner j
    → (b : List ℕ) → get_or (inner_edges rule n at step next inner b) j 0 ≡ get_or b j 0
unfolding inner_edges
inner-keeps rule n at step next there true j a b =
    turns_keeps (n / 4 - 1) (inner_turn (inner_kind rule.simple) rule.inner n at step next) b j
    (λ i p m.
    edge-keeps (inner_kind rule.simple) rule.inner n (at + 4 * (i + 1) * step) step next m j (low at step i) (a.ins refl i p))
inner-keeps rule n at step next there false j a b = refl

side-keeps : (rule : Rule) (n at step next : ℕ) (there inner : Bool) (j : ℕ) → Away rule.simple n at step next there inner j
    → (b : List ℕ) → get_or (side rule n at step next there inner b) j 0 ≡ get_or b j 0
unfolding side
side-keeps rule n at step next there inner j a b =
    inner-keeps rule n at step next there inner j a (own_edge rule n at step next there b)
    ∙ own-keeps rule n at step next there inner j a b

sides-keep : (rule : Rule) (n stride at : ℕ) (left top inner : Bool) (j : ℕ) → Away rule.simple n at 1 stride left inner j
    → Away rule.simple n at stride 1 top inner j → (b : List ℕ) → get_or (sides rule n stride at left top inner b) j 0 ≡ get_or b j 0
unfolding sides
sides-keep rule n stride at left top inner j u v b =
    side-keeps rule n at stride 1 top inner j v (side rule n at 1 stride left inner b) ∙ side-keeps rule n at 1 stride left inner j u b

-- j is beyond the edges of macroblock c of row r
pub record AwayAt (simple inner : Bool) (n cols r c j : ℕ) : Type 0 where
  pub upright : Away simple n (corner n cols r c) 1 (n * cols) (ltb 0 c) inner j
  pub level : Away simple n (corner n cols r c) (n * cols) 1 (ltb 0 r) inner j

mb-keeps : (simple : Bool) (level sharp : ℕ) (inner : Bool) (n cols r c j : ℕ) (t : Bool) → eqb level 0 ≡ t → (t ≡ false → AwayAt simple inner n cols r c j)
    → (b : List ℕ) → get_or (mb_of simple level sharp inner n cols r c b) j 0 ≡ get_or b j 0
unfolding mb_of rule_of
mb-keeps simple level sharp inner n cols r c j true e h b = rw e
mb-keeps simple level sharp inner n cols r c j false e h b =
    rw e (sides-keep (rule_of simple level sharp) n (n * cols) (corner n cols r c) (ltb 0 c) (ltb 0 r) inner j (h refl).upright (h refl).level b)

pick-keeps : (t : Bool) (a b : List ℕ) (j : ℕ) → get_or a j 0 ≡ get_or b j 0 → get_or (pick t b a) j 0 ≡ get_or b j 0
pick-keeps true a b j e = refl
pick-keeps false a b j e = e

module _ (simple : Bool) (sharp : ℕ) (level : ℕ → ℕ) (inner : List ℕ) (cols rows : ℕ) where
  -- j is beyond the edges of every macroblock whose level is not 0
  abbrev pub AwayFromAll : ℕ → ℕ → Type 0
  AwayFromAll n j =
      (r c : ℕ) → r < rows → c < cols → eqb (level (r * cols + c)) 0 ≡ false → AwayAt simple (ltb 0 (get_or inner (r * cols + c) 0)) n cols r c j

  at-keeps : (n j : ℕ) → AwayFromAll n j → (r c : ℕ) → r < rows → c < cols → (b : List ℕ) → get_or (mb_at simple sharp level inner cols n r c b) j 0 ≡ get_or b j 0
  at-keeps n j h r c p q b =
      mb-keeps simple (level (r * cols + c)) sharp (ltb 0 (get_or inner (r * cols + c) 0)) n cols r c j (eqb (level (r * cols + c)) 0) refl (λ e. h r c p q e) b

  pub luma-keeps : (j : ℕ) → AwayFromAll 16 j → (b : List ℕ) → get_or (luma_of simple sharp level inner cols rows b) j 0 ≡ get_or b j 0
  unfolding luma_of luma_row
  luma-keeps j h b =
      turns_keeps rows (luma_row simple sharp level inner cols) b j
      (λ r p m. turns_keeps cols (luma_at simple sharp level inner cols r) m j (λ c q l. at-keeps 16 j h r c p q l))

  pub chroma-keeps : (j : ℕ) → AwayFromAll 8 j → (b : List ℕ) → get_or (chroma_of simple sharp level inner cols rows b) j 0 ≡ get_or b j 0
  unfolding chroma_of chroma_row
  chroma-keeps j h b =
      turns_keeps rows (chroma_row simple sharp level inner cols) b j
      (λ r p m.
      turns_keeps cols (chroma_at simple sharp level inner cols r) m j
      (λ c q l. pick-keeps simple (mb_at simple sharp level inner cols 8 r c l) l j (at-keeps 8 j h r c p q l)))

-- the simple filter leaves U and V as they are
turns-none : (n : ℕ) (f : ℕ → List ℕ → List ℕ) (b : List ℕ) → ((k : ℕ) (m : List ℕ) → f k m ≡ m) → turns n f b ≡ b
unfolding turns
turns-none zero f b h = refl
turns-none (suc n) f b h = h n (turns n f b) ∙ turns-none n f b h

pub simple-chroma : (sharp : ℕ) (level : ℕ → ℕ) (inner : List ℕ) (cols rows : ℕ) (b : List ℕ) → chroma_of true sharp level inner cols rows b ≡ b
unfolding chroma_of chroma_row
simple-chroma sharp level inner cols rows b =
    turns-none rows (chroma_row true sharp level inner cols) b (λ r m. turns-none cols (chroma_at true sharp level inner cols r) m (λ c l. refl))

-- only the levels of the picture's macroblocks count
module _ (simple : Bool) (sharp : ℕ) (f g : ℕ → ℕ) (inner : List ℕ) (cols rows : ℕ) (same : (k : ℕ) → k < cols * rows → f k ≡ g k) where
  byte : (r c : ℕ) → r < rows → c < cols → r * cols + c < cols * rows
  byte r c p q = let h : (r + 1) * cols ≤ rows * cols = mul-le-mul_right cols (omega arith) in omega arith

  pub luma-ext : (b : List ℕ) → luma_of simple sharp f inner cols rows b ≡ luma_of simple sharp g inner cols rows b
  unfolding luma_of luma_row
  luma-ext b =
      turns-ext rows (luma_row simple sharp f inner cols) (luma_row simple sharp g inner cols) b
      (λ r m p. turns-ext cols (luma_at simple sharp f inner cols r) (luma_at simple sharp g inner cols r) m (λ c l q. rw (same (r * cols + c) (byte r c p q))))

  pub chroma-ext : (b : List ℕ) → chroma_of simple sharp f inner cols rows b ≡ chroma_of simple sharp g inner cols rows b
  unfolding chroma_of chroma_row
  chroma-ext b =
      turns-ext rows (chroma_row simple sharp f inner cols) (chroma_row simple sharp g inner cols) b
      (λ r m p. turns-ext cols (chroma_at simple sharp f inner cols r) (chroma_at simple sharp g inner cols r) m (λ c l q. rw (same (r * cols + c) (byte r c p q))))

-- ---- in rows and columns
apart : (S a x b y : ℕ) → x < S → a < b → a * S + x ≡ b * S + y → ⊥
apart S a x b y p l e = let h : (a + 1) * S ≤ b * S = mul-le-mul_right S (omega arith) in omega arith

unique : (S a x b y : ℕ) → x < S → y < S → a * S + x ≡ b * S + y → x ≡ y
unique S a x b y p q e = by (dec_lt a b) (dec_lt b a)
  where
    by : Dec (a < b) → Dec (b < a) → x ≡ y
    by (yes l) m = absurd (apart S a x b y p l e)
    by (no l) (yes m) = absurd (apart S b y a x q m (sym e))
    by (no l) (no m) = let f : a ≡ b = omega arith in let g : a * S ≡ b * S = ap (λ (t : ℕ). t * S) f in omega arith

unique-row : (S a x b y : ℕ) → x < S → y < S → a * S + x ≡ b * S + y → a ≡ b
unique-row S a x b y p q e = by (dec_lt a b) (dec_lt b a)
  where
    by : Dec (a < b) → Dec (b < a) → a ≡ b
    by (yes l) m = absurd (apart S a x b y p l e)
    by (no l) (yes m) = absurd (apart S b y a x q m (sym e))
    by (no l) (no m) = omega arith

in_row : (r rows n y : ℕ) → r < rows → y < n → r * n + y < n * rows
in_row r rows n y p q = let h : (r + 1) * n ≤ rows * n = mul-le-mul_right n (omega arith) in omega arith

in-down : (S r c n : ℕ) → 4 ≤ n → 0 < r → 4 * S ≤ r * n * S + c * n
in-down S r c n f p =
    let h : 1 * 4 ≤ r * n = mul-le-mul p f in
    let k : 4 * S ≤ r * n * S = mul-le-mul_right S (omega arith) in
    omega arith

in_right : (S r c n : ℕ) → 4 ≤ n → 0 < c → 4 * 1 ≤ r * n * S + c * n
in_right S r c n f p = let h : 1 * 4 ≤ c * n = mul-le-mul p f in omega arith

-- the pixel of row y and column x of macroblock C of row R, at least t from each side
module _ (t n cols R C y x S : ℕ) (e : S ≡ n * cols) (q : C < cols) (x0 : t ≤ x) (x1 : x + t < n) (y0 : t ≤ y) (y1 : y + t < n) where
  upright : (r c k : ℕ) → c < cols → k < n → Beyond t 1 (r * n * S + c * n + k * S) ((R * n + y) * S + (C * n + x))
  upright r c k p h d f g =
      let a = in_row C cols n (x + t) q x1 in
      let b = in_row c cols n d p (omega arith) in
      let u = unique S (R * n + y) (C * n + (x + t)) (r * n + k) (c * n + d) (omega arith) (omega arith) (omega arith) in
      let v = unique n C (x + t) c d x1 (omega arith) u in
      omega arith

  level : (r c k : ℕ) → c < cols → k < n → Beyond t S (r * n * S + c * n + k * 1) ((R * n + y) * S + (C * n + x))
  level r c k p h d f g =
      let a = in_row C cols n x q (omega arith) in
      let b = in_row c cols n k p h in
      let u = unique-row S (R * n + (y + t)) (C * n + x) (r * n + d) (c * n + k) (omega arith) (omega arith) (omega arith) in
      let v = unique n R (y + t) r d y1 (omega arith) u in
      omega arith

pub inside-away : (simple : Bool) (sharp : ℕ) (f : ℕ → ℕ) (n cols rows R C y x : ℕ) (inner : List ℕ) → 4 ≤ n → ((m : ℕ) → get_or inner m 0 ≡ 0) → C < cols
    → reach (outer_kind simple) ≤ x → x + reach (outer_kind simple) < n → reach (outer_kind simple) ≤ y → y + reach (outer_kind simple) < n
    → AwayFromAll simple sharp f inner cols rows n ((R * n + y) * (n * cols) + (C * n + x))
inside-away simple sharp f n cols rows R C y x inner four z q x0 x1 y0 y1 r c u v w =
    record {
      upright =
          record {
            own = λ t. (in_right (n * cols) r c n four (ltb-true 0 c t), λ k h. upright _ n cols R C y x (n * cols) refl q x0 x1 y0 y1 r c k v h);
            ins = λ t. absurd (none (get_or inner (r * cols + c) 0) (z (r * cols + c)) t);
          };
      level =
          record {
            own = λ t. (in-down (n * cols) r c n four (ltb-true 0 r t), λ k h. level _ n cols R C y x (n * cols) refl q x0 x1 y0 y1 r c k v h);
            ins = λ t. absurd (none (get_or inner (r * cols + c) 0) (z (r * cols + c)) t);
          };
    }
  where
    none : (m : ℕ) → m ≡ 0 → ltb 0 m ≡ true → ⊥
    none m z t = omega (arith, ltb-true 0 m t)
