-- RFC 6386, section 13: the tokens of a macroblock's coefficients.
--     later_tree   coeff_tree of 13.2 from node 1 on; node 0, the end of the block, is asked apart, since it is not after a zero
--     treed       the size that a walk of a tree gives, with the extra bits (`DCTextra`) of its leaf
--     positions   a block's coefficients from one position on (13.3)
--     one_block    a block with its contexts; all_blocks: a macroblock
-- Blocks go by number: Y2 is 0, Y 1 to 16, U 17 to 20, V 21 to 24, and the coefficients of block n stand from 16 n on.
use Rattle.std.specs.Prelude.{ℕ, zero, suc, ◌+◌, ◌-◌, ◌*◌, List, [], ◌∷◌, Bool, true, false, ◌||◌, eqb, ltb, ℤ, pos, neg_ℤ, get_or, set}
use Rattle.lists.specs.Lists.{pick}
use Rattle.bool_decoder.specs.BoolCoder.{Reads, done, ask, ◌then◌, bit_of}

-- `v += v + read_bool(p)` for each p of the list
unfoldable pub extras : List ℕ → ℕ → Reads ℕ
extras [] v = done v
extras (p ∷ ps) v = ask p (λ b. extras ps (v + v + bit_of b))

-- a leaf is a base value and the probabilities of its extra bits; node n reads a bool at the row's probability n
pub data Tree : Type 0 where
  value : ℕ → List ℕ → Tree
  node : ℕ → Tree → Tree → Tree

unfoldable pub treed : List ℕ → ℕ → Tree → Reads ℕ
treed probs row (value base ps) = extras ps 0 then (λ v. done (base + v))
treed probs row (node n a b) = ask (get_or probs (row + n) 0) (λ bit. pick bit (treed probs row b) (treed probs row a))

abbrev pub three_four : Tree
three_four = node 5 (value 3 []) (value 4 [])

abbrev pub small_tree : Tree
small_tree = node 4 (value 2 []) three_four

abbrev pub cat_one_two : Tree
cat_one_two = node 7 (value 5 (159 ∷ [])) (value 7 (165 ∷ 145 ∷ []))

abbrev pub cat_three_four : Tree
cat_three_four = node 9 (value 11 (173 ∷ 148 ∷ 140 ∷ [])) (value 19 (176 ∷ 155 ∷ 140 ∷ 135 ∷ []))

abbrev pub cat_five_six : Tree
cat_five_six =
    node 10 (value 35 (180 ∷ 157 ∷ 141 ∷ 134 ∷ 130 ∷ []))
    (value 67 (254 ∷ 254 ∷ 243 ∷ 230 ∷ 196 ∷ 177 ∷ 153 ∷ 140 ∷ 133 ∷ 130 ∷ 129 ∷ []))

abbrev pub cat_upper : Tree
cat_upper = node 8 cat_three_four cat_five_six

abbrev pub cat_tree : Tree
cat_tree = node 6 cat_one_two cat_upper

abbrev pub large_tree : Tree
large_tree = node 3 small_tree cat_tree

abbrev pub nonzero_tree : Tree
nonzero_tree = node 2 (value 1 []) large_tree

abbrev pub later_tree : Tree
later_tree = node 1 (value 0 []) nonzero_tree

-- coeff_bands, zigzag
unfoldable pub bands : List ℕ
bands = 0 ∷ 1 ∷ 2 ∷ 3 ∷ 6 ∷ 4 ∷ 5 ∷ 6 ∷ 6 ∷ 6 ∷ 6 ∷ 6 ∷ 6 ∷ 6 ∷ 6 ∷ 7 ∷ []

unfoldable pub zigzags : List ℕ
zigzags = 0 ∷ 1 ∷ 4 ∷ 8 ∷ 5 ∷ 2 ∷ 3 ∷ 6 ∷ 9 ∷ 12 ∷ 13 ∷ 10 ∷ 7 ∷ 11 ∷ 14 ∷ 15 ∷ []

abbrev pub band_of : ℕ → ℕ
band_of i = get_or bands i 0

abbrev pub zigzag_of : ℕ → ℕ
zigzag_of i = get_or zigzags i 0

-- where the probabilities of a band and a class start, from those of their plane: eight bands of three classes of eleven
abbrev pub row_of : ℕ → ℕ → ℕ → ℕ
row_of base i class = base + 33 * band_of i + 11 * class

unfoldable pub signed_of : ℕ → Bool → ℤ
signed_of size minus = pick minus (neg_ℤ (pos size)) (pos size)

-- the class after a coefficient that is not 0
abbrev pub class_of : ℕ → ℕ
class_of size = pick (eqb size 1) 1 2

-- the coefficients so far, and whether the block counts as one that has some
pub record Drawn : Type 0 where
  pub out : List ℤ
  pub some : Bool

-- The rule of that: whether a zero before the block's end counts too. In the Rust it does not, in every decoder it does.
abbrev pub zeroed : Bool → Drawn → Drawn
zeroed zeros x = record { out = x.out; some = x.some || zeros }

abbrev pub stored : ℕ → ℕ → ℕ → Bool → Drawn → Drawn
stored at i size minus x = record { out = set x.out (at + zigzag_of i) (signed_of size minus); some = true }

-- the block's end is asked for but after a zero
unfoldable pub unless_ended : Bool → ℕ → Drawn → Reads Drawn → Reads Drawn
unless_ended true p x more = more
unless_ended false p x more = ask p (λ b. pick b more (done x))

-- k positions from i on. `base`: where the plane's probabilities start; `at`: where the block's coefficients do; `after`: whether
-- the coefficient before was a 0; `row`: where the probabilities of position i start
unfoldable pub positions : List ℕ → ℕ → ℕ → Bool → ℕ → Bool → ℕ → ℕ → Drawn → Reads Drawn
positions probs base at zeros zero after i row x = done x
positions probs base at zeros (suc k) after i row x =
    unless_ended after (get_or probs row 0) x
    (treed probs row later_tree then
    (λ size. pick (eqb size 0)
    (positions probs base at zeros k true (i + 1) (row_of base (i + 1) 0) (zeroed zeros x))
    (ask 128 (λ minus. positions probs base at zeros k false (i + 1) (row_of base (i + 1) (class_of size)) (stored at i size minus x)))))

-- left_context_index and above_context_index: of nine flags each way, 0 to 3 are Y's, 4 and 5 U's, 6 and 7 V's, 8 is Y2's
unfoldable pub above_slots : List ℕ
above_slots = 8 ∷ 0 ∷ 1 ∷ 2 ∷ 3 ∷ 0 ∷ 1 ∷ 2 ∷ 3 ∷ 0 ∷ 1 ∷ 2 ∷ 3 ∷ 0 ∷ 1 ∷ 2 ∷ 3 ∷ 4 ∷ 5 ∷ 4 ∷ 5 ∷ 6 ∷ 7 ∷ 6 ∷ 7 ∷ []

unfoldable pub left_slots : List ℕ
left_slots = 8 ∷ 0 ∷ 0 ∷ 0 ∷ 0 ∷ 1 ∷ 1 ∷ 1 ∷ 1 ∷ 2 ∷ 2 ∷ 2 ∷ 2 ∷ 3 ∷ 3 ∷ 3 ∷ 3 ∷ 4 ∷ 4 ∷ 5 ∷ 5 ∷ 6 ∷ 6 ∷ 7 ∷ 7 ∷ []

abbrev pub above_slot : ℕ → ℕ
above_slot n = get_or above_slots n 0

abbrev pub left_slot : ℕ → ℕ
left_slot n = get_or left_slots n 0

-- 0: Y after Y2, 1: Y2, 2: U and V, 3: Y without Y2
abbrev pub plane_of : Bool → ℕ → ℕ
plane_of y2 n = pick (eqb n 0) 1 (pick (ltb n 17) (pick y2 0 3) 2)

abbrev pub base_of : Bool → ℕ → ℕ
base_of y2 n = 264 * plane_of y2 n

-- where Y2 has a block's first coefficient, the block starts at its second
abbrev pub first_of : Bool → ℕ → ℕ
first_of y2 n = pick (eqb n 0) 0 (pick (ltb n 17) (bit_of y2) 0)

-- the contexts, and the coefficients
pub record Thread : Type 0 where
  pub above : List Bool
  pub left : List Bool
  pub out : List ℤ

-- how many of the two neighbours have coefficients
abbrev pub count_of : ℕ → Thread → ℕ
count_of n t = bit_of (get_or t.above (above_slot n) false) + bit_of (get_or t.left (left_slot n) false)

abbrev pub marked : ℕ → Thread → Drawn → Thread
marked n t x =
    record { above = set t.above (above_slot n) x.some; left = set t.left (left_slot n) x.some; out = x.out }

unfoldable pub one_block : List ℕ → Bool → Bool → ℕ → Thread → Reads Thread
one_block probs zeros y2 n t =
    positions probs (base_of y2 n) (16 * n) zeros (16 - first_of y2 n) false (first_of y2 n)
    (row_of (base_of y2 n) (first_of y2 n) (count_of n t)) (record { out = t.out; some = false }) then
    (λ x. done (marked n t x))

-- k blocks from n on
unfoldable pub blocks : List ℕ → Bool → Bool → ℕ → ℕ → Thread → Reads Thread
blocks probs zeros y2 zero n t = done t
blocks probs zeros y2 (suc k) n t = one_block probs zeros y2 n t then (λ u. blocks probs zeros y2 k (n + 1) u)

-- all 25, or but for Y2
abbrev pub all_blocks : List ℕ → Bool → Bool → Thread → Reads Thread
all_blocks probs zeros y2 t = blocks probs zeros y2 (25 - (1 - bit_of y2)) (1 - bit_of y2) t
