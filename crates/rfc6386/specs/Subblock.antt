-- RFC 6386, 12.3: prediction of a 4x4 sub-block, by row r and column c.
-- A0 .. A7 stand above it, L0 .. L3 to its left and P above left; E is the edge from L3 up to P and along to A3:
--
--        P=E4  A0=E5  A1=E6  A2=E7  A3=E8  A4  A5  A6  A7
--        L0=E3
--        L1=E2
--        L2=E1
--        L3=E0
use Rattle.std.specs.Prelude.{ℕ, zero, suc, ◌+◌, ◌-◌, ◌*◌, ◌/◌, ◌%◌, Bool, List, [], ◌∷◌, ltb, eqb, ℤ, pos, negsuc, get_or, take}
use Rattle.std.proofs.Math.IntN.{sub_ℕ}
use Rattle.lists.specs.Lists.{rows, pick}
use Rattle.macroblock.specs.declared.modes.IntraBmode.{IntraBmode}
use Rattle.macroblock.specs.declared.modes.IntraBmode.TheVariants as b
use Rattle.rfc6386.specs.Edges.{tm_pixel, sum_of}

-- (x + y + 1) >> 1
abbrev pub avg2 : ℕ → ℕ → ℕ
avg2 x y = (x + y + 1) / 2

-- (x + 2 y + z + 2) >> 2
abbrev pub avg3 : ℕ → ℕ → ℕ → ℕ
avg3 x y z = (x + 2 * y + z + 2) / 4

-- L3 L2 L1 L0 P A0 A1 A2 A3
abbrev pub edge_e : List ℕ → List ℕ → ℕ → List ℕ
edge_e a l p =
    get_or l 3 0 ∷ get_or l 2 0 ∷ get_or l 1 0 ∷ get_or l 0 0 ∷ p ∷ get_or a 0 0 ∷ get_or a 1 0 ∷ get_or a 2 0 ∷ get_or a 3 0 ∷ []

-- A0 .. A7 A7
abbrev pub edge_a : List ℕ → List ℕ
edge_a a = get_or a 0 0 ∷ get_or a 1 0 ∷ get_or a 2 0 ∷ get_or a 3 0 ∷ get_or a 4 0 ∷ get_or a 5 0 ∷ get_or a 6 0 ∷ get_or a 7 0 ∷ get_or a 7 0 ∷ []

-- P L0 .. L3 L3
abbrev pub edge_l : List ℕ → ℕ → List ℕ
edge_l l p = p ∷ get_or l 0 0 ∷ get_or l 1 0 ∷ get_or l 2 0 ∷ get_or l 3 0 ∷ get_or l 3 0 ∷ []

-- avg2 at i uses i and i + 1; avg3 at i uses i - 1, i and i + 1
abbrev pub avg2_at : List ℕ → ℕ → ℕ
avg2_at e i = avg2 (get_or e i 0) (get_or e (i + 1) 0)

abbrev pub avg3_at : List ℕ → ℕ → ℕ
avg3_at e i = avg3 (get_or e (i - 1) 0) (get_or e i 0) (get_or e (i + 1) 0)

abbrev pub even : ℕ → Bool
even z = eqb (z % 2) 0

unfoldable pub sub_dc : List ℕ → List ℕ → ℕ → ℕ → ℕ
sub_dc a l r c = (4 + sum_of (take 4 a) + sum_of l) / 8

-- with P before A0
unfoldable pub sub_ve : List ℕ → ℕ → ℕ → ℕ → ℕ
sub_ve a p r c = avg3_at (p ∷ a) (c + 1)

-- with P before L0 and L3 repeated after itself
unfoldable pub sub_he : List ℕ → ℕ → ℕ → ℕ → ℕ
sub_he l p r c = avg3_at (edge_l l p) (r + 1)

-- with A7 repeated after itself
unfoldable pub sub_ld : List ℕ → ℕ → ℕ → ℕ
sub_ld a r c = avg3_at (edge_a a) (r + c + 1)

unfoldable pub sub_rd : List ℕ → ℕ → ℕ → ℕ
sub_rd e r c = avg3_at e (4 - r + c)

-- by the diagonal z = 2 c - r, which is -3 or more
unfoldable pub vr_at : List ℕ → ℤ → ℕ
vr_at e (pos z) = pick (even z) (avg2_at e (4 + z / 2)) (avg3_at e (4 + (z + 1) / 2))
vr_at e (negsuc zero) = avg3_at e 4
vr_at e (negsuc (suc zero)) = avg3_at e 3
vr_at e (negsuc (suc (suc k))) = avg3_at e 2

unfoldable pub sub_vr : List ℕ → ℕ → ℕ → ℕ
sub_vr e r c = vr_at e (sub_ℕ (2 * c) r)

-- row 0 avg2 at A[c]; row 1 avg3 at A[c+1]; row 2 avg2 at A[c+1], but (2,3) avg3 at A5; row 3 avg3 at A[c+2], but (3,3) avg3 at A6
unfoldable pub sub_vl : List ℕ → ℕ → ℕ → ℕ
sub_vl a zero c = avg2_at a c
sub_vl a (suc zero) c = avg3_at a (c + 1)
sub_vl a (suc (suc zero)) c = pick (eqb c 3) (avg3_at a 5) (avg2_at a (c + 1))
sub_vl a (suc (suc (suc r))) c = pick (eqb c 3) (avg3_at a 6) (avg3_at a (c + 2))

-- by the diagonal z = 2 r - c, which is -3 or more
unfoldable pub hd_at : List ℕ → ℤ → ℕ
hd_at e (pos z) = pick (even z) (avg2_at e (3 - z / 2)) (avg3_at e ((7 - z) / 2))
hd_at e (negsuc zero) = avg3_at e 4
hd_at e (negsuc (suc zero)) = avg3_at e 5
hd_at e (negsuc (suc (suc k))) = avg3_at e 6

unfoldable pub sub_hd : List ℕ → ℕ → ℕ → ℕ
sub_hd e r c = hd_at e (sub_ℕ (2 * r) c)

-- by z = c + 2 r
unfoldable pub hu_at : List ℕ → ℕ → ℕ
hu_at l z =
    pick (ltb z 5) (pick (even z) (avg2_at l (z / 2)) (avg3_at l ((z + 1) / 2)))
    (pick (eqb z 5) (avg3 (get_or l 2 0) (get_or l 3 0) (get_or l 3 0)) (get_or l 3 0))

unfoldable pub sub_hu : List ℕ → ℕ → ℕ → ℕ
sub_hu l r c = hu_at l (c + 2 * r)

-- the pixel of a mode at row r and column c
unfoldable pub sub_pixel : IntraBmode → List ℕ → List ℕ → ℕ → ℕ → ℕ → ℕ
sub_pixel b.Dc a l p = sub_dc a l
sub_pixel b.Tm a l p = tm_pixel a l p
sub_pixel b.Ve a l p = sub_ve a p
sub_pixel b.He a l p = sub_he l p
sub_pixel b.Ld a l p = sub_ld a
sub_pixel b.Rd a l p = sub_rd (edge_e a l p)
sub_pixel b.Vr a l p = sub_vr (edge_e a l p)
sub_pixel b.Vl a l p = sub_vl a
sub_pixel b.Hd a l p = sub_hd (edge_e a l p)
sub_pixel b.Hu a l p = sub_hu l

unfoldable pub predict_b : IntraBmode → List ℕ → List ℕ → ℕ → List ℕ
predict_b mode a l p = rows 4 4 (sub_pixel mode a l p)
