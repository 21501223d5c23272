-- RFC 6386, 14.4: the inverse DCT of one 4x4 block, and the exact transform T beside it. Columns first, then rows, then (x + 4) >> 3.
-- There is ONE text for the two passes, `pass`; a `Way` says what a plain entry, S, K and each sum count as in it.
use Rattle.std.specs.Prelude.{ℕ, zero, suc, ◌+◌, ◌*◌, ◌/◌, ◌%◌, List, ℤ, pos, ◌+ℤ◌, ◌-ℤ◌, ◌*ℤ◌, get_or, replicate}
use Rattle.std.specs.Int.Signed.{shr_z}
use Rattle.whole.specs.Whole.{wrap, narrow}
use Rattle.lists.specs.Lists.{rows}

pub record Way : Type 0 where
  pub plain : ℤ → ℤ
  pub S : ℤ → ℤ
  pub K : ℤ → ℤ
  pub keep : ℤ → ℤ

-- a = i0 + i8, b = i0 - i8, c = S i4 - K i12, d = K i4 + S i12; result k of a pass: a + d, b + c, b - c, a - d
unfoldable pub pass : Way → ℕ → ℤ → ℤ → ℤ → ℤ → ℤ
pass w zero i0 i4 i8 i12 = w.keep (w.keep (w.plain i0 +ℤ w.plain i8) +ℤ w.keep (w.K i4 +ℤ w.S i12))
pass w (suc zero) i0 i4 i8 i12 = w.keep (w.keep (w.plain i0 -ℤ w.plain i8) +ℤ w.keep (w.S i4 -ℤ w.K i12))
pass w (suc (suc zero)) i0 i4 i8 i12 = w.keep (w.keep (w.plain i0 -ℤ w.plain i8) -ℤ w.keep (w.S i4 -ℤ w.K i12))
pass w (suc (suc (suc k))) i0 i4 i8 i12 = w.keep (w.keep (w.plain i0 +ℤ w.plain i8) -ℤ w.keep (w.K i4 +ℤ w.S i12))

-- the column pass on the block x, whose coefficient at row r and column c is x (4 r + c); then the row pass, with `mid` between them
unfoldable pub column : Way → (ℕ → ℤ) → ℕ → ℕ → ℤ
column w x r c = pass w r (x c) (x (4 + c)) (x (8 + c)) (x (12 + c))

unfoldable pub passes : Way → (ℤ → ℤ) → (ℕ → ℤ) → ℕ → ℕ → ℤ
passes w mid x r c = pass w c (mid (column w x r 0)) (mid (column w x r 1)) (mid (column w x r 2)) (mid (column w x r 3))

-- ---- as the Rust counts: 32 bits, each product and sum wrapped
-- sqrt 2 * sin (pi / 8) and sqrt 2 * cos (pi / 8), in 65536ths
unfoldable pub by_sin : ℤ → ℤ
by_sin x = shr_z (wrap (x *ℤ pos 35468)) 65536

unfoldable pub by_cos : ℤ → ℤ
by_cos x = wrap (x +ℤ shr_z (wrap (x *ℤ pos 20091)) 65536)

abbrev pub wrapped : Way
wrapped = record { plain = λ x. x; S = by_sin; K = by_cos; keep = wrap }

-- the closing rounding, kept in 16 bits
unfoldable pub rounded : ℤ → ℤ
rounded z = narrow (shr_z (wrap (z +ℤ pos 4)) 8)

-- the residue at row r and column c
unfoldable pub residue : (ℕ → ℤ) → ℕ → ℕ → ℤ
residue x r c = rounded (passes wrapped (λ z. z) x r c)

abbrev pub entry : List ℤ → ℕ → ℤ
entry l k = get_or l k (pos 0)

unfoldable pub idct : List ℤ → List ℤ
idct l = rows 4 4 (residue (entry l))

-- a block whose only coefficient that is not 0 is its first
unfoldable pub idct_dc : ℤ → List ℤ
idct_dc dc = replicate 16 (shr_z (dc +ℤ pos 4) 8)

-- four blocks, one after another, transformed side by side: each of the four rows has 16 residues, those of block b from column 4 b on
unfoldable pub idct_four : List ℤ → List ℤ
idct_four l = rows 16 4 (λ r c. residue (λ k. entry l (16 * (c / 4) + k)) r (c % 4))

-- ---- as the RFC's listing counts: the same, with 16 bits kept between the passes
unfoldable pub residue_listing : (ℕ → ℤ) → ℕ → ℕ → ℤ
residue_listing x r c = rounded (passes wrapped narrow x r c)

-- ---- in whole numbers without bound: nothing wraps or narrows
abbrev pub unbounded : Way
unbounded =
    record {
      plain = λ x. x;
      S = λ x. shr_z (x *ℤ pos 35468) 65536;
      K = λ x. x +ℤ shr_z (x *ℤ pos 20091) 65536;
      keep = λ x. x;
    }

unfoldable pub residue_plain : (ℕ → ℤ) → ℕ → ℕ → ℤ
residue_plain x r c = shr_z (passes unbounded (λ z. z) x r c +ℤ pos 4) 8

-- ---- T: a plain entry counts 65536 times, S 35468 times and K 85627 times, with no shift, wrap or closing rounding: 2^35 times the exact residue
abbrev pub exact : Way
exact =
    record {
      plain = λ x. x *ℤ pos 65536;
      S = λ x. x *ℤ pos 35468;
      K = λ x. x *ℤ pos 85627;
      keep = λ x. x;
    }

unfoldable pub T : (ℕ → ℤ) → ℕ → ℕ → ℤ
T x r c = passes exact (λ z. z) x r c
