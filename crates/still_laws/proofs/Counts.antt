-- At most 384 sums of a macroblock are counted, and no count of a still passes 64 bits. Assumes nothing.
use Prim.Native.Nat.{ℕ, ◌*◌, ◌≤◌}
use mathlib.Core.Bool.{Bool, true, false}
use mathlib.Core.Path.{◌≡◌, refl}
use mathlib.Core.List.{List}
use native.Mathlib.Nat.{le_trans, mul-le-mul_right}
use native.Mathlib.Omega.{arith}
use lib.Dec.{eqb}
use lib.IntN.{ℤ}
use lib.ListN.{length, drop}
use Rattle.lists.specs.Lists.{pick}
use Rattle.macroblock.specs.declared.modes.IntraBmode.{IntraBmode}
use Rattle.macroblock.specs.declared.modes.MbModes.{MbModes}
use Rattle.macroblock.specs.declared.neighbors.MbNeighbors.{MbNeighbors}
use Rattle.lists.proofs.Total.{total-≤}
use Rattle.clipping.proofs.Bounds.{macroblock-≤, macroblock-B-≤}
use Rattle.reconstruct.specs.Answers.{MbAnswer, refusal, whole_of, parts_of, non_b, walk_b}
use Rattle.rfc6386.specs.Edges.{is_b}
use Rattle.gathering.specs.Answers.{gathered}
use Rattle.drawing.specs.Drawn.{drawn, drawn_in, drawn_b, modes_known, modes_of, sub_modes_of, subs_known}
use Rattle.canvas.specs.Into.{made, clipped_into}
use Rattle.still.specs.Picture.{Progress, first, count_at, count_in, first_clipped, picture_clipped, right_given, right_read}
use Rattle.still.specs.Answers.{alone_fits, still_fits, still_clipped, alone_clipped}
use Rattle.rfc6386.specs.Picture.{size_ok}
use Rattle.still.proofs.Sizes.{size-says, at_most}

-- ---- one of two that are small is small
chosen : (b : Bool) (x y : MbAnswer) → x.clipped ≤ 384 → y.clipped ≤ 384 → (pick b x y).clipped ≤ 384
chosen true x y p q = p
chosen false x y p q = q

number : (m : ℕ) (b : Bool) (x y : ℕ) → x ≤ m → y ≤ m → pick b x y ≤ m
number m true x y p q = p
number m false x y p q = q

-- ---- a macroblock
refusal-≤ : (k : ℕ) → (refusal k).clipped ≤ 384
unfolding refusal
refusal-≤ k = omega arith

non_b-≤ : (m : MbModes) (n : MbNeighbors) (c : List ℤ) → (non_b m n c).clipped ≤ 384
unfolding non_b whole_of
non_b-≤ m n c =
    chosen (is_b m.y) (refusal 3) (pick (eqb (length c) 400) (whole_of m.y m.uv m.skip n c) (refusal 1)) (refusal-≤ 3)
    (chosen (eqb (length c) 400) (whole_of m.y m.uv m.skip n c) (refusal 1) (macroblock-≤ m.uv m.skip n c 272 336 m.y) (refusal-≤ 1))

walk_b-≤ : (subs : List IntraBmode) (there : Bool) (m : MbModes) (n : MbNeighbors) (c : List ℤ) → (walk_b subs there m n c).clipped ≤ 384
unfolding walk_b parts_of
walk_b-≤ subs there m n c =
    chosen there (pick (eqb (length c) 384) (parts_of subs m.uv m.skip n c) (refusal 1)) (refusal 4)
    (chosen (eqb (length c) 384) (parts_of subs m.uv m.skip n c) (refusal 1) (macroblock-B-≤ m.uv m.skip n c 256 320 subs) (refusal-≤ 1))
    (refusal-≤ 4)

pub drawn-≤ : (luma chroma skip : ℕ) (subs : List ℕ) (there : Bool) (n : MbNeighbors) (c : List ℤ) → (drawn luma chroma skip subs there n c).clipped ≤ 384
unfolding drawn drawn_in drawn_b
drawn-≤ luma chroma skip subs there n c =
    let m = modes_of luma chroma skip in
    let parts = walk_b (sub_modes_of subs) there m n (drop 16 c) in
    let b = pick (subs_known subs there) parts (refusal 8) in
    let known = pick (is_b m.y) b (non_b m n c) in
    chosen (eqb (length c) 400) (pick (modes_known luma chroma skip) known (refusal 8)) (refusal 1)
    (chosen (modes_known luma chroma skip) known (refusal 8)
    (chosen (is_b m.y) b (non_b m n c)
    (chosen (subs_known subs there) parts (refusal 8) (walk_b-≤ (sub_modes_of subs) there m n (drop 16 c)) (refusal-≤ 8)) (non_b-≤ m n c))
    (refusal-≤ 8))
    (refusal-≤ 1)

pub into-≤ : (w h c r luma chroma skip : ℕ) (subs right : List ℕ) (coeffs : List ℤ) (y u v : List ℕ)
    → clipped_into w h c r luma chroma skip subs right coeffs y u v ≤ 384
unfolding clipped_into made
into-≤ w h c r luma chroma skip subs right coeffs y u v =
    number 384 (eqb (gathered y u v w h c r right).reply 0) (drawn luma chroma skip subs true (gathered y u v w h c r right).neighbors coeffs).clipped 0
    (drawn-≤ luma chroma skip subs true (gathered y u v w h c r right).neighbors coeffs) (omega arith)

-- ---- a still
module _ (w h : ℕ) (modes subs : List ℕ) (coeffs : List ℤ) (right : ℕ → List ℕ → List ℕ) where
  at-≤ : (k : ℕ) (y u v : List ℕ) → count_at w h modes subs coeffs right k y u v ≤ 384
  unfolding count_at
  at-≤ k y u v = into-≤ w h _ _ _ _ _ _ _ _ y u v

  count-≤ : (k : ℕ) (d : Progress) → count_in w h modes subs coeffs right k d ≤ 384
  unfolding count_in
  count-≤ k d = number 384 (eqb d.reply 0) (count_at w h modes subs coeffs right k d.y d.u d.v) 0 (at-≤ k d.y d.u d.v) (omega arith)

  picture-≤ : (y u v : List ℕ) → picture_clipped w h modes subs coeffs right y u v ≤ w * h * 384
  unfolding picture_clipped first_clipped
  picture-≤ y u v = total-≤ 384 (w * h) _ λ k l. count-≤ k (first w h modes subs coeffs right k y u v)

tested-≤ : (a b : Bool) (p : ℕ) → (a ≡ true → p ≤ 402653184) → pick a (pick b p 0) 0 ≤ 402653184
tested-≤ true b p h = number 402653184 b p 0 (h refl) (omega arith)
tested-≤ false b p h = omega arith

module _ (w h : ℕ) (modes subs : List ℕ) (coeffs : List ℤ) where
  few : size_ok w h ≡ true → w * h * 384 ≤ 402653184
  few e = let p = size-says w h e in mul-le-mul_right 384 (at_most p.width p.height)

  -- 2^20 macroblocks of 384
  pub still-clipped-≤ : (right y u v : List ℕ) → still_clipped w h modes subs coeffs right y u v ≤ 402653184
  unfolding still_clipped
  still-clipped-≤ right y u v =
      tested-≤ (size_ok w h) (still_fits w h modes subs coeffs right y u v) (picture_clipped w h modes subs coeffs (right_given right) y u v)
      (λ e. le_trans (picture-≤ w h modes subs coeffs (right_given right) y u v) (few e))

  pub alone-clipped-≤ : (y u v : List ℕ) → alone_clipped w h modes subs coeffs y u v ≤ 402653184
  unfolding alone_clipped
  alone-clipped-≤ y u v =
      tested-≤ (size_ok w h) (alone_fits w h modes subs coeffs y u v) (picture_clipped w h modes subs coeffs (right_read w h) y u v)
      (λ e. le_trans (picture-≤ w h modes subs coeffs (right_read w h) y u v) (few e))
