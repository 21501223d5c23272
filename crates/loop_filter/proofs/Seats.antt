-- Every macroblock of a picture that is ready lies in its planes. Assumes nothing.
use Prim.Native.Nat.{ℕ, ◌+◌, ◌*◌, ◌<◌, ◌≤◌}
use mathlib.Core.Path.{◌≡◌, ◌∙◌}
use mathlib.Core.Bool.{true}
use mathlib.Core.List.{List}
use native.Mathlib.Nat.{mul-le-mul_right}
use native.Mathlib.Omega.{arith}
use lib.ListN.{length}
use borrow.Author.Tests.{lt-ltb, le-leb}
use Rattle.edge_lines.specs.Sides.{seated}
use Rattle.loop_filter.specs.Picture.{Ready}

pub seated-at : (n size cols rows r c : ℕ) → cols ≤ 1024 → rows ≤ 1024 → r < rows → c < cols → size ≡ n * n * (cols * rows) → seated n size cols r c ≡ true
unfolding seated
seated-at n size cols rows r c a b p q e =
    let h : (r + 1) * (n * (n * cols)) ≤ rows * (n * (n * cols)) = mul-le-mul_right (n * (n * cols)) (omega arith) in
    let f : (r + 1) * n * (n * cols) ≤ size = omega arith in
    let s : r < 1024 = omega arith in
    rw (le-leb cols 1024 a, lt-ltb r 1024 s, lt-ltb c cols q, le-leb ((r + 1) * n * (n * cols)) size f)

-- the byte of macroblock c of row r
pub byte-in : (cols rows r c : ℕ) → r < rows → c < cols → r * cols + c < cols * rows
byte-in cols rows r c p q = let h : (r + 1) * cols ≤ rows * cols = mul-le-mul_right cols (omega arith) in omega arith

module _ (cols rows sharp : ℕ) (level : ℕ → ℕ) (inner y u v : List ℕ) (h : Ready cols rows sharp level inner y u v) where
  -- after planes were filtered to planes of the same lengths
  pub ready-same : (a b c : List ℕ) → length a ≡ length y → length b ≡ length u → length c ≡ length v → Ready cols rows sharp level inner a b c
  ready-same a b c e f g =
      record {
        narrow = h.narrow;
        short = h.short;
        luma = e ∙ h.luma;
        chroma_u = f ∙ h.chroma_u;
        chroma_v = g ∙ h.chroma_v;
        bytes = h.bytes;
        low = h.low;
        sharpness = h.sharpness;
      }

  module _ (r c : ℕ) (p : r < rows) (q : c < cols) where
    pub luma-seated : (m : ℕ) → m ≡ length y → seated 16 m cols r c ≡ true
    luma-seated m e = seated-at 16 m cols rows r c h.narrow h.short p q (e ∙ h.luma)

    pub u-seated : (m : ℕ) → m ≡ length u → seated 8 m cols r c ≡ true
    u-seated m e = seated-at 8 m cols rows r c h.narrow h.short p q (e ∙ h.chroma_u)

    pub v-seated : (m : ℕ) → m ≡ length v → seated 8 m cols r c ≡ true
    v-seated m e = seated-at 8 m cols rows r c h.narrow h.short p q (e ∙ h.chroma_v)
