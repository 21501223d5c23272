-- The contracts of the walk: each function reads as its definition does, from any decoder that holds a Coder.
use Rattle.std.specs.Prelude.{ℕ, ◌+◌, ◌*◌, ◌≤◌, ◌<◌, ◌≡◌, Bool, List, ℤ, set}
use Rattle.bool_decoder.specs.BoolCoder.{Coder, Reads, ran, read_bool}
use Rattle.bool_decoder.specs.Held.{Holds}
use Rattle.bool_decoder.specs.declared.BoolDecoder.{BoolDecoder}
use Rattle.tokens.specs.Tokens.{Drawn, Thread, treed, nonzero_tree, band_of, zigzag_of, signed_of}

abbrev pub drawn : List ℤ → Bool → Drawn
drawn o s = record { out = o; some = s }

-- a size, and the decoder behind it
abbrev pub Token : Type 0
Token = ℕ × BoolDecoder

-- the size that m gives, and a decoder with enough bits for a sign and one bool
pub record Sized (src : List ℕ) (m : Reads ℕ) (c : Coder) (r : Token) : Type 0 where
  pub size : r.0 ≡ (ran src m c).got
  pub holds : Holds src r.1 (ran src m c).next
  pub held : 19 ≤ r.1.held

pub record Walks (src : List ℕ) (m : Reads ℕ) (least : ℕ) (d : BoolDecoder) (r : Token) : Type 0 where
  pub small : r.0 ≤ 2114
  pub some : 0 < r.0
  pub is : (c : Coder) → Holds src d c → least ≤ d.held → Sized src m c r

pub record Band (i r : ℕ) : Type 0 where
  pub is : i < 16 → r ≡ 33 * band_of i
  pub most : r ≤ 231

-- a coefficient that is not 0, with its sign, in its place
pub record Put (src probs : List ℕ) (row at i : ℕ) (o : List ℤ) (c : Coder) (o' : List ℤ) (r : Token) : Type 0 where
  pub size : r.0 ≡ (ran src (treed probs row nonzero_tree) c).got
  pub out : o' ≡ set o (at + zigzag_of i) (signed_of r.0 (read_bool src 128 (ran src (treed probs row nonzero_tree) c).next).got)
  pub holds : Holds src r.1 (read_bool src 128 (ran src (treed probs row nonzero_tree) c).next).next
  pub held : 18 ≤ r.1.held

pub record Puts (src probs : List ℕ) (row at i : ℕ) (o : List ℤ) (d : BoolDecoder) (o' : List ℤ) (r : Token) : Type 0 where
  pub some : 0 < r.0
  pub is : (c : Coder) → Holds src d c → 26 ≤ d.held → Put src probs row at i o c o' r

-- a block's coefficients, its flag, and the decoder behind it
pub record Drew (src : List ℕ) (m : Reads Drawn) (c : Coder) (o : List ℤ) (r : Bool × BoolDecoder) : Type 0 where
  pub out : o ≡ (ran src m c).got.out
  pub some : r.0 ≡ (ran src m c).got.some
  pub holds : Holds src r.1 (ran src m c).next

pub record Draws (src : List ℕ) (m : Reads Drawn) (d : BoolDecoder) (o : List ℤ) (r : Bool × BoolDecoder) : Type 0 where
  pub is : (c : Coder) → Holds src d c → Drew src m c o r

abbrev pub thread_of : List Bool → List Bool → List ℤ → Thread
thread_of a l o = record { above = a; left = l; out = o }

-- contexts and coefficients, and the decoder behind them
pub record Threaded (src : List ℕ) (m : Reads Thread) (c : Coder) (t : Thread) (r : BoolDecoder) : Type 0 where
  pub thread : t ≡ (ran src m c).got
  pub holds : Holds src r (ran src m c).next

pub record Threads (src : List ℕ) (m : Reads Thread) (d : BoolDecoder) (t : Thread) (r : BoolDecoder) : Type 0 where
  pub is : (c : Coder) → Holds src d c → Threaded src m c t r
