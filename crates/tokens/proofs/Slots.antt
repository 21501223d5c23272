-- Places by number, and a coefficient put in its own. Assumes nothing.
use Prim.Native.Nat.{ℕ, ◌+◌, ◌*◌, ◌≤◌, ◌<◌}
use mathlib.Core.Path.{◌≡◌, refl, ap, ◌∙◌}
use mathlib.Core.Bool.{Bool}
use mathlib.Core.List.{List}
use native.Mathlib.Omega.{arith}
use lib.IntN.{ℤ}
use lib.ListN.{get_or, length, set}
use lib.Dec.{ltb, ltb→lt, T}
use Rattle.std.proofs.Common.{map, ◌++◌, ◌∷◌, []}
use Rattle.std.proofs.lemmas.List.{get_or_append_left, get_or-map}
use Rattle.lists.proofs.Every.{every, every-at}
use Rattle.bool_decoder.specs.BoolCoder.{Coder, ran}
use Rattle.bool_decoder.specs.Held.{Takes}
use Rattle.bool_decoder.specs.declared.BoolDecoder.{BoolDecoder}
use Rattle.tokens.specs.Tokens.{bands, treed, nonzero_tree, zigzag_of, signed_of}
use Rattle.tokens.specs.Walks.{Walks, Band, Puts, Token}

-- each entry of a table is below k
pub below-at : (k : ℕ) (xs : List ℕ) → T (every (λ i x. ltb x k) 0 xs) → (i : ℕ) → i < length xs → get_or xs i 0 < k
below-at k xs t i h = ltb→lt (get_or xs i 0) k (every-at (λ j x. ltb x k) xs t i h)

-- the table of the code, 33 a band, and one more
pub band-at : (xs : List ℕ) → xs ≡ map (λ x. 33 * x) bands ++ 231 ∷ [] → (i : ℕ) → i ≤ 16 → get_or xs i 0 < 232 → Band i (get_or xs i 0)
unfolding bands
band-at xs e i h l =
    record {
      is =
          λ s.
          ap (λ (ys : List ℕ). get_or ys i 0) e ∙ get_or_append_left (map (λ x. 33 * x) bands) (231 ∷ []) 0 i s
          ∙ get_or-map (λ x. 33 * x) bands i 0 0 s;
      most = omega arith;
    }

pub puts : (src probs : List ℕ) (row at i : ℕ) (o : List ℤ) (d : BoolDecoder) (t : Token) (s : Bool × BoolDecoder) (o' : List ℤ) → Walks src (treed probs row nonzero_tree) 26 d t → Takes 128 t.1 s
    → o' ≡ set o (at + zigzag_of i) (signed_of t.0 s.0) → Puts src probs row at i o d o' (t.0, s.1)
puts src probs row at i o d t s o' w k e =
    record {
      some = w.some;
      is =
          λ c h l.
          let x = w.is c h l in
          let xh = x.held in
          let n : Coder = (ran src (treed probs row nonzero_tree) c).next in
          let u = k.sign src (ran src (treed probs row nonzero_tree) c).next x.holds (omega arith) refl in
          let uh = u.held in
          record {
            size = x.size;
            out = e ∙ ap (λ (b : Bool). set o (at + zigzag_of i) (signed_of t.0 b)) (k.bit src (ran src (treed probs row nonzero_tree) c).next x.holds);
            holds = u.holds;
            held = omega arith;
          };
    }
