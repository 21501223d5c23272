-- An entry of a table, read at an index held within it and made a number that is never negative; and the two tables of the RFC.
-- Assumes nothing.
use mathlib.Core.Path.{◌≡◌, refl, ap, ◌∙◌}
use mathlib.Core.List.{List, map}
use Prim.Native.Nat.{ℕ, ◌≤◌}
use native.Mathlib.Omega.{arith}
use lib.Dec.{T, ltb, ltb→lt}
use lib.IntN.{ℤ, pos, nat_abs}
use lib.ListN.{get_or, get_or-map}
use lib.Signed.{non_neg}
use mir.Syntax.{w32}
use mir.Val.{Fits, SFits}
use mir.Facts.{to_z-of_z}
use Rattle.whole.proofs.Held.{R16, R32, held16}
use Rattle.quantiser.proofs.Read.{index_read}
use Rattle.rfc6386.specs.Quantiser.{dc_lookup, ac_lookup, clamp_index}
use Rattle.rfc6386.specs.MbFactors.{dc_entry, ac_entry}
use Rattle.rfc6386.proofs.Quantiser.{Rising, within, dc-rising, ac-rising}
use Rattle.rfc6386.proofs.MbFactors.{dc-entry-within, ac-entry-within}
use Rattle.mb_factors.specs.Entries.{Unsigned, entry_of}

module _ (table : List ℤ) (u : Unsigned table) (r : ℕ) (q : ℤ) (f : SFits w32 q) (e : r ≡ clamp_index (R32 q)) where
  abbrev read : ℤ
  read = R16 (get_or table r (pos 0))

  read_is : read ≡ pos (nat_abs (get_or table r (pos 0)))
  read_is =
      let h = index_read r q e in
      let z = u.never-negative r h in
      let s = u.small r h in
      ap R16 z ∙ held16 (pos (nat_abs (get_or table r (pos 0)))) (omega (arith, s))

  pub entry-fits : T (non_neg read) × Fits w32 (nat_abs read)
  entry-fits = let s = u.small r (index_read r q e) in rw read_is (tt, record { fits = omega (arith, s) })

  pub entry_read : nat_abs read ≡ entry_of table q
  unfolding entry_of
  entry_read = ap nat_abs read_is ∙ ap (λ (i : ℕ). nat_abs (get_or table i (pos 0))) (e ∙ ap clamp_index (to_z-of_z f))

-- ---- the tables of the RFC
module _ (t : List ℕ) (last : ℕ) (rule : Rising t last) (few : T (ltb last 32768)) where
  pub unsigned : Unsigned (map pos t)
  unsigned =
      record {
        never-negative = λ k h. rw (get_or-map pos t k 0) refl;
        small = λ k h. rw (get_or-map pos t k 0) (let w = (within t last rule k h).1 in omega (arith, w, ltb→lt last 32768 few));
      }

  pub entry-is : (q : ℤ) → entry_of (map pos t) q ≡ get_or t (clamp_index q) 0
  unfolding entry_of
  entry-is q = rw (get_or-map pos t (clamp_index q) 0) refl

pub dc-numbers : Unsigned (map pos dc_lookup)
dc-numbers = unsigned dc_lookup 157 dc-rising tt

pub ac-numbers : Unsigned (map pos ac_lookup)
ac-numbers = unsigned ac_lookup 284 ac-rising tt

pub dc-is : (q : ℤ) → entry_of (map pos dc_lookup) q ≡ dc_entry q
unfolding dc_entry
dc-is q = entry-is dc_lookup 157 dc-rising tt q

pub ac-is : (q : ℤ) → entry_of (map pos ac_lookup) q ≡ ac_entry q
unfolding ac_entry
ac-is q = entry-is ac_lookup 284 ac-rising tt q

-- an entry is at most its table's last
pub dc-most : (q : ℤ) → entry_of (map pos dc_lookup) q ≤ 157
dc-most q = rw (dc-is q) (dc-entry-within q).1

pub ac-most : (q : ℤ) → entry_of (map pos ac_lookup) q ≤ 284
ac-most q = rw (ac-is q) (ac-entry-within q).1
