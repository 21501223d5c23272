-- What the sums of an index and a delta say of the answer: the first that is refused refuses the call, and where none is, each is the index that its table
-- is read at; and that the five sums of an accepted call each fit a signed 32-bit number. Assumes nothing.
use mathlib.Core.Path.{◌≡◌, refl}
use mathlib.Core.Bool.{Bool, true, false}
use lib.IntN.{ℤ, ◌+ℤ◌}
use mir.Syntax.{w32}
use mir.Val.{SFits}
use Rattle.std.specs.Prelude.{Result, Ok, Err}
use Rattle.lists.specs.Lists.{both}
use Rattle.lists.proofs.Tests.{both-says, T_true}
use Rattle.macroblock.specs.declared.reply.Refusal.{Refusal}
use Rattle.macroblock.specs.declared.reply.Refusal.TheVariants as refusal
use Rattle.quantiser.specs.Factors.{signed32, with_delta}
use Rattle.quantiser.proofs.Sum.{signed32-fits}
use Rattle.mb_factors.specs.declared.MbDequantFactors.{MbDequantFactors}
use Rattle.mb_factors.specs.Factors.{sums_fit, factors_given, mb_factors, factors_at, of_factors, told}

module _ (q d : ℤ) where
  pub sum-is : (z : ℤ) → ◌≡◌ {A = Result ℤ Refusal} (Ok z) (with_delta q d) → (signed32 (q +ℤ d) ≡ true) × (z ≡ q +ℤ d)
  unfolding with_delta
  sum-is z h = by (signed32 (q +ℤ d)) refl
    where
      by : (b : Bool) → signed32 (q +ℤ d) ≡ b → (signed32 (q +ℤ d) ≡ true) × (z ≡ q +ℤ d)
      by true e = (e, let k = rw e at h in cc)
      by false e = absurd (let k = rw e at h in cc)

  pub sum-refused : (r : Refusal) → ◌≡◌ {A = Result ℤ Refusal} (Err r) (with_delta q d) → (signed32 (q +ℤ d) ≡ false) × (r ≡ refusal.IndexSum)
  unfolding with_delta
  sum-refused r h = by (signed32 (q +ℤ d)) refl
    where
      by : (b : Bool) → signed32 (q +ℤ d) ≡ b → (signed32 (q +ℤ d) ≡ false) × (r ≡ refusal.IndexSum)
      by true e = absurd (let k = rw e at h in cc)
      by false e = (e, let k = rw e at h in cc)

none : (b : Bool) → both b false ≡ false
none true = refl
none false = refl

-- ---- a call, by its sums
module _ (q ydc y2dc y2ac uvdc uvac : ℤ) where
  -- the call is refused, where r refuses it
  abbrev Refuses : Refusal → Type 0
  Refuses r = told (Err r) ≡ mb_factors q ydc y2dc y2ac uvdc uvac

  refuses : (r : Refusal) → sums_fit q ydc y2dc y2ac uvdc uvac ≡ false → r ≡ refusal.IndexSum → Refuses r
  unfolding mb_factors
  refuses r h e = rw (h, e) refl

  module _ (r : Refusal) where
    pub y1-dc-refused : ◌≡◌ {A = Result ℤ Refusal} (Err r) (with_delta q ydc) → told (Err r) ≡ mb_factors q ydc y2dc y2ac uvdc uvac
    unfolding sums_fit
    y1-dc-refused h = let e = sum-refused q ydc r h in refuses r (rw e.0 refl) e.1

    pub y2-dc-refused : ◌≡◌ {A = Result ℤ Refusal} (Err r) (with_delta q y2dc) → told (Err r) ≡ mb_factors q ydc y2dc y2ac uvdc uvac
    unfolding sums_fit
    y2-dc-refused h = let e = sum-refused q y2dc r h in refuses r (rw e.0 (none (signed32 (q +ℤ ydc)))) e.1

    pub y2-ac-refused : ◌≡◌ {A = Result ℤ Refusal} (Err r) (with_delta q y2ac) → told (Err r) ≡ mb_factors q ydc y2dc y2ac uvdc uvac
    unfolding sums_fit
    y2-ac-refused h =
        let e = sum-refused q y2ac r h in refuses r (rw (e.0, none (signed32 (q +ℤ y2dc))) (none (signed32 (q +ℤ ydc)))) e.1

    pub uv-dc-refused : ◌≡◌ {A = Result ℤ Refusal} (Err r) (with_delta q uvdc) → told (Err r) ≡ mb_factors q ydc y2dc y2ac uvdc uvac
    unfolding sums_fit
    uv-dc-refused h =
        let e = sum-refused q uvdc r h in
        refuses r (rw (e.0, none (signed32 (q +ℤ y2ac)), none (signed32 (q +ℤ y2dc))) (none (signed32 (q +ℤ ydc)))) e.1

    pub uv-ac-refused : ◌≡◌ {A = Result ℤ Refusal} (Err r) (with_delta q uvac) → told (Err r) ≡ mb_factors q ydc y2dc y2ac uvdc uvac
    unfolding sums_fit
    uv-ac-refused h =
        let e = sum-refused q uvac r h in
        refuses r (rw (e.0, none (signed32 (q +ℤ uvdc)), none (signed32 (q +ℤ y2ac)), none (signed32 (q +ℤ y2dc))) (none (signed32 (q +ℤ ydc)))) e.1

  pub given : (f : MbDequantFactors) (a b c d e : ℤ) → ◌≡◌ {A = Result ℤ Refusal} (Ok a) (with_delta q ydc) → ◌≡◌ {A = Result ℤ Refusal} (Ok b) (with_delta q y2dc)
      → ◌≡◌ {A = Result ℤ Refusal} (Ok c) (with_delta q y2ac) → ◌≡◌ {A = Result ℤ Refusal} (Ok d) (with_delta q uvdc)
      → ◌≡◌ {A = Result ℤ Refusal} (Ok e) (with_delta q uvac) → f ≡ factors_at a q b c d e → of_factors f ≡ mb_factors q ydc y2dc y2ac uvdc uvac
  unfolding mb_factors sums_fit factors_given factors_at
  given f a b c d e h i j k l m =
      let a-is = sum-is q ydc a h in
      let b-is = sum-is q y2dc b i in
      let c-is = sum-is q y2ac c j in
      let d-is = sum-is q uvdc d k in
      let e-is = sum-is q uvac e l in
      rw (m, a-is.1, b-is.1, c-is.1, d-is.1, e-is.1, a-is.0, b-is.0, c-is.0, d-is.0, e-is.0) refl

-- what an accepted call knows
pub record Sums (q ydc y2dc y2ac uvdc uvac : ℤ) : Type 0 where
  pub y1-dc : SFits w32 (q +ℤ ydc)
  pub y2-dc : SFits w32 (q +ℤ y2dc)
  pub y2-ac : SFits w32 (q +ℤ y2ac)
  pub uv-dc : SFits w32 (q +ℤ uvdc)
  pub uv-ac : SFits w32 (q +ℤ uvac)

-- five tests that hold together hold each
each : (a b c d e : Bool) → both a (both b (both c (both d e))) ≡ true → (a ≡ true) × (b ≡ true) × (c ≡ true) × (d ≡ true) × (e ≡ true)
each a b c d e h =
    let p = both-says a (both b (both c (both d e))) h in
    let q = both-says b (both c (both d e)) (T_true (both b (both c (both d e))) p.1) in
    let r = both-says c (both d e) (T_true (both c (both d e)) q.1) in
    let s = both-says d e (T_true (both d e) r.1) in
    (T_true a p.0, T_true b q.0, T_true c r.0, T_true d s.0, T_true e s.1)

pub sums-fit : (q ydc y2dc y2ac uvdc uvac : ℤ) → sums_fit q ydc y2dc y2ac uvdc uvac ≡ true → Sums q ydc y2dc y2ac uvdc uvac
unfolding sums_fit
sums-fit q ydc y2dc y2ac uvdc uvac h =
    let e = each (signed32 (q +ℤ ydc)) (signed32 (q +ℤ y2dc)) (signed32 (q +ℤ y2ac)) (signed32 (q +ℤ uvdc)) (signed32 (q +ℤ uvac)) h in
    record {
      y1-dc = signed32-fits (q +ℤ ydc) e.0;
      y2-dc = signed32-fits (q +ℤ y2dc) e.1;
      y2-ac = signed32-fits (q +ℤ y2ac) e.2;
      uv-dc = signed32-fits (q +ℤ uvdc) e.3;
      uv-ac = signed32-fits (q +ℤ uvac) e.4;
    }
