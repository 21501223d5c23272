-- What reads bools, one after the other. Assumes nothing.
use Rattle.std.proofs.Common.{◌≡◌, ℕ, List, refl}
use Rattle.bool_decoder.specs.BoolCoder.{Coder, Reads, done, ask, ran, ◌then◌, read_bool}

module _ {A B : Type 0} (src : List ℕ) where
  pub ran_then : (m : Reads A) (f : A → Reads B) (c : Coder) → ran src (m then f) c ≡ ran src (f (ran src m c).got) (ran src m c).next
  unfolding ran ◌then◌
  ran_then (done a) f c = refl
  ran_then (ask p k) f c = ran_then (k (read_bool src p c).got) f (read_bool src p c).next
