-- Copies between lists of equal lengths.
use Rattle.std.specs.Prelude.{ℕ, List, eqb, length, replicate}
use Rattle.lists.specs.Lists.{sized, pick}

module _ {A : Type 0} where
  -- what `to` holds once `from` was copied into it: nothing new where the lengths differ
  unfoldable pub copied : List A → List A → List A
  copied from to = pick (eqb (length to) (length from)) from to

  -- the n elements of `from`, or n times z where it has another number of them
  unfoldable pub or_zeros : A → ℕ → List A → List A
  or_zeros z n from = pick (eqb n (length from)) from (replicate n z)

  -- what `to` holds once the n elements of `from` were put into it: nothing new where it has another length
  unfoldable pub put_in : ℕ → List A → List A → List A
  put_in n from to = pick (sized n to) from to

-- as many zeros
unfoldable pub cleared : List ℕ → List ℕ
cleared to = replicate (length to) 0
