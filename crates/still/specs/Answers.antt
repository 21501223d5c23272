-- What the still calls answer: 7 for a size outside 1 to 1,024 macroblocks a side, then 1 for a slice of another length, both before anything is drawn;
-- else the picture.
use Rattle.std.specs.Prelude.{ℕ, ◌-◌, ◌*◌, Bool, List, eqb, ℤ, length, Result, Ok, Err}
use Rattle.lists.specs.Lists.{pick, both, ◌beside◌}
use Rattle.macroblock.specs.Reply.{done, wrong_length, outside_picture, number}
use Rattle.rfc6386.specs.Picture.{size_ok, sizes_ok}
use Rattle.still.specs.declared.StillRefusal.{StillRefusal}
use Rattle.still.specs.Picture.{Progress, progress, picture, picture_clipped, right_given, right_read}

-- what a call tells, with the planes that it leaves: the count; or why it is refused, where, and the count of the finished macroblocks
abbrev pub told : Result ℕ StillRefusal → List ℕ → List ℕ → List ℕ → Progress × ℕ
told (Ok clipped) y u v = progress done 0 y u v beside clipped
told (Err r) y u v = progress (number r.refusal) r.index y u v beside r.clipped

-- 3, 16 and 400 an item, and the planes
unfoldable pub lengths_ok : ℕ → ℕ → ℕ → ℕ → ℕ → ℕ → ℕ → ℕ → Bool
lengths_ok w h modes subs coeffs y u v =
    both (eqb modes (3 * (w * h))) (both (eqb subs (16 * (w * h))) (both (eqb coeffs (400 * (w * h))) (sizes_ok y u v w h)))

-- every slice of a still that comes alone; of one with right-hand pixels, four for each macroblock row after the first
abbrev pub alone_fits : ℕ → ℕ → List ℕ → List ℕ → List ℤ → List ℕ → List ℕ → List ℕ → Bool
alone_fits w h modes subs coeffs y u v = lengths_ok w h (length modes) (length subs) (length coeffs) (length y) (length u) (length v)

abbrev pub still_fits : ℕ → ℕ → List ℕ → List ℕ → List ℤ → List ℕ → List ℕ → List ℕ → List ℕ → Bool
still_fits w h modes subs coeffs right y u v = both (alone_fits w h modes subs coeffs y u v) (eqb (length right) (4 * (h - 1)))

-- what is drawn, or by its number what is refused
abbrev pub tested : {A : Type 0} → ℕ → ℕ → Bool → A → (ℕ → A) → A
tested w h fit drawn refused = pick (size_ok w h) (pick fit drawn (refused wrong_length)) (refused outside_picture)

-- ---- the planes
unfoldable pub still_answer : ℕ → ℕ → List ℕ → List ℕ → List ℤ → List ℕ → List ℕ → List ℕ → List ℕ → Progress
still_answer w h modes subs coeffs right y u v =
    tested w h (still_fits w h modes subs coeffs right y u v) (picture w h modes subs coeffs (right_given right) y u v) λ number. progress number 0 y u v

unfoldable pub alone_answer : ℕ → ℕ → List ℕ → List ℕ → List ℤ → List ℕ → List ℕ → List ℕ → Progress
alone_answer w h modes subs coeffs y u v =
    tested w h (alone_fits w h modes subs coeffs y u v) (picture w h modes subs coeffs (right_read w h) y u v) λ number. progress number 0 y u v

-- ---- how many sums were below 0 or above 255, of the finished macroblocks
unfoldable pub still_clipped : ℕ → ℕ → List ℕ → List ℕ → List ℤ → List ℕ → List ℕ → List ℕ → List ℕ → ℕ
still_clipped w h modes subs coeffs right y u v =
    tested w h (still_fits w h modes subs coeffs right y u v) (picture_clipped w h modes subs coeffs (right_given right) y u v) λ number. 0

unfoldable pub alone_clipped : ℕ → ℕ → List ℕ → List ℕ → List ℤ → List ℕ → List ℕ → List ℕ → ℕ
alone_clipped w h modes subs coeffs y u v =
    tested w h (alone_fits w h modes subs coeffs y u v) (picture_clipped w h modes subs coeffs (right_read w h) y u v) λ number. 0

-- ---- both
abbrev pub still_told : ℕ → ℕ → List ℕ → List ℕ → List ℤ → List ℕ → List ℕ → List ℕ → List ℕ → Progress × ℕ
still_told w h modes subs coeffs right y u v = still_answer w h modes subs coeffs right y u v beside still_clipped w h modes subs coeffs right y u v

abbrev pub alone_told : ℕ → ℕ → List ℕ → List ℕ → List ℤ → List ℕ → List ℕ → List ℕ → Progress × ℕ
alone_told w h modes subs coeffs y u v = alone_answer w h modes subs coeffs y u v beside alone_clipped w h modes subs coeffs y u v
