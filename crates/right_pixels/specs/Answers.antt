-- The four pixels above right of the last column of macroblock row r, in a picture w macroblocks wide and h high, from its luma plane y.
use Rattle.std.specs.Prelude.{ℕ, ◌+◌, ◌-◌, ◌*◌, Bool, List, ltb, length, get_or, replicate, Result, Ok, Err}
use Rattle.lists.specs.Lists.{pick, both}
use Rattle.macroblock.specs.Reply.{done, wrong_length, outside_picture, number}
use Rattle.macroblock.specs.declared.reply.Refusal.{Refusal}
use Rattle.rfc6386.specs.Picture.{place_ok, luma_ok}

-- a reply beside the four pixels
pub record RightPixels : Type 0 where
  pub reply : ℕ
  pub pixels : List ℕ

-- each side 1 to 1,024, and a row of the picture that is not its first
unfoldable pub row_ok : ℕ → ℕ → ℕ → Bool
row_ok w h r = both (ltb 0 r) (place_ok w h 0 r)

-- the last pixel of the row above: a row has 16 w pixels
unfoldable pub last_above : List ℕ → ℕ → ℕ → ℕ
last_above y w r = get_or y ((16 * r - 1) * (16 * w) + (16 * w - 1)) 0

-- A refusal: its number, and zeros.
abbrev pub refused : ℕ → RightPixels
refused number = record { reply = number; pixels = replicate 4 0 }

-- 7 for a size or a row outside its limits, then 1 for a plane of the wrong length; else four copies of the last pixel of the row above
unfoldable pub right_pixels : List ℕ → ℕ → ℕ → ℕ → RightPixels
right_pixels y w h r =
    pick (row_ok w h r)
    (pick (luma_ok (length y) w h) (record { reply = done; pixels = replicate 4 (last_above y w r) }) (refused wrong_length))
    (refused outside_picture)

-- what the call tells: the four pixels, or why they are refused
abbrev pub told : Result (List ℕ) Refusal → RightPixels
told (Ok pixels) = record { reply = done; pixels = pixels }
told (Err e) = refused (number e)
