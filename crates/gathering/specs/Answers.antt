-- What gathering answers.
use Rattle.std.specs.Prelude.{ℕ, List, length, Result, Ok, Err}
use Rattle.lists.specs.Lists.{pick}
use Rattle.macroblock.specs.Neighbors.{absent}
use Rattle.macroblock.specs.Reply.{done, wrong_length, outside_picture, number}
use Rattle.macroblock.specs.declared.neighbors.MbNeighbors.{MbNeighbors}
use Rattle.macroblock.specs.declared.reply.Refusal.{Refusal}
use Rattle.rfc6386.specs.Picture.{neighbors_of, place_ok, sizes_ok}

-- A reply beside the neighbours.
pub record Gathered : Type 0 where
  pub reply : ℕ
  pub neighbors : MbNeighbors

-- A refusal: its number, and every edge absent.
abbrev pub refused : ℕ → Gathered
refused number = record { reply = number; neighbors = absent }

-- The answer of a gathering: 7 for a size or a place outside its limits, then 1 for a plane of the wrong length, each with every edge
-- absent; else the neighbours of the macroblock in column c and row r of a picture of w by h macroblocks, `right` being the four pixels
-- above right of the last column.
unfoldable pub gathered : List ℕ → List ℕ → List ℕ → ℕ → ℕ → ℕ → ℕ → List ℕ → Gathered
gathered y u v w h c r right =
    pick (place_ok w h c r)
    (pick (sizes_ok (length y) (length u) (length v) w h) (record { reply = done; neighbors = neighbors_of y u v w c r right }) (refused wrong_length))
    (refused outside_picture)

-- What the call tells: the neighbours, or why they are refused.
abbrev pub told : Result MbNeighbors Refusal → Gathered
told (Ok n) = record { reply = done; neighbors = n }
told (Err e) = refused (number e)
