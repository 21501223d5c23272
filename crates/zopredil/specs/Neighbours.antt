-- The neighbours of a macroblock in a picture: the reply, beside what the slice that is written then holds.
use Rattle.std.specs.Prelude.{ℕ, List}
use Rattle.lists.specs.Lists.{pick, both, sized, ◌beside◌}
use Rattle.macroblock.specs.Reply.{wrong_length}
use Rattle.gathering.specs.Answers.{Gathered, gathered}
use Rattle.record_bytes.specs.Bytes.{bytes_of}
use Rattle.right_pixels.specs.Answers.{right_pixels}

-- gathering's reply, beside the bytes of its neighbours
abbrev pub bytes_told : Gathered → ℕ × List ℕ
bytes_told g = g.reply beside bytes_of g.neighbors

-- reply 1, and nothing written, unless the record has 81 bytes and `right` 4; else gathering's reply beside the bytes of its neighbours
unfoldable pub gather_answer : List ℕ → List ℕ → List ℕ → ℕ → ℕ → ℕ → ℕ → List ℕ → List ℕ → ℕ × List ℕ
gather_answer y u v w h c r right «record» =
    pick (both (sized 81 «record») (sized 4 right))
    (bytes_told (gathered y u v w h c r right))
    (wrong_length beside «record»)

-- the four pixels above right of the last column of macroblock row r; reply 1, and nothing written, for a slice of another length
unfoldable pub right_answer : List ℕ → ℕ → ℕ → ℕ → List ℕ → ℕ × List ℕ
right_answer y w h r out =
    pick (sized 4 out) ((right_pixels y w h r).reply beside (right_pixels y w h r).pixels) (wrong_length beside out)
