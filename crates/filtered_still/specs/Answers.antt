-- A still drawn, then filtered: the two calls, one after the other.
use Rattle.std.specs.Prelude.{ℕ, List, eqb, ℤ}
use Rattle.lists.specs.Lists.{pick}
use Rattle.macroblock.specs.Reply.{done}
use Rattle.still.specs.Picture.{Progress, progress}
use Rattle.still.specs.Answers.{alone_told}
use Rattle.loop_filter.specs.Answers.{levels_answer}

-- what is drawn, filtered where nothing was refused; the count stays
unfoldable pub then_filtered : ℕ → ℕ → ℕ → ℕ → List ℕ → List ℕ → Progress × ℕ → Progress × ℕ
then_filtered cols rows kind sharp levels inner t =
    let a = levels_answer cols rows kind sharp levels inner t.0.y t.0.u t.0.v in
    pick (eqb t.0.reply done) (progress a.0 0 a.1 a.2 a.3, t.1) t

abbrev pub filtered_told : ℕ → ℕ → List ℕ → List ℕ → List ℤ → ℕ → ℕ → List ℕ → List ℕ → List ℕ → List ℕ → List ℕ → Progress × ℕ
filtered_told cols rows modes subs coeffs kind sharp levels inner y u v =
    then_filtered cols rows kind sharp levels inner (alone_told cols rows modes subs coeffs y u v)
