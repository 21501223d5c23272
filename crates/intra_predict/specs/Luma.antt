-- 16x16 luma prediction with its reply: 0 and the pixels, or 3 and zero pixels in mode B.
use Rattle.std.specs.Prelude.{ℕ, Bool, List, Result, Ok, Err, replicate}
use Rattle.lists.specs.Lists.{pick}
use Rattle.macroblock.specs.Reply as reply
use Rattle.macroblock.specs.declared.reply.Refusal.{Refusal}
use Rattle.macroblock.specs.declared.modes.IntraYMode.{IntraYMode}
use Rattle.rfc6386.specs.Edges.{is_b, predict_y}

pub record LumaAnswer : Type 0 where
  pub reply : ℕ
  pub pixels : List ℕ

-- what the answer says: beside a refusal's number the pixels are 0
abbrev pub told : Result (List ℕ) Refusal → LumaAnswer
told (Ok pixels) = record { reply = reply.done; pixels = pixels }
told (Err e) = record { reply = reply.number e; pixels = replicate 256 0 }

unfoldable pub predicted_y : IntraYMode → List ℕ → Bool → List ℕ → Bool → ℕ → LumaAnswer
predicted_y mode above has_above left has_left p =
    record { reply = pick (is_b mode) reply.b_pred reply.done; pixels = predict_y mode above has_above left has_left p }
