-- `planes::luma::predicted` meets its contract. Assumes nothing.
use mathlib.Core.Path.{◌≡◌, refl, ap, ◌∙◌}
use mathlib.Core.List.{List}
use Prim.Native.Nat.{ℕ}
use Rattle.std.specs.Prelude.{Result, Ok, Err, replicate}
use Rattle.std.specs.Result.{result_unwrap_or}
use Rattle.macroblock.specs.declared.reply.Refusal.{Refusal}
use Rattle.intra_predict.specs.Luma.{LumaAnswer, told, predicted_y}
use Rattle.rfc6386.specs.Walk.{y_prediction}
use Rattle.planes.proofs.luma.predicted.Goals as goal

-- the pixels that are told of an answer are its own, or 0
pixels-told : (r : Result (List ℕ) Refusal) → result_unwrap_or r (replicate 256 0) ≡ (told r).pixels
pixels-told (Ok p) = refl
pixels-told (Err e) = refl

pub returns : goal.returns
unfolding y_prediction predicted_y
returns c =
    c.unwrap_or.ensures ∙ pixels-told c.predict_y16x16.result
    ∙ (rw (c.above.ensures, c.pixel_or-p.ensures) at (ap (λ (r : LumaAnswer). r.pixels) c.predict_y16x16.ensures))
