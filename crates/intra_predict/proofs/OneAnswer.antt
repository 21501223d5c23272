-- Each promise of `intra_predict` admits one answer only. Assumes nothing.
use mathlib.Core.Path.{refl}
use Rattle.lists.proofs.Answer.{OneAnswer, same}
use Rattle.macroblock.proofs.Refusals.{one_answer}
use Rattle.intra_predict.specs.Luma.{LumaAnswer, told}
use Rattle.intra_predict.proofs.predict_y16x16.Reads as y16x16
use Rattle.intra_predict.proofs.predict_y16x16.Kinds as y16x16-k
use Rattle.intra_predict.proofs.predict_uv8x8.Reads as uv8x8
use Rattle.intra_predict.proofs.predict_uv8x8.Kinds as uv8x8-k

pub y16x16-one : OneAnswer 0 y16x16-k.ps y16x16-k.r y16x16.Post
y16x16-one κs a x y s t p q =
    one_answer told (λ (r : LumaAnswer). r.reply) (λ (r : LumaAnswer). r.pixels) (λ b. refl) (λ b. refl) (λ e. refl) x y (same p q)

pub uv8x8-one : OneAnswer 0 uv8x8-k.ps uv8x8-k.r uv8x8.Post
uv8x8-one κs a x y s t = same
