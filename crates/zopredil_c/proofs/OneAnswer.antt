-- Each promise of the exports to C admits one answer only, and leaves one thing only in what was lent. Assumes nothing.
use mathlib.Core.List.{List}
use mathlib.Core.Path.{ap}
use Prim.Native.Nat.{ℕ}
use lib.IntN.{ℤ}
use Rattle.lists.proofs.Answer.{OneAnswerIn, same}
use Rattle.lists.proofs.Pairs.{same-pair}
use Rattle.zopredil_c.proofs.stills.zopredil_still.Reads as still
use Rattle.zopredil_c.proofs.stills.zopredil_still.Kinds as still-k
use Rattle.zopredil_c.proofs.stills.zopredil_still_alone.Reads as still-alone
use Rattle.zopredil_c.proofs.stills.zopredil_still_alone.Kinds as still-alone-k
use Rattle.zopredil_c.proofs.transforms.zopredil_y1_factors.Reads as y1-factors
use Rattle.zopredil_c.proofs.transforms.zopredil_y1_factors.Kinds as y1-factors-k
use Rattle.zopredil_c.proofs.transforms.zopredil_dequant_block.Reads as dequant-block
use Rattle.zopredil_c.proofs.transforms.zopredil_dequant_block.Kinds as dequant-block-k
use Rattle.zopredil_c.proofs.transforms.zopredil_dequantise.Reads as dequantise
use Rattle.zopredil_c.proofs.transforms.zopredil_dequantise.Kinds as dequantise-k
use Rattle.zopredil_c.proofs.transforms.zopredil_inverse_wht.Reads as inverse-wht
use Rattle.zopredil_c.proofs.transforms.zopredil_inverse_wht.Kinds as inverse-wht-k
use Rattle.zopredil_c.proofs.transforms.zopredil_inverse_wht_dc_only.Reads as inverse-wht-dc-only
use Rattle.zopredil_c.proofs.transforms.zopredil_inverse_wht_dc_only.Kinds as inverse-wht-dc-only-k
use Rattle.zopredil_c.proofs.transforms.zopredil_inverse_dct.Reads as inverse-dct
use Rattle.zopredil_c.proofs.transforms.zopredil_inverse_dct.Kinds as inverse-dct-k
use Rattle.zopredil_c.proofs.transforms.zopredil_inverse_dct_add_into.Reads as inverse-dct-add-into
use Rattle.zopredil_c.proofs.transforms.zopredil_inverse_dct_add_into.Kinds as inverse-dct-add-into-k
use Rattle.zopredil_c.proofs.transforms.zopredil_add_residue.Reads as add-residue
use Rattle.zopredil_c.proofs.transforms.zopredil_add_residue.Kinds as add-residue-k
use Rattle.zopredil_c.proofs.predictions.zopredil_predict_y16x16.Reads as predict-y16x16
use Rattle.zopredil_c.proofs.predictions.zopredil_predict_y16x16.Kinds as predict-y16x16-k
use Rattle.zopredil_c.proofs.predictions.zopredil_predict_uv8x8.Reads as predict-uv8x8
use Rattle.zopredil_c.proofs.predictions.zopredil_predict_uv8x8.Kinds as predict-uv8x8-k
use Rattle.zopredil_c.proofs.predictions.zopredil_predict_b4x4.Reads as predict-b4x4
use Rattle.zopredil_c.proofs.predictions.zopredil_predict_b4x4.Kinds as predict-b4x4-k
use Rattle.zopredil_c.proofs.macroblocks.zopredil_macroblock.Reads as macroblock
use Rattle.zopredil_c.proofs.macroblocks.zopredil_macroblock.Kinds as macroblock-k
use Rattle.zopredil_c.proofs.neighbours.zopredil_gather.Reads as gather
use Rattle.zopredil_c.proofs.neighbours.zopredil_gather.Kinds as gather-k
use Rattle.zopredil_c.proofs.neighbours.zopredil_right_pixels.Reads as right-pixels
use Rattle.zopredil_c.proofs.neighbours.zopredil_right_pixels.Kinds as right-pixels-k
use Rattle.zopredil_c.proofs.macroblocks.zopredil_shelf.Reads as shelf
use Rattle.zopredil_c.proofs.macroblocks.zopredil_shelf.Kinds as shelf-k
use Rattle.zopredil_c.proofs.partitions.zopredil_bool_start.Reads as bool-start
use Rattle.zopredil_c.proofs.partitions.zopredil_bool_start.Kinds as bool-start-k
use Rattle.zopredil_c.proofs.partitions.zopredil_tokens.Reads as tokens
use Rattle.zopredil_c.proofs.partitions.zopredil_tokens.Kinds as tokens-k
use Rattle.zopredil_c.proofs.filter.zopredil_filter.Reads as filter
use Rattle.zopredil_c.proofs.filter.zopredil_filter.Kinds as filter-k
use Rattle.zopredil_c.proofs.filter.zopredil_filter_levels.Reads as filter-levels
use Rattle.zopredil_c.proofs.filter.zopredil_filter_levels.Kinds as filter-levels-k

pub y1-factors-one : OneAnswerIn 1 y1-factors-k.ps y1-factors-k.r y1-factors.Post (λ κs s. s.1.1.0.now)
y1-factors-one κs a x y s t = same-pair

pub dequant-block-one : OneAnswerIn 1 dequant-block-k.ps dequant-block-k.r dequant-block.Post (λ κs s. s.0.now)
dequant-block-one κs a x y s t = same-pair

pub inverse-wht-one : OneAnswerIn 2 inverse-wht-k.ps inverse-wht-k.r inverse-wht.Post (λ κs s. s.1.0.now)
inverse-wht-one κs a x y s t = same-pair

pub inverse-wht-dc-only-one : OneAnswerIn 1 inverse-wht-dc-only-k.ps inverse-wht-dc-only-k.r inverse-wht-dc-only.Post (λ κs s. s.1.0.now)
inverse-wht-dc-only-one κs a x y s t = same-pair

pub inverse-dct-one : OneAnswerIn 2 inverse-dct-k.ps inverse-dct-k.r inverse-dct.Post (λ κs s. s.1.0.now)
inverse-dct-one κs a x y s t = same-pair

pub inverse-dct-add-into-one : OneAnswerIn 3 inverse-dct-add-into-k.ps inverse-dct-add-into-k.r inverse-dct-add-into.Post {A = List ℕ × List ℕ}
    (λ κs s. (s.1.0.now, s.1.1.1.1.1.0.now))
inverse-dct-add-into-one κs a x y s t = same-pair

pub add-residue-one : OneAnswerIn 3 add-residue-k.ps add-residue-k.r add-residue.Post (λ κs s. s.1.1.0.now)
add-residue-one κs a x y s t = same-pair

pub predict-y16x16-one : OneAnswerIn 3 predict-y16x16-k.ps predict-y16x16-k.r predict-y16x16.Post (λ κs s. s.1.1.1.1.0.now)
predict-y16x16-one κs a x y s t = same-pair

pub predict-uv8x8-one : OneAnswerIn 3 predict-uv8x8-k.ps predict-uv8x8-k.r predict-uv8x8.Post (λ κs s. s.1.1.1.1.0.now)
predict-uv8x8-one κs a x y s t = same-pair

pub predict-b4x4-one : OneAnswerIn 3 predict-b4x4-k.ps predict-b4x4-k.r predict-b4x4.Post (λ κs s. s.1.1.1.1.0.now)
predict-b4x4-one κs a x y s t = same-pair

pub macroblock-one : OneAnswerIn 6 macroblock-k.ps macroblock-k.r macroblock.Post {A = List ℕ × List ℕ}
    (λ κs s. (s.1.1.1.1.0.now, s.1.1.1.1.1.0.now))
macroblock-one κs a x y s t = same-pair

pub gather-one : OneAnswerIn 5 gather-k.ps gather-k.r gather.Post (λ κs s. s.1.1.1.1.1.1.1.1.0.now)
gather-one κs a x y s t = same-pair

pub right-pixels-one : OneAnswerIn 2 right-pixels-k.ps right-pixels-k.r right-pixels.Post (λ κs s. s.1.1.1.1.0.now)
right-pixels-one κs a x y s t = same-pair

pub dequantise-one : OneAnswerIn 2 dequantise-k.ps dequantise-k.r dequantise.Post
    {A = List ℤ × List ℤ} (λ κs s. (s.1.1.1.1.1.1.0.now, s.1.1.1.1.1.1.1.0.now))
dequantise-one κs a x y s t = same-pair

pub still_one : OneAnswerIn 8 still-k.ps still-k.r still.Post {A = List ℕ × (List ℕ × (List ℕ × List ℕ))}
    (λ κs s. (
      s.1.1.1.1.1.1.0.now,
      (s.1.1.1.1.1.1.1.0.now, (s.1.1.1.1.1.1.1.1.0.now, s.1.1.1.1.1.1.1.1.1.0.now)),
    ))
still_one κs a x y s t = same-pair

pub still-alone-one : OneAnswerIn 7 still-alone-k.ps still-alone-k.r still-alone.Post {A = List ℕ × (List ℕ × (List ℕ × List ℕ))}
    (λ κs s.
    (s.1.1.1.1.1.0.now, (s.1.1.1.1.1.1.0.now, (s.1.1.1.1.1.1.1.0.now, s.1.1.1.1.1.1.1.1.0.now))))
still-alone-one κs a x y s t = same-pair

pub shelf-one : OneAnswerIn 7 shelf-k.ps shelf-k.r shelf.Post {A = List ℕ × (List ℕ × List ℕ)}
    (λ κs s. (s.1.1.1.1.0.now, (s.1.1.1.1.1.0.now, s.1.1.1.1.1.1.0.now)))
shelf-one κs a x y s t = same-pair

pub bool-start-one : OneAnswerIn 2 bool-start-k.ps bool-start-k.r bool-start.Post (λ κs s. s.1.0.now)
bool-start-one κs a x y s t = same-pair

pub tokens-one : OneAnswerIn 6 tokens-k.ps tokens-k.r tokens.Post {A = List ℕ × List ℕ × List ℕ × List ℤ}
    (λ κs s. (s.1.1.1.0.now, s.1.1.1.1.0.now, s.1.1.1.1.1.0.now, s.1.1.1.1.1.1.0.now))
tokens-one κs a x y s t p q =
    let e = same p q in
    (ap (λ (w : ℕ × List ℕ × List ℕ × List ℕ × List ℤ). w.0) e, ap (λ (w : ℕ × List ℕ × List ℕ × List ℕ × List ℤ). (w.1, w.2, w.3, w.4)) e)

pub filter-one : OneAnswerIn 4 filter-k.ps filter-k.r filter.Post {A = List ℕ × List ℕ × List ℕ}
    (λ κs s. (s.1.1.1.1.1.1.0.now, s.1.1.1.1.1.1.1.0.now, s.1.1.1.1.1.1.1.1.0.now))
filter-one κs a x y s t p q =
    let e = same p q in
    (ap (λ (w : ℕ × List ℕ × List ℕ × List ℕ). w.0) e, ap (λ (w : ℕ × List ℕ × List ℕ × List ℕ). (w.1, w.2, w.3)) e)

pub filter-levels-one : OneAnswerIn 5 filter-levels-k.ps filter-levels-k.r filter-levels.Post {A = List ℕ × List ℕ × List ℕ}
    (λ κs s. (s.1.1.1.1.1.1.0.now, s.1.1.1.1.1.1.1.0.now, s.1.1.1.1.1.1.1.1.0.now))
filter-levels-one κs a x y s t p q =
    let e = same p q in
    (ap (λ (w : ℕ × List ℕ × List ℕ × List ℕ). w.0) e, ap (λ (w : ℕ × List ℕ × List ℕ × List ℕ). (w.1, w.2, w.3)) e)
