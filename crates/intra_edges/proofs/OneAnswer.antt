-- Each promise of `intra_edges` admits one answer only. Assumes nothing.
use Prim.Native.Nat.{ℕ}
use Rattle.std.proofs.Common.{Fits, w64}
use Rattle.lists.proofs.Answer.{OneAnswer, same}
use Rattle.intra_edges.proofs.pixel_or.Reads as pixel-or
use Rattle.intra_edges.proofs.pixel_or.Kinds as pixel-or-k
use Rattle.intra_edges.proofs.edge_or.Reads as edge-or
use Rattle.intra_edges.proofs.edge_or.Kinds as edge-or-k
use Rattle.intra_edges.proofs.predict_y16x16_dc.Reads as y16x16-dc
use Rattle.intra_edges.proofs.predict_y16x16_dc.Kinds as y16x16-dc-k
use Rattle.intra_edges.proofs.predict_y16x16_v.Reads as y16x16-v
use Rattle.intra_edges.proofs.predict_y16x16_v.Kinds as y16x16-v-k
use Rattle.intra_edges.proofs.predict_y16x16_h.Reads as y16x16-h
use Rattle.intra_edges.proofs.predict_y16x16_h.Kinds as y16x16-h-k
use Rattle.intra_edges.proofs.predict_y16x16_tm.Reads as y16x16-tm
use Rattle.intra_edges.proofs.predict_y16x16_tm.Kinds as y16x16-tm-k
use Rattle.intra_edges.proofs.predict_uv8x8_dc.Reads as uv8x8-dc
use Rattle.intra_edges.proofs.predict_uv8x8_dc.Kinds as uv8x8-dc-k
use Rattle.intra_edges.proofs.predict_uv8x8_v.Reads as uv8x8-v
use Rattle.intra_edges.proofs.predict_uv8x8_v.Kinds as uv8x8-v-k
use Rattle.intra_edges.proofs.predict_uv8x8_h.Reads as uv8x8-h
use Rattle.intra_edges.proofs.predict_uv8x8_h.Kinds as uv8x8-h-k
use Rattle.intra_edges.proofs.predict_uv8x8_tm.Reads as uv8x8-tm
use Rattle.intra_edges.proofs.predict_uv8x8_tm.Kinds as uv8x8-tm-k
use Rattle.intra_edges.proofs.predict_b4x4_dc.Reads as b4x4-dc
use Rattle.intra_edges.proofs.predict_b4x4_dc.Kinds as b4x4-dc-k
use Rattle.intra_edges.proofs.predict_b4x4_tm.Reads as b4x4-tm
use Rattle.intra_edges.proofs.predict_b4x4_tm.Kinds as b4x4-tm-k

pub pixel-or-one : OneAnswer 0 pixel-or-k.ps pixel-or-k.r pixel-or.Post
pixel-or-one κs a x y s t = same

-- of each length that an array may have
pub edge-or-one : (n : ℕ) (fits : Fits w64 n) → OneAnswer 1 (edge-or-k.ps n fits) (edge-or-k.r n fits) (edge-or.Post n fits)
edge-or-one n fits κs a x y s t = same

pub y16x16-dc-one : OneAnswer 0 y16x16-dc-k.ps y16x16-dc-k.r y16x16-dc.Post
y16x16-dc-one κs a x y s t = same

pub y16x16-v-one : OneAnswer 0 y16x16-v-k.ps y16x16-v-k.r y16x16-v.Post
y16x16-v-one κs a x y s t = same

pub y16x16-h-one : OneAnswer 0 y16x16-h-k.ps y16x16-h-k.r y16x16-h.Post
y16x16-h-one κs a x y s t = same

pub y16x16-tm-one : OneAnswer 0 y16x16-tm-k.ps y16x16-tm-k.r y16x16-tm.Post
y16x16-tm-one κs a x y s t = same

pub uv8x8-dc-one : OneAnswer 0 uv8x8-dc-k.ps uv8x8-dc-k.r uv8x8-dc.Post
uv8x8-dc-one κs a x y s t = same

pub uv8x8-v-one : OneAnswer 0 uv8x8-v-k.ps uv8x8-v-k.r uv8x8-v.Post
uv8x8-v-one κs a x y s t = same

pub uv8x8-h-one : OneAnswer 0 uv8x8-h-k.ps uv8x8-h-k.r uv8x8-h.Post
uv8x8-h-one κs a x y s t = same

pub uv8x8-tm-one : OneAnswer 0 uv8x8-tm-k.ps uv8x8-tm-k.r uv8x8-tm.Post
uv8x8-tm-one κs a x y s t = same

pub b4x4-dc-one : OneAnswer 0 b4x4-dc-k.ps b4x4-dc-k.r b4x4-dc.Post
b4x4-dc-one κs a x y s t = same

pub b4x4-tm-one : OneAnswer 0 b4x4-tm-k.ps b4x4-tm-k.r b4x4-tm.Post
b4x4-tm-one κs a x y s t = same
