-- Each promise of `macroblock` admits one answer only. What is promised of an answer about a byte is its reading, `y_answer` and
-- its two sisters; no two answers read the same.
-- Assumes nothing.
use mathlib.Core.Path.{refl, sym, ◌∙◌}
use Rattle.lists.proofs.Answer.{OneAnswer, same}
use Rattle.macroblock.specs.Modes.{y_answer, uv_answer, b_answer}
use Rattle.macroblock.proofs.Refusals.{one_answer}
use Rattle.macroblock.proofs.filter.Rule.outer_kind.Reads as outer-kind
use Rattle.macroblock.proofs.filter.Rule.outer_kind.Kinds as outer-kind-k
use Rattle.macroblock.proofs.filter.Rule.inner_kind.Reads as inner-kind
use Rattle.macroblock.proofs.filter.Rule.inner_kind.Kinds as inner-kind-k
use Rattle.macroblock.proofs.neighbors.LumaEdges.absent.Reads as luma-absent
use Rattle.macroblock.proofs.neighbors.LumaEdges.absent.Kinds as luma-absent-k
use Rattle.macroblock.proofs.neighbors.LumaEdges.above.Reads as luma-above
use Rattle.macroblock.proofs.neighbors.LumaEdges.above.Kinds as luma-above-k
use Rattle.macroblock.proofs.neighbors.ChromaEdges.absent.Reads as chroma-absent
use Rattle.macroblock.proofs.neighbors.ChromaEdges.absent.Kinds as chroma-absent-k
use Rattle.macroblock.proofs.neighbors.ChromaEdges.above.Reads as chroma-above
use Rattle.macroblock.proofs.neighbors.ChromaEdges.above.Kinds as chroma-above-k
use Rattle.macroblock.proofs.neighbors.MbNeighbors.absent.Reads as absent
use Rattle.macroblock.proofs.neighbors.MbNeighbors.absent.Kinds as absent-k
use Rattle.macroblock.proofs.reply.numbers.Reads as replies
use Rattle.macroblock.proofs.reply.numbers.Kinds as replies-k
use Rattle.macroblock.proofs.reply.Refusal.number.Reads as number
use Rattle.macroblock.proofs.reply.Refusal.number.Kinds as number-k
use Rattle.macroblock.proofs.modes.U8FromIntraYMode.from.Reads as y-number
use Rattle.macroblock.proofs.modes.U8FromIntraYMode.from.Kinds as y-number-k
use Rattle.macroblock.proofs.modes.U8FromIntraUvMode.from.Reads as uv-number
use Rattle.macroblock.proofs.modes.U8FromIntraUvMode.from.Kinds as uv-number-k
use Rattle.macroblock.proofs.modes.U8FromIntraBmode.from.Reads as b-number
use Rattle.macroblock.proofs.modes.U8FromIntraBmode.from.Kinds as b-number-k
use Rattle.macroblock.proofs.bytes.y_mode.Reads as y-mode
use Rattle.macroblock.proofs.bytes.y_mode.Kinds as y-mode-k
use Rattle.macroblock.proofs.bytes.y_reply.Reads as y-reply
use Rattle.macroblock.proofs.bytes.y_reply.Kinds as y-reply-k
use Rattle.macroblock.proofs.bytes.uv_mode.Reads as uv-mode
use Rattle.macroblock.proofs.bytes.uv_mode.Kinds as uv-mode-k
use Rattle.macroblock.proofs.bytes.uv_reply.Reads as uv-reply
use Rattle.macroblock.proofs.bytes.uv_reply.Kinds as uv-reply-k
use Rattle.macroblock.proofs.bytes.b_mode.Reads as b-mode
use Rattle.macroblock.proofs.bytes.b_mode.Kinds as b-mode-k
use Rattle.macroblock.proofs.bytes.b_reply.Reads as b-reply
use Rattle.macroblock.proofs.bytes.b_reply.Kinds as b-reply-k
use Rattle.macroblock.proofs.bytes.b_modes_known.Reads as b-modes-known
use Rattle.macroblock.proofs.bytes.b_modes_known.Kinds as b-modes-known-k
use Rattle.macroblock.proofs.bytes.all_within.Reads as all-within
use Rattle.macroblock.proofs.bytes.all_within.Kinds as all-within-k
use Rattle.macroblock.proofs.modes.IntraYModeTryFromU8.try_from.Reads as y-mode-of
use Rattle.macroblock.proofs.modes.IntraYModeTryFromU8.try_from.Kinds as y-mode-of-k
use Rattle.macroblock.proofs.modes.IntraUvModeTryFromU8.try_from.Reads as uv-mode-of
use Rattle.macroblock.proofs.modes.IntraUvModeTryFromU8.try_from.Kinds as uv-mode-of-k
use Rattle.macroblock.proofs.modes.IntraBmodeTryFromU8.try_from.Reads as b-mode-of
use Rattle.macroblock.proofs.modes.IntraBmodeTryFromU8.try_from.Kinds as b-mode-of-k

pub luma-absent-one : OneAnswer 0 luma-absent-k.ps luma-absent-k.r luma-absent.Post
luma-absent-one κs a x y s t = same

pub luma-above-one : OneAnswer 0 luma-above-k.ps luma-above-k.r luma-above.Post
luma-above-one κs a x y s t = same

pub chroma-absent-one : OneAnswer 0 chroma-absent-k.ps chroma-absent-k.r chroma-absent.Post
chroma-absent-one κs a x y s t = same

pub chroma-above-one : OneAnswer 0 chroma-above-k.ps chroma-above-k.r chroma-above.Post
chroma-above-one κs a x y s t = same

pub absent-one : OneAnswer 0 absent-k.ps absent-k.r absent.Post
absent-one κs a x y s t = same

pub replies-one : OneAnswer 0 replies-k.ps replies-k.r replies.Post
replies-one κs a x y s t = same

pub number-one : OneAnswer 0 number-k.ps number-k.r number.Post
number-one κs a x y s t = same

pub y-number-one : OneAnswer 0 y-number-k.ps y-number-k.r y-number.Post
y-number-one κs a x y s t = same

pub uv-number-one : OneAnswer 0 uv-number-k.ps uv-number-k.r uv-number.Post
uv-number-one κs a x y s t = same

pub b-number-one : OneAnswer 0 b-number-k.ps b-number-k.r b-number.Post
b-number-one κs a x y s t = same

pub y-mode-one : OneAnswer 0 y-mode-k.ps y-mode-k.r y-mode.Post
y-mode-one κs a x y s t = same

pub y-reply-one : OneAnswer 0 y-reply-k.ps y-reply-k.r y-reply.Post
y-reply-one κs a x y s t = same

pub uv-mode-one : OneAnswer 0 uv-mode-k.ps uv-mode-k.r uv-mode.Post
uv-mode-one κs a x y s t = same

pub uv-reply-one : OneAnswer 0 uv-reply-k.ps uv-reply-k.r uv-reply.Post
uv-reply-one κs a x y s t = same

pub b-mode-one : OneAnswer 0 b-mode-k.ps b-mode-k.r b-mode.Post
b-mode-one κs a x y s t = same

pub b-reply-one : OneAnswer 0 b-reply-k.ps b-reply-k.r b-reply.Post
b-reply-one κs a x y s t = same

pub b-modes-known-one : OneAnswer 0 b-modes-known-k.ps b-modes-known-k.r b-modes-known.Post
b-modes-known-one κs a x y s t = same

pub all-within-one : OneAnswer 1 all-within-k.ps all-within-k.r all-within.Post
all-within-one κs a x y s t = same

pub outer-kind-one : OneAnswer 0 outer-kind-k.ps outer-kind-k.r outer-kind.Post
outer-kind-one κs a x y s t = same

pub inner-kind-one : OneAnswer 0 inner-kind-k.ps inner-kind-k.r inner-kind.Post
inner-kind-one κs a x y s t = same

-- ---- a reading tells its answer
pub y-mode-of-one : OneAnswer 0 y-mode-of-k.ps y-mode-of-k.r y-mode-of.Post
y-mode-of-one κs a x y s t p q = one_answer y_answer (λ w. w.0) (λ w. w.1) (λ _. refl) (λ _. refl) (λ _. refl) x y (p ∙ sym q)

pub uv-mode-of-one : OneAnswer 0 uv-mode-of-k.ps uv-mode-of-k.r uv-mode-of.Post
uv-mode-of-one κs a x y s t p q = one_answer uv_answer (λ w. w.0) (λ w. w.1) (λ _. refl) (λ _. refl) (λ _. refl) x y (p ∙ sym q)

pub b-mode-of-one : OneAnswer 0 b-mode-of-k.ps b-mode-of-k.r b-mode-of.Post
b-mode-of-one κs a x y s t p q = one_answer b_answer (λ w. w.0) (λ w. w.1) (λ _. refl) (λ _. refl) (λ _. refl) x y (p ∙ sym q)
