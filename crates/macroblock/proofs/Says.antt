-- The two halves of an answer about a byte: the mode, or the first one, and the reply's number. Assumes nothing.
use mathlib.Core.Path.{refl}
use Rattle.std.specs.Prelude.{◌≡◌, Result, Ok, Err}
use Rattle.std.specs.Result.{result_unwrap_or}
use Rattle.macroblock.specs.Modes.{y_answer, uv_answer, b_answer}
use Rattle.macroblock.specs.Reply.{reply_of}
use Rattle.macroblock.specs.declared.reply.Refusal.{Refusal}
use Rattle.macroblock.specs.declared.modes.IntraYMode.{IntraYMode}
use Rattle.macroblock.specs.declared.modes.IntraYMode.TheVariants as y
use Rattle.macroblock.specs.declared.modes.IntraUvMode.{IntraUvMode}
use Rattle.macroblock.specs.declared.modes.IntraUvMode.TheVariants as uv
use Rattle.macroblock.specs.declared.modes.IntraBmode.{IntraBmode}
use Rattle.macroblock.specs.declared.modes.IntraBmode.TheVariants as b

pub y-mode : (r : Result IntraYMode Refusal) → result_unwrap_or r y.Dc ≡ (y_answer r).1
y-mode (Ok m) = refl
y-mode (Err e) = refl

pub y-reply : (r : Result IntraYMode Refusal) → reply_of r ≡ (y_answer r).0
y-reply (Ok m) = refl
y-reply (Err e) = refl

pub uv-mode : (r : Result IntraUvMode Refusal) → result_unwrap_or r uv.Dc ≡ (uv_answer r).1
uv-mode (Ok m) = refl
uv-mode (Err e) = refl

pub uv-reply : (r : Result IntraUvMode Refusal) → reply_of r ≡ (uv_answer r).0
uv-reply (Ok m) = refl
uv-reply (Err e) = refl

pub b-mode : (r : Result IntraBmode Refusal) → result_unwrap_or r b.Dc ≡ (b_answer r).1
b-mode (Ok m) = refl
b-mode (Err e) = refl

pub b-reply : (r : Result IntraBmode Refusal) → reply_of r ≡ (b_answer r).0
b-reply (Ok m) = refl
b-reply (Err e) = refl
