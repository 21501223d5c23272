-- What a byte says of a mode, in its two halves: the reply, 0 or 8, and the mode.
use Rattle.std.specs.Prelude.{ℕ}
use Rattle.macroblock.specs.Modes.{y_mode_at, uv_mode_at, b_mode_at}
use Rattle.macroblock.specs.declared.modes.IntraYMode.{IntraYMode}
use Rattle.macroblock.specs.declared.modes.IntraUvMode.{IntraUvMode}
use Rattle.macroblock.specs.declared.modes.IntraBmode.{IntraBmode}

unfoldable pub y_reply : ℕ → ℕ
y_reply byte = (y_mode_at byte).0

unfoldable pub y_mode : ℕ → IntraYMode
y_mode byte = (y_mode_at byte).1

unfoldable pub uv_reply : ℕ → ℕ
uv_reply byte = (uv_mode_at byte).0

unfoldable pub uv_mode : ℕ → IntraUvMode
uv_mode byte = (uv_mode_at byte).1

unfoldable pub b_reply : ℕ → ℕ
b_reply byte = (b_mode_at byte).0

unfoldable pub b_mode : ℕ → IntraBmode
b_mode byte = (b_mode_at byte).1
