-- `sub_blocks::window::predict` meets its contract. Assumes nothing.
use Rattle.sub_blocks.proofs.window.predict.Goals as goal

pub returns : goal.returns
returns c =
    rw (
      c.predict_b4x4_into.ensures,
      c.top_left_in.ensures,
      c.left_in-left.ensures,
      c.above_in-above.ensures,
    )
