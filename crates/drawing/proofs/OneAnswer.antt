-- Each promise of `drawing` admits one answer only. Assumes nothing.
use Rattle.lists.proofs.Answer.{OneAnswer, same}
use Rattle.reconstruct.proofs.OneAnswer.{told-one}
use Rattle.drawing.proofs.draw_with.Reads as draw-with
use Rattle.drawing.proofs.draw_with.Kinds as draw-with-k
use Rattle.drawing.proofs.draw.Reads as draw
use Rattle.drawing.proofs.draw.Kinds as draw-k
use Rattle.drawing.proofs.draw_bytes.Reads as draw-bytes
use Rattle.drawing.proofs.draw_bytes.Kinds as draw-bytes-k

pub draw-with-one : OneAnswer 1 draw-with-k.ps draw-with-k.r draw-with.Post
draw-with-one κs a x y s t p q = told-one x y (same p q)

pub draw-one : OneAnswer 1 draw-k.ps draw-k.r draw.Post
draw-one κs a x y s t p q = told-one x y (same p q)

pub draw-bytes-one : OneAnswer 1 draw-bytes-k.ps draw-bytes-k.r draw-bytes.Post
draw-bytes-one κs a x y s t p q = told-one x y (same p q)
