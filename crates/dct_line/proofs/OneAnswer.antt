-- Each promise of `dct_line` admits one answer only. Assumes nothing.
use Rattle.lists.proofs.Answer.{OneAnswer, same}
use Rattle.dct_line.proofs.line.Reads as line
use Rattle.dct_line.proofs.line.Kinds as line-k
use Rattle.dct_line.proofs.row.Reads as row
use Rattle.dct_line.proofs.row.Kinds as row-k

pub line-one : OneAnswer 0 line-k.ps line-k.r line.Post
line-one κs a x y s t = same

pub row_one : OneAnswer 0 row-k.ps row-k.r row.Post
row_one κs a x y s t = same
