-- Each promise of `bool_decoder` admits one answer only: outright where it is an equation, and for a step of the decoder one bool,
-- where its decoder holds a Coder. Assumes nothing.
use Rattle.std.proofs.Common.{◌≡◌, ℕ, Bool, List, sym, ◌∙◌}
use Rattle.lists.proofs.Answer.{OneAnswer, same}
use Rattle.bool_decoder.specs.BoolCoder.{Coder}
use Rattle.bool_decoder.specs.Held.{Holds, IsOne, Takes}
use Rattle.bool_decoder.specs.declared.BoolDecoder.{BoolDecoder}
use Rattle.bool_decoder.proofs.state.BoolState.begin.Reads as begin
use Rattle.bool_decoder.proofs.state.BoolState.begin.Kinds as begin-k
use Rattle.bool_decoder.proofs.state.BoolState.stands.Reads as stands
use Rattle.bool_decoder.proofs.state.BoolState.stands.Kinds as stands-k

pub begin-one : OneAnswer 1 begin-k.ps begin-k.r begin.Post
begin-one κs a x y s t = same

pub stands_one : OneAnswer 1 stands-k.ps stands-k.r stands.Post
stands_one κs a x y s t = same

module _ (src : List ℕ) (p : ℕ) (d : BoolDecoder) (c : Coder) (h : Holds src d c) where
  pub bool-one : (x y : Bool) → IsOne p d x → IsOne p d y → x ≡ y
  bool-one x y i j = i.is src c h ∙ sym (j.is src c h)

  pub taken-one : (x y : Bool × BoolDecoder) → Takes p d x → Takes p d y → x.0 ≡ y.0
  taken-one x y i j = i.bit src c h ∙ sym (j.bit src c h)
