use Rattle.std.proofs.Common.{refl, mod-eq_of_lt, arith}
use Rattle.bool_decoder.proofs.BoolDecoder.renewed.Goals as goal

pub returns : goal.returns
returns c =
    let s = c.shifts-s in
    record {
      by = s.result;
      few = s.ensures.few;
      shifts = s.ensures.is;
      range = λ h l. mod-eq_of_lt (omega (arith, (s.ensures.is h l).byte));
      value = refl;
      held = λ h. omega arith;
      at = refl;
    }
