use Rattle.std.proofs.Common.{arith}
use Rattle.bool_decoder.proofs.States.{saves-is, saves-over}
use Rattle.bool_decoder.proofs.BoolDecoder.save.Goals as goal

pub returns : goal.returns
returns c =
    let e = c.ready-e in
    let src = c.args.src.now in
    rw (c.from-2.ensures, c.from-3.ensures, c.from-4.ensures)
    (record {
      is =
          λ z h.
          saves-is src (λ i. omega (arith, c.type_inv.src i)) e.result z (e.ensures.holds z h) (e.ensures.held (omega (arith, h.some))) c.from.result _ (omega arith) (omega arith)
          (omega arith) (omega (arith, c.from.ensures)) (omega arith);
      over =
          λ z h p.
          saves-over src (λ i. omega (arith, c.type_inv.src i)) e.result z (e.ensures.holds z h) (e.ensures.held (omega (arith, h.some))) c.from.result _ (omega arith) (omega arith)
          (omega arith) (omega (arith, c.from.ensures)) (omega arith) p (omega (arith, c.well_formed.0.1));
    })
