use Rattle.std.proofs.Common.{◌+◌, refl, arith}
use Rattle.bool_decoder.proofs.Load.{loads-four, loads-zeros}
use Rattle.bool_decoder.proofs.BoolDecoder.more.Goals as goal

pub returns-then-self-src : goal.returns-then-self-src
returns-then-self-src c =
    let f = c.four_from in
    loads-four c.args.src.now c.args.self c.requires f.result f.ensures c.if-self-src.true

pub returns-then-self-src-lt8 : goal.returns-then-self-src-lt8
returns-then-self-src-lt8 c =
    loads-zeros c.args.src.now c.args.self c.requires c.if-self-src.false (c.args.self.at + 4) (λ l. refl)
    (λ l. absurd (omega (arith, c.if-self-src-lt8.true, c.if-self-src.false)))

pub returns : goal.returns
returns c =
    loads-zeros c.args.src.now c.args.self c.requires c.if-self-src.false c.args.self.at
    (λ l. absurd (omega (arith, c.if-self-src-lt8.false, c.if-self-src.false))) (λ l. refl)
