use Rattle.std.proofs.Common.{◌+◌, ◌<◌, ◌≡◌, arith}
use Rattle.tokens.specs.Tokens.{row_of, class_of}
use Rattle.tokens.proofs.Positions.{zero-on, last, one_on, ended, finished}
use Rattle.tokens.proofs.block.decode_block.Goals as goal
use Rattle.tokens.proofs.block.decode_block.Goals.{then-is_one+else-i-eq15+then-is_one-2, else-is_one}

pub returns-then-i-eq15 : goal.returns-then-i-eq15
returns-then-i-eq15 c =
    record { is = λ c₀ h. last c.args.src.now c.args.probs.now c.args.base c.args.at c.args.zeros c.args.first c.args.from _ c₀ c.loop-i.i c.loop-i.row _ c.loop-i.some c.loop-i.e c.ready-f.result c.loop-i-test.true c.ready-f.ensures c.is_one.result c.is_one.ensures (c.loop-i.invariant.1 c₀ h) c.after_one.result _ c.coefficient-size.result c.if-is_one.true c.after_one.ensures c.coefficient-size.ensures (omega (arith, c.if-i-eq15.true)) }

pub returns-else-is_one-2 : goal.returns-else-is_one-2
returns-else-is_one-2 c =
    let l : c.loop-i.i + 1 < 16 = omega (arith, c.if-i-eq15.false, c.loop-i-test.true) in
    let ro : c.args.base + c.band.result + c.class_row.result ≡ row_of c.args.base (c.loop-i.i + 1) (class_of c.coefficient-size.result.0) = omega (arith, c.band.ensures.is l, c.class_row.ensures.0) in
    record { is = λ c₀ h. ended c.args.src.now c.args.probs.now c.args.base c.args.at c.args.zeros c.args.first c.args.from _ c₀ c.loop-i.i c.loop-i.row _ c.loop-i.some c.loop-i.e c.ready-f.result c.loop-i-test.true c.ready-f.ensures c.is_one.result c.is_one.ensures (c.loop-i.invariant.1 c₀ h) c.after_one.result _ c.coefficient-size.result c.if-is_one.true c.after_one.ensures c.coefficient-size.ensures (c.args.base + c.band.result + c.class_row.result) ro l c.is_one-then-is_one.result c.is_one-then-is_one.ensures c.after_zero.result c.if-is_one-2.false c.after_zero.ensures }

pub loop-i-preserved : goal.loop-i-preserved
loop-i-preserved c =
    elim c.if-is_one.branch [
      | then-is_one+else-i-eq15+then-is_one-2 w ↦
          let l : c.loop-i.i + 1 < 16 = omega (arith, w.if-i-eq15.false, c.loop-i-test.true) in
          let ro : c.args.base + w.band.result + w.class_row.result ≡ row_of c.args.base (c.loop-i.i + 1) (class_of w.coefficient-size.result.0) = omega (arith, w.band.ensures.is l, w.class_row.ensures.0) in
          rw (w.row-is, w.out-is, w.some-is, w.e-is) (
            omega (arith, w.band.ensures.most, w.class_row.ensures.1, c.requires.0),
            λ c₀ h. one_on c.args.src.now c.args.probs.now c.args.base c.args.at c.args.zeros c.args.first c.args.from _ c₀ c.loop-i.i c.loop-i.row _ c.loop-i.some c.loop-i.e c.ready-f.result c.loop-i-test.true c.ready-f.ensures c.is_one.result c.is_one.ensures (c.loop-i.invariant.1 c₀ h) w.after_one.result _ w.coefficient-size.result w.if-is_one.true w.after_one.ensures w.coefficient-size.ensures (c.args.base + w.band.result + w.class_row.result) ro l w.is_one-then-is_one.result w.is_one-then-is_one.ensures w.after_one-e.result w.if-is_one-2.true w.after_one-e.ensures,
          )
      | else-is_one w ↦
          rw (w.row-is, w.out-is, w.some-is, w.e-is) (
            omega (arith, w.band-else-is_one.ensures.most, c.requires.0),
            λ c₀ h. zero-on c.args.src.now c.args.probs.now c.args.base c.args.at c.args.zeros c.args.first c.args.from _ c₀ c.loop-i.i c.loop-i.row _ c.loop-i.some c.loop-i.e c.ready-f.result c.loop-i-test.true c.ready-f.ensures c.is_one.result c.is_one.ensures (c.loop-i.invariant.1 c₀ h) w.after_zero-e.result w.band-else-is_one.result w.if-is_one.false w.after_zero-e.ensures w.band-else-is_one.ensures,
          )
    ]

pub returns : goal.returns
returns c = record { is = λ c₀ h. finished c.args.src.now c.args.probs.now c.args.base c.args.at c.args.zeros c.args.first c.args.from _ c₀ c.loop-i.i c.loop-i.row _ c.loop-i.some c.loop-i.e c.loop-i-test.false (c.loop-i.invariant.1 c₀ h) }
