use Rattle.std.proofs.Common.{◌≡◌, ℕ, ◌+◌, ◌-◌, ◌*◌, ◌%◌, leb, arith}
use Rattle.bool_decoder.proofs.Step.{one-is, took, sign-by}
use Rattle.bool_decoder.proofs.BoolDecoder.take.Goals as goal

pub returns : goal.returns
returns c =
    let a = c.args in
    let d = a.self in
    let k = c.split_of-split in
    let n = rw (c.either-2.ensures, c.either.ensures, c.from-big.ensures) at c.renewed.ensures in
    let e₀ : ((d.value + (18446744073709551616 - c.either.result)) % 18446744073709551616 + c.either.result) % 18446744073709551616 ≡ d.value = omega arith in
    let e = rw (c.either.ensures, c.from-big.ensures) at e₀ in
    let w : ℕ = (d.range + (4294967296 - k.result)) % 4294967296 in
    rw c.from-big.ensures
    (record {
      bit = λ src z h. one-is src d z h a.prob k.result k.ensures;
      next =
          λ src z h l.
          took src d z h a.prob k.result k.ensures 7 l c.renewed.result _ (one-is src d z h a.prob k.result k.ensures)
          _ w (omega arith) (omega arith) e (omega arith) n (omega (arith, n.few));
      sign =
          λ src z h l q.
          took src d z h a.prob k.result k.ensures 1 l c.renewed.result _ (one-is src d z h a.prob k.result k.ensures)
          _ w (omega arith) (omega arith) e (omega arith) n
          (sign-by src d z h a.prob k.result k.ensures q (leb (k.result * 72057594037927936 % 18446744073709551616) d.value) _ w d.held d.at c.renewed.result (omega arith) (omega arith) n);
    })
