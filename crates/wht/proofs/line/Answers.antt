-- `wht::line` meets its contract: each sum is followed with its bound. Assumes nothing.
use Rattle.whole.proofs.Held.{R32}
use Rattle.whole.proofs.Chain.{Is, known, held, plus, minus, fits32}
use Rattle.rfc6386.specs.Wht.{wht_pass}
use Rattle.wht.specs.Pass.{line_of}
use Rattle.wht.proofs.line.Goals as goal

module _ (c : goal.Start) where
  k0 : Is 131072 (R32 c.args.i0) c.args.i0
  k0 = held (known _ c.requires.s0) tt

  k1 : Is 131072 (R32 c.args.i1) c.args.i1
  k1 = held (known _ c.requires.s1) tt

  k2 : Is 131072 (R32 c.args.i2) c.args.i2
  k2 = held (known _ c.requires.s2) tt

  k3 : Is 131072 (R32 c.args.i3) c.args.i3
  k3 = held (known _ c.requires.s3) tt

pub overflow_add-result : goal.overflow_add-result
overflow_add-result c = fits32 (plus (held (plus (k0 c) (k3 c)) tt) (held (plus (k1 c) (k2 c)) tt)) tt

pub overflow_add-result-2 : goal.overflow_add-result-2
overflow_add-result-2 c = fits32 (plus (held (minus (k1 c) (k2 c)) tt) (held (minus (k0 c) (k3 c)) tt)) tt

pub overflow_sub-result : goal.overflow_sub-result
overflow_sub-result c = fits32 (minus (held (plus (k0 c) (k3 c)) tt) (held (plus (k1 c) (k2 c)) tt)) tt

pub overflow_sub-result-2 : goal.overflow_sub-result-2
overflow_sub-result-2 c = fits32 (minus (held (minus (k0 c) (k3 c)) tt) (held (minus (k1 c) (k2 c)) tt)) tt

pub returns : goal.returns
unfolding line_of wht_pass
returns c =
    let a = held (plus (k0 c) (k3 c)) tt in
    let b = held (plus (k1 c) (k2 c)) tt in
    let d = held (minus (k0 c) (k3 c)) tt in
    let e = held (minus (k1 c) (k2 c)) tt in
    cc ((held (plus a b) tt).is, (held (plus e d) tt).is, (held (minus a b) tt).is, (held (minus d e) tt).is)

pub overflow_add-a : goal.overflow_add-a
overflow_add-a c = fits32 (plus (k0 c) (k3 c)) tt

pub overflow_add-b : goal.overflow_add-b
overflow_add-b c = fits32 (plus (k1 c) (k2 c)) tt

pub overflow_sub-c : goal.overflow_sub-c
overflow_sub-c c = fits32 (minus (k1 c) (k2 c)) tt

pub overflow_sub-d : goal.overflow_sub-d
overflow_sub-d c = fits32 (minus (k0 c) (k3 c)) tt
