-- `residue::plane::block_lies` meets its contract. Assumes nothing.
use native.Mathlib.Omega.{arith}
use Rattle.residue.proofs.Geometry.{refused, accepted, rows_fit, rows_pass}
use Rattle.residue.proofs.plane.block_lies.Goals as goal

pub returns-then-stride-lt4 : goal.returns-then-stride-lt4
returns-then-stride-lt4 c = refused _ _ _ _ (λ p q. omega arith)

pub returns-then-stride-sub_col : goal.returns-then-stride-sub_col
returns-then-stride-sub_col c = refused _ _ _ _ (λ p q. omega arith)

pub returns-then-n-end : goal.returns-then-n-end
returns-then-n-end c = refused _ _ _ _ (λ p q. omega arith)

pub returns-then-rows-lt3 : goal.returns-then-rows-lt3
returns-then-rows-lt3 c = refused _ _ _ _ (λ p q. rows_pass _ _ _ _ p (omega arith) q)

pub returns-then-rows-sub_row : goal.returns-then-rows-sub_row
returns-then-rows-sub_row c = refused _ _ _ _ (λ p q. rows_pass _ _ _ _ p (omega arith) q)

pub returns : goal.returns
returns c = accepted _ _ _ _ (omega arith) (rows_fit _ _ _ _ (omega arith) (omega arith) (omega arith))
