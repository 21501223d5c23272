-- `dequant::scale_all` meets its contract. Assumes nothing.
use mathlib.Core.Path.{◌≡◌}
use borrow.Author.Rules.{rules}
use Rattle.whole.proofs.Held.{R16}
use Rattle.mb_factors.specs.Factors.{of_factors}
use Rattle.dequant.proofs.Blocks.{all_blocks}
use Rattle.dequant.proofs.scale_all.Goals as goal

pub returns : goal.returns
returns c =
    let f = c.args.f in
    let y1-dc : R16 f.y1_dc ≡ f.y1_dc = search rules in
    let y1-ac : R16 f.y1_ac ≡ f.y1_ac = search rules in
    let y2-dc : R16 f.y2_dc ≡ f.y2_dc = search rules in
    let y2-ac : R16 f.y2_ac ≡ f.y2_ac = search rules in
    let uv-dc : R16 f.uv_dc ≡ f.uv_dc = search rules in
    let uv-ac : R16 f.uv_ac ≡ f.uv_ac = search rules in
    all_blocks (of_factors f) c.args.coeffs.now _ _ _ c.requires
    (rw (y2-dc, y2-ac) at c.scale_blocks.ensures)
    (rw (y1-dc, y1-ac) at c.scale_blocks-2.ensures)
    (rw (uv-dc, uv-ac) at c.scale_blocks-3.ensures)
