-- `quantiser::signed32` meets its contract. Assumes nothing.
use mir.Facts.{to_z-of_z}
use Rattle.std.proofs.lemmas.Result.{OkIff-decides}
use Rattle.std.proofs.lemmas.Bool.Decides.{same_from_decides}
use Rattle.quantiser.specs.Factors.{signed32}
use Rattle.quantiser.proofs.Sum.{signed32-fits, fits-signed32}
use Rattle.quantiser.proofs.signed32.Goals as goal

pub returns : goal.returns
returns c =
    let z = c.args.z in
    let h = OkIff-decides _ _ _ (rw (to_z-of_z c.ranges.z) at c.try_from.ensures) in
    rw c.is_ok.ensures.value (same_from_decides _ (signed32 z) h (signed32-fits z, fits-signed32 z))
