-- The machine's rotation is the arithmetic one.
use Rattle.std.proofs.Common.{◌∙◌}
use Rattle.families.specs.Rotations.{rotated}
use Rattle.families.proofs.rotation.rotated.Goals as goal

pub returns : goal.returns
returns c = c.rotate_left.ensures ∙ rotated c.args.by c.args.x c.requires c.ranges.x.fits
