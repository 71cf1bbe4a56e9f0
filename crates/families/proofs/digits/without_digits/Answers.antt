-- An octal digit is three bits.
use Rattle.std.proofs.Common.{rules}
use Rattle.families.proofs.Powers.{eight_pow}
use Rattle.families.proofs.digits.without_digits.Goals as goal

pub returns : goal.returns
returns c = let e = eight_pow c.args.digits in search rules
