use Rattle.std.proofs.Common.{sym, subst}
use Rattle.event_lines.specs.RunDigits.{AreSixteen}
use Rattle.run_log.proofs.SixteenDigits.{sixteen}
use Rattle.run_log.proofs.digits.run_digits.Goals as goal

pub returns-clause-hexadecimal : goal.returns-clause-hexadecimal
returns-clause-hexadecimal c = (subst AreSixteen (sym c.first_digits.ensures) (sixteen _), subst AreSixteen (sym c.first_digits-2.ensures) (sixteen _))
