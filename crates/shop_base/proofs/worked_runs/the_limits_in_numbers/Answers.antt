use Rattle.std.proofs.Common.{rules}
use Rattle.shop_base.proofs.worked_runs.the_limits_in_numbers.Goals as goal

pub returns-clause-release : goal.returns-clause-release
returns-clause-release c = search rules
