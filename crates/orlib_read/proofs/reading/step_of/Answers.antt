use Rattle.std.proofs.Common.{rules}
use Rattle.orlib_read.specs.Reading.{step_at}
use Rattle.orlib_read.proofs.reading.step_of.Goals as goal

pub returns-in_default-number_of : goal.returns-in_default-number_of
unfolding step_at
returns-in_default-number_of c = search rules depth 2
