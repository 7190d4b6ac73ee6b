use Rattle.std.proofs.Common.{rules}
use Rattle.orlib_read.specs.Reading.{instance_at}
use Rattle.orlib_read.proofs.readers.instance_draft.Goals as goal

pub returns : goal.returns
unfolding instance_at
returns c = search rules depth 2
