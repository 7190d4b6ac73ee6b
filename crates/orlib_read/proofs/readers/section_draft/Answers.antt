use Rattle.std.proofs.Common.{rules}
use Rattle.orlib_read.specs.Reading.{section_at}
use Rattle.orlib_read.proofs.readers.section_draft.Goals as goal

pub returns-in_default : goal.returns-in_default
unfolding section_at
returns-in_default c = search rules depth 2

pub returns-in_err-draft : goal.returns-in_err-draft
unfolding section_at
returns-in_err-draft c = search rules depth 2

pub returns : goal.returns
unfolding section_at
returns c = search rules depth 2
