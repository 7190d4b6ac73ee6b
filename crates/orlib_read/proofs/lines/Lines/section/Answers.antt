use Rattle.std.proofs.Common.{refl}
use Rattle.orlib_read.specs.Cursor.{raw_left, lines_left}
use Rattle.orlib_read.proofs.lines.Lines.section.Goals as goal

pub returns : goal.returns
unfolding lines_left raw_left
returns c = rw c.requires refl
