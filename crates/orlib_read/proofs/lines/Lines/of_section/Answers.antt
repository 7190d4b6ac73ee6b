use Rattle.std.proofs.Common.{ap}
use Rattle.orlib_read.specs.Reading.{section_of}
use Rattle.orlib_read.proofs.lines.Lines.of_section.Goals as goal

pub loop-line-init : goal.loop-line-init
loop-line-init c = record { left = ap (section_of c.args.name.now) c.of-lines.ensures.lines; whole = c.of-lines.ensures.whole }
