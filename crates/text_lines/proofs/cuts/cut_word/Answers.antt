use Rattle.std.proofs.Common.{sym}
use Rattle.text_lines.proofs.FirstPlaces.{HasNone-from_position, IsCutAt-from_position}
use Rattle.text_lines.proofs.cuts.cut_word.Goals as goal

pub returns-in-Some : goal.returns-in-Some
returns-in-Some c = IsCutAt-from_position 32 c.args.line.now c.in-Some.end (sym c.in-Some.ensures.first)

pub returns-in-None : goal.returns-in-None
returns-in-None c = HasNone-from_position 32 c.args.line.now (sym c.in-None.ensures.first)
