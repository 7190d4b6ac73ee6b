use Rattle.std.proofs.Common.{sym}
use Rattle.text_lines.proofs.FirstPlaces.{HasNone-from_position, IsCutAt-from_position}
use Rattle.event_lines.proofs.words.cut_dot.Goals as goal

pub returns-in-Some : goal.returns-in-Some
returns-in-Some c = IsCutAt-from_position 46 c.args.word.now c.in-Some.place (sym c.in-Some.ensures.first)

pub returns-in-None : goal.returns-in-None
returns-in-None c = HasNone-from_position 46 c.args.word.now (sym c.in-None.ensures.first)
