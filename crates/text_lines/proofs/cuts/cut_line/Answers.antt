use Rattle.text_lines.proofs.FirstPlaces.{HasNone-from_search, IsCutAt-from_search}
use Rattle.text_lines.proofs.cuts.cut_line.Goals as goal

pub returns-in-Some-memchr : goal.returns-in-Some-memchr
returns-in-Some-memchr c = IsCutAt-from_search 10 c.args.bytes.now c.in-Some-memchr.end c.in-Some-memchr.ensures

pub returns-in-None : goal.returns-in-None
returns-in-None c = HasNone-from_search 10 c.args.bytes.now c.in-None.ensures
