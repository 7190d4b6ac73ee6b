use Rattle.std.proofs.Common.{◌+◌, take, drop, sym, ap, ◌∙◌}
use Rattle.text_lines.specs.Lines.{lines_of}
use Rattle.text_lines.proofs.FirstPlaces.{HasNone-from_last, last-from_search, part-from_search}
use Rattle.text_lines.proofs.EndedLines.{ended-none, ended-part}
use Rattle.text_lines.proofs.lines.ended_part.Goals as goal

pub returns-in-Some : goal.returns-in-Some
returns-in-Some c =
    let text = c.args.text.now in
    let k = c.in-Some.end in
    let last = last-from_search 10 text k c.in-Some.ensures in
    ap lines_of (part-from_search 10 text k c.in-Some.ensures) ∙ ended-part text (take k text) (drop (k + 1) text) last.0 last.1

pub returns-in-None : goal.returns-in-None
returns-in-None c = sym (ended-none c.args.text.now (HasNone-from_last 10 c.args.text.now c.in-None.ensures))
