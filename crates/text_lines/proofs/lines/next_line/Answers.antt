use Rattle.std.proofs.Common.{◌∙◌, sym}
use Rattle.text_lines.proofs.NextLines.{first_line, only_line}
use Rattle.text_lines.proofs.lines.next_line.Goals as goal

pub returns-in-Some-clause-line : goal.returns-in-Some-clause-line
returns-in-Some-clause-line c =
    rw c.without_return.ensures (first_line c.args.text.now c.in-Some.line.now c.in-Some.rest.now c.in-Some.ensures)

pub returns-in-None-clause-line : goal.returns-in-None-clause-line
returns-in-None-clause-line c =
    rw c.without_return-in-None.ensures (only_line c.args.text.now c.in-None.ensures (sym c.is_empty.ensures ∙ c.if-is_empty.false))
