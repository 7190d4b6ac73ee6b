use Rattle.std.proofs.Common.{◌++◌, ap, sym, subst, ◌∙◌, List, ℕ}
use Rattle.byte_streams.specs.Lent.{WroteTo}
use Rattle.event_lines.specs.AnswerLines.{unfinished_line}
use Rattle.cell_drive.proofs.Closing.{closing_unfinished}
use Rattle.cell_drive.proofs.replies.put_closing.Goals as goal

pub returns-else-left-eq0-clause-wrote : goal.returns-else-left-eq0-clause-wrote
returns-else-left-eq0-clause-wrote g c =
    let left = c.reports_left-left.ensures.left in
    let line = ap unfinished_line left ∙ sym (closing_unfinished c.args.controller.now.planned c.args.controller.now.cell (λ none. c.if-left-eq0.false (left ∙ none))) in
    subst (λ (text : List ℕ). WroteTo g.W.Sink c.put_behind.result c.args.writer.now c.put_behind.new.writer (c.args.prefix.now ++ text))
    (c.bytes.ensures ∙ c.unfinished_line.ensures ∙ line) c.put_behind.ensures.wrote
