use Rattle.std.proofs.Common.{◌+◌, List, ℕ, Option, subst}
use Rattle.byte_streams.specs.Lent.{WroteOneTo}
use Rattle.byte_streams.proofs.Streamed.{last_some}
use Rattle.byte_streams.proofs.streaming.answer_last.Goals as goal

pub returns : goal.returns
returns g c =
    last_some _ _ _ _ _ _ _ _ (λ none_held. let is_empty = c.is_empty.ensures.1 none_held in let is_full = c.if-is_empty.false in cc)
    (subst (λ (line : Option (List ℕ)). WroteOneTo g.W.Sink c.answer.result c.args.writer.now c.answer.new.writer (λ text. g.H.LineHandler.answers c.args.handler.now (c.args.input.now.lines + 1) line text c.answer.new.self))
    c.line_held.ensures.line c.answer.ensures)
