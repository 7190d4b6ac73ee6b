use Rattle.std.proofs.Common.{None, Ok, Result}
use Rattle.command_answers.specs.declared.answer.Answer.{Answer}
use Rattle.command_answers.specs.declared.command_fault.CommandFault.{CommandFault}
use Rattle.command_answers.specs.Commands.{Itself, RunsMoves}
use Rattle.command_answers.specs.Moves.{AreMovesAhead}
use Rattle.command_answers.proofs.Passing.{at_fault}
use Rattle.command_answers.proofs.AskedRuns.{asked_failed, asked_on, moved, said_instead}
use Rattle.command_answers.proofs.moves.moves_answer.Goals as goal

pub returns-in_err-found : goal.returns-in_err-found
returns-in_err-found g c =
    let run = c.args.run.now in
    let asks = rw c.in_err-found.was at c.rest_of_run.ensures.asks in
    at_fault (λ (r : Result Answer CommandFault). RunsMoves g.T.Texts.gives run c.args.texts.now r c.rest_of_run.new.texts) c.from_residual.result c.in_err-found.field-0.0 c.from_residual.ensures.1
    (asked_failed g.T.Texts.gives Itself None (λ p book. AreMovesAhead book run.at p) run c.args.texts.now c.rest_of_run.new.texts c.in_err-found.field-0.0 asks)

pub returns : goal.returns
returns g c =
    let run = c.args.run.now in
    let asks = rw c.in_ok-found.was at c.rest_of_run.ensures.asks in
    asked_on g.T.Texts.gives Itself None (λ p book. AreMovesAhead book run.at p) run (Ok c.in_ok-found.found) c.found_moves.result c.rest_of_run.new.texts
    (λ fault is. absurd (cc is)) (λ Is is. said_instead Is c.in_ok-found.found c.found_moves.result c.found_moves.ensures.line is)
    (λ p names log is. moved run.at p names log c.in_ok-found.found c.found_moves.result is c.found_moves.ensures.moves c.found_moves.ensures.line)
    c.args.texts.now asks
