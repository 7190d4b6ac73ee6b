use Rattle.std.proofs.Common.{Ok, Result}
use Rattle.command_answers.specs.declared.answer.Answer.{Answer}
use Rattle.command_answers.specs.declared.command_fault.CommandFault.{CommandFault}
use Rattle.command_answers.specs.Commands.{Itself, RunsRest}
use Rattle.command_answers.specs.Rests.{IsRestLine, job_asked}
use Rattle.command_answers.proofs.Passing.{at_fault}
use Rattle.command_answers.proofs.AskedRuns.{answered, asked_failed, asked_on, said_instead}
use Rattle.command_answers.proofs.rests.rest_answer.Goals as goal

pub returns-in_err-found : goal.returns-in_err-found
returns-in_err-found g c =
    let run = c.args.run.now in
    let asks = rw (c.in_err-found.was, c.job_asked.ensures) at c.rest_of_run.ensures.asks in
    at_fault (λ (r : Result Answer CommandFault). RunsRest g.T.Texts.gives c.args.wanted run c.args.texts.now r c.rest_of_run.new.texts) c.from_residual.result c.in_err-found.field-0.0 c.from_residual.ensures.1
    (asked_failed g.T.Texts.gives Itself (job_asked c.args.wanted) (λ p book. IsRestLine book c.args.wanted run.at p) run c.args.texts.now c.rest_of_run.new.texts c.in_err-found.field-0.0 asks)

pub returns : goal.returns
returns g c =
    let run = c.args.run.now in
    let asks = rw (c.in_ok-found.was, c.job_asked.ensures) at c.rest_of_run.ensures.asks in
    let judged = rw c.in_ok-found.was at c.rest_of_run.ensures.judged in
    asked_on g.T.Texts.gives Itself (job_asked c.args.wanted) (λ p book. IsRestLine book c.args.wanted run.at p) run (Ok c.in_ok-found.found) c.found_answer.result c.rest_of_run.new.texts
    (λ fault is. absurd (cc is)) (λ Is is. said_instead Is c.in_ok-found.found c.found_answer.result c.found_answer.ensures.line is)
    (λ p names log is. answered run.at p names log c.args.wanted c.in_ok-found.found c.found_answer.result is judged c.found_answer.ensures.answer c.found_answer.ensures.line)
    c.args.texts.now asks
