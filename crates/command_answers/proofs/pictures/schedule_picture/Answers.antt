use Rattle.std.proofs.Common.{None, Ok, Result}
use Rattle.command_answers.specs.declared.pictures.Drawn.{Drawn}
use Rattle.command_answers.specs.declared.command_fault.CommandFault.{CommandFault}
use Rattle.command_answers.specs.Pictures.{DrawsRest, IsLineAlone, IsRestDrawing}
use Rattle.command_answers.proofs.Passing.{at_fault}
use Rattle.command_answers.proofs.AskedRuns.{asked_failed, asked_on, drawn_instead, pictured}
use Rattle.command_answers.proofs.pictures.schedule_picture.Goals as goal

pub returns-in_err-found : goal.returns-in_err-found
returns-in_err-found g c =
    let run = c.args.run.now in
    let asks = rw c.in_err-found.was at c.rest_of_run.ensures.asks in
    at_fault (λ (r : Result Drawn CommandFault). DrawsRest g.T.Texts.gives run c.args.texts.now r c.rest_of_run.new.texts) c.from_residual.result c.in_err-found.field-0.0 c.from_residual.ensures.1
    (asked_failed g.T.Texts.gives IsLineAlone None (λ p book. IsRestDrawing book run.at p) run c.args.texts.now c.rest_of_run.new.texts c.in_err-found.field-0.0 asks)

pub returns : goal.returns
returns g c =
    let run = c.args.run.now in
    let asks = rw c.in_ok-found.was at c.rest_of_run.ensures.asks in
    let judged = rw c.in_ok-found.was at c.rest_of_run.ensures.judged in
    asked_on g.T.Texts.gives IsLineAlone None (λ p book. IsRestDrawing book run.at p) run (Ok c.in_ok-found.found) c.found_drawn.result c.rest_of_run.new.texts
    (λ fault is. absurd (cc is)) (λ Is is. drawn_instead Is c.in_ok-found.found c.found_drawn.result c.found_drawn.ensures.line is)
    (λ p names log is. pictured run.at p names log c.in_ok-found.found c.found_drawn.result is judged c.found_drawn.ensures.drawn c.found_drawn.ensures.line)
    c.args.texts.now asks
