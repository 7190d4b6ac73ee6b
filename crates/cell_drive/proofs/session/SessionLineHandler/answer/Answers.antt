use Rattle.std.proofs.Common.{Bool, Some, subst, sym}
use Rattle.cell_tables.specs.declared.claim.Claim.TheVariants.{Report}
use Rattle.event_lines.specs.declared.requests.Request.TheVariants.{Claim}
use Rattle.cell_drive.specs.{ProtocolText.AsksFor, Session.{AnswersRequest, SessionAnswer, SessionState, session_by}}
use Rattle.cell_drive.proofs.LineAnswers.{of_texts, some_bytes}
use Rattle.cell_drive.proofs.session.SessionLineHandler.answer.Goals as goal

pub returns-then-self : goal.returns-then-self
returns-then-self g c =
    let s = c.self.inside in
    let call = c.answer_request in
    let line = c.in-Some.line.now in
    let request = c.in-Some-request_of.request in
    rw c.in-Some.is (of_texts (AnswersRequest s.protocol s.controller s.log c.args.number request call.new.controller call.new.log) _ call.result _ _
    (λ text so. subst (λ (x : SessionState). SessionAnswer x c.args.number (Some line) text (session_by s.protocol call.new.controller call.new.log)) c.self.view_is
    (so line (some_bytes _ _ c.is_empty.ensures c.if-is_empty.false) (subst (λ (version_2 : Bool). AsksFor version_2 line request) (sym c.if-self.true) c.in-Some-request_of.ensures)))
    call.ensures.answered)

pub returns : goal.returns
returns g c =
    let s = c.self.inside in
    let call = c.answer_request-2 in
    let line = c.in-Some.line.now in
    let request = Claim (Report c.in-Some-report_of.report) in
    rw c.in-Some.is (of_texts (AnswersRequest s.protocol s.controller s.log c.args.number request call.new.controller call.new.log) _ call.result _ _
    (λ text so. subst (λ (x : SessionState). SessionAnswer x c.args.number (Some line) text (session_by s.protocol call.new.controller call.new.log)) c.self.view_is
    (so line (some_bytes _ _ c.is_empty.ensures c.if-is_empty.false) (subst (λ (version_2 : Bool). AsksFor version_2 line request) (sym c.if-self.false) c.in-Some-report_of.ensures)))
    call.ensures.answered)
