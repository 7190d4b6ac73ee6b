use Rattle.cellplan_c.proofs.Ending.{no_report, claim_now, claim_called}
use Rattle.cellplan_c.proofs.reports.accept.Goals as goal

pub returns-in_default : goal.returns-in_default
returns-in_default c =
    let v = c.args.controller.now in
    let none = no_report c.args.claim c.in_default.not-Report in
    let answered = c.claim.ensures in
    record {
      possible = answered.possible;
      answered = answered.answered;
      first_reason = answered.first_reason;
      only_reason = answered.only_reason;
      unchanged = answered.unchanged;
      called = claim_called v c.args.claim c.claim.result c.claim.new.self none answered.answered answered.unchanged;
      never_refused = claim_now v c.args.claim _ none c.shaped-plan.ensures.control.sound answered.possible.1;
    }
