use Rattle.std.proofs.Common.{refl}
use Rattle.cellplan_c.proofs.Ending.{goes_anyway, refused_answer}
use Rattle.cellplan_c.proofs.reports.report_to.Goals as goal

pub returns-in-Ok : goal.returns-in-Ok
returns-in-Ok c =
    let accepted = c.in-Ok.ensures in
    record {
      reported = record {
        possible = (λ good. accepted.possible.0 refl, λ can. refl);
        answered = λ good. accepted.answered;
        reason = λ bad. absurd (bad refl);
        called = accepted.called;
        never_refused = goes_anyway c.args.inner.now.controller c.args.claim _ refl;
      };
      unchanged = λ bad. absurd (bad refl);
      numbers = λ bad. absurd (bad refl);
      not_late = λ bad. absurd (bad refl);
      no_detail = λ good. refl;
      never_wrong = c.is_as_promised.ensures;
    }

pub returns-in-Err-clause-reported : goal.returns-in-Err-clause-reported
returns-in-Err-clause-reported c =
    let refused = c.in-Err.ensures in
    refused_answer c.args.inner.now.controller c.args.claim c.in-Err.fault _ _ _ _ _ (λ ok. absurd (cc ok)) refused.possible refused.first_reason refused.only_reason refused.called refused.never_refused
    c.fault_number.ensures c.fault_detail.ensures
