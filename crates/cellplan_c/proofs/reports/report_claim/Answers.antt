use Rattle.std.proofs.Common.{◌≡◌, None, Some, inl, inr, refl, sym, ap, ◌∙◌, arith}
use Rattle.std.proofs.lemmas.Bool.{cases_eq}
use Rattle.std.specs.Prelude.{is_some}
use Rattle.cellplan_c.proofs.Found.{of_three, of_none, unwritten}
use Rattle.cellplan_c.proofs.reports.report_claim.Goals as goal

pub returns-in_default : goal.returns-in_default
returns-in_default c =
    let no_report : c.args.claim ≡ None = c.in_default.is in
    record {
      reported = record {
        full = λ some. some;
        no_kind = (λ _. refl, λ nine. no_report);
        no_cell = rw no_report tt;
        reported = of_none _ c.args.cell.now.slot.held c.args.cell.now.slot.held _ no_report;
        unchanged = λ _. refl;
        never_wrong = λ kind. absurd (kind refl);
        not_late = λ _. refl;
        no_detail = λ _. refl;
      };
      orders = unwritten _ _ _ _ (λ good. omega (arith, good));
    }

pub returns-in_default-take : goal.returns-in_default-take
returns-in_default-take c =
    let report : c.args.claim ≡ Some c.in-Some.claim = c.in-Some.is in
    let none = c.in_default-take.ensures.lent in
    let emptied = c.in_default-take.ensures.emptied in
    record {
      reported = record {
        full = rw none (λ some. absurd (cc some));
        no_kind = (λ other. absurd (cc (other, report)), λ nine. absurd (omega (arith, nine)));
        no_cell = rw report (λ _. refl, λ eight. none);
        reported = rw none tt;
        unchanged = λ _. emptied ∙ sym none;
        never_wrong = λ _. rw emptied tt;
        not_late = λ _. refl;
        no_detail = λ _. refl;
      };
      orders = unwritten _ _ _ _ (λ good. omega (arith, good));
    }

pub returns-clause-reported : goal.returns-clause-reported
returns-clause-reported c =
    let held : c.args.cell.now.slot.held ≡ Some c.deref_mut.result.now = rw c.deref_mut.ensures.value c.in-Some-take.ensures.lent in
    let after = c.put_back.ensures.held in
    let report : c.args.claim ≡ Some c.in-Some.claim = c.in-Some.is in
    let answered = c.report_to-status.ensures in
    record {
      full = λ some. ap is_some after;
      no_kind = (λ other. absurd (cc (other, report)), λ nine. absurd (omega (arith, nine, answered.numbers (λ good. omega (arith, nine, good)))));
      no_cell = rw report (λ other. absurd (cc (other, held)), λ eight. absurd (omega (arith, eight, answered.numbers (λ good. omega (arith, eight, good)))));
      reported = of_three _ _ _ _ _ _ _ held after report answered.reported;
      unchanged = λ bad. after ∙ ap Some (answered.unchanged bad) ∙ sym held;
      never_wrong = λ kind. rw after answered.never_wrong;
      not_late = answered.not_late;
      no_detail = λ small. elim (cases_eq c.report_to-status.result 0) [
        | inl good ↦ answered.no_detail good
        | inr bad ↦ absurd (omega (arith, small, answered.numbers bad))
      ];
    }
