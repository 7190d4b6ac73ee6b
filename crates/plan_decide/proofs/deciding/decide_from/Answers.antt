use Rattle.std.proofs.Common.{sym, subst}
use Rattle.plan_decide.specs.Pasts.{case_of}
use Rattle.plan_decide.specs.Found.{IsReady, IsFound}
use Rattle.plan_decide.proofs.Deciders.{asked_ready}
use Rattle.plan_decide.proofs.deciding.decide_from.Goals as goal

pub find-found-requires : goal.find-found-requires
find-found-requires g c =
    let held = c.of-setting.ensures.past in
    subst (λ t. IsReady t c.args.aim) (sym held.says) (asked_ready c.args.rest.now.plan held.past c.args.aim c.shaped.ensures.well_shaped (rw c.shaped.ensures.plan at c.if-not-is_in_range.ensures))

pub returns-clause-decided : goal.returns-clause-decided
returns-clause-decided g c =
    let held = c.of-setting.ensures.past in
    record {
      past = held.past;
      is = held.is;
      says = c.decided_by.ensures.decided (case_of c.args.rest.now.plan held.past) c.args.aim (subst (λ t. IsFound t c.args.aim c.in_ok-found.field-0) held.says c.in_ok-found.ensures.found);
    }

pub returns-clause-given : goal.returns-clause-given
returns-clause-given g c = rw c.of-setting.ensures.plan at (c.decided_by.ensures.given c.of-setting.result.plan c.in_ok-found.ensures.given)
