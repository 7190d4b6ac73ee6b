use Rattle.plan_revise.specs.Refusals.{IsWayFault, IsRerouteFault}
use Rattle.plan_revise.proofs.Written.{reason_more}
use Rattle.plan_revise.proofs.RerouteRefused.{steps_stop}
use Rattle.plan_revise.proofs.draft.Draft.reroute.Goals as goal

pub returns-clause-refused : goal.returns-clause-refused
returns-clause-refused g c =
    reason_more (IsWayFault c.args.run.now c.args.self.now c.args.job c.in_ok-steps.steps.items) (IsRerouteFault c.args.run.now c.args.self.now c.args.job c.args.words.now)
    (steps_stop c.args.run.now c.args.self.now c.args.job c.in_ok-check_can_go_on.ensures.can c.args.words.now c.in_ok-steps.steps.items c.in_ok-steps.ensures.steps) c.send.result c.send.ensures.refused
