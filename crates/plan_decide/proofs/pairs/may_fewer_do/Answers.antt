use Rattle.plan_decide.specs.Settings.{case_in}
use Rattle.plan_decide.proofs.Collecting.{both_needed}
use Rattle.plan_decide.proofs.pairs.may_fewer_do.Goals as goal

pub returns : goal.returns
returns g c =
    both_needed (case_in c.args.setting.now) c.args.one c.args.other c.requires.ascending (rw c.in-Kept.is at c.in_ok-ask_both.ensures) (rw c.in-Kept-2.is at c.in_ok-ask_both-2.ensures)
