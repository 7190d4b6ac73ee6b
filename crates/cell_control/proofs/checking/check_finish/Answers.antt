use Rattle.std.proofs.Common.{◌+◌, ◌-◌, refl, subst, rules}
use Rattle.shop_base.specs.{Plan.nominal, Cell.{made, since, IsOn}}
use Rattle.cell_control.proofs.checking.check_finish.Goals as goal

pub returns-clause-possible : goal.returns-clause-possible
returns-clause-possible g c =
    let p = c.args.cell.now.plan in
    let cell = c.args.cell.now.cell in
    let k = made cell c.args.job - 1 in
    record {
      going = (
        since cell c.args.job + nominal p c.args.job k,
        (
          k,
          record {
            on = subst (IsOn p cell c.args.job k) c.if-actual-machine.false c.in-Some.ensures;
            not_ready = c.in_ok-check_job.ensures.in_turn.busy.not_ready;
            is_due = refl;
          },
        ),
      );
      moment = c.in_ok-check_job.ensures.in_turn.moment;
    }

pub returns-then-actual-machine-clause-first : goal.returns-then-actual-machine-clause-first
returns-then-actual-machine-clause-first g c = search rules depth 2
