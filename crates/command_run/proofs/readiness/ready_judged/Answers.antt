use Rattle.std.specs.Prelude.{is_some}
use Rattle.std.proofs.Common.{refl}
use Rattle.plan_verifier.specs.Seen.{judged}
use Rattle.command_run.specs.Logs.{left_if}
use Rattle.command_run.proofs.HeldLogs.{left_held, undriven}
use Rattle.command_run.proofs.readiness.ready_judged.Goals as goal

pub returns-in-Accepted : goal.returns-in-Accepted
returns-in-Accepted g c = rw c.in-Accepted.is c.ready_accepted.ensures

pub returns-in-Refused : goal.returns-in-Refused
returns-in-Refused g c = record {
  ready = tt;
  undriven = λ known before had. record {
    end = left_if (is_some c.args.opened);
    is = (undriven (is_some c.args.opened), rw c.in-Refused.is (c.line_answer.ensures, record { same = refl; is = refl }, refl));
    held = left_held _ _ _ _ _ (judged c.args.verdict) known _ _ _ c.args.opened c.requires.empty had;
  };
}
