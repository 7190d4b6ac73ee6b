use Rattle.std.proofs.Common.{sym, ◌∙◌, rules}
use Rattle.plan_seek.specs.Orders.{serial_order}
use Rattle.plan_seek.proofs.Asking.{same_task}
use Rattle.plan_seek.proofs.SeriallyLate.{serial_reason}
use Rattle.plan_seek.proofs.serial.verify_serial.Goals as goal

pub returns-in-Ok-Refused : goal.returns-in-Ok-Refused
returns-in-Ok-Refused c = λ task is.
    (let judged = rw c.in-Ok-Refused.field-0-is at c.in-Ok-Refused.ensures.refused in (
      c.not_found.ensures.given_back
          ∙ same_task c.of_shaped.result task c.in-Ok-Refused.shaped.plan.order (serial_order task.shop) (sym c.of_shaped.ensures ∙ judged.0 ∙ is),
      rw c.not_found.ensures.reason (serial_reason task c.args.shaped c.in-Ok-Refused.field-0-1 c.requires is judged.1),
    ))

pub returns-in-Ok-Accepted : goal.returns-in-Ok-Accepted
returns-in-Ok-Accepted c = search rules depth 2
