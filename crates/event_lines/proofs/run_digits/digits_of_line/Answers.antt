use Rattle.std.proofs.Common.{◌≡◌, ◌∙◌}
use Rattle.event_lines.proofs.PlanLines.{no_plan_line, no_shop, same_shop, plan_part, no_digits}
use Rattle.event_lines.proofs.run_digits.digits_of_line.Goals as goal
use Rattle.event_lines.proofs.run_digits.digits_of_line.Goals.{then-not-are_digits-via-then-not-are_digits, then-not-are_digits-via-else-not-are_digits+then-not-are_digits-2}

pub returns-in_err-rest : goal.returns-in_err-rest
returns-in_err-rest c = rw c.from_residual.ensures (no_plan_line c.args.line.now c.in_err-rest.ensures)

pub returns-in_err-shop : goal.returns-in_err-shop
returns-in_err-shop c =
    rw c.from_residual-in_err-shop.ensures (λ x is. no_shop c.args.line.now c.in_ok-rest.rest.now c.in_ok-rest.ensures x is c.split_at.result.1.now c.split_at.ensures.back c.in_err-shop.ensures)

pub returns-then-not-are_digits : goal.returns-then-not-are_digits
returns-then-not-are_digits c = λ x is.
    let plan : c.split_at.result.0.now ≡ x.plan = c.split_at.ensures.front ∙ plan_part c.args.line.now c.in_ok-rest.rest.now c.in_ok-rest.ensures x is in
    let shop : c.in_ok-shop.shop.now ≡ x.shop = same_shop c.args.line.now c.in_ok-rest.rest.now c.in_ok-rest.ensures x is c.split_at.result.1.now c.in_ok-shop.shop.now c.split_at.ensures.back c.in_ok-shop.ensures in
    elim c.then-not-are_digits.branch [
      | then-not-are_digits-via-then-not-are_digits w ↦ no_digits c.split_at.result.0.now x.plan plan w.if-not-are_digits.ensures is.1.0.1
      | then-not-are_digits-via-else-not-are_digits+then-not-are_digits-2 w ↦ no_digits c.in_ok-shop.shop.now x.shop shop w.if-not-are_digits-2.ensures is.1.1.1
    ]
