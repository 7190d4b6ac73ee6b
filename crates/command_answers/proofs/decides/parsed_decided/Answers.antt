use Rattle.std.proofs.Common.{◌≡◌, ℕ, List, Option, None, inl, inr, refl, subst, sym}
use Rattle.shop_base.specs.Plan.{PlannedShop}
use Rattle.shop_base.specs.ShapeFault.{IsFirstShapeFault}
use Rattle.command_answers.specs.Commands.{DecidesPlan, IfFit}
use Rattle.command_answers.proofs.decides.parsed_decided.Goals as goal

pub returns-in_ok-unfit_answer-in-Err : goal.returns-in_ok-unfit_answer-in-Err
returns-in_ok-unfit_answer-in-Err g c = rw (← c.run.view_is, c.in-Some.is) (inr (
  record {
    fault = c.in-Err.fault;
    first = subst (λ (with : PlannedShop). IsFirstShapeFault with c.in-Err.fault) c.in_ok-with_orders-in-Some.ensures c.in-Err.ensures.first_fault;
    line = c.in_ok-unfit_answer-in-Err.ensures;
  },
  refl,
))

pub returns-in-Ok-shaped : goal.returns-in-Ok-shaped
returns-in-Ok-shaped g c =
    let none : c.args.run.now.log ≡ None = rw (← c.run.view_is, c.in-None.is) refl in
    let decided = c.fit_decided-in-Ok-shaped in
    subst (λ (log : Option (List ℕ)). IfFit g.T.Texts.gives log c.args.parsed (DecidesPlan g.T.Texts.gives c.args.aim c.args.run.now) c.args.texts.now decided.result decided.new.texts) (sym none)
    (inl (rw (← c.in_ok-serial-in-None.ensures) c.in-Ok-shaped.ensures.shaped.1, rw (← c.in_ok-serial-in-None.ensures, ← c.in-Ok-shaped.ensures.shaped.0) decided.ensures))

pub returns-in_ok-bad_numbers_answer-in-Err-shaped : goal.returns-in_ok-bad_numbers_answer-in-Err-shaped
returns-in_ok-bad_numbers_answer-in-Err-shaped g c = rw (← c.run.view_is, c.in-None.is) (inr (
  record {
    fault = c.in-Err-shaped.fault;
    first = subst (λ (serial : PlannedShop). IsFirstShapeFault serial c.in-Err-shaped.fault) c.in_ok-serial-in-None.ensures c.in-Err-shaped.ensures.first_fault;
    line = c.in_ok-bad_numbers_answer-in-Err-shaped.ensures;
  },
  refl,
))
