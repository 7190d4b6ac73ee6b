use Rattle.std.proofs.Common.{◌≡◌, inl, inr, subst, arith}
use Rattle.std.proofs.lemmas.Bool.{cases_lt}
use Rattle.shop_base.proofs.InShop.{cleaned_in_shop}
use Rattle.cell_tables.specs.Readings.{IsCleanedAfter}
use Rattle.run_pruning.proofs.Walks.{option_apart, cleaned_found}
use Rattle.run_pruning.proofs.finding.is_cleaned_after.Goals as goal

pub loop-machine-preserved : goal.loop-machine-preserved
loop-machine-preserved g c = λ m less after. elim (cases_lt m c.loop-machine.machine) [
  | inl before ↦ c.loop-machine.invariant m before after
  | inr past ↦ (let here : m ≡ c.loop-machine.machine = omega (arith, past, less) in
      option_apart c.cleaned_after.result c.args.job c.eq.result c.eq.ensures c.if-eq.false
      (cleaned_found c.args.cell.now.plan c.args.cell.now.cell c.loop-machine.machine c.args.job c.cleaned_after.result c.cleaned_after.ensures
      (subst (λ x. IsCleanedAfter c.args.cell.now.plan c.args.cell.now.cell x c.args.job) here after)))
]

pub returns : goal.returns
returns g c = λ m after.
    c.loop-machine.invariant m
    (omega (arith, cleaned_in_shop c.args.cell.now.plan c.args.cell.now.cell m after.from c.shaped-plan.ensures.sound after.is_cleaned, c.machine_count-machine-end.ensures.count, c.loop-machine-test.false)) after
