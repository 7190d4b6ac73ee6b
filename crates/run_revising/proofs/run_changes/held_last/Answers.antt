use Rattle.std.proofs.Common.{Some, ap, sym, ◌∙◌}
use Rattle.plan_revise.specs.declared.change.Change.{Change}
use Rattle.run_revising.proofs.PartsMade.{last_held}
use Rattle.run_revising.proofs.run_changes.held_last.Goals as goal

pub returns-in-Some-Hold : goal.returns-in-Some-Hold
returns-in-Some-Hold c = last_held c.args.part.now c.in-Some-Hold.machine c.in-Some-Hold.field-0-1 c.requires (sym c.in-Some-Hold.ensures.value ∙ ap (λ (x : Change). Some x) c.in-Some-Hold.field-0-is)
