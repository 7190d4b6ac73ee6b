-- The controller with which a cell begins.
use Rattle.std.specs.Prelude.{◌≡◌}
use Rattle.plan_verifier.specs.declared.verdict.Verdict.TheVariants.{Accepted, Refused}
use Rattle.plan_verifier.specs.Accepted.{IsVerified}
use Rattle.cell_control.specs.Control.{control_at_start, Control}
use Rattle.command_answers.specs.declared.loading.Loaded.{Loaded}
use Rattle.command_answers.specs.declared.loading.Loaded.TheVariants.{NotShaped, Judged}

-- the plan is accepted, and this is its controller before the first report
abbrev pub IsControllerOf : Loaded → Control → Type 0
IsControllerOf (NotShaped fault) control = ⊥
IsControllerOf (Judged (Refused back why)) control = ⊥
IsControllerOf (Judged (Accepted verified)) control = IsVerified verified × (control ≡ control_at_start verified)
