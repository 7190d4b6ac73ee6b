use Rattle.std.proofs.Common.{◌≡◌, ◌++◌, drop}
use Rattle.orlib_read.specs.Lines.{more_steps}
use Rattle.orlib_read.proofs.document.push_more_steps.Given as goal

abbrev pub invariant-loop-step : goal.invariant-loop-step
invariant-loop-step l = l.text.items ++ more_steps (drop l.step-index l.steps) ≡ l.initial.text.items ++ more_steps l.steps
