use Rattle.std.proofs.Common.{◌<◌, slice_index, ℕ}
use Rattle.run_picture.specs.Steps.{AreMany}
use Rattle.run_picture.proofs.axis.short_step.Given as goal

-- by each step so far there are many ticks
abbrev pub invariant-loop-step : goal.invariant-loop-step
invariant-loop-step l = (k : ℕ) → k < l.step-index → AreMany l.begin l.last (slice_index l.steps k)
