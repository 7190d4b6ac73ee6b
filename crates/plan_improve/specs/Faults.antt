-- Why no plan is given.
use Rattle.std.specs.Prelude.{ℕ, ◌<◌, ◌≤◌}
use Rattle.plan_seek.specs.declared.search.TheConstants.{MAX_ROUNDS}
use Rattle.plan_improve.specs.declared.improve_fault.ImproveFault.{ImproveFault}
use Rattle.plan_improve.specs.declared.improve_fault.ImproveFault.TheVariants.{TooManyRounds, Memory}

-- why no plan is given: more rounds than the most, or else out of memory
abbrev pub IsImproveFault : ℕ → ImproveFault → Type 0
IsImproveFault rounds TooManyRounds = MAX_ROUNDS < rounds
IsImproveFault rounds Memory = rounds ≤ MAX_ROUNDS
