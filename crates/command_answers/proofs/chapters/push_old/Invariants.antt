use Rattle.std.proofs.Common.{◌≡◌, ◌++◌, drop, map}
use Rattle.log_chapters.specs.declared.parts.Origin.TheVariants.{Was}
use Rattle.command_answers.proofs.chapters.push_old.Given as goal

-- what was added, and what is still to come
abbrev pub invariant-loop-number : goal.invariant-loop-number
invariant-loop-number l = l.origins.items ++ map Was (drop l.number-index l.numbers) ≡ l.initial.origins.items ++ map Was l.numbers
