use Rattle.std.proofs.Common.{◌≡◌, ◌++◌, drop}
use Rattle.command_answers.specs.DecisionLines.{never_lines}
use Rattle.command_answers.proofs.decision_lines.push_never_lines.Given as goal

-- what was written, and what is still to come
abbrev pub invariant-loop-several : goal.invariant-loop-several
invariant-loop-several l = l.text.items ++ never_lines l.names (drop l.several-index l.excluded) ≡ l.initial.text.items ++ never_lines l.names l.excluded
