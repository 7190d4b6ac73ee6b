use Rattle.std.proofs.Common.{◌≡◌, ◌++◌, drop}
use Rattle.log_chapters.specs.Chapters.{number_lines}
use Rattle.log_chapters.proofs.writing.push_numbers.Given as goal

-- what was written, and what is still to come
abbrev pub invariant-loop-job : goal.invariant-loop-job
invariant-loop-job l = l.text.items ++ number_lines l.job (drop l.job l.origins) ≡ l.initial.text.items ++ number_lines 0 l.origins
