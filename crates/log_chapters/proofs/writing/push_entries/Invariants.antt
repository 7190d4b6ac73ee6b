use Rattle.std.proofs.Common.{◌≡◌, ◌++◌, drop}
use Rattle.event_lines.specs.EventLines.{entry_lines}
use Rattle.log_chapters.proofs.writing.push_entries.Given as goal

-- what was written, and what is still to come
abbrev pub invariant-loop-entry : goal.invariant-loop-entry
invariant-loop-entry l = l.text.items ++ entry_lines (drop l.entry-index l.entries) ≡ l.initial.text.items ++ entry_lines l.entries
