use Rattle.std.proofs.Common.{◌≡◌, ◌++◌, map, drop, string_bytes}
use Rattle.run_gantt.specs.GanttText.{column_sign}
use Rattle.run_gantt.proofs.gantt_text.push_columns.Given as goal

-- what is written, and the columns that are left, are the whole
abbrev pub invariant-loop-column : goal.invariant-loop-column
invariant-loop-column l = string_bytes l.text ++ map column_sign (drop l.column-index l.columns) ≡ string_bytes l.initial.text ++ map column_sign l.columns
