use Rattle.std.proofs.Common.{◌≡◌, ◌++◌, string_bytes}
use Rattle.std.specs.Prelude.{flat_map}
use Rattle.std.specs.List.{range_with_len}
use Rattle.run_gantt.specs.GanttText.{row_lines}
use Rattle.run_gantt.proofs.visits.Visits.push_machines.Given as goal

abbrev pub invariant-loop-machine : goal.invariant-loop-machine
invariant-loop-machine l = string_bytes l.text ≡ string_bytes l.initial.text ++ flat_map (row_lines l.names l.scale l.columns l.self) (range_with_len 0 l.machine)
