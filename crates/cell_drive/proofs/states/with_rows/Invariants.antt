use Rattle.std.proofs.Common.{◌≡◌, ◌≤◌, ◌+◌, ◌-◌}
use Rattle.cell_drive.specs.{States.{count_of, with_those}, StateRows.{row, row_count, with_rows}}
use Rattle.cell_drive.proofs.states.with_rows.Given as goal

abbrev pub invariant-loop-number : goal.invariant-loop-number
invariant-loop-number g l = record {
  found : with_those l.at (row l.cell.plan l.cell.cell l.rows) l.found l.number (row_count l.cell.plan l.rows - l.number) ≡ with_rows l.cell.plan l.cell.cell l.at l.rows l.fn.before;
  few : count_of l.found ≤ count_of l.fn.before + l.number;
}
