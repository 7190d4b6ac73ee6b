use Rattle.std.proofs.Common.{◌≡◌, ℕ, ◌≤◌, ◌++◌, List, length, vec_capacity}
use Rattle.text_lines.specs.Lines.{lines_of}
use Rattle.event_lines.specs.LogLines.{LinesParse}
use Rattle.run_log.specs.Audits.{IsReplayed}
use Rattle.run_log.proofs.logged_run.LoggedRun.take_lines.Given as goal

abbrev pub invariant-loop-line : goal.invariant-loop-line
invariant-loop-line g l = record {
  seen : List (List ℕ);
  split : lines_of l.text ≡ seen ++ lines_of l.rest;
  count : l.number ≡ length seen;
  basis : l.self.cell.basis ≡ l.initial.self.cell.basis;
  plan : l.self.cell.plan ≡ l.initial.self.cell.plan;
  parses : LinesParse l.initial.self.cell.plan seen l.self.entries.items;
  replayed : IsReplayed l.initial.self.cell.plan l.self.cell.cell l.self.entries.items;
  few : length l.self.entries.items ≤ length seen;
  room : vec_capacity l.self.entries ≡ vec_capacity l.initial.self.entries;
}

abbrev pub decreases-loop-line : goal.decreases-loop-line
decreases-loop-line g l = length l.rest
