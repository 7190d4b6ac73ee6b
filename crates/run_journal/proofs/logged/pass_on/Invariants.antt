use Rattle.std.{proofs.Common.{◌-◌, ◌≤◌, length, take}, specs.Io.KnownBytes.Appends}
use Rattle.run_journal.proofs.logged.pass_on.Given as goal

abbrev pub invariant-loop-sent : goal.invariant-loop-sent
invariant-loop-sent g l = record {
  within : l.sent ≤ length l.bytes;
  written : Appends (g.W.Sink.written l.initial.output) (g.W.Sink.written l.output) (take l.sent l.bytes);
}

abbrev pub decreases-loop-sent : goal.decreases-loop-sent
decreases-loop-sent g l = length l.bytes - l.sent
