use Rattle.std.specs.Io.KnownBytes.{Keeps}
use Rattle.cellplan.proofs.uninterrupted.UninterruptedRead.read.Given as goal

abbrev pub invariant-loop : goal.invariant-loop
invariant-loop g l = record {
  kept : Keeps (g.R.Read.remaining l.initial.self.device) (g.R.Read.remaining l.self.device);
}
