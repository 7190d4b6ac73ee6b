use Rattle.std.specs.Io.KnownBytes.{Keeps}
use Rattle.cellplan.proofs.uninterrupted.UninterruptedWrite.write.Given as goal

abbrev pub invariant-loop : goal.invariant-loop
invariant-loop g l = record {
  kept : Keeps (g.W.Write.contents l.initial.self.device) (g.W.Write.contents l.self.device);
}
