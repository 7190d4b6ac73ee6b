use Rattle.std.proofs.Common.{◌≡◌, ◌≤◌, ◌++◌, length, take, refl, sym, subst, rules}
use Rattle.run_journal.specs.LogFiles.{IsLeft}
use Rattle.cell_tests.proofs.Parts.{part_left}
use Rattle.cell_tests.proofs.tests.memory_log.MemoryLogLogFile.append.Goals as goal

pub returns-clause-crash : goal.returns-clause-crash
returns-clause-crash c left may =
    let file = take c.self.inside.len c.self.inside.most.items in
    let all : c.extend_from_slice.new.self.items ≡ file ++ take c.min-count.result c.args.bytes.now = search rules in
    let seen : c.args.self.now.seen ≡ file = search rules in
    let behind : length file ≤ c.self.inside.len = search rules in
    subst (λ f. IsLeft (length f) (f ++ c.args.bytes.now) left) (sym seen) (part_left file c.args.bytes.now c.extend_from_slice.new.self.items left c.min-count.result c.self.inside.len all behind (may.unsynced refl))
