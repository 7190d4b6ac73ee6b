use Rattle.run_journal.proofs.Fronts.{if_some-map, durable_leaves}
use Rattle.run_journal.proofs.logged.keep.Goals as goal

pub returns-then-is_empty-clause-crash : goal.returns-then-is_empty-clause-crash
returns-then-is_empty-clause-crash g c =
    if_some-map (g.D.LogFile.seen c.args.log.now) (λ file durable. durable_leaves (g.D.LogFile.crash_states c.args.log.now) file c.args.bytes.now durable) c.requires.durable
