use Rattle.std.proofs.Common.{rules}
use Rattle.run_journal.proofs.logged.LoggedBufferedSink.flush.Goals as goal

pub flush_all-requires : goal.flush_all-requires
flush_all-requires g c = search rules
