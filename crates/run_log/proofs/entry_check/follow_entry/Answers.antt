use Rattle.std.proofs.Common.{rules}
use Rattle.run_log.proofs.entry_check.follow_entry.Goals as goal

pub returns-in-Order : goal.returns-in-Order
returns-in-Order g c = search rules

pub make_move-requires-clause-can : goal.make_move-requires-clause-can
make_move-requires-clause-can g c = search rules
