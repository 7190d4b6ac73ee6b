use Rattle.cell_tables.proofs.Reorders.{entries_tell}
use Rattle.cell_tables.proofs.laws.the_entries_tell_what_is_kept.Goals as goal

pub returns : goal.returns
returns c p q cell shaped fits same reached = entries_tell p q cell shaped fits same reached
