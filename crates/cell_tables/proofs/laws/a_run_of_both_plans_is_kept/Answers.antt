use Rattle.cell_tables.proofs.KeptByBoth.{a_run_of_both_plans_is_kept}
use Rattle.cell_tables.proofs.laws.a_run_of_both_plans_is_kept.Goals as goal

pub returns : goal.returns
returns c = a_run_of_both_plans_is_kept
