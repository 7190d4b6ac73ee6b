use Rattle.cell_tables.proofs.KeptRuns.{a_kept_run_is_one_of_the_other_plan}
use Rattle.cell_tables.proofs.laws.a_kept_run_is_one_of_the_other_plan.Goals as goal

pub returns : goal.returns
returns c = a_kept_run_is_one_of_the_other_plan
