use Rattle.run_state.proofs.OneForm.{same_words}
use Rattle.run_state.proofs.laws.lines_are_of_version_2.Goals as goal

pub returns : goal.returns
returns c = λ t standing under_way. same_words t standing under_way
