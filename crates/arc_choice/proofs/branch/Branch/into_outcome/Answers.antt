use Rattle.arc_choice.proofs.branch.Branch.into_outcome.Goals as goal

pub returns : goal.returns
returns c = tt
