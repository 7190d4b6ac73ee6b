use Rattle.program_laws.proofs.NamedPlans.{no_plan_with_other_digits}
use Rattle.program_laws.proofs.laws.no_plan_with_other_digits_drives.Goals as goal

pub returns : goal.returns
returns g c = no_plan_with_other_digits g.T.Texts.gives
