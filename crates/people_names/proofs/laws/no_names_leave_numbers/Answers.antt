use Rattle.std.proofs.Common.{refl}
use Rattle.people_names.proofs.laws.no_names_leave_numbers.Goals as goal

pub returns : goal.returns
returns c = λ n. record { job = refl; machine = refl; moment = refl; budget = refl; deadline = refl }
