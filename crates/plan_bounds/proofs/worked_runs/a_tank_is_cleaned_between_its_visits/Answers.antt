use Rattle.std.proofs.Common.{arith, refl}
use Rattle.plan_bounds.proofs.worked_runs.a_tank_is_cleaned_between_its_visits.Goals as goal

pub returns-clause-machine : goal.returns-clause-machine
returns-clause-machine c = record {
  ends = 0;
  -- the rack's own two visits: nothing is before the first one, and nothing behind the second one
  least = (
    record {
      first = 0;
      enters = 0;
      last = 0;
      leaves = 2;
      apart = λ one same. omega (arith, same);
      first_visit = record { within = omega arith; here = refl };
      last_visit = record { within = omega arith; here = refl };
      sum = refl;
    },
    λ y is. omega arith,
  );
  sum = refl;
}
