-- The last moment of visits.
use Rattle.std.specs.Prelude.{ℕ, max, List, [], ◌∷◌, Option, None, Some}
use Rattle.run_picture.specs.declared.visit.Cleaned.{Cleaned}
use Rattle.run_picture.specs.declared.visit.Cleaned.TheVariants.{Never, NotYet, By}
use Rattle.run_picture.specs.declared.visit.DrawnVisit.{DrawnVisit}

-- a moment, 0 where it isn't known
abbrev pub moment_or_none : Option ℕ → ℕ
moment_or_none None = 0
moment_or_none (Some t) = t

-- the end of a cleaning, 0 where it isn't known
abbrev pub clean_end_or_none : Cleaned → ℕ
clean_end_or_none Never = 0
clean_end_or_none NotYet = 0
clean_end_or_none (By end) = end

-- the greatest moment of a visit
abbrev pub last_of_visit : DrawnVisit → ℕ
last_of_visit visit = max visit.enter (max (moment_or_none visit.finish) (max (moment_or_none visit.leave) (clean_end_or_none visit.cleaned)))

-- the greatest moment that visits give, 0 where they record none
abbrev pub last_of : List DrawnVisit → ℕ
last_of [] = 0
last_of (visit ∷ visits) = max (last_of_visit visit) (last_of visits)
