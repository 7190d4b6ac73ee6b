use Rattle.std.proofs.Common.{sym, subst}
use Rattle.plan_decide.specs.Decisions.{IsKept, IsBest}
use Rattle.plan_decide.proofs.Deciders.{found_best, found_kept, all_cyclic}
use Rattle.plan_decide.proofs.deciding.decided_by.Goals as goal

pub returns-in-Kept-clause-decided : goal.returns-in-Kept-clause-decided
returns-in-Kept-clause-decided c = λ t aim found. (
    let is = rw c.in-Kept.is at found in
    record { kept = subst (IsKept t aim) (sym c.into_shaped.ensures) (found_kept t aim _ (is.0, is.1)); best = tt; never = tt; cyclic = tt; undecided = tt })

pub returns-in-Best-clause-decided : goal.returns-in-Best-clause-decided
returns-in-Best-clause-decided c = λ t aim found. record {
  kept = tt;
  best = subst (λ p. IsBest t aim p c.in-Best.within) (sym c.into_shaped-in-Best.ensures) (found_best t aim c.in-Best.kept c.in-Best.within (rw c.in-Best.is at found));
  never = tt;
  cyclic = tt;
  undecided = tt;
}

pub returns-in-Cyclic-clause-decided : goal.returns-in-Cyclic-clause-decided
returns-in-Cyclic-clause-decided c = λ t aim found. record { kept = tt; best = tt; never = tt; cyclic = all_cyclic t aim (rw c.in-Cyclic.is at found); undecided = tt }
