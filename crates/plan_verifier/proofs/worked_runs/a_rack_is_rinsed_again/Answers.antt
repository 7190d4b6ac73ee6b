use Rattle.std.proofs.Common.{ℕ, ◌<◌, ◌≤◌, [], ◌∷◌, leb, refl, arith}
use Rattle.shop_base.specs.{Cell.start, Graph.{node, leaving, Path, MeetBudgets}}
use Rattle.shop_base.proofs.CellTests.{all_below_decides, leb_decides}
use Rattle.shop_base.proofs.GraphTests.{arc_decides, budgets_decide}
use Rattle.shop_base.proofs.AheadTests.{deadlines_hold}
use Rattle.plan_verifier.specs.VisitedAgain.{rinsed_by, rinsed_moments, rinsed_ranks, rinsed_path, one_dipped}
use Rattle.plan_verifier.proofs.{Acceptable.{acyclic, within_budget, acceptable_ahead}, PathsAhead.along_greatest}
use Rattle.plan_verifier.proofs.VisitedAgain.{rises, none_longer, path_again, greatest_again, none_longer_along, none_longer_ahead, path_ahead, first_held, second_held}
use Rattle.plan_verifier.proofs.worked_runs.a_rack_is_rinsed_again.Goals as goal

meets : MeetBudgets (rinsed_by 21) rinsed_moments
meets = (budgets_decide (rinsed_by 21) rinsed_moments).0 refl

all_left : (j : ℕ) → j < 2 → rinsed_moments (leaving (rinsed_by 21) j) ≤ 21
all_left = (all_below_decides (λ j. leb (rinsed_moments (leaving (rinsed_by 21) j)) 21) (λ j. rinsed_moments (leaving (rinsed_by 21) j) ≤ 21)
    (λ j. leb_decides (rinsed_moments (leaving (rinsed_by 21) j)) 21) 2).0 refl

pub returns-clause-own_arc : goal.returns-clause-own_arc
returns-clause-own_arc c = (arc_decides (rinsed_by 21) (node 0 1) (node 0 2) 2).0 refl

pub returns-clause-order_arc : goal.returns-clause-order_arc
returns-clause-order_arc c = (arc_decides (rinsed_by 21) (node 0 1) (node 0 2) 6).0 refl

pub returns-clause-acceptable : goal.returns-clause-acceptable
returns-clause-acceptable c = record {
  acyclic = λ nodes cycle. acyclic (rinsed_by 21) rinsed_ranks (rises 21) (nodes, cycle);
  budgets = λ j inside. within_budget (rinsed_by 21) (Path (rinsed_by 21)) rinsed_moments (none_longer 21) j (meets j inside);
}

pub returns-clause-longest : goal.returns-clause-longest
returns-clause-longest c = record { size = 21; path = path_again 21; greatest = greatest_again 21 }

pub returns-clause-makespan : goal.returns-clause-makespan
returns-clause-makespan c = record {
  bound = λ j nodes k inside path. omega (arith, none_longer 21 nodes (leaving (rinsed_by 21) j) k path, all_left j inside);
  reached = (0, omega arith, rinsed_path, path_again 21);
}

pub returns-clause-deadlines : goal.returns-clause-deadlines
returns-clause-deadlines c = deadlines_hold (rinsed_by 21) (start (rinsed_by 21)) rinsed_moments refl refl refl

pub returns-clause-late : goal.returns-clause-late
returns-clause-late c = record {
  acyclic = λ nodes cycle. acyclic (rinsed_by 20) rinsed_ranks (rises 20) (nodes, cycle);
  job = omega arith;
  before = λ i less. absurd (omega (arith, less));
  greatest = greatest_again 20;
  past = omega arith;
  path = path_again 20;
  evidence = record { few = omega arith; path = (leaving (rinsed_by 20) 0, path_again 20); greatest = none_longer_along 20 };
}

pub returns-clause-first_held : goal.returns-clause-first_held
returns-clause-first_held c = first_held

pub returns-clause-second_held : goal.returns-clause-second_held
returns-clause-second_held c = second_held

pub returns-clause-acceptable_ahead : goal.returns-clause-acceptable_ahead
returns-clause-acceptable_ahead c = acceptable_ahead (rinsed_by 21) one_dipped 13 rinsed_ranks rinsed_moments (rises 21) none_longer_ahead (λ j inside here. meets j inside)

pub returns-clause-longest_ahead : goal.returns-clause-longest_ahead
returns-clause-longest_ahead c = record {
  reached = (node 0 2 ∷ node 0 3 ∷ [], path_ahead);
  longest = λ nodes k path. none_longer_ahead nodes (leaving (rinsed_by 21) 0) k path;
}

pub returns-clause-chain_ahead : goal.returns-clause-chain_ahead
returns-clause-chain_ahead c = record {
  few = omega arith;
  path = (leaving (rinsed_by 21) 0, path_ahead);
  greatest = along_greatest (rinsed_by 21) one_dipped 13 (node 0 2 ∷ node 0 3 ∷ []) (leaving (rinsed_by 21) 0) 21 path_ahead
      (λ k path. none_longer_ahead (node 0 2 ∷ node 0 3 ∷ []) (leaving (rinsed_by 21) 0) k path);
}
