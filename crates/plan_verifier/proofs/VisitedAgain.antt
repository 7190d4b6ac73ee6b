-- The rack that is rinsed again: its longest paths, in the plan and ahead of a cell, and what the cleanings of its tank hold up.
use Rattle.std.proofs.Common.{ℕ, ◌≤◌, List, [], ◌∷◌, not, ◌||◌, leb, None, arith, refl, subst, inl, inr}
use Rattle.std.proofs.lemmas.Bool.{leb-true, le-leb}
use Rattle.shop_base.specs.declared.node.Node.{Node}
use Rattle.shop_base.specs.{Cell.{job_in, made}, Movers.due_of_job, Activity.Cleaning}
use Rattle.shop_base.specs.Graph.{node, leaving, Path, begins, follows, MomentsFit, RanksRise, IsNode}
use Rattle.shop_base.specs.Ahead.{next_node, IsAhead, MomentsFitAhead, PathAhead, now, held, onward}
use Rattle.shop_base.specs.Examples.{on_for}
use Rattle.shop_base.proofs.CellTests.{going_decides}
use Rattle.shop_base.proofs.GraphTests.{arc_decides, path_along, moments_fit, path_within, ranks_rise, each_node_at, passes_at}
use Rattle.shop_base.proofs.AheadTests.{holds_decides, ahead_fit}
use Rattle.alt_graph.proofs.Paths.{end_same}
use Rattle.plan_verifier.specs.declared.node_bound.Hold.TheVariants.{Arrived, Worked}
use Rattle.plan_verifier.specs.declared.node_bound.NodeBound.{NodeBound}
use Rattle.plan_verifier.specs.{Accepted.IsGreatest, CellBounds.cleaned_at, Held.IsBoundOf, JobHolds.{IsBoundBy, job_turn}}
use Rattle.plan_verifier.specs.VisitedAgain.{rinsed_by, rinsed_moments, rinsed_ranks, rinsed_path, one_out, one_dipped, by_tank}
use Rattle.plan_verifier.proofs.Holding.{hold_arrived, hold_worked, bound_is, cleaning_bound, first_bound}

module _ (b : ℕ) where
  fits : MomentsFit (rinsed_by b) rinsed_moments
  fits = moments_fit (rinsed_by b) rinsed_moments refl refl

  pub rises : RanksRise (rinsed_by b) rinsed_ranks
  rises = ranks_rise (rinsed_by b) rinsed_ranks refl

  pub none_longer : (nodes : List Node) (v : Node) (n : ℕ) → Path (rinsed_by b) nodes v n → n ≤ rinsed_moments v
  none_longer nodes v n path = path_within (rinsed_by b) rinsed_moments nodes v n fits path

  -- the path goes over the longer one of the two arcs from the first rinse to the second
  pub path_again : Path (rinsed_by b) rinsed_path (leaving (rinsed_by b) 0) 21
  path_again =
      path_along (rinsed_by b) (node 1 0 ∷ node 1 1 ∷ node 0 0 ∷ node 0 1 ∷ node 0 2 ∷ []) 18 (node 0 2) (node 0 3 ∷ [])
      (follows (node 1 0 ∷ node 1 1 ∷ node 0 0 ∷ node 0 1 ∷ []) (node 0 1) (node 0 2) 12 6
      (path_along (rinsed_by b) (node 1 0 ∷ []) 0 (node 1 0) (node 1 1 ∷ node 0 0 ∷ node 0 1 ∷ []) (begins 1 (omega arith)) refl)
      ((arc_decides (rinsed_by b) (node 0 1) (node 0 2) 6).0 refl))
      refl

  pub greatest_again : IsGreatest (rinsed_by b) (leaving (rinsed_by b) 0) 21
  greatest_again = record { reached = (rinsed_path, path_again); longest = λ nodes k path. none_longer nodes (leaving (rinsed_by b) 0) k path }

  -- so is every path along its nodes
  pub none_longer_along : (v : Node) (n : ℕ) → Path (rinsed_by b) rinsed_path v n → n ≤ 21
  none_longer_along v n path =
      subst (λ (w : Node). n ≤ rinsed_moments w) (end_same (rinsed_by b) rinsed_path (leaving (rinsed_by b) 0) v 21 n path_again path) (none_longer rinsed_path v n path)

-- ---- ahead of the cell in which the first rack is in the bath, from moment 13 on

fits_ahead : MomentsFitAhead (rinsed_by 21) one_dipped 13 rinsed_moments
fits_ahead = ahead_fit (rinsed_by 21) one_dipped 13 rinsed_moments refl refl refl

-- only the first rack's second rinse and its leaving are ahead
ahead_later : (v : Node) → IsNode (rinsed_by 21) v → IsAhead one_dipped v → 13 ≤ rinsed_moments v
ahead_later v is ahead =
    let here : made one_dipped v.job ≤ v.place = ahead in
    let each = each_node_at (rinsed_by 21) (λ w. not (leb (made one_dipped w.job) w.place) || leb 13 (rinsed_moments w)) v refl is.job is.place in
    leb-true 13 (rinsed_moments v) (passes_at (leb (made one_dipped v.job) v.place) (leb 13 (rinsed_moments v)) each (le-leb (made one_dipped v.job) v.place here))

pub none_longer_ahead : (nodes : List Node) (v : Node) (n : ℕ) → PathAhead (rinsed_by 21) one_dipped 13 nodes v n → n ≤ rinsed_moments v
none_longer_ahead _ _ _ (now v is ahead) = ahead_later v is ahead
none_longer_ahead _ _ _ (held a due v going holds) = fits_ahead.activities a due v going holds
none_longer_ahead _ _ _ (onward nodes u v n d path arc) = omega (arith, none_longer_ahead nodes u n path, (fits 21).arcs u v d arc)

pub path_ahead : PathAhead (rinsed_by 21) one_dipped 13 (node 0 2 ∷ node 0 3 ∷ []) (leaving (rinsed_by 21) 0) 21
path_ahead = onward (node 0 2 ∷ []) (node 0 2) (node 0 3) 18 3
    (held (Cleaning 0) 18 (node 0 2) ((going_decides (rinsed_by 21) one_dipped (Cleaning 0)).0 refl) ((holds_decides (rinsed_by 21) one_dipped (Cleaning 0) (node 0 2)).0 refl))
    ((arc_decides (rinsed_by 21) (node 0 2) (node 0 3) 3).0 refl)

-- ---- what the cleanings of the tank hold up

-- the first rack has arrived, and its first rinse is the next
abbrev arrived_bound : NodeBound
arrived_bound = record { moment = 4; holds = Arrived 0; overdue = None }

by_arrived : IsBoundBy (rinsed_by 21) one_out 4 (next_node one_out 0) (due_of_job (rinsed_by 21) 0 (job_in one_out 0)) (job_turn one_out 0) arrived_bound
by_arrived = (let hold = hold_arrived (rinsed_by 21) one_out 0 refl refl in
    bound_is (rinsed_by 21) one_out 4 (next_node one_out 0) (Arrived 0) (due_of_job (rinsed_by 21) 0 (job_in one_out 0)) (job_turn one_out 0) arrived_bound hold.holds hold.turn_is refl)

first_by : IsBoundBy (rinsed_by 21) one_out 4 (node 0 0) (cleaned_at (rinsed_by 21) one_out (node 0 0)) 1 (by_tank 3)
first_by = cleaning_bound (rinsed_by 21) one_out 4 (node 0 0) 0 3 6 (by_tank 3) (record { within = omega arith; here = refl }) refl refl refl refl

pub first_held : IsBoundOf (rinsed_by 21) one_out 4 (node 0 0) (by_tank 3)
first_held = first_bound (rinsed_by 21) one_out 4 (node 0 0) arrived_bound refl by_arrived (by_tank 3) (by_tank 3) first_by (inr (refl, inl (omega arith)))

-- the rack is in the bath, and its second rinse is the next
abbrev dipped_bound : NodeBound
dipped_bound = record { moment = 14; holds = Worked 0 1 12 2; overdue = None }

by_dipped : IsBoundBy (rinsed_by 21) one_dipped 13 (next_node one_dipped 0) (due_of_job (rinsed_by 21) 0 (job_in one_dipped 0)) (job_turn one_dipped 0) dipped_bound
by_dipped = (let hold = hold_worked (rinsed_by 21) one_dipped 0 (job_in one_dipped 0) (on_for 1 2) refl (omega arith) (omega arith) refl refl in
    bound_is (rinsed_by 21) one_dipped 13 (next_node one_dipped 0) (Worked 0 1 12 2) (due_of_job (rinsed_by 21) 0 (job_in one_dipped 0)) (job_turn one_dipped 0) dipped_bound hold.holds hold.turn_is refl)

second_by : IsBoundBy (rinsed_by 21) one_dipped 13 (node 0 2) (cleaned_at (rinsed_by 21) one_dipped (node 0 2)) 1 (by_tank 12)
second_by = cleaning_bound (rinsed_by 21) one_dipped 13 (node 0 2) 0 12 6 (by_tank 12) (record { within = omega arith; here = refl }) refl refl refl refl

pub second_held : IsBoundOf (rinsed_by 21) one_dipped 13 (node 0 2) (by_tank 12)
second_held = first_bound (rinsed_by 21) one_dipped 13 (node 0 2) dipped_bound refl by_dipped (by_tank 12) (by_tank 12) second_by (inr (refl, inl (omega arith)))
