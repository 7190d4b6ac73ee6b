-- What is judged from the bounds of a whole plan is the verdict on it, and from those of a cell that on the rest of its run.
use Rattle.std.proofs.Common.{ℕ, ◌<◌, ◌≤◌, arith}
use Rattle.shop_base.specs.{Plan.{PlannedShop, jobs, steps, IsWellShaped}, Cell.{Cell, made, IsGone}, Sound.IsSound}
use Rattle.shop_base.specs.{Graph.{leaving, MeetBudgets}, Ahead.MeetBudgetsAhead}
use Rattle.alt_graph.specs.{Bounds.{IsAheadOf, whole}, Times.{rank_of, earliest_of, AreOrdered}}
use Rattle.alt_graph.proofs.WholePlans.{ordered_to, path_by, whole_ahead}
use Rattle.plan_verifier.specs.{declared.verdict.Judged.Judged, declared.verdict.Judged.TheVariants.{Accepted, Refused}}
use Rattle.plan_verifier.specs.{declared.verdict.Why.TheVariants.{Cycle, Late}, CellBounds.rest_bounds}
use Rattle.plan_verifier.specs.{FromBounds.{IsJudgedFrom, IsJudgedWhole}, Rest.AreOrderedAhead}
use Rattle.plan_verifier.specs.RestVerdicts.{IsAcceptedAhead, IsReasonAhead}
use Rattle.plan_verifier.proofs.{Tables.{ahead_of, of_ahead}, Rests.ordered_ahead, GoingOn.leaving_ahead}
use Rattle.plan_verifier.proofs.Acceptable.{leaving_node, acceptable_ahead, chain_few}
use Rattle.plan_verifier.proofs.{Verdicts.{first_late as first_late_rest}, Reasons.{acceptable, first_late}}

pub judged_whole : (p : PlannedShop) → IsWellShaped p → (judged : Judged) → IsJudgedFrom p (whole p) judged → IsJudgedWhole p judged
judged_whole p shaped (Accepted times) (ordered, meets) =
    let is : AreOrdered p times = ordered_to p shaped times ordered in
    let budgets : MeetBudgets p (earliest_of times) = λ j inside. meets j inside (whole_ahead p shaped (leaving p j)) in
    (record { schedule = is.times.schedule; budgets = budgets; ordered = is }, acceptable p times is budgets)
judged_whole p shaped (Refused (Cycle nodes)) cycle = cycle
judged_whole p shaped (Refused (Late job leaves chain times)) (ordered, first, same, path) =
    let is : AreOrdered p times = ordered_to p shaped times ordered in
    let few = chain_few p (whole p) times (leaving p job) chain.items ordered.times (leaving_node p job first.inside) path in
    (rw same (first_late p times is job chain.items first (path_by times (leaving p job) chain.items path p is.times) few), is)

module _ (p : PlannedShop) (c : Cell) (t : ℕ) (shaped : IsWellShaped p) (sound : IsSound p c) where
  -- a job that isn't gone is one whose leaving is ahead
  here_ahead : (j : ℕ) → j < jobs p → (IsGone p c j → ⊥) → IsAheadOf (rest_bounds p c t) (leaving p j)
  here_ahead j inside here = ahead_of p c t sound (leaving p j) inside (leaving_ahead p c j here)

  ahead_here : (j : ℕ) → j < jobs p → IsAheadOf (rest_bounds p c t) (leaving p j) → IsGone p c j → ⊥
  ahead_here j inside ahead gone = (let left : made c j ≤ steps p j = of_ahead p c t sound (leaving p j) inside ahead in omega (arith, left, gone))

  pub judged_accepted : (judged : Judged) → IsJudgedFrom p (rest_bounds p c t) judged → IsAcceptedAhead p c t judged
  judged_accepted (Accepted times) (ordered, meets) =
      let is : AreOrderedAhead p c t times = ordered_ahead p c t shaped sound times ordered in
      let budgets : MeetBudgetsAhead p c (earliest_of times) = λ j inside here. meets j inside (here_ahead j inside here) in
      (is, acceptable_ahead p c t (rank_of times) (earliest_of times) is.schedule.ranks is.greatest budgets, budgets)
  judged_accepted (Refused why) judged = tt

  pub judged_reason : (judged : Judged) → IsJudgedFrom p (rest_bounds p c t) judged → IsReasonAhead p c t judged
  judged_reason (Accepted times) judged = tt
  judged_reason (Refused (Cycle nodes)) cycle = cycle
  judged_reason (Refused (Late job leaves chain times)) (ordered, first, same, path) =
      let is : AreOrderedAhead p c t times = ordered_ahead p c t shaped sound times ordered in
      let late = first_late_rest p c t times is job chain.items first.inside (ahead_here job first.inside first.here) first.past
      (λ i lt here. first.before i lt (here_ahead i (omega (arith, lt, first.inside)) here)) path
      (chain_few p (rest_bounds p c t) times (leaving p job) chain.items ordered.times (leaving_node p job first.inside) path) in
      (rw same late, is, same)
