-- At the start what is ahead is the whole plan: the same moments, paths and controlled runs; so the laws of whole runs are those of what is ahead of the start.
use Rattle.std.proofs.Common.{◌≡◌, ℕ, zero, suc, ◌+◌, ◌<◌, ◌≤◌, ◌↔◌, List, [], ◌∷◌, ◌++◌, Some, None, refl, sym, ap, ◌∙◌, subst, arith, add-one, le_refl}
use Rattle.shop_base.specs.declared.node.Node.{Node}
use Rattle.shop_base.specs.declared.move_order.MoveOrder.{MoveOrder}
use Rattle.shop_base.specs.declared.report.Report.{Report}
use Rattle.shop_base.specs.Plan.{PlannedShop, jobs, steps, release, nominal, IsWellShaped}
use Rattle.shop_base.specs.Cell.{Cell, MachineState, made, since, cleaning, start}
use Rattle.shop_base.specs.Activity.{Activity, Arrival, Operation, Cleaning, IsAwaited, GoesOn}
use Rattle.shop_base.specs.Report.{at, IsNextMoment, after_report}
use Rattle.shop_base.specs.Move.{after_move}
use Rattle.shop_base.specs.Run.{Event, Reported, Moved, AreEvents, after_all, ends_in}
use Rattle.shop_base.specs.Controlled.{IsControlledRun}
use Rattle.shop_base.specs.Punctual.{ArePunctual, AreExact, AreNotEarly}
use Rattle.shop_base.specs.Graph.{MomentsFit, MeetBudgets, IsSchedule, Path, begins, follows, job_arc, node, leaving, IsNode}
use Rattle.shop_base.specs.KeptMoments.{KeepsMoments, KeepsLeaving}
use Rattle.shop_base.specs.ExactLaw.{NoExactRunIsFaster, NoExactMoveIsEarlier, JustInTime}
use Rattle.shop_base.specs.Ahead.{next_node, HoldsUp, MeetBudgetsAhead, IsScheduleAhead, MomentsFitAhead, PathAhead, now, held, onward, GoesOnTo, settled, MoveFrom}
use Rattle.shop_base.specs.AheadLaw.{TheStartIsACaseOfThese}
use Rattle.shop_base.specs.DeadlinesLaw.{OutByTheDeadlines, InTimeToTheDeadlines, EachSuchPlanHasDeadlines}
use Rattle.shop_base.proofs.Visits.{visits_job}
use Rattle.shop_base.proofs.InShop.{outside_in_shop, start_unused}
use Rattle.shop_base.proofs.Cycles.{source_node}
use Rattle.shop_base.proofs.Changes.{IsMoved, after_move-moved}
use Rattle.shop_base.proofs.Keeping.{start-made, start-sound, run-sound}
use Rattle.shop_base.proofs.ControlledRuns.{events_join, after_all_join, start_not_ready, start_at_rest}
use Rattle.shop_base.proofs.InTime.{exact-punctual}
use Rattle.shop_base.proofs.Within.{in_time_from_there-holds, just_in_time_from_there-holds, punctual-from}
use Rattle.shop_base.proofs.LowerBounds.{made-no_earlier, events_split, no_continuation_is_faster-holds}
use Rattle.shop_base.proofs.Deadlines.{no_deadline_is_too_early-holds, in_time_by_deadlines-holds, all_out_by_deadlines-holds}
use Rattle.shop_base.proofs.SomeDeadlines.{deadlines_exist-holds}

-- at the start only arrivals go on, each due at its release
start-holds : (p : PlannedShop) (a : Activity) (due : ℕ) (v : Node) → IsWellShaped p → GoesOn p (start p) a due → HoldsUp p (start p) a v
    → (j : ℕ) × (j < jobs p) × (v ≡ node j 0) × (due ≡ release p j)
start-holds p (Arrival j) due v shaped awaited is =
    let inside : j < jobs p = outside_in_shop p (start p) j (start-sound p shaped) awaited.outside in
    (j, inside, is ∙ ap (node j) awaited.outside, awaited.is_due)
start-holds p (Operation j m) due v shaped (k, worked) is =
    absurd (omega (arith, worked.on.entered, start-made p j (visits_job p j k m worked.on.visits)))
start-holds p (Cleaning m) due v shaped (s, cleaned) is = absurd (none (ap (λ (x : MachineState). x.cleaning) (start_unused p m)))
  where
    none : cleaning (start p) m ≡ None → ⊥
    none clean = let is_cleaned : cleaning (start p) m ≡ Some s = cleaned.is_cleaned in cc

-- and each of them does
start-awaited : (p : PlannedShop) (j : ℕ) → j < jobs p → IsAwaited p (start p) j (release p j)
start-awaited p j inside = record { outside = start-made p j inside; not_ready = start_not_ready p j; is_due = refl }

start-next : (p : PlannedShop) (j : ℕ) → j < jobs p → node j 0 ≡ next_node (start p) j
start-next p j inside = ap (node j) (sym (start-made p j inside))

start-moments : (p : PlannedShop) (kept : Node → ℕ) → IsWellShaped p → MomentsFitAhead p (start p) 0 kept ↔ MomentsFit p kept
start-moments p kept shaped = (
  (λ fit. record {
    releases = λ j inside. fit.activities (Arrival j) (release p j) (node j 0) (start-awaited p j inside) (start-next p j inside);
    arcs = λ u v d arc. fit.arcs u v d (let from : IsNode p u = source_node p u v d arc in omega (arith, start-made p u.job from.job)) arc;
  }),
  (λ fit. record {
    left = λ j inside gone. absurd (omega (arith, start-made p j inside));
    present = λ j inside here. omega arith;
    activities = λ a due v going holds. (let (j, inside, is, is_due) = start-holds p a due v shaped going holds in omega (arith, is_due, ap kept is, fit.releases j inside));
    arcs = λ u v d ahead arc. fit.arcs u v d arc;
  }),
)

start-path : (p : PlannedShop) (nodes : List Node) (v : Node) (n : ℕ) → Path p nodes v n → PathAhead p (start p) 0 nodes v n
start-path p _ _ _ (begins j inside) = held (Arrival j) (release p j) (node j 0) (start-awaited p j inside) (start-next p j inside)
start-path p _ _ _ (follows nodes u v n d path arc) = onward nodes u v n d (start-path p nodes u n path) arc

-- some path leads to each place of a job
path_to : (p : PlannedShop) (j k : ℕ) → j < jobs p → k ≤ steps p j → (nodes : List Node) × (n : ℕ) × Path p nodes (node j k) n
path_to p j zero inside within = (node j 0 ∷ [], release p j, begins j inside)
path_to p j (suc k) inside within =
    let (nodes, n, path) = path_to p j k inside (omega arith) in
    (nodes ++ node j (suc k) ∷ [], n + nominal p j k, rw add-one at (follows nodes (node j k) (node j (k + 1)) n (nominal p j k) path (job_arc j k (omega arith))))

start-no_longer : (p : PlannedShop) (nodes : List Node) (v : Node) (n : ℕ) → IsWellShaped p → PathAhead p (start p) 0 nodes v n → (others : List Node) × (m : ℕ) × (n ≤ m) × Path p others v m
start-no_longer p _ _ _ shaped (now v inside ahead) =
    let (nodes, n, path) = path_to p v.job v.place inside.job inside.place in
    (nodes, n, omega arith, path)
start-no_longer p _ _ _ shaped (held a due v going holds) =
    let (j, inside, is, is_due) = start-holds p a due v shaped going holds in
    (node j 0 ∷ [], release p j, omega (arith, is_due), subst (λ (v : Node). Path p (node j 0 ∷ []) v (release p j)) (sym is) (begins j inside))
start-no_longer p _ _ _ shaped (onward nodes u v n d path arc) =
    let (others, m, more, found) = start-no_longer p nodes u n shaped path in
    (others ++ v ∷ [], m + d, omega arith, follows others u v m d found arc)

start-goes_on : (p : PlannedShop) (t : ℕ) (rs : List Report) (es : List Event) (end : Cell) → GoesOnTo p (start p) t rs es end → IsControlledRun p rs es end
start-goes_on p t _ _ _ (settled [] rs es end settles leads) = leads
start-goes_on p t _ _ _ (settled (j ∷ js) rs es end settles leads) = absurd (start_at_rest p j t settles.moves.0 settles.moves.1)

pub the_start_is_a_case-holds : TheStartIsACaseOfThese
the_start_is_a_case-holds p shaped = record {
  moments = λ kept. start-moments p kept shaped;
  path = start-path p;
  no_longer = λ nodes v n path. start-no_longer p nodes v n shaped path;
  goes_on = λ t rs es end. (
    start-goes_on p t rs es end,
    (λ leads. settled [] rs es end (record { moves = tt; quiescent = start_at_rest p }) leads),
  );
}

-- exact reports aren't early, and moves come from moment 0 on
exact-not_early : (p : PlannedShop) (c : Cell) (es : List Event) → AreExact p c es → AreNotEarly p c es
exact-not_early p c [] exact = tt
exact-not_early p c (Reported r ∷ es) exact = (record { due = at r; going = exact.0.due; later = le_refl (at r) }, exact-not_early p (after_report c r) es exact.1)
exact-not_early p c (Moved o ∷ es) exact = exact-not_early p (after_move p c o.job o.at) es exact

moves_from_zero : (es : List Event) → MoveFrom 0 es
moves_from_zero [] = tt
moves_from_zero (Reported r ∷ es) = moves_from_zero es
moves_from_zero (Moved o ∷ es) = (omega arith, moves_from_zero es)

-- the reports before a move are exact
exact_front : (p : PlannedShop) (c : Cell) (es : List Event) (o : MoveOrder) (rest : List Event) → AreExact p c (es ++ Moved o ∷ rest) → AreExact p c (es ++ Moved o ∷ [])
exact_front p c [] o rest exact = tt
exact_front p c (Reported r ∷ es) o rest exact = (exact.0, exact_front p (after_report c r) es o rest exact.1)
exact_front p c (Moved m ∷ es) o rest exact = exact_front p (after_move p c m.job m.at) es o rest exact

-- so the laws of whole runs are those from the start
start-schedule : (p : PlannedShop) (rank kept : Node → ℕ) → IsSchedule p rank kept → IsScheduleAhead p (start p) 0 rank kept
start-schedule p rank kept schedule = record { shaped = schedule.shaped; ranks = schedule.ranks; moments = (start-moments p kept schedule.shaped).1 schedule.moments }

pub start-keeps_moments : (p : PlannedShop) (rank kept : Node → ℕ) → IsSchedule p rank kept → KeepsMoments p kept (start p)
start-keeps_moments p rank kept schedule = (start-schedule p rank kept schedule).moments

pub from_start : (p : PlannedShop) (rs : List Report) (es : List Event) (end : Cell) → IsControlledRun p rs es end → GoesOnTo p (start p) 0 rs es end
from_start p rs es end leads = settled [] rs es end (record { moves = tt; quiescent = start_at_rest p }) leads

-- moment 0 can be the next moment of the start
at_once : (p : PlannedShop) → IsNextMoment (start p) 0
at_once p = record { in_order = omega arith; in_range = omega arith }

pub controlled-leavings_kept : (p : PlannedShop) (rank kept : Node → ℕ) (rs : List Report) (es : List Event) (end : Cell) → IsSchedule p rank kept
    → IsControlledRun p rs es end → ArePunctual p (start p) es → (j : ℕ) → j < jobs p → KeepsLeaving p kept end j
controlled-leavings_kept p rank kept rs es end schedule run punctual j inside =
    (in_time_from_there-holds p rank kept [] 0 rs es end tt (at_once p) (start-schedule p rank kept schedule) (from_start p rs es end run)
    (punctual-from p 0 (start p) es punctual) j inside).0

pub no_exact_run_is_faster-holds : NoExactRunIsFaster
no_exact_run_is_faster-holds p j nodes n shaped path es run exact gone =
    no_continuation_is_faster-holds p [] 0 j nodes n es shaped tt (start-path p nodes (leaving p j) n path) run (moves_from_zero es) (exact-not_early p (start p) es exact) gone

pub no_exact_move_is_earlier-holds : NoExactMoveIsEarlier
no_exact_move_is_earlier-holds p es rest o shaped run exact nodes n path =
    let (front, back) = events_split p (start p) es (Moved o ∷ rest) run in
    let whole : AreEvents p (start p) (es ++ Moved o ∷ []) = events_join p (start p) es (Moved o ∷ []) front (back.0, tt) in
    let change : IsMoved p (ends_in p es) o.job o.at (after_move p (ends_in p es) o.job o.at) = after_move-moved p (ends_in p es) o.job o.at shaped (run-sound p es shaped front) back.0.0.can in
    let join : after_all p (start p) (es ++ Moved o ∷ []) ≡ after_move p (ends_in p es) o.job o.at = after_all_join p (start p) es (Moved o ∷ []) in
    let found : n ≤ since (after_all p (start p) (es ++ Moved o ∷ [])) o.job =
    made-no_earlier p (start p) 0 (es ++ Moved o ∷ []) nodes (node o.job (made (ends_in p es) o.job)) n shaped (start-sound p shaped) (start-path p nodes (node o.job (made (ends_in p es) o.job)) n path) whole
    (moves_from_zero (es ++ Moved o ∷ [])) (exact-not_early p (start p) (es ++ Moved o ∷ []) (exact_front p (start p) es o rest exact)) (rw join change.made_mine) in
    omega (arith, ap (λ x. since x o.job) join, change.since_mine)

pub just_in_time-holds : JustInTime
just_in_time-holds p rank kept rs es end schedule run exact j nodes path gone =
    just_in_time_from_there-holds p rank kept [] 0 rs es end tt (at_once p) (start-schedule p rank kept schedule) (from_start p rs es end run)
    (punctual-from p 0 (start p) es (exact-punctual p (start p) es exact)) (exact-not_early p (start p) es exact) (moves_from_zero es)
    j nodes (start-path p nodes (leaving p j) (kept (leaving p j)) path) gone

-- the deadlines of a whole plan are those of what is ahead of the start
start-budgets : (p : PlannedShop) (kept : Node → ℕ) → MeetBudgets p kept → MeetBudgetsAhead p (start p) kept
start-budgets p kept budgets j inside there = budgets j inside

pub each_such_plan_has_deadlines-holds : EachSuchPlanHasDeadlines
each_such_plan_has_deadlines-holds p rank early schedule budgets =
    let ahead : IsScheduleAhead p (start p) 0 rank early = start-schedule p rank early schedule in
    let (kept, deadlines) = deadlines_exist-holds p rank early [] schedule.shaped schedule.ranks tt ahead.moments.arcs (start-budgets p early budgets) in
    (kept, deadlines, λ v inside. no_deadline_is_too_early-holds p rank early kept [] 0 tt ahead (start-budgets p early budgets) deadlines v inside (omega (arith, start-made p v.job inside.job)))

pub in_time_to_the_deadlines-holds : InTimeToTheDeadlines
in_time_to_the_deadlines-holds p rank early kept rs es end schedule budgets deadlines run within j inside =
    in_time_by_deadlines-holds p rank early kept [] 0 rs es end tt (at_once p) (start-schedule p rank early schedule) (start-budgets p early budgets) deadlines (from_start p rs es end run) within
    j inside (λ gone. omega (arith, start-made p j inside))

pub out_by_the_deadlines-holds : OutByTheDeadlines
out_by_the_deadlines-holds p rank early kept rs es end schedule budgets deadlines run own ended j inside =
    all_out_by_deadlines-holds p rank early kept [] 0 rs es end tt (at_once p) (start-schedule p rank early schedule) (start-budgets p early budgets) deadlines (from_start p rs es end run) own ended
    j inside (λ gone. omega (arith, start-made p j inside))
