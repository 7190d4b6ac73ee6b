-- The moves are those of a controlled run in which no report is early, and none late but for what was overdue.
use Rattle.std.proofs.Common.{◌≡◌, ℕ, inl, inr, List, [], ◌∷◌, ◌++◌, arith, refl, sym, ap, ◌∙◌, subst, append_assoc, append-nil}
use Rattle.std.proofs.lemmas.Bool.{cases_lt}
use Rattle.shop_base.specs.declared.move_order.MoveOrder.{MoveOrder}
use Rattle.shop_base.specs.declared.report.Report.{Report}
use Rattle.shop_base.specs.Plan.{PlannedShop}
use Rattle.shop_base.specs.Cell.{Cell, start}
use Rattle.shop_base.specs.Activity.{GoesOn}
use Rattle.shop_base.specs.Report.{ended, at, CanReport, after_report}
use Rattle.shop_base.specs.Move.{after_move}
use Rattle.shop_base.specs.Run.{Event, Reported, Moved, IsAtRest, ends_in}
use Rattle.shop_base.specs.Controlled.{AreMoves, after_moves, orders_for, step_orders, after_step, IsStep, moved, Leads, done, accepted, refused}
use Rattle.shop_base.specs.Punctual.{EachReport, IsPunctualFrom, IsNotEarly, IsExact}
use Rattle.shop_base.specs.Ahead.{settled}
use Rattle.shop_base.proofs.Appending.{leads_more}
use Rattle.shop_base.proofs.ControlledRuns.{start_at_rest}
use Rattle.shop_base.proofs.Cycles.{ranks_exclude_cycle}
use Rattle.shop_base.proofs.InTime.{reports_sooner, reports_later}
use Rattle.alt_graph.specs.Solved.{HasCycle}
use Rattle.alt_graph.specs.Times.{NodeTimes, AreRanks, rank_of}
use Rattle.plan_moves.specs.NextReports.{IsNextReport}
use Rattle.plan_moves.specs.MovesFrom.{orders_in}
use Rattle.plan_moves.specs.MovesLaw.{TheyAreTheMovesOfARun, ThoseOfAPlanAreOfAnExactRun}
use Rattle.plan_moves.specs.RunsOn.{RunsOn, IsOnTime}

-- the orders of moves, and of what follows them
pub orders_in-moved : (os : List MoveOrder) (es : List Event) → orders_in (moved os ++ es) ≡ os ++ orders_in es
orders_in-moved [] es = refl
orders_in-moved (o ∷ os) es = ap (λ (rest : List MoveOrder). o ∷ rest) (orders_in-moved os es)

orders_in-join : (es fs : List Event) → orders_in (es ++ fs) ≡ orders_in es ++ orders_in fs
orders_in-join [] fs = refl
orders_in-join (Reported r ∷ es) fs = orders_in-join es fs
orders_in-join (Moved o ∷ es) fs = ap (λ (rest : List MoveOrder). o ∷ rest) (orders_in-join es fs)

orders_only : (os : List MoveOrder) → orders_in (moved os) ≡ os
orders_only [] = refl
orders_only (o ∷ os) = ap (λ (rest : List MoveOrder). o ∷ rest) (orders_only os)

-- what each report is, it is by a weaker word
each_so : (p : PlannedShop) (P Q : Cell → Report → Type 0) (c : Cell) (es : List Event) → ((d : Cell) (r : Report) → P d r → Q d r) → EachReport p P c es → EachReport p Q c es
each_so p P Q c [] weaker each = tt
each_so p P Q c (Reported r ∷ es) weaker each = (weaker c r each.0, each_so p P Q (after_report c r) es weaker each.1)
each_so p P Q c (Moved o ∷ es) weaker each = each_so p P Q (after_move p c o.job o.at) es weaker each

next-punctual : (p : PlannedShop) (t : ℕ) (c : Cell) (r : Report) → IsNextReport p t c r → IsPunctualFrom p t c r
next-punctual p t c r next a due going = elim (cases_lt due t) [
  | inl overdue ↦ inl (omega (arith, next.soonest a due going))
  | inr ahead ↦ inr (omega (arith, next.soonest a due going))
]

next-not_early : (p : PlannedShop) (t : ℕ) (c : Cell) (r : Report) → IsNextReport p t c r → IsNotEarly p c r
next-not_early p t c r next = record { due = next.due; going = next.going; later = omega (arith, next.when) }

next-exact : (p : PlannedShop) (c : Cell) (r : Report) → IsNextReport p 0 c r → IsExact p c r
next-exact p c r next =
    let when : next.due ≡ at r = omega (arith, next.when) in
    record { punctual = λ a due going. omega (arith, next.soonest a due going); due = subst (GoesOn p c (ended r)) when next.going }

pub moves_of_a_run-holds : TheyAreTheMovesOfARun
moves_of_a_run-holds p es t moves shaped run are = (
  are.reports,
  moved (orders_for p c t js) ++ are.events,
  are.end,
  settled js are.reports are.events are.end are.settled.settles (rw are.settled.leads at are.leads),
  reports_sooner p (IsPunctualFrom p t) c t js are.events (each_so p (IsNextReport p t) (IsPunctualFrom p t) (after_moves p c t js) are.events (next-punctual p t) next),
  reports_sooner p (IsNotEarly p) c t js are.events (each_so p (IsNextReport p t) (IsNotEarly p) (after_moves p c t js) are.events (next-not_early p t) next),
  are.over,
  are.moves_are ∙ ap (λ (os : List MoveOrder). os ++ orders_in are.events) are.settled.orders_are ∙ sym (orders_in-moved (orders_for p c t js) are.events),
)
  where
    c : Cell
    c = ends_in p es

    js : List ℕ
    js = are.settled.movers

    next : EachReport p (IsNextReport p t) (after_moves p c t js) are.events
    next = rw are.settled.leads at are.next

-- a cell at rest settles by no moves
none_to_settle : (p : PlannedShop) (c : Cell) (t : ℕ) (js : List ℕ) → IsAtRest p c → AreMoves p c t js → js ≡ []
none_to_settle p c t [] rest moves = refl
none_to_settle p c t (j ∷ js) rest moves = absurd (rest j t moves.0 moves.1)

pub exact_run-holds : ThoseOfAPlanAreOfAnExactRun
exact_run-holds p moves shaped are = (
  are.reports,
  are.events,
  are.end,
  rw here at are.leads,
  each_so p (IsNextReport p 0) (IsExact p) (start p) are.events (next-exact p) (rw here at are.next),
  are.over,
  are.moves_are ∙ ap (λ (os : List MoveOrder). os ++ orders_in are.events) (are.settled.orders_are ∙ ap (orders_for p (start p) 0) none),
)
  where
    none : are.settled.movers ≡ []
    none = none_to_settle p (start p) 0 are.settled.movers (start_at_rest p) are.settled.settles.moves

    here : are.rested ≡ start p
    here = are.settled.leads ∙ ap (after_moves p (start p) 0) none

-- ---- while it goes on

pub runs_none : (p : PlannedShop) (t : ℕ) (c : Cell) (before : List MoveOrder) → RunsOn p t c before c before
runs_none p t c before = record { reports = []; events = []; leads = done c; next = tt; moves_are = sym (append-nil before) }

-- moves hold no report
each_moved : (p : PlannedShop) (P : Cell → Report → Type 0) (c : Cell) (os : List MoveOrder) → EachReport p P c (moved os)
each_moved p P c [] = tt
each_moved p P c (o ∷ os) = each_moved p P (after_move p c o.job o.at) os

-- what holds of each report, and of that of one step more, holds of all
each_more : (p : PlannedShop) (P : Cell → Report → Type 0) (c end : Cell) (rs : List Report) (es : List Event) (r : Report) (js : List ℕ) → Leads p c rs es end
    → EachReport p P c es → P end r → EachReport p P c (es ++ Reported r ∷ moved (step_orders p end r js))
each_more p P c end rs es r js (done start) each here = (here, each_moved p P (after_report c r) (step_orders p c r js))
each_more p P c end rs es r js (accepted first q is qs fs last step later) each here = (
  each.0,
  subst (λ gs. EachReport p P (after_report c q) gs) (sym (append_assoc (moved (step_orders p c q is)) fs (Reported r ∷ moved (step_orders p end r js))))
      (reports_sooner p P (after_report c q) (at q) is (fs ++ Reported r ∷ moved (step_orders p end r js))
      (each_more p P (after_step p c q is) end qs fs r js later (reports_later p P (after_report c q) (at q) is fs each.1) here)),
)
each_more p P c end rs es r js (refused first q qs fs last cannot later) each here = each_more p P c end qs es r js later each here

-- one step more
pub runs_more : (p : PlannedShop) (t : ℕ) (from to : Cell) (before moves orders : List MoveOrder) (r : Report) (js : List ℕ) → RunsOn p t from before to moves → IsStep p to r js → IsNextReport p t to r
    → orders ≡ step_orders p to r js → RunsOn p t from before (after_step p to r js) (moves ++ orders)
runs_more p t from to before moves orders r js runs step next same = record {
  reports = runs.reports ++ r ∷ [];
  events = runs.events ++ Reported r ∷ moved (step_orders p to r js);
  leads = leads_more p from to runs.reports runs.events r js runs.leads step;
  next = each_more p (IsNextReport p t) from to runs.reports runs.events r js runs.leads runs.next next;
  moves_are = joined;
}
  where
    joined : moves ++ orders ≡ before ++ orders_in (runs.events ++ Reported r ∷ moved (step_orders p to r js))
    joined = ap (λ (os : List MoveOrder). os ++ orders) runs.moves_are
        ∙ ap (λ (os : List MoveOrder). (before ++ orders_in runs.events) ++ os) (same ∙ sym (orders_only (step_orders p to r js)))
        ∙ append_assoc before (orders_in runs.events) (orders_in (moved (step_orders p to r js)))
        ∙ ap (λ (os : List MoveOrder). before ++ os) (sym (orders_in-join runs.events (Reported r ∷ moved (step_orders p to r js))))

-- the next report is possible where the cell is on time
pub next_possible : (p : PlannedShop) (t : ℕ) (c : Cell) (r : Report) → IsOnTime p t c → IsNextReport p t c r → CanReport p c r
next_possible p t c r soon next = record {
  going = (next.due, next.going);
  moment = record { in_order = omega (arith, next.when, soon (ended r) next.due next.going); in_range = next.range };
}

-- a plan whose nodes have ranks has no cycle
pub ranked_acyclic : (p : PlannedShop) (times : NodeTimes) → AreRanks p times → HasCycle p → ⊥
ranked_acyclic p times ranks (nodes, cycle) = ranks_exclude_cycle p (rank_of times) nodes ranks.rise cycle
