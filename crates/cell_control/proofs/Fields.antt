-- What holds of a controller holds where it begins, at the start of a plan or in mid-run, and after each step.
use Rattle.std.proofs.Common.{◌≡◌, ℕ, ◌+◌, ◌-◌, ◌<◌, ◌≤◌, ◌⊎◌, ◌↔◌, inl, inr, List, [], Option, Bool, true, false, refl, sym, ◌∙◌, ap, subst, arith}
use Rattle.std.specs.Prelude.{IsTrue}
use Rattle.shop_base.specs.{declared.move_order.MoveOrder.MoveOrder, declared.node.Node.Node, declared.report.Report.Report}
use Rattle.shop_base.specs.{Plan.PlannedShop, Cell.Cell, Report.{at, IsNextMoment}, Run.IsAtRest, Controlled.{after_moves, after_step}}
use Rattle.shop_base.specs.{Punctual.IsPunctualFrom, ReportsLeft.reports_left, Sound.IsSound, Within.IsWithin}
use Rattle.shop_base.proofs.{Keeping.start-sound, ControlledRuns.{start_at_rest, after_moves-sound, after_step-sound}}
use Rattle.shop_base.proofs.ReportsLeft.{start-reports_left, after_moves-reports_left, after_step-reports_left}
use Rattle.shop_base.proofs.{StartAhead.start-keeps_moments, InTime.{settled-fits, step-still_fits, present_left}}
use Rattle.shop_base.proofs.Within.{IsNoneLate, none_late-after, moves_more, step_more, from-within}
use Rattle.alt_graph.specs.Times.{NodeTimes, rank_of, earliest_of}
use Rattle.alt_graph.proofs.WholePlans.{times_ranks}
use Rattle.plan_verifier.specs.{Rest.AreOrderedAhead, Accepted.{VerifiedPlan, IsVerified, kept_at, rank_in}}
use Rattle.cell_tables.specs.PlannedCell as planned
use Rattle.cell_tables.specs.{PlannedCell.{PlannedCell}, Rests.IsReached}
use Rattle.cell_tables.proofs.Reaching.{start_reached}
use Rattle.cell_control.specs.{declared.ack.Ack.Ack, DueMoments.AreDueMoments, Steps.IsMade, Settled.HasSettled}
use Rattle.cell_control.specs.{Control.{Control, control_at_start, verified_in, IsAnswered, IsKeptFrom, AreMomentsKept, IsControl}, Begun.IsBegun}
use Rattle.cell_control.specs.Fields.{control_of, begun_with, AreFieldsOf}
use Rattle.cell_control.proofs.Reached.{moves_reached, step_reached}

-- the two ways to say that no node ahead is kept to a moment before t
to_none_late : (p : PlannedShop) (c : Cell) (t : ℕ) (kept : Node → ℕ) → IsKeptFrom p c t kept → IsNoneLate p c t kept
to_none_late p c t kept from v left = from v (record { job = left.job; place = left.place }) left.ahead

of_none_late : (p : PlannedShop) (c : Cell) (t : ℕ) (kept : Node → ℕ) → IsNoneLate p c t kept → IsKeptFrom p c t kept
of_none_late p c t kept none v is ahead = none v (record { ahead = ahead; job = is.job; place = is.place })

-- ---- at the start

start_control : (v : VerifiedPlan) → IsVerified v → IsControl (control_at_start v)
start_control v verified = record {
  ranks = times_ranks v.planned v.times verified.ordered.times;
  reached = start_reached v.planned;
  sound = start-sound v.planned verified.schedule.shaped;
  at_rest = start_at_rest v.planned;
  counted = sym (start-reports_left v.planned);
  moments_kept = λ punctual. record { fit = start-keeps_moments v.planned (rank_in v) (kept_at v) verified.schedule; from = λ w is ahead. omega arith };
}

-- a cell at the start, with no orders, is the start of a controller
module _ {P : Type 0} (times_of : P → NodeTimes) (basis : P) (p : PlannedShop) (c : PlannedCell P) (orders : List MoveOrder) (is : c ≡ planned.at_start basis p) (none : orders ≡ []) where
  pub start_is : begun_with c (times_of c.basis) orders 0 ≡ control_at_start (record { planned = p; times = times_of basis })
  start_is =
      ap (λ (x : PlannedCell P). begun_with x (times_of x.basis) orders 0) is
      ∙ ap (λ (os : List MoveOrder). begun_with (planned.at_start basis p) (times_of basis) os 0) none
      ∙ ap (λ n. control_of (planned.at_start basis p) (times_of basis) [] n 0 true) (start-reports_left p)

  pub started : IsVerified (record { planned = p; times = times_of basis }) → IsControl (begun_with c (times_of c.basis) orders 0)
  started verified = subst IsControl (sym start_is) (start_control (record { planned = p; times = times_of basis }) verified)

-- ---- in mid-run

module _ (p : PlannedShop) (c : Cell) (t : ℕ) (times : NodeTimes) (orders : List MoveOrder) (new : Cell)
    (sound : IsSound p c) (moment : IsNextMoment c t) (ordered : AreOrderedAhead p c t times) (settled : HasSettled p t c orders new) where
  abbrev begun : Control
  begun = record { planned = p; times = times; cell = new; orders = orders; left = reports_left p new; began = t; punctual = true }

  abbrev now : Cell
  now = after_moves p c t settled.movers

  -- what is made of a settled cell begins
  pub settled-begun : IsBegun p c t begun
  settled-begun = record {
    moment = moment;
    planned = refl;
    ordered = ordered;
    began = refl;
    settled = settled;
    left = ap (reports_left p) settled.leads ∙ after_moves-reports_left p c t settled.movers ordered.ranks.shaped sound settled.settles.moves;
    punctual = refl;
  }

  pub settled-control : IsReached p c → IsControl begun
  settled-control reached = record {
    ranks = ordered.ranks;
    reached = subst (IsReached p) (sym settled.leads) (moves_reached p c t settled.movers reached settled.settles.moves);
    sound = subst (IsSound p) (sym settled.leads) (after_moves-sound p c t settled.movers ordered.ranks.shaped sound settled.settles.moves);
    at_rest = subst (IsAtRest p) (sym settled.leads) settled.settles.quiescent;
    counted = refl;
    moments_kept = λ punctual. subst (λ x. AreMomentsKept p x t (earliest_of times)) (sym settled.leads) (record {
      fit = settled-fits p (rank_of times) (earliest_of times) c t settled.movers sound moment.in_order ordered.schedule settled.settles.moves;
      from = of_none_late p now t (earliest_of times)
          (none_late-after p c now t (earliest_of times) (λ i. moves_more p c t settled.movers i ordered.ranks.shaped sound settled.settles.moves)
          (λ v left. present_left p c t (earliest_of times) v ordered.schedule.moments left));
    });
  }

-- one that begins with a cell of this plan
pub begun_is : {P : Type 0} (new : PlannedCell P) (q : PlannedShop) (times t : NodeTimes) (orders : List MoveOrder) (began : ℕ) → new.plan ≡ q → times ≡ t
    → begun_with new times orders began ≡ record { planned = q; times = t; cell = new.cell; orders = orders; left = reports_left q new.cell; began = began; punctual = true }
begun_is new q times t orders began one two = rw (one, two) refl

-- ---- after a step

module _ (v : Control) (dues : List (Option ℕ)) (capacity : ℕ) (fields : AreFieldsOf v dues capacity) (r : Report) (ack : Ack) (items : List MoveOrder) (new : Cell)
    (made : IsMade v.planned v.cell r ack items new) where
  abbrev p : PlannedShop
  p = v.planned

  abbrev kept : Node → ℕ
  kept = earliest_of v.times

  abbrev js : List ℕ
  js = made.movers

  -- one report less is to come, so there was one
  fewer : reports_left p new + 1 ≡ v.left
  fewer = ap (λ c. reports_left p c + 1) made.leads ∙ after_step-reports_left p v.cell r js fields.control.ranks.shaped fields.control.sound made.step ∙ sym fields.control.counted

  pub some_left : 0 < v.left
  some_left = omega (arith, fewer)

  module _ (still : Bool) (punctual_is : IsTrue still ↔ (IsTrue v.punctual × ((ack.late ≡ false) ⊎ (at r ≤ v.began)))) where
    -- the controller after it
    abbrev pub stepped : Control
    stepped = record { planned = p; times = v.times; cell = new; orders = items; left = v.left - 1; began = v.began; punctual = still }

    -- a report counts as punctual only if it is so from the beginning on
    soon_enough : (ack.late ≡ false) ⊎ (at r ≤ v.began) → IsPunctualFrom p v.began v.cell r
    soon_enough (inl not_late) a due going = inr (made.late.0 not_late a due going)
    soon_enough (inr soon) a due going = inl soon

    keeps : IsTrue still → AreMomentsKept p new v.began kept
    keeps so =
        let (so_far, now) = punctual_is.0 so in
        let moments = fields.control.moments_kept so_far in
        let none : IsNoneLate p v.cell v.began kept = to_none_late p v.cell v.began kept moments.from in
        let within : IsWithin p kept v.cell r = from-within p kept v.cell v.began v.cell.last r fields.control.sound moments.fit none (soon_enough now) in
        subst (λ x. AreMomentsKept p x v.began kept) (sym made.leads) (record {
          fit = step-still_fits p (rank_of v.times) kept v.cell r js fields.control.ranks.shaped fields.control.ranks.rise fields.control.sound fields.control.at_rest moments.fit made.step within;
          from = of_none_late p (after_step p v.cell r js) v.began kept
              (none_late-after p v.cell (after_step p v.cell r js) v.began kept (λ i. step_more p v.cell r js i fields.control.ranks.shaped fields.control.sound made.step) none);
        })

    -- a step makes of a controller what its answer says
    pub answered : IsAnswered v r ack stepped
    answered = record {
      movers = js;
      step = made.step;
      planned = refl;
      times = refl;
      began = refl;
      cell = made.leads;
      orders = made.orders_are;
      left = omega (arith, some_left);
      late = made.late;
      punctual = punctual_is;
    }

    -- what holds of it holds after a step
    pub fields_after : (dues' : List (Option ℕ)) (capacity' : ℕ) → capacity' ≡ capacity → AreDueMoments p new dues' → AreFieldsOf stepped dues' capacity'
    fields_after dues' capacity' same due_moments = record {
      control = record {
        ranks = fields.control.ranks;
        reached = subst (IsReached p) (sym made.leads) (step_reached p v.cell r js fields.control.reached made.step);
        sound = subst (IsSound p) (sym made.leads) (after_step-sound p v.cell r js fields.control.ranks.shaped fields.control.sound made.step);
        at_rest = subst (IsAtRest p) (sym made.leads) made.step.quiescent;
        counted = omega (arith, fewer);
        moments_kept = keeps;
      };
      due_moments = due_moments;
      room = same ∙ fields.room;
    }

-- and leaves its plan as it is
pub plan_stays : (before new : Control) (r : Report) (ack : Ack) → IsAnswered before r ack new → verified_in new ≡ verified_in before
plan_stays before new r ack is = rw (is.planned, is.times) refl
