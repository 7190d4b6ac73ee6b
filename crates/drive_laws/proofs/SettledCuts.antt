-- A controlled run that is cut, and then settles, has the orders that it had.
use Rattle.std.proofs.Common.{Option, None, ◌≡◌, ℕ, zero, suc, ◌≤◌, List, [], ◌∷◌, ◌++◌, length, map, ◌⊎◌, inl, inr, refl, sym, ap, ◌∙◌, subst, arith, append-nil, length-append}
use Rattle.std.proofs.lemmas.List.{append_cancel_left}
use Rattle.std.specs.Prelude.{unwrap_or}
use Rattle.shop_base.specs.{declared.{move_order.MoveOrder.MoveOrder, report.Report.Report}, Cell.{Cell, start}}
use Rattle.shop_base.specs.{Plan.{PlannedShop, IsWellShaped}, Report.{at, after_report}, Move.{order_for, after_move}}
use Rattle.shop_base.specs.{Run.{Event, Reported, Moved, after, after_all, IsAtRest, IsRun}, Ahead.Settles}
use Rattle.shop_base.specs.Controlled.{AreMoves, after_moves, orders_for, moved, IsStep, after_step, step_orders, Leads}
use Rattle.shop_base.specs.Sound.{IsSound}
use Rattle.shop_base.proofs.{CellFacts.after_report-last, Keeping.start-sound, OneStep.one_step}
use Rattle.shop_base.proofs.ControlledRuns.{after_all-moves, controlled_to_run, start_at_rest, after_step-sound, after_all_join}
use Rattle.shop_base.proofs.Settling.{a_cut_step_settles-holds}
use Rattle.cell_tables.specs.{declared.entry.Entry.{Entry, TheVariants.Order as OrderEntry}, Events.events_of}
use Rattle.cell_control.specs.Settled.{HasSettled}
use Rattle.event_lines.proofs.Readings.{one_reading}
use Rattle.cell_drive.specs.{LateEvents.AreLate, Recovered.{Recovered, IsRecoveredFrom, IsRecovered, replayed_events}}
use Rattle.cell_drive.specs.{OneRun.cell_after, CutLogs.{reported, IsCutLog}}
use Rattle.cell_drive.specs.CutLaw.{ItIsRecoverable, ItIsRecoveredWithItsOrders}
use Rattle.cell_drive.proofs.Parts.{append_parts, moved_alone, moved_none, moved_no_report}
use Rattle.cell_drive.proofs.{OwnRuns.{due_events, front_events}, CutRuns.{FirstStep, first_step, begins}}

same_moves : (one other : List MoveOrder) → moved one ≡ moved other → one ≡ other
same_moves [] [] same = refl
same_moves [] (o ∷ other) same = absurd (cc)
same_moves (o ∷ one) [] same = absurd (cc)
same_moves (o ∷ one) (q ∷ other) same =
    let tails : moved one ≡ moved other = cc in
    let rest = same_moves one other tails in
    let heads : o ≡ q = cc in
    cc

module _ (p : PlannedShop) where
  -- the first of some moves
  front_moves : (c : Cell) (t : ℕ) (front back : List ℕ) → AreMoves p c t (front ++ back) → AreMoves p c t front
  front_moves c t [] back moves = tt
  front_moves c t (j ∷ front) back moves = (moves.0, moves.1, front_moves (after_move p c j t) t front back moves.2)

  -- from rest there are none
  no_moves : (c : Cell) (t : ℕ) (js : List ℕ) → IsAtRest p c → AreMoves p c t js → js ≡ []
  no_moves c t [] rest moves = refl
  no_moves c t (j ∷ js) rest moves = absurd (rest j t moves.0 moves.1)

  -- the last moment after moves at a moment
  pub moves_last : (c : Cell) (t : ℕ) (js : List ℕ) → c.last ≡ t → (after_moves p c t js).last ≡ t
  moves_last c t [] now = now
  moves_last c t (j ∷ js) now = moves_last (after_move p c j t) t js refl

  -- moves whose events are cut
  record AreCut (c : Cell) (t : ℕ) (js : List ℕ) (a b : List Event) : Type 0 where
    front : List ℕ
    back : List ℕ
    jobs : js ≡ front ++ back
    first : a ≡ moved (orders_for p c t front)
    second : b ≡ moved (orders_for p (after_moves p c t front) t back)

  cut_moves : (c : Cell) (t : ℕ) (js : List ℕ) (a b : List Event) → moved (orders_for p c t js) ≡ a ++ b → AreCut c t js a b
  cut_moves c t js [] b same = record { front = []; back = js; jobs = refl; first = refl; second = sym same }
  cut_moves c t [] (e ∷ a) b same = absurd (cc)
  cut_moves c t (j ∷ js) (e ∷ a) b same =
      let tails : moved (orders_for p (after_move p c j t) t js) ≡ a ++ b = cc in
      let heads : e ≡ Moved (order_for p c j t) = cc in
      let cut = cut_moves (after_move p c j t) t js a b tails in
      record {
        front = j ∷ cut.front;
        back = cut.back;
        jobs = ap (λ (is : List ℕ). j ∷ is) cut.jobs;
        first = ap (λ x. x ∷ a) heads ∙ ap (λ es. Moved (order_for p c j t) ∷ es) cut.first;
        second = cut.second;
      }

  module _ (shaped : IsWellShaped p) where
    -- within a step
    within : (c : Cell) (r : Report) (jobs js : List ℕ) (a b : List Event) (due : List MoveOrder) → IsSound p c → IsAtRest p c → IsStep p c r jobs
        → moved (step_orders p c r jobs) ≡ a ++ b → moved due ≡ b → (d : Cell) → d ≡ after_all p (after_report c r) a → Settles p d d.last js → orders_for p d d.last js ≡ due
    within c r jobs js a b due sound rest step parts due_is d is settles =
        let next = after_report c r in
        let cut = cut_moves next (at r) jobs a b parts in
        let here : d ≡ after_moves p next (at r) cut.front = is ∙ ap (after_all p next) cut.first ∙ after_all-moves p next (at r) cut.front in
        let now : d.last ≡ at r = ap (λ (x : Cell). x.last) here ∙ moves_last next (at r) cut.front (after_report-last c r) in
        let there : Settles p (after_moves p next (at r) cut.front) (at r) js =
        subst (λ (x : Cell). Settles p x (at r) js) here (subst (λ t. Settles p d t js) now settles) in
        let moves : AreMoves p next (at r) cut.front = front_moves next (at r) cut.front cut.back (subst (AreMoves p next (at r)) cut.jobs step.moves) in
        let whole : IsStep p c r (cut.front ++ js) = a_cut_step_settles-holds p c r cut.front js step.can moves there in
        let (found, is_step, only) = one_step p c r shaped sound rest step.can in
        let same : cut.front ++ js ≡ cut.front ++ cut.back = only (cut.front ++ js) whole ∙ sym (only jobs step) ∙ cut.jobs in
        let movers : js ≡ cut.back = append_cancel_left cut.front js cut.back same in
        let orders : orders_for p d d.last js ≡ orders_for p (after_moves p next (at r) cut.front) (at r) cut.back =
        ap (λ t. orders_for p d t js) now ∙ ap (λ (x : Cell). orders_for p x (at r) js) here ∙ ap (orders_for p (after_moves p next (at r) cut.front) (at r)) movers in
        orders ∙ same_moves _ due (sym (due_is ∙ cut.second))

    pub cut_settles : (n : ℕ) (c end : Cell) (rs : List Report) (a : List Event) (due : List MoveOrder) (js : List ℕ) → length a ≤ n → IsSound p c → IsAtRest p c
        → Leads p c rs (a ++ moved due) end → (d : Cell) → d ≡ after_all p c a → Settles p d d.last js → orders_for p d d.last js ≡ due
    cut_settles n c end rs [] due js few sound rest leads d is settles =
        let moves : AreMoves p c c.last js = subst (λ (x : Cell). AreMoves p x x.last js) is settles.moves in
        let none : due ≡ [] = elim (first_step p c rs (moved due) end leads) [
          | inl nothing ↦ moved_none due nothing
          | inr first ↦ absurd (moved_no_report due first.report (moved (step_orders p c first.report first.jobs) ++ first.rest) first.events)
        ] in
        ap (orders_for p d d.last) (no_moves c c.last js rest moves) ∙ sym none
    cut_settles zero c end rs (e ∷ a) due js few sound rest leads d is settles = absurd (omega (arith, few))
    cut_settles (suc n) c end rs (e ∷ a) due js few sound rest leads d is settles =
        go (first_step p c rs (e ∷ (a ++ moved due)) end leads)
        (λ next us b fewer sound_there at_rest on here. cut_settles n next end us b due js fewer sound_there at_rest on d here settles)
      where
        Again : Type 0
        Again = (next : Cell) (us : List Report) (b : List Event) → length b ≤ n → IsSound p next → IsAtRest p next → Leads p next us (b ++ moved due) end
            → d ≡ after_all p next b → orders_for p d d.last js ≡ due

        found : FirstStep p c (e ∷ (a ++ moved due)) end → Again → orders_for p d d.last js ≡ due
        found first again = elim (append_parts a (moved due) os first.rest tails) [
          | inl (b, longer, events) ↦
              again next first.later b (omega (arith, few, ap length longer, length-append os b)) (after_step-sound p c first.report first.jobs shaped sound first.step) first.step.quiescent
              (subst (λ es. Leads p next first.later es end) events first.leads) (there ∙ ap (after_all p ended) longer ∙ after_all_join p ended os b
              ∙ ap (λ (x : Cell). after_all p x b) (after_all-moves p ended (at first.report) first.jobs))
          | inr (b, shorter, events) ↦ within c first.report first.jobs js a b due sound rest first.step shorter (only b events) d there settles
        ]
          where
            os : List Event
            os = moved (step_orders p c first.report first.jobs)

            ended : Cell
            ended = after_report c first.report

            next : Cell
            next = after_step p c first.report first.jobs

            tails : a ++ moved due ≡ os ++ first.rest
            tails = let events = first.events in cc

            heads : e ≡ Reported first.report
            heads = let events = first.events in cc

            there : d ≡ after_all p ended a
            there = is ∙ ap (λ x. after_all p (after p c x) a) heads

            only : (b : List Event) → moved due ≡ b ++ first.rest → moved due ≡ b
            only b events =
                let none = moved_alone due b first.rest events (begins p next first.later first.rest end first.leads) in
                events ∙ ap (λ es. b ++ es) none ∙ append-nil b

        go : ((e ∷ (a ++ moved due)) ≡ []) ⊎ FirstStep p c (e ∷ (a ++ moved due)) end → Again → orders_for p d d.last js ≡ due
        go (inl none) again = absurd (cc)
        go (inr first) again = found first again

-- the run of the events that a log recorded
pub run_of_cut : (p : PlannedShop) (recorded : List Entry) (due : List MoveOrder) (lines : List (List ℕ)) → IsWellShaped p → IsCutLog p lines recorded due → IsRun p (events_of recorded)
run_of_cut p recorded due lines shaped log =
    front_events p (start p) (events_of recorded) (moved due) (subst (IsRun p) (due_events recorded due) (controlled_to_run p _ _ _ shaped log.run).0)

pub it_is_recoverable : ItIsRecoverable
it_is_recoverable p lines recorded due shaped acceptable log = record {
  recorded = recorded;
  parses = log.parses;
  is_run = run_of_cut p recorded due lines shaped log;
  not_past = omega arith;
  acyclic = acceptable.acyclic;
  accepted = λ none. acceptable;
}

-- it settles by the orders that are due
pub settles_by_these : (p : PlannedShop) (recorded : List Entry) (due : List MoveOrder) (lines : List (List ℕ)) (js : List ℕ) → IsWellShaped p → IsCutLog p lines recorded due
    → Settles p (cell_after p recorded) (cell_after p recorded).last js → orders_for p (cell_after p recorded) (cell_after p recorded).last js ≡ due
settles_by_these p recorded due lines js shaped log settles =
    let whole : List Entry = recorded ++ map OrderEntry due in
    let leads : Leads p (start p) (reported (events_of whole)) (events_of recorded ++ moved due) (cell_after p whole) =
    subst (λ es. Leads p (start p) (reported (events_of whole)) es (cell_after p whole)) (due_events recorded due) log.run in
    cut_settles p shaped (length (events_of recorded)) (start p) (cell_after p whole) (reported (events_of whole)) (events_of recorded) due js (omega arith) (start-sound p shaped) (start_at_rest p) leads (cell_after p recorded) refl settles

-- ---- what is known of a run that was recovered from these events

module _ (p : PlannedShop) (recorded : List Entry) (at : Option ℕ) (recovered : Recovered) (from : IsRecoveredFrom p recorded at recovered) where
  pub settled_behind : HasSettled p (unwrap_or at (cell_after p recorded).last) (cell_after p recorded) recovered.control.orders recovered.control.cell
  settled_behind =
      let control = recovered.control in
      subst (λ t. HasSettled p t (cell_after p recorded) control.orders control.cell) from.began
      (subst (λ (es : List Entry). HasSettled p control.began (cell_after p es) control.orders control.cell) from.replayed_is
      (subst (λ (q : PlannedShop). HasSettled q control.began (cell_after q (replayed_events recovered)) control.orders control.cell) from.planned from.run.begun.settled))

  pub late_behind : AreLate p (start p) recorded recovered.late
  late_behind =
      subst (λ (es : List Entry). AreLate p (start p) es recovered.late) from.replayed_is
      (subst (λ (q : PlannedShop). AreLate q (start q) (replayed_events recovered) recovered.late) from.planned from.run.are_late)

  pub entries_behind : recovered.log.entries ≡ recorded ++ map OrderEntry recovered.control.orders
  entries_behind = from.run.due ∙ ap (λ (es : List Entry). es ++ map OrderEntry recovered.control.orders) from.replayed_is

  pub shaped_behind : IsWellShaped p
  shaped_behind = subst IsWellShaped from.planned from.run.kept.shaped

-- they are the only ones that its log can record
pub from_these : (p : PlannedShop) (lines : List (List ℕ)) (recorded : List Entry) (due : List MoveOrder) (recovered : Recovered) → IsCutLog p lines recorded due → IsRecovered p lines None recovered → IsRecoveredFrom p recorded None recovered
from_these p lines recorded due recovered log up = subst (λ (es : List Entry). IsRecoveredFrom p es None recovered) (one_reading p lines up.recorded recorded up.parses log.parses) up.recovered_from

pub it_is_recovered_with_its_orders : ItIsRecoveredWithItsOrders
it_is_recovered_with_its_orders p lines recorded due recovered shaped log up =
    let from = from_these p lines recorded due recovered log up in
    let settled = settled_behind p recorded None recovered from in
    (from.replayed_is, settled.orders_are ∙ settles_by_these p recorded due lines settled.movers shaped log settled.settles)
