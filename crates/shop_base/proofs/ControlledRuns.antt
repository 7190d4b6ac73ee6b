-- A controlled run is a run that ends at rest in a sound cell; and what each of its steps keeps, or each of its steps adds to, holds of the whole of it.
use Rattle.std.proofs.Common.{◌≡◌, ℕ, List, [], ◌∷◌, ◌++◌, inl, inr, false, refl, ◌∙◌, ap}
use Rattle.std.proofs.lemmas.List.{get_or-replicate, get_or_past, length-replicate}
use Rattle.std.proofs.lemmas.Bool.{cases_lt}
use Rattle.shop_base.specs.Plan.{PlannedShop, jobs, IsWellShaped}
use Rattle.shop_base.specs.Cell.{Cell, absent, ready, start}
use Rattle.shop_base.specs.declared.job_state.JobState.{JobState}
use Rattle.shop_base.specs.declared.report.Report.{Report}
use Rattle.shop_base.specs.Report.{at, CanReport, after_report}
use Rattle.shop_base.specs.Move.{after_move}
use Rattle.shop_base.specs.Run.{Event, Reported, AreEvents, after, after_all, IsRun, ends_in, IsAtRest}
use Rattle.shop_base.specs.Controlled.{AreMoves, after_moves, orders_for, after_step, step_orders, IsStep, moved, Leads, done, accepted, refused, IsControlledRun}
use Rattle.shop_base.specs.Sound.{IsSound}
use Rattle.shop_base.proofs.Keeping.{start-sound, after_report-sound, after_move-sound}

-- events, and then events in the cell that they leave, are events
pub events_join : (p : PlannedShop) (c : Cell) (es fs : List Event) → AreEvents p c es → AreEvents p (after_all p c es) fs → AreEvents p c (es ++ fs)
events_join p c [] fs front back = back
events_join p c (e ∷ es) fs front back = (front.0, events_join p (after p c e) es fs front.1 back)

pub after_all_join : (p : PlannedShop) (c : Cell) (es fs : List Event) → after_all p c (es ++ fs) ≡ after_all p (after_all p c es) fs
after_all_join p c [] fs = refl
after_all_join p c (e ∷ es) fs = after_all_join p (after p c e) es fs

-- moves are events
pub moves-events : (p : PlannedShop) (c : Cell) (t : ℕ) (js : List ℕ) → AreMoves p c t js → AreEvents p c (moved (orders_for p c t js))
moves-events p c t [] moves = tt
moves-events p c t (j ∷ js) moves =
    ((record { can = moves.0; is_move = refl }, moves.1), moves-events p (after_move p c j t) t js moves.2)

pub after_all-moves : (p : PlannedShop) (c : Cell) (t : ℕ) (js : List ℕ) → after_all p c (moved (orders_for p c t js)) ≡ after_moves p c t js
after_all-moves p c t [] = refl
after_all-moves p c t (j ∷ js) = after_all-moves p (after_move p c j t) t js

pub after_moves-sound : (p : PlannedShop) (c : Cell) (t : ℕ) (js : List ℕ) → IsWellShaped p → IsSound p c → AreMoves p c t js → IsSound p (after_moves p c t js)
after_moves-sound p c t [] shaped sound moves = sound
after_moves-sound p c t (j ∷ js) shaped sound moves =
    after_moves-sound p (after_move p c j t) t js shaped (after_move-sound p c j t shaped sound moves.0 moves.1) moves.2

pub after_step-sound : (p : PlannedShop) (c : Cell) (r : Report) (js : List ℕ) → IsWellShaped p → IsSound p c → IsStep p c r js → IsSound p (after_step p c r js)
after_step-sound p c r js shaped sound step =
    after_moves-sound p (after_report c r) (at r) js shaped (after_report-sound p c r shaped sound step.can) step.moves

-- no job is ready at the start
pub start_not_ready : (p : PlannedShop) (j : ℕ) → ready (start p) j ≡ false
start_not_ready p j = elim (cases_lt j (jobs p)) [
  | inl inside ↦ ap (λ (s : JobState). s.ready) (get_or-replicate (jobs p) j (record { made = 0; ready = false; since = 0 }) absent inside)
  | inr past ↦ ap (λ (s : JobState). s.ready) (get_or_past (start p).jobs j absent (rw length-replicate past))
]

pub start_at_rest : (p : PlannedShop) → IsAtRest p (start p)
start_at_rest p j t can keeps = absurd (cc (start_not_ready p j, can.is_ready))

-- what holds of every cell alone, of an accepted report where it holds of what follows, and of a refused one where it holds of what follows, holds of every controlled run
pub leads_induction : (p : PlannedShop) (P : Cell → List Report → List Event → Cell → Type 0) → IsWellShaped p
    → ((c : Cell) → IsSound p c → IsAtRest p c → P c [] [] c)
    → ((c : Cell) (r : Report) (js : List ℕ) (rs : List Report) (es : List Event) (end : Cell) → IsSound p c → IsAtRest p c → IsStep p c r js
    → P (after_step p c r js) rs es end → P c (r ∷ rs) (Reported r ∷ (moved (step_orders p c r js) ++ es)) end)
    → ((c : Cell) (r : Report) (rs : List Report) (es : List Event) (end : Cell) → IsSound p c → IsAtRest p c → (CanReport p c r → ⊥)
    → P c rs es end → P c (r ∷ rs) es end)
    → (c : Cell) (rs : List Report) (es : List Event) (end : Cell) → IsSound p c → IsAtRest p c → Leads p c rs es end → P c rs es end
leads_induction p P shaped alone more same _ _ _ _ sound rest (done c) = alone c sound rest
leads_induction p P shaped alone more same _ _ _ _ sound rest (accepted c r js rs es end step leads) =
    more c r js rs es end sound rest step
    (leads_induction p P shaped alone more same (after_step p c r js) rs es end (after_step-sound p c r js shaped sound step) step.quiescent leads)
leads_induction p P shaped alone more same _ _ _ _ sound rest (refused c r rs es end cannot leads) =
    same c r rs es end sound rest cannot (leads_induction p P shaped alone more same c rs es end sound rest leads)

-- a controlled run from a sound cell at rest is a list of possible events, which ends in a sound cell at rest
pub leads_to_run : (p : PlannedShop) (c : Cell) (rs : List Report) (es : List Event) (end : Cell)
    → Leads p c rs es end → IsWellShaped p → IsSound p c → IsAtRest p c
    → AreEvents p c es × (end ≡ after_all p c es) × IsSound p end × IsAtRest p end
leads_to_run p c rs es end leads shaped sound rest =
    leads_induction p (λ c rs es end. AreEvents p c es × (end ≡ after_all p c es) × IsSound p end × IsAtRest p end) shaped
    (λ c sound rest. (tt, refl, sound, rest))
    (λ c r js rs es end sound rest step later. (
      (
        step.can,
        events_join p (after_report c r) (moved (step_orders p c r js)) es (moves-events p (after_report c r) (at r) js step.moves) (rw (after_all-moves p (after_report c r) (at r) js) later.0),
      ),
      later.1 ∙ rw (after_all_join p (after_report c r) (moved (step_orders p c r js)) es, after_all-moves p (after_report c r) (at r) js) refl,
      later.2,
      later.3,
    ))
    (λ c r rs es end sound rest cannot later. later) c rs es end sound rest leads

pub controlled_to_run : (p : PlannedShop) (rs : List Report) (es : List Event) (end : Cell) → IsWellShaped p → IsControlledRun p rs es end
    → IsRun p es × (end ≡ ends_in p es) × IsSound p end × IsAtRest p end
controlled_to_run p rs es end shaped run = leads_to_run p (start p) rs es end run shaped (start-sound p shaped) (start_at_rest p)
