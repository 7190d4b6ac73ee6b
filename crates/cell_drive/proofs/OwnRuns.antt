-- Controlled runs of their own reports, and of events with orders behind them.
use Rattle.std.proofs.Common.{◌≡◌, List, [], ◌∷◌, ◌++◌, map, refl, sym, ap, ◌∙◌, subst}
use Rattle.shop_base.specs.{declared.move_order.MoveOrder.MoveOrder, declared.report.Report.Report, Plan.PlannedShop}
use Rattle.shop_base.specs.{Cell.{Cell, start}, Run.{Event, Reported, AreEvents, after}}
use Rattle.shop_base.specs.Controlled.{moved, step_orders, Leads, done, accepted, refused}
use Rattle.cell_tables.specs.{declared.entry.Entry.{Entry, TheVariants.Order as OrderEntry}, Events.events_of}
use Rattle.run_log.proofs.Audits.{events-join}
use Rattle.cell_drive.specs.{OneRun.{cell_after, IsRunOf}, CutLogs.{reported, IsOwnRun}}
use Rattle.cell_drive.proofs.Parts.{events-orders}

reported-moved : (os : List MoveOrder) (es : List Event) → reported (moved os ++ es) ≡ reported es
reported-moved [] es = refl
reported-moved (o ∷ os) es = reported-moved os es

-- without the reports that were refused it is the same run
own_leads : (p : PlannedShop) (c : Cell) (rs : List Report) (es : List Event) (end : Cell) → Leads p c rs es end → Leads p c (reported es) es end
own_leads p _ _ _ _ (done c) = done c
own_leads p _ _ _ _ (accepted c r js rs es end step leads) =
    subst (λ qs. Leads p c (r ∷ qs) (Reported r ∷ (moved (step_orders p c r js) ++ es)) end) (sym (reported-moved (step_orders p c r js) es))
    (accepted c r js (reported es) es end step (own_leads p _ rs es end leads))
own_leads p _ _ _ _ (refused c r rs es end cannot leads) = own_leads p c rs es end leads

pub own_run : (p : PlannedShop) (entries : List Entry) → IsRunOf p entries → IsOwnRun p entries
own_run p entries run = own_leads p (start p) run.0 (events_of entries) (cell_after p entries) run.1

pub run_of_own : (p : PlannedShop) (entries : List Entry) → IsOwnRun p entries → IsRunOf p entries
run_of_own p entries own = (reported (events_of entries), own)

-- the events of a log with the orders that are due
pub due_events : (recorded : List Entry) (due : List MoveOrder) → events_of (recorded ++ map OrderEntry due) ≡ events_of recorded ++ moved due
due_events recorded due = events-join recorded (map OrderEntry due) ∙ ap (λ es. events_of recorded ++ es) (events-orders due)

-- the first events of some that can happen can happen
pub front_events : (p : PlannedShop) (c : Cell) (a b : List Event) → AreEvents p c (a ++ b) → AreEvents p c a
front_events p c [] b events = tt
front_events p c (e ∷ a) b events = (events.0, front_events p (after p c e) a b events.1)
