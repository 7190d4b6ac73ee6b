-- A log that records a run records one of each plan with other orders that keeps what was done.
use Rattle.std.proofs.Common.{ℕ, List, [], ◌∷◌, Option, sym, subst}
use Rattle.shop_base.specs.{Plan.PlannedShop, Plan.IsWellShaped, Cell.Cell, declared.move_order.Spot.Spot, declared.move_order.Spot.TheVariants.{Out, At}}
use Rattle.shop_base.specs.declared.report.Report.TheVariants.{Arrive, Finish, Clean}
use Rattle.cell_tables.specs.{Moving.IsSpotOf, declared.entry.Entry.Entry, declared.entry.Entry.TheVariants.{Report as ReportEntry, Order as OrderEntry}}
use Rattle.cell_tables.specs.{Events.events_of, Kept.KeepsSoFar, Reordered.{IsReordered, reordered}}
use Rattle.cell_tables.proofs.KeptRuns.{a_kept_run_is_one_of_the_other_plan}
use Rattle.event_lines.specs.LogLines.{IsEntryOf, LineParses, LinesParse}
use Rattle.run_log.specs.{Audits.ParseAsRun, Present.IsRunAt}

-- what a line records hangs on the numbers of jobs and machines
module _ (p : PlannedShop) (orders : List (List ℕ)) where
  spot_same : (s : Spot) → IsSpotOf p s → IsSpotOf (reordered p orders) s
  spot_same Out is = tt
  spot_same (At m) is = is

  entry_same : (e : Entry) → IsEntryOf p e → IsEntryOf (reordered p orders) e
  entry_same (ReportEntry (Arrive j at)) is = is
  entry_same (ReportEntry (Finish j m at)) is = is
  entry_same (ReportEntry (Clean m at)) is = is
  entry_same (OrderEntry o) is = (is.0, spot_same o.source is.1, spot_same o.target is.2, is.3)

  line_same : (line : List ℕ) (es : List Entry) → LineParses p line es → LineParses (reordered p orders) line es
  line_same line [] is = is
  line_same line (e ∷ []) is = (is.0, is.1, entry_same e is.2)
  line_same line (e ∷ f ∷ es) is = is

  parse_same : (lines : List (List ℕ)) (es : List Entry) → LinesParse p lines es → LinesParse (reordered p orders) lines es
  parse_same [] es is = is
  parse_same (line ∷ lines) es is = (is.0, is.1, line_same line is.0 is.2, parse_same lines is.1 is.3, is.4)

pub log_keeps : (lines : List (List ℕ)) (at : Option ℕ) (p q : PlannedShop) (c : Cell) (es : List Entry) (t : ℕ) → IsWellShaped p → IsWellShaped q → IsReordered p q → IsRunAt lines at p c es t
    → KeepsSoFar p c q → ParseAsRun q lines
log_keeps lines at p q c es t shaped fits same run keeps = (
  es,
  subst (λ (x : PlannedShop). LinesParse x lines es) (sym same) (parse_same p q.plan.order lines es run.parses),
  (a_kept_run_is_one_of_the_other_plan p q (events_of es) shaped fits run.replayed.run (subst (λ (x : Cell). KeepsSoFar p x q) run.replayed.cell keeps)).0,
)
