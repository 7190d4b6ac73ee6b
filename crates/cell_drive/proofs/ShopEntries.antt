-- What can happen in a cell is of its shop.
use Rattle.std.proofs.{Common.{ℕ, ◌≤◌, ◌⊎◌, inl, inr, sym, ◌∙◌}, lemmas.Bool.{cases_lt, false≢true}}
use Rattle.shop_base.specs.{declared.report.Report.{Report, TheVariants.{Arrive, Finish, Clean}}, Cell.{Cell, made}}
use Rattle.shop_base.specs.{Plan.{PlannedShop, steps, IsWellShaped}, Report.CanReport, Sound.IsSound}
use Rattle.shop_base.specs.Move.{CanMove, CanLeave, CanEnter, target, order_for}
use Rattle.shop_base.proofs.{Visits.{visits_job, visits_machine, leaves_past}, CellFacts.{target_visited, target_out}}
use Rattle.shop_base.proofs.InShop.{outside_in_shop, ready_in_shop, cleaned_in_shop}
use Rattle.cell_tables.specs.Moving.{IsSpotOf}
use Rattle.cell_tables.specs.declared.entry.Entry.TheVariants.{Report as ReportEntry, Order as OrderEntry}
use Rattle.cell_tables.proofs.MoveParts.{source_or_out}
use Rattle.event_lines.specs.LogLines.{IsEntryOf}

pub report_of_shop : (p : PlannedShop) (c : Cell) (report : Report) → IsWellShaped p → IsSound p c → CanReport p c report → IsEntryOf p (ReportEntry report)
report_of_shop p c (Arrive job at) shaped sound can = (outside_in_shop p c job sound can.going.1.outside, can.moment.in_range)
report_of_shop p c (Finish job machine at) shaped sound can =
    let worked = can.going.1 in
    let visits = worked.1.on.visits in
    ((visits_job p job worked.0 machine visits, visits_machine p job worked.0 machine shaped visits), can.moment.in_range)
report_of_shop p c (Clean machine at) shaped sound can =
    let cleaned = can.going.1 in
    (cleaned_in_shop p c machine cleaned.0 sound cleaned.1.is_cleaned, can.moment.in_range)

pub order_of_shop : (p : PlannedShop) (c : Cell) (j t : ℕ) → IsWellShaped p → IsSound p c → CanMove p c j t → IsEntryOf p (OrderEntry (order_for p c j t))
order_of_shop p c j t shaped sound can = (
  ready_in_shop p c j sound can.is_ready,
  source_or_out p c j shaped inside,
  to can.way,
  can.moment.in_range,
)
  where
    inside : made c j ≤ steps p j
    inside = elim (cases_lt (steps p j) (made c j)) [
      | inl gone ↦ absurd (false≢true (sym (sound.gone_not_ready j gone) ∙ can.is_ready))
      | inr within ↦ within
    ]

    to : CanLeave p c j ⊎ ((m : ℕ) × CanEnter p c j m) → IsSpotOf p (target p c j)
    to (inl leaves) = rw (target_out p c j (leaves_past p c j leaves)) tt
    to (inr (m, enters)) = rw (target_visited p c j m enters.next) (visits_machine p j (made c j) m shaped enters.next)
