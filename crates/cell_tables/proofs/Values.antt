-- What is shown of the tables of a cell holds of its value, and the other way round.
use Rattle.std.proofs.Common.{◌≡◌, ℕ, ◌+◌, ◌<◌, ◌≤◌, List, get_or, None, true, false, sym, ◌∙◌, ap, subst, arith}
use Rattle.shop_base.specs.declared.limits.TheConstants.{MAX_MACHINES}
use Rattle.shop_base.specs.declared.job_state.JobState.{JobState}
use Rattle.shop_base.specs.declared.move_order.Spot.{Spot}
use Rattle.shop_base.specs.declared.move_order.Spot.TheVariants.{Out, At}
use Rattle.shop_base.specs.declared.move_order.MoveOrder.{MoveOrder}
use Rattle.shop_base.specs.declared.report.Report.{Report}
use Rattle.shop_base.specs.Plan.{PlannedShop, jobs, machines}
use Rattle.shop_base.specs.Cell.{Cell, absent, made, with_job, start}
use Rattle.shop_base.specs.Activity.{Activity, Arrival, Operation, Cleaning}
use Rattle.shop_base.specs.Report.{ended, at, CanReport, after_report}
use Rattle.shop_base.specs.declared.report.Report.TheVariants.{Arrive, Finish, Clean}
use Rattle.shop_base.specs.Move.{CanMove, KeepsPlan, after_leaving, with_entry, with_moved, after_move, order_for}
use Rattle.shop_base.specs.Sound.{IsSound}
use Rattle.shop_base.proofs.Sizes.{steps_few, order_few}
use Rattle.shop_base.proofs.Visits.{visits_job}
use Rattle.shop_base.proofs.InShop.{outside_in_shop, ready_in_shop, cleaned_in_shop}
use Rattle.shop_base.proofs.Changes.{moves_within}
use Rattle.shop_base.proofs.Keeping.{start-sound, after_move-sound, after_report-sound}
use Rattle.cell_tables.specs.declared.tables.Tables.{Tables}
use Rattle.cell_tables.specs.Tables.{cell_of, entered_at, AreTables, AreSound, IsJobPut, IsMachinePut}
use Rattle.cell_tables.specs.Moving.{IsSpotOf}
use Rattle.cell_tables.specs.Entering.{HasNext, HasRoom, IsEntered}
use Rattle.cell_tables.specs.PlannedCell.{PlannedCell}
use Rattle.cell_tables.proofs.Cells.{entries-count, row-inside}
use Rattle.cell_tables.proofs.Writes.{job_written, tables-job_written}
use Rattle.cell_tables.proofs.MoveParts.{readied_cell, readied-are_tables, tidied_cell, tidied-are_tables, source_or_out, can-next, next_once_left, came_cell, came-are_tables, left_jobs, came_jobs, move_of_parts}

-- the value of tables for a plan
abbrev pub value_of : {P : Type 0} → P → PlannedShop → Tables → PlannedCell P
value_of basis p t = record { basis = basis; plan = p; cell = cell_of p t }

-- a change of the cell is one of the value
pub changed_value : {P : Type 0} (basis : P) (p : PlannedShop) (old new : Tables) (v : PlannedCell P) (change : PlannedShop → Cell → Cell)
    → value_of basis p old ≡ v → cell_of p new ≡ change p (cell_of p old) → value_of basis p new ≡ record v { cell = change v.plan v.cell }
changed_value basis p old new v change is made =
    ap (λ (c : Cell). let w : PlannedCell _ = record { basis = basis; plan = p; cell = c } in w) made
    ∙ ap (λ (w : PlannedCell _). let x : PlannedCell _ = record w { cell = change w.plan w.cell } in x) is

sound_after : (p : PlannedShop) (t : Tables) (c : Cell) → AreTables p t → cell_of p t ≡ c → IsSound p c → AreSound p t
sound_after p t c tables is sound = record { tables = tables; sound = subst (IsSound p) (sym is) sound }

pub start-are_sound : (p : PlannedShop) (t : Tables) → AreTables p t → cell_of p t ≡ start p → AreSound p t
start-are_sound p t tables is = sound_after p t (start p) tables is (start-sound p tables.shaped)

-- the rows in which the end of an activity is written
abbrev pub IsEndPut : Tables → Activity → ℕ → Tables → Type 0
IsEndPut old (Arrival j) at new = IsJobPut old j (record (get_or old.jobs.items j absent) { ready = true }) at new
IsEndPut old (Operation j m) at new = IsJobPut old j (record (get_or old.jobs.items j absent) { ready = true }) at new
IsEndPut old (Cleaning m) at new = IsMachinePut old m (record { entered = entered_at old m; cleaning = None }) at new

-- they make the cell after a possible report, and are tables
end_put : (p : PlannedShop) (old new : Tables) (r : Report) → AreSound p old → CanReport p (cell_of p old) r
    → IsEndPut old (ended r) (at r) new → (cell_of p new ≡ after_report (cell_of p old) r) × AreTables p new
end_put p old new (Arrive j at) sound can put =
    let inside : j < jobs p = outside_in_shop p (cell_of p old) j sound.sound can.going.1.outside in
    (readied_cell p old new j at put, readied-are_tables p old new j at sound.tables inside can.moment.in_range put)
end_put p old new (Finish j m at) sound can put =
    let inside : j < jobs p = visits_job p j can.going.1.0 m can.going.1.1.on.visits in
    (readied_cell p old new j at put, readied-are_tables p old new j at sound.tables inside can.moment.in_range put)
end_put p old new (Clean m at) sound can put =
    let inside : m < machines p = cleaned_in_shop p (cell_of p old) m can.going.1.0 sound.sound can.going.1.1.is_cleaned in
    (tidied_cell p old new m at sound.tables inside put, tidied-are_tables p old new m at sound.tables inside can.moment.in_range put)

-- the value once a possible report is written
pub ended_value : {P : Type 0} (basis : P) (p : PlannedShop) (old new : Tables) (v : PlannedCell P) (r : Report) → value_of basis p old ≡ v → AreSound p old
    → CanReport v.plan v.cell r → IsEndPut old (ended r) (at r) new → AreSound p new × (value_of basis p new ≡ record v { cell = after_report v.cell r })
ended_value basis p old new v r is sound can put =
    let can_here : CanReport p (cell_of p old) r = subst (λ (w : PlannedCell _). CanReport w.plan w.cell r) (sym is) can in
    let made : (cell_of p new ≡ after_report (cell_of p old) r) × AreTables p new = end_put p old new r sound can_here put in (
      sound_after p new _ made.1 made.0 (after_report-sound p (cell_of p old) r sound.tables.shaped sound.sound can_here),
      changed_value basis p old new v (λ q c. after_report c r) is made.0,
    )

-- the order is that of a move that can be made and keeps the plan
pub record IsToMove (p : PlannedShop) (old : Tables) (j t : ℕ) (o : MoveOrder) : Type 0 where
  pub sound : AreSound p old
  pub can : CanMove p (cell_of p old) j t
  pub keeps : KeepsPlan p (cell_of p old) j
  pub order : o ≡ order_for p (cell_of p old) j t

pub to_move : {P : Type 0} (basis : P) (p : PlannedShop) (old : Tables) (v : PlannedCell P) (j t : ℕ) (o : MoveOrder) → value_of basis p old ≡ v → AreSound p old
    → CanMove v.plan v.cell j t → KeepsPlan v.plan v.cell j → o ≡ order_for v.plan v.cell j t → IsToMove p old j t o
to_move basis p old v j t o is sound can keeps order = record {
  sound = sound;
  can = subst (λ (w : PlannedCell _). CanMove w.plan w.cell j t) (sym is) can;
  keeps = subst (λ (w : PlannedCell _). KeepsPlan w.plan w.cell j) (sym is) keeps;
  order = order ∙ ap (λ (w : PlannedCell _). order_for w.plan w.cell j t) (sym is);
}

module _ (p : PlannedShop) (old : Tables) (j t : ℕ) (o : MoveOrder) (move : IsToMove p old j t o) where
  -- the job has made few moves
  pub moves_few : made (cell_of p old) j ≤ MAX_MACHINES
  moves_few =
      omega (
        arith,
        moves_within p (cell_of p old) j t move.sound.sound move.can,
        steps_few p move.sound.tables.shaped j (ready_in_shop p (cell_of p old) j move.sound.sound move.can.is_ready),
      )

  pub source_is_spot : IsSpotOf p o.source
  source_is_spot =
      subst (IsSpotOf p) (sym (ap (λ (x : MoveOrder). x.source) move.order))
      (source_or_out p (cell_of p old) j move.sound.tables.shaped (moves_within p (cell_of p old) j t move.sound.sound move.can))

  -- once it has left its source it is next at its target
  comes_next : (left : Tables) → cell_of p left ≡ after_leaving p (cell_of p old) o.source t → HasNext p (cell_of p left) o.target j
  comes_next left leaves =
      next_once_left p (cell_of p old) (cell_of p left) o.source o.target j t leaves
      (subst (λ s. HasNext p (cell_of p old) s j) (sym (ap (λ (x : MoveOrder). x.target) move.order)) (can-next p (cell_of p old) j t move.sound.tables.shaped move.can move.keeps))

  -- where there is room for it
  pub comes_in_room : (left : Tables) → cell_of p left ≡ after_leaving p (cell_of p old) o.source t → AreTables p left → HasRoom left o.target
  comes_in_room left leaves tables = room o.target (comes_next left leaves)
    where
      room : (s : Spot) → HasNext p (cell_of p left) s j → HasRoom left s
      room Out next = tt
      room (At m) next =
          (row-inside p left m tables next.0, omega (arith, next.1, entries-count p left m tables next.0, order_few p tables.shaped m next.0))

  module _ (left came new : Tables) (moves : ℕ) (leaves : cell_of p left ≡ after_leaving p (cell_of p old) o.source t) (tables : AreTables p left) (comes : IsEntered left o.target came)
      (count : moves ≡ made (cell_of p old) j + 1) (put : IsJobPut came j (record { made = moves; ready = false; since = t }) t new) where
    comes_is : cell_of p came ≡ with_entry (cell_of p left) j o.target
    comes_is = came_cell p left came o.target j tables (comes_next left leaves) comes

    jobs_same : (cell_of p came).jobs ≡ (cell_of p old).jobs
    jobs_same = ap (λ (c : Cell). c.jobs) comes_is ∙ came_jobs (cell_of p left) j o.target ∙ ap (λ (c : Cell). c.jobs) leaves ∙ left_jobs p (cell_of p old) o.source t

    counted : moves ≡ made (cell_of p came) j + 1
    counted = omega (arith, count, ap (λ (js : List JobState). (get_or js j absent).made) jobs_same)

    moved_is : cell_of p new ≡ with_moved (cell_of p came) j t
    moved_is =
        job_written p came new j (record { made = moves; ready = false; since = t }) t put
        ∙ ap (λ n. let c : Cell = record (with_job (cell_of p came) j (record { made = n; ready = false; since = t })) { last = t } in c) counted

    -- the parts of the move make it
    pub moved : cell_of p new ≡ after_move p (cell_of p old) j t
    moved =
        move_of_parts p (cell_of p old) (cell_of p left) (cell_of p came) (cell_of p new) o.source o.target j t (ap (λ (x : MoveOrder). x.source) move.order) (ap (λ (x : MoveOrder). x.target) move.order)
        leaves comes_is moved_is

    pub moved-are_sound : AreSound p new
    moved-are_sound =
        sound_after p new _
        (tables-job_written p came new j (record { made = moves; ready = false; since = t }) t (came-are_tables p left came o.target j tables (comes_next left leaves) comes)
        (ready_in_shop p (cell_of p old) j move.sound.sound move.can.is_ready) move.can.moment.in_range move.can.moment.in_range put) moved
        (after_move-sound p (cell_of p old) j t move.sound.tables.shaped move.sound.sound move.can move.keeps)
