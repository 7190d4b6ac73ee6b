-- What the write of a row makes of the cell, and that tables stay tables.
use Rattle.std.proofs.Common.{◌≡◌, ℕ, zero, suc, ◌<◌, ◌≤◌, List, ◌∷◌, length, length-set, replicate, get_or, get_or-set_same, get_or-set_other, set, Some, false, refl, sym, ◌∙◌, ap, arith, ◌⊎◌, inl, inr}
use Rattle.std.proofs.lemmas.Bool.{cases_eq, cases_lt}
use Rattle.shop_base.specs.declared.job_state.JobState.{JobState}
use Rattle.shop_base.specs.declared.limits.TheConstants.{MAX_MOMENT}
use Rattle.shop_base.specs.Plan.{PlannedShop, jobs, machines, order, IsWellShaped}
use Rattle.shop_base.specs.Cell.{Cell, MachineState, absent, unused, job_in, machine_in, with_job, with_machine, since, cleaning, start}
use Rattle.std.proofs.lemmas.List.{length-replicate, get_or-replicate, get_or_past}
use Rattle.shop_base.proofs.InShop.{start_unused}
use Rattle.cell_tables.specs.declared.tables.MachineRow.{MachineRow}
use Rattle.cell_tables.specs.declared.tables.Tables.{Tables}
use Rattle.cell_tables.specs.Tables.{no_row, state_of, states_from, cell_of, row_at, entered_at, AreTables, IsJobPut, IsMachinePut}
use Rattle.cell_tables.proofs.Cells.{row-inside, machines-set, length-jobs, length-machines}

same_cell : (a b : Cell) → a.jobs ≡ b.jobs → a.machines ≡ b.machines → a.last ≡ b.last → a ≡ b
same_cell a b same_jobs same_machines same_last =
    ap (λ (js : List JobState). let c : Cell = record { jobs = js; machines = a.machines; last = a.last } in c) same_jobs
    ∙ ap (λ (ms : List MachineState). let c : Cell = record { jobs = b.jobs; machines = ms; last = a.last } in c) same_machines
    ∙ ap (λ (t : ℕ). let c : Cell = record { jobs = b.jobs; machines = b.machines; last = t } in c) same_last

-- the cell with one job's row written
pub job_written : (p : PlannedShop) (old new : Tables) (j : ℕ) (row : JobState) (last : ℕ)
    → IsJobPut old j row last new → cell_of p new ≡ record (with_job (cell_of p old) j row) { last = last }
unfolding cell_of
job_written p old new j row last put = same_cell _ _ put.jobs (ap (states_from p 0) put.machines) put.last

-- the cell with one machine's row written
pub row_written : (p : PlannedShop) (old new : Tables) (m : ℕ) (row : MachineRow) (last : ℕ)
    → IsMachinePut old m row last new → cell_of p new ≡ record (with_machine (cell_of p old) m (state_of p m row)) { last = last }
unfolding cell_of
row_written p old new m row last put =
    same_cell _ _ put.jobs (ap (states_from p 0) put.machines ∙ machines-set p old.machines.items m row) put.last

-- tables with one job's row written are tables
pub tables-job_written : (p : PlannedShop) (old new : Tables) (j : ℕ) (row : JobState) (last : ℕ)
    → AreTables p old → j < jobs p → row.since ≤ MAX_MOMENT → last ≤ MAX_MOMENT
    → IsJobPut old j row last new → AreTables p new
tables-job_written p old new j row last tables inside since_in last_in put = record {
  shaped = tables.shaped;
  job_count = ap length put.jobs ∙ length-set old.jobs.items j row ∙ tables.job_count;
  machine_count = ap length put.machines ∙ tables.machine_count;
  cursors = λ m below. omega (arith, tables.cursors m below, ap (λ (rows : List MachineRow). (get_or rows m no_row).entered) put.machines);
  since_in_range = since_in_range;
  cleaning_in_range = λ m s cleaned. tables.cleaning_in_range m s (sym (ap (λ (ms : List MachineState). (get_or ms m unused).cleaning) machines_same) ∙ cleaned);
  last_in_range = omega (arith, put.last);
}
  where
    cell_is : cell_of p new ≡ record { jobs = set (cell_of p old).jobs j row; machines = (cell_of p old).machines; last = last }
    cell_is = job_written p old new j row last put

    machines_same : (cell_of p new).machines ≡ (cell_of p old).machines
    machines_same = ap (λ (c : Cell). c.machines) cell_is

    now : (i : ℕ) → job_in (cell_of p new) i ≡ get_or (set (cell_of p old).jobs j row) i absent
    now i = ap (λ (c : Cell). get_or c.jobs i absent) cell_is

    count : j < length (cell_of p old).jobs
    count = omega (arith, tables.job_count, length-jobs p old)

    since_in_range : (i : ℕ) → since (cell_of p new) i ≤ MAX_MOMENT
    since_in_range i = go (cases_eq i j)
      where
        go : (i ≡ j) ⊎ (i ≡ j → ⊥) → since (cell_of p new) i ≤ MAX_MOMENT
        go (inl at) = omega (arith, ap (λ (s : JobState). s.since) (now i ∙ ap (λ n. get_or (set (cell_of p old).jobs j row) n absent) at ∙ get_or-set_same (cell_of p old).jobs j row absent count))
        go (inr other) = omega (arith, tables.since_in_range i, ap (λ (s : JobState). s.since) (now i ∙ get_or-set_other (cell_of p old).jobs j i row absent other))

-- tables with one machine's row written are tables
pub tables-row_written : (p : PlannedShop) (old new : Tables) (m : ℕ) (row : MachineRow) (last : ℕ)
    → AreTables p old → m < machines p → row.entered ≤ length (order p m) → ((s : ℕ) → row.cleaning ≡ Some s → s ≤ MAX_MOMENT) → last ≤ MAX_MOMENT
    → IsMachinePut old m row last new → AreTables p new
tables-row_written p old new m row last tables inside few cleaned_in last_in put = record {
  shaped = tables.shaped;
  job_count = ap length put.jobs ∙ tables.job_count;
  machine_count = ap length put.machines ∙ length-set old.machines.items m row ∙ tables.machine_count;
  cursors = cursors;
  since_in_range = λ i. omega (arith, tables.since_in_range i, ap (λ (c : Cell). (get_or c.jobs i absent).since) cell_is);
  cleaning_in_range = cleaning_in_range;
  last_in_range = omega (arith, put.last);
}
  where
    cell_is : cell_of p new ≡ record { jobs = (cell_of p old).jobs; machines = set (cell_of p old).machines m (state_of p m row); last = last }
    cell_is = row_written p old new m row last put

    count : m < length old.machines.items
    count = row-inside p old m tables inside

    row_now : (n : ℕ) → row_at new n ≡ get_or (set old.machines.items m row) n no_row
    row_now n = ap (λ (rows : List MachineRow). get_or rows n no_row) put.machines

    cursors : (n : ℕ) → n < machines p → entered_at new n ≤ length (order p n)
    cursors n below = go (cases_eq n m)
      where
        go : (n ≡ m) ⊎ (n ≡ m → ⊥) → entered_at new n ≤ length (order p n)
        go (inl at) = rw at (omega (arith, ap (λ (r : MachineRow). r.entered) (row_now m ∙ get_or-set_same old.machines.items m row no_row count)))
        go (inr other) = omega (arith, tables.cursors n below, ap (λ (r : MachineRow). r.entered) (row_now n ∙ get_or-set_other old.machines.items m n row no_row other))

    machine_count : m < length (cell_of p old).machines
    machine_count = omega (arith, length-machines p old)

    now : (n : ℕ) → machine_in (cell_of p new) n ≡ get_or (set (cell_of p old).machines m (state_of p m row)) n unused
    now n = ap (λ (c : Cell). get_or c.machines n unused) cell_is

    cleaning_in_range : (n s : ℕ) → cleaning (cell_of p new) n ≡ Some s → s ≤ MAX_MOMENT
    cleaning_in_range n s cleaned = go (cases_eq n m)
      where
        go : (n ≡ m) ⊎ (n ≡ m → ⊥) → s ≤ MAX_MOMENT
        go (inl at) =
            cleaned_in s (sym (ap (λ (x : MachineState). x.cleaning) (now n ∙ ap (λ i. get_or (set (cell_of p old).machines m (state_of p m row)) i unused) at ∙ get_or-set_same (cell_of p old).machines m (state_of p m row) unused machine_count)) ∙ cleaned)
        go (inr other) =
            tables.cleaning_in_range n s (sym (ap (λ (x : MachineState). x.cleaning) (now n ∙ get_or-set_other (cell_of p old).machines m n (state_of p m row) unused other)) ∙ cleaned)

-- unused machines, from rows that nobody has entered
states_unused : (p : PlannedShop) (m n : ℕ) → states_from p m (replicate n no_row) ≡ replicate n unused
states_unused p m zero = refl
states_unused p m (suc n) = ap (λ (ms : List MachineState). unused ∷ ms) (states_unused p (suc m) n)

-- the cell of the rows at the start
pub start_cell : (p : PlannedShop) (t : Tables) → t.jobs.items ≡ replicate (jobs p) (record { made = 0; ready = false; since = 0 })
    → t.machines.items ≡ replicate (machines p) no_row → t.last ≡ 0 → cell_of p t ≡ start p
unfolding cell_of
start_cell p t rows unentered zero_last = same_cell _ _ rows (ap (states_from p 0) unentered ∙ states_unused p 0 (machines p)) zero_last

-- no job has moved at a later moment than 0 at the start
start_since : (p : PlannedShop) (j : ℕ) → since (start p) j ≡ 0
start_since p j = elim (cases_lt j (jobs p)) [
  | inl inside ↦ ap (λ (s : JobState). s.since) (get_or-replicate (jobs p) j (record { made = 0; ready = false; since = 0 }) absent inside)
  | inr outside ↦ ap (λ (s : JobState). s.since) (get_or_past (start p).jobs j absent (rw length-replicate outside))
]

-- they are tables
pub start_are_tables : (p : PlannedShop) (t : Tables) → IsWellShaped p → t.jobs.items ≡ replicate (jobs p) (record { made = 0; ready = false; since = 0 })
    → t.machines.items ≡ replicate (machines p) no_row → t.last ≡ 0 → AreTables p t
start_are_tables p t shaped rows unentered zero_last = record {
  shaped = shaped;
  job_count = ap length rows ∙ length-replicate (jobs p) _;
  machine_count = ap length unentered ∙ length-replicate (machines p) no_row;
  cursors = λ m inside. omega (arith, ap (λ (r : MachineRow). r.entered) (ap (λ (rs : List MachineRow). get_or rs m no_row) unentered ∙ get_or-replicate (machines p) m no_row no_row inside));
  since_in_range = λ j. omega (arith, ap (λ (c : Cell). (get_or c.jobs j absent).since) is, start_since p j);
  cleaning_in_range = λ m s cleaned. absurd (cc (start_unused p m, ap (λ (c : Cell). (get_or c.machines m unused).cleaning) is, cleaned));
  last_in_range = omega arith;
}
  where
    is : cell_of p t ≡ start p
    is = start_cell p t rows unentered zero_last
