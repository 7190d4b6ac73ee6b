-- The cell that the tables stand for: what is read in it, and what each write of a row makes of it.
use Rattle.std.proofs.Common.{◌≡◌, ℕ, zero, suc, ◌+◌, ◌<◌, ◌≤◌, List, [], ◌∷◌, length, length-take-le, take, get_or, set, Option, None, Some, IfSome, refl, ◌∙◌, ap, arith}
use Rattle.shop_base.specs.Plan.{PlannedShop, machines, order}
use Rattle.shop_base.specs.Cell.{MachineState, absent, unused, job_in, machine_in, entries, cleaning}
use Rattle.cell_tables.specs.declared.tables.MachineRow.{MachineRow}
use Rattle.cell_tables.specs.declared.tables.Tables.{Tables}
use Rattle.cell_tables.specs.Tables.{no_row, state_of, states_from, cell_of, row_at, entered_at, AreTables}

states_at : (p : PlannedShop) (m : ℕ) (rows : List MachineRow) (i : ℕ) → i < length rows
    → get_or (states_from p m rows) i unused ≡ state_of p (m + i) (get_or rows i no_row)
states_at p m [] i inside = absurd (omega arith)
states_at p m (row ∷ rows) zero inside = let same : m ≡ m + 0 = omega arith in ap (λ n. state_of p n row) same
states_at p m (row ∷ rows) (suc i) inside =
    let same : suc m + i ≡ m + suc i = omega arith in
    states_at p (suc m) rows i (omega arith) ∙ ap (λ n. state_of p n (get_or rows i no_row)) same

length-states : (p : PlannedShop) (m : ℕ) (rows : List MachineRow) → length (states_from p m rows) ≡ length rows
length-states p m [] = refl
length-states p m (row ∷ rows) = omega (arith, length-states p (suc m) rows)

states-set : (p : PlannedShop) (m : ℕ) (rows : List MachineRow) (i : ℕ) (row : MachineRow)
    → states_from p m (set rows i row) ≡ set (states_from p m rows) i (state_of p (m + i) row)
states-set p m [] i row = refl
states-set p m (first ∷ rows) zero row =
    let same : m ≡ m + 0 = omega arith in ap (λ n. state_of p n row ∷ states_from p (suc m) rows) same
states-set p m (first ∷ rows) (suc i) row =
    let same : suc m + i ≡ m + suc i = omega arith in
    ap (λ ms. state_of p m first ∷ ms) (states-set p (suc m) rows i row ∙ ap (λ n. set (states_from p (suc m) rows) i (state_of p n row)) same)

-- a job of the cell is its row
pub job-read : (p : PlannedShop) (t : Tables) (j : ℕ) → job_in (cell_of p t) j ≡ get_or t.jobs.items j absent
unfolding cell_of
job-read p t j = refl

-- a machine of the cell, by its row
pub machine-read : (p : PlannedShop) (t : Tables) (m : ℕ) → m < length t.machines.items
    → machine_in (cell_of p t) m ≡ state_of p m (get_or t.machines.items m no_row)
unfolding cell_of
machine-read p t m inside =
    let same : 0 + m ≡ m = omega arith in
    states_at p 0 t.machines.items m inside ∙ ap (λ n. state_of p n (get_or t.machines.items m no_row)) same

-- a machine of the tables
pub row-inside : (p : PlannedShop) (t : Tables) (m : ℕ) → AreTables p t → m < machines p → m < length t.machines.items
row-inside p t m tables inside = omega (arith, tables.machine_count)

pub entries-read : (p : PlannedShop) (t : Tables) (m : ℕ) → AreTables p t → m < machines p → entries (cell_of p t) m ≡ take (entered_at t m) (order p m)
entries-read p t m tables inside = ap (λ (s : MachineState). s.entries) (machine-read p t m (row-inside p t m tables inside))

pub cleaning-read : (p : PlannedShop) (t : Tables) (m : ℕ) → AreTables p t → m < machines p → cleaning (cell_of p t) m ≡ (row_at t m).cleaning
cleaning-read p t m tables inside = ap (λ (s : MachineState). s.cleaning) (machine-read p t m (row-inside p t m tables inside))

-- as many jobs have entered a machine as its row says
pub entries-count : (p : PlannedShop) (t : Tables) (m : ℕ) → AreTables p t → m < machines p → length (entries (cell_of p t) m) ≡ entered_at t m
entries-count p t m tables inside =
    ap length (entries-read p t m tables inside) ∙ length-take-le (entered_at t m) (order p m) (tables.cursors m inside)

-- the machines with one row written
pub machines-set : (p : PlannedShop) (rows : List MachineRow) (m : ℕ) (row : MachineRow)
    → states_from p 0 (set rows m row) ≡ set (states_from p 0 rows) m (state_of p m row)
machines-set p rows m row =
    let same : 0 + m ≡ m = omega arith in
    states-set p 0 rows m row ∙ ap (λ n. set (states_from p 0 rows) m (state_of p n row)) same

-- the cell has a job for each row
pub length-jobs : (p : PlannedShop) (t : Tables) → length (cell_of p t).jobs ≡ length t.jobs.items
unfolding cell_of
length-jobs p t = refl

-- and a machine for each row
pub length-machines : (p : PlannedShop) (t : Tables) → length (cell_of p t).machines ≡ length t.machines.items
unfolding cell_of
length-machines p t = length-states p 0 t.machines.items

pub last-read : (p : PlannedShop) (t : Tables) → (cell_of p t).last ≡ t.last
unfolding cell_of
last-read p t = refl

-- what holds of a number, if there is one, holds of the one that is there
pub some-within : {limit : ℕ} (o : Option ℕ) → ((s : ℕ) → o ≡ Some s → s ≤ limit) → IfSome o (λ s. s ≤ limit)
some-within None within = tt
some-within (Some s) within = within s refl
