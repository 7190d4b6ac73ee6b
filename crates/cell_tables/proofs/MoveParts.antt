-- The move of a job that can: what is next at its target, where it is, and that the parts of a move make the move.
use Rattle.std.proofs.Common.{◌≡◌, ℕ, ◌+◌, ◌-◌, ◌<◌, ◌≤◌, List, [], ◌∷◌, ◌++◌, length, take, get_or, get_or-set_same, get_or-set_other, Option, None, Some, Bool, true, false, nat_lt, if◌then◌else◌, lt-ltb, refl, sym, ◌∙◌, ap, subst, arith, ◌⊎◌, inl, inr}
use Rattle.std.proofs.lemmas.Bool.{cases_lt, cases_eq}
use Rattle.std.proofs.lemmas.List.{take_more, set_past}
use Rattle.shop_base.specs.declared.limits.TheConstants.{MAX_MOMENT}
use Rattle.shop_base.specs.declared.job_state.JobState.{JobState}
use Rattle.shop_base.specs.declared.move_order.Spot.{Spot}
use Rattle.shop_base.specs.declared.move_order.Spot.TheVariants.{Out, At}
use Rattle.shop_base.specs.Plan.{PlannedShop, jobs, machines, steps, order, job_at, machine_of, clean, Visits, IsWellShaped}
use Rattle.shop_base.specs.Cell.{Cell, MachineState, absent, unused, machine_in, with_job, with_machine, made, entries, IsOn}
use Rattle.shop_base.specs.Report.{with_ready, with_clean}
use Rattle.shop_base.specs.Move.{CanMove, KeepsPlan, source, target, after_leaving, with_entry, with_moved, after_move}
use Rattle.shop_base.proofs.Visits.{visits_machine}
use Rattle.shop_base.proofs.Keeping.{target_next}
use Rattle.shop_base.proofs.CellFacts.{target_visited, target_out, source_on, source_outside}
use Rattle.cell_tables.specs.declared.tables.Tables.{Tables}
use Rattle.cell_tables.specs.Tables.{cell_of, row_at, entered_at, AreTables, IsJobPut, IsMachinePut}
use Rattle.cell_tables.specs.Moving.{IsSpotOf}
use Rattle.cell_tables.specs.Entering.{HasNext, IsEntered}
use Rattle.cell_tables.proofs.Cells.{job-read, entries-read, entries-count, cleaning-read, last-read}
use Rattle.cell_tables.proofs.Writes.{job_written, tables-job_written, row_written, tables-row_written}

-- the entrants of a machine with one more, the next, are the first of its order
entries-more : (p : PlannedShop) (t : Tables) (m j : ℕ) → AreTables p t → HasNext p (cell_of p t) (At m) j
    → take (entered_at t m + 1) (order p m) ≡ entries (cell_of p t) m ++ j ∷ []
entries-more p t m j tables next =
    let count : length (entries (cell_of p t) m) ≡ entered_at t m = entries-count p t m tables next.0 in
    take_more (order p m) (entered_at t m) 0 (omega (arith, next.1)) ∙ ap (λ (es : List ℕ). es ++ job_at p m (entered_at t m) ∷ []) (sym (entries-read p t m tables next.0))
    ∙ ap (λ i. entries (cell_of p t) m ++ i ∷ []) (ap (job_at p m) (sym count) ∙ next.2)

-- a job that can move is next at its target
pub can-next : (p : PlannedShop) (c : Cell) (j t : ℕ) → IsWellShaped p → CanMove p c j t → KeepsPlan p c j → HasNext p c (target p c j) j
can-next p c j t shaped can keeps = go (cases_lt (made c j) (steps p j))
  where
    go : (made c j < steps p j) ⊎ (steps p j ≤ made c j) → HasNext p c (target p c j) j
    go (inr past) = rw (target_out p c j past) tt
    go (inl within) =
        let m : ℕ = machine_of p j (made c j) in
        let visits : Visits p j (made c j) m = record { within = within; here = refl } in
        let place = target_next p c j m keeps visits in
        rw (target_visited p c j m visits) (visits_machine p j (made c j) m shaped visits, place.0, place.1)

-- a job on a machine, or outside
pub source_or_out : (p : PlannedShop) (c : Cell) (j : ℕ) → IsWellShaped p → made c j ≤ steps p j → IsSpotOf p (source p c j)
source_or_out p c j shaped within = go (cases_eq (made c j) 0)
  where
    go : (made c j ≡ 0) ⊎ (made c j ≡ 0 → ⊥) → IsSpotOf p (source p c j)
    go (inl outside) = rw (source_outside p c j outside) tt
    go (inr inside) =
        let on : IsOn p c j (made c j - 1) (machine_of p j (made c j - 1)) = record { entered = omega (arith, inside); visits = record { within = omega (arith, inside); here = refl } } in
        rw (source_on p c j (made c j - 1) (machine_of p j (made c j - 1)) on) (visits_machine p j (made c j - 1) (machine_of p j (made c j - 1)) shaped on.visits)

-- a write to one machine that keeps its entries keeps all
kept_entries : (c : Cell) (m n : ℕ) (state : MachineState) → state.entries ≡ entries c m → entries (with_machine c m state) n ≡ entries c n
kept_entries c m n state same = go (cases_eq n m) (cases_lt m (length c.machines))
  where
    go : (n ≡ m) ⊎ (n ≡ m → ⊥) → (m < length c.machines) ⊎ (length c.machines ≤ m) → entries (with_machine c m state) n ≡ entries c n
    go (inl at) (inl inside) = rw at (ap (λ (s : MachineState). s.entries) (get_or-set_same c.machines m state unused inside) ∙ same)
    go (inl at) (inr past) = ap (λ (ms : List MachineState). (get_or ms n unused).entries) (set_past c.machines m state past)
    go (inr other) inside = ap (λ (s : MachineState). s.entries) (get_or-set_other c.machines m n state unused other)

-- leaving changes no entries
left_entries : (p : PlannedShop) (c : Cell) (s : Spot) (t n : ℕ) → entries (after_leaving p c s t) n ≡ entries c n
left_entries p c Out t n = refl
left_entries p c (At m) t n = go (nat_lt 0 (clean p m))
  where
    go : (b : Bool) → entries (if b then with_machine c m (record (machine_in c m) { cleaning = Some t }) else c) n ≡ entries c n
    go true = kept_entries c m n (record (machine_in c m) { cleaning = Some t }) refl
    go false = refl

-- nor any job
pub left_jobs : (p : PlannedShop) (c : Cell) (s : Spot) (t : ℕ) → (after_leaving p c s t).jobs ≡ c.jobs
left_jobs p c Out t = refl
left_jobs p c (At m) t = go (nat_lt 0 (clean p m))
  where
    go : (b : Bool) → (if b then with_machine c m (record (machine_in c m) { cleaning = Some t }) else c).jobs ≡ c.jobs
    go true = refl
    go false = refl

-- nor does an entry
pub came_jobs : (c : Cell) (j : ℕ) (s : Spot) → (with_entry c j s).jobs ≡ c.jobs
came_jobs c j Out = refl
came_jobs c j (At m) = refl

-- a job that is next is so once it has left its source
pub next_once_left : (p : PlannedShop) (c left : Cell) (s spot : Spot) (j t : ℕ) → left ≡ after_leaving p c s t → HasNext p c spot j → HasNext p left spot j
next_once_left p c left s Out j t is next = tt
next_once_left p c left s (At m) j t is next =
    let same : entries left m ≡ entries c m = ap (λ (x : Cell). entries x m) is ∙ left_entries p c s t m in
    subst (λ (es : List ℕ). (m < machines p) × (length es < length (order p m)) × (job_at p m (length es) ≡ j)) (sym same) next

some-same : (a b : ℕ) → Some a ≡ Some b → a ≡ b
some-same a b is = cc

-- a row with its cleaning begun makes the cell after leaving
pub left_cell : (p : PlannedShop) (old new : Tables) (m at : ℕ) → AreTables p old → m < machines p → 0 < clean p m
    → IsMachinePut old m (record { entered = entered_at old m; cleaning = Some at }) old.last new → cell_of p new ≡ after_leaving p (cell_of p old) (At m) at
left_cell p old new m at tables inside timed put =
    rw (lt-ltb 0 (clean p m) timed)
    (row_written p old new m (record { entered = entered_at old m; cleaning = Some at }) old.last put
    ∙ ap (λ (es : List ℕ). let c : Cell = record (with_machine (cell_of p old) m (record { entries = es; cleaning = Some at })) { last = old.last } in c) (sym (entries-read p old m tables inside))
    ∙ ap (λ l. let c : Cell = record (with_machine (cell_of p old) m (record (machine_in (cell_of p old) m) { cleaning = Some at })) { last = l } in c) (sym (last-read p old)))

pub left-are_tables : (p : PlannedShop) (old new : Tables) (m at : ℕ) → AreTables p old → m < machines p → at ≤ MAX_MOMENT
    → IsMachinePut old m (record { entered = entered_at old m; cleaning = Some at }) old.last new → AreTables p new
left-are_tables p old new m at tables inside in_range put =
    tables-row_written p old new m (record { entered = entered_at old m; cleaning = Some at }) old.last tables inside (tables.cursors m inside) (λ s is. omega (arith, some-same at s is)) tables.last_in_range put

-- one more entrant of a spot makes the cell after coming there
pub came_cell : (p : PlannedShop) (old new : Tables) (s : Spot) (j : ℕ) → AreTables p old → HasNext p (cell_of p old) s j → IsEntered old s new
    → cell_of p new ≡ with_entry (cell_of p old) j s
came_cell p old new Out j tables next put = ap (cell_of p) put
came_cell p old new (At m) j tables next put =
    row_written p old new m (record { entered = entered_at old m + 1; cleaning = (row_at old m).cleaning }) old.last put
    ∙ ap (λ (es : List ℕ). let c : Cell = record (with_machine (cell_of p old) m (record { entries = es; cleaning = (row_at old m).cleaning })) { last = old.last } in c) (entries-more p old m j tables next)
    ∙ ap (λ (o : Option ℕ). let c : Cell = record (with_machine (cell_of p old) m (record { entries = entries (cell_of p old) m ++ j ∷ []; cleaning = o })) { last = old.last } in c) (sym (cleaning-read p old m tables next.0))
    ∙ ap (λ l. let c : Cell = record (with_machine (cell_of p old) m (record (machine_in (cell_of p old) m) { entries = entries (cell_of p old) m ++ j ∷ [] })) { last = l } in c) (sym (last-read p old))

-- and they are tables
pub came-are_tables : (p : PlannedShop) (old new : Tables) (s : Spot) (j : ℕ) → AreTables p old → HasNext p (cell_of p old) s j → IsEntered old s new → AreTables p new
came-are_tables p old new Out j tables next put = subst (AreTables p) (sym put) tables
came-are_tables p old new (At m) j tables next put =
    tables-row_written p old new m (record { entered = entered_at old m + 1; cleaning = (row_at old m).cleaning }) old.last tables next.0
    (omega (arith, next.1, entries-count p old m tables next.0)) (λ s is. tables.cleaning_in_range m s (cleaning-read p old m tables next.0 ∙ is)) tables.last_in_range put

-- a row with no cleaning makes the cell once the machine is clean
pub tidied_cell : (p : PlannedShop) (old new : Tables) (m at : ℕ) → AreTables p old → m < machines p
    → IsMachinePut old m (record { entered = entered_at old m; cleaning = None }) at new → cell_of p new ≡ with_clean (cell_of p old) m at
tidied_cell p old new m at tables inside put =
    row_written p old new m (record { entered = entered_at old m; cleaning = None }) at put
    ∙ ap (λ (es : List ℕ). let c : Cell = record (with_machine (cell_of p old) m (record { entries = es; cleaning = None })) { last = at } in c) (sym (entries-read p old m tables inside))

pub tidied-are_tables : (p : PlannedShop) (old new : Tables) (m at : ℕ) → AreTables p old → m < machines p → at ≤ MAX_MOMENT
    → IsMachinePut old m (record { entered = entered_at old m; cleaning = None }) at new → AreTables p new
tidied-are_tables p old new m at tables inside in_range put =
    tables-row_written p old new m (record { entered = entered_at old m; cleaning = None }) at tables inside (tables.cursors m inside) (λ s is. cc) in_range put

-- the row of a job that is ready makes the cell with it
pub readied_cell : (p : PlannedShop) (old new : Tables) (j at : ℕ) → IsJobPut old j (record (get_or old.jobs.items j absent) { ready = true }) at new
    → cell_of p new ≡ with_ready (cell_of p old) j at
readied_cell p old new j at put =
    job_written p old new j (record (get_or old.jobs.items j absent) { ready = true }) at put
    ∙ ap (λ (s : JobState). let c : Cell = record (with_job (cell_of p old) j (record s { ready = true })) { last = at } in c) (sym (job-read p old j))

pub readied-are_tables : (p : PlannedShop) (old new : Tables) (j at : ℕ) → AreTables p old → j < jobs p → at ≤ MAX_MOMENT
    → IsJobPut old j (record (get_or old.jobs.items j absent) { ready = true }) at new → AreTables p new
readied-are_tables p old new j at tables inside in_range put =
    tables-job_written p old new j (record (get_or old.jobs.items j absent) { ready = true }) at tables inside
    (omega (arith, tables.since_in_range j, ap (λ (s : JobState). s.since) (job-read p old j))) in_range put

-- the parts of a move make the move
pub move_of_parts : (p : PlannedShop) (c left came new : Cell) (s spot : Spot) (j t : ℕ) → s ≡ source p c j → spot ≡ target p c j
    → left ≡ after_leaving p c s t → came ≡ with_entry left j spot → new ≡ with_moved came j t → new ≡ after_move p c j t
move_of_parts p c left came new s spot j t from to leaves comes moves =
    moves
    ∙ ap (λ x. with_moved x j t) (comes
    ∙ ap (λ x. with_entry x j spot) (leaves ∙ ap (λ x. after_leaving p c x t) from)
    ∙ ap (λ x. with_entry (after_leaving p c (source p c j) t) j x) to)
