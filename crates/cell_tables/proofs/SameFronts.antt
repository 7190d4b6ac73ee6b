-- Cells by plans with other orders that begin with the entries so far.
use Rattle.std.proofs.Common.{◌≡◌, ℕ, suc, ◌+◌, ◌<◌, ◌≤◌, List, [], ◌∷◌, ◌++◌, length, take, get_or, length-append, Some, inl, inr, arith, refl, sym, ap, ◌∙◌, subst}
use Rattle.std.proofs.Math.Seq.{take-append_seam}
use Rattle.std.proofs.lemmas.{Bool.cases_lt, List.get_or_past}
use Rattle.shop_base.specs.declared.limits.TheConstants.{MAX_MOMENT}
use Rattle.shop_base.specs.{Plan.{PlannedShop, IsWellShaped, machines, order}, Cell.{Cell, MachineState, cleaning, entries, since}, Move.IsPrefix, Sound.IsSound}
use Rattle.cell_tables.specs.{declared.tables.MachineRow.MachineRow, declared.tables.Tables.Tables, PlannedCell.PlannedCell}
use Rattle.cell_tables.specs.Tables.{AreSound, cell_of, entered_at, no_row, state_of, states_from}
use Rattle.cell_tables.specs.Reordered.{Begin, BeginsWithEntries, reordered}
use Rattle.cell_tables.proofs.{Cells.{entries-read, entries-count}, CarriedCells.carried-sound, Reorders.{begins_keeps, begins_recast}}

-- rows of which the same jobs have entered are the same machines
states_same : (p q : PlannedShop) (m : ℕ) (rows : List MachineRow)
    → ((k : ℕ) → k < length rows → take (get_or rows k no_row).entered (order q (m + k)) ≡ take (get_or rows k no_row).entered (order p (m + k)))
    → states_from q m rows ≡ states_from p m rows
states_same p q m [] same = refl
states_same p q m (row ∷ rows) same =
    let here : m + 0 ≡ m = omega arith in
    ap (λ es. record { entries = es; cleaning = row.cleaning } ∷ states_from q (suc m) rows) (subst (λ n. take row.entered (order q n) ≡ take row.entered (order p n)) here (same 0 (omega arith)))
    ∙ ap (λ (states : List MachineState). state_of p m row ∷ states) (states_same p q (suc m) rows (λ k lt.
    let next : m + suc k ≡ suc m + k = omega arith in
    subst (λ n. take (get_or rows k no_row).entered (order q n) ≡ take (get_or rows k no_row).entered (order p n)) next (same (suc k) (omega arith))))

module _ (p : PlannedShop) (orders : List (List ℕ)) (t : Tables) (are : AreSound p t) where
  abbrev other : PlannedShop
  other = reordered p orders

  module _ (fits : IsWellShaped other) (begins : BeginsWithEntries (cell_of p t) other) where
    -- the same jobs have entered a machine
    fronts_same : (m : ℕ) → m < machines p → take (entered_at t m) (order other m) ≡ take (entered_at t m) (order p m)
    fronts_same m inside =
        let (rest, is) = begins m in
        ap (take (entered_at t m)) is
        ∙ ap (λ n. take n (entries (cell_of p t) m ++ rest)) (sym (entries-count p t m are.tables inside))
        ∙ take-append_seam (entries (cell_of p t) m) rest
        ∙ entries-read p t m are.tables inside

    pub cell_same : cell_of other t ≡ cell_of p t
    unfolding cell_of
    cell_same = ap (λ (states : List MachineState). let c : Cell = record { jobs = t.jobs.items; machines = states; last = t.last } in c)
        (states_same p other 0 t.machines.items (λ k lt.
        let here : 0 + k ≡ k = omega arith in
        subst (λ n. take (entered_at t k) (order other n) ≡ take (entered_at t k) (order p n)) (sym here) (fronts_same k (omega (arith, lt, are.tables.machine_count)))))

    room : (m : ℕ) → m < machines p → entered_at t m ≤ length (order other m)
    room m inside =
        let (rest, is) = begins m in
        omega (arith, entries-count p t m are.tables inside, ap length is, length-append (entries (cell_of p t) m) rest)

    -- so the tables are those of the other plan's cell
    pub other_sound : AreSound other t
    other_sound = record {
      tables = record {
        shaped = fits;
        job_count = are.tables.job_count;
        machine_count = are.tables.machine_count;
        cursors = room;
        since_in_range = subst (λ (c : Cell). (j : ℕ) → since c j ≤ MAX_MOMENT) (sym cell_same) are.tables.since_in_range;
        cleaning_in_range = subst (λ (c : Cell). (m s : ℕ) → cleaning c m ≡ Some s → s ≤ MAX_MOMENT) (sym cell_same) are.tables.cleaning_in_range;
        last_in_range = are.tables.last_in_range;
      };
      sound = subst (IsSound other) (sym cell_same)
          (carried-sound p other (cell_of p t) (cell_of p t) are.tables.shaped fits are.sound (begins_keeps p orders (cell_of p t) begins) (begins_recast p orders (cell_of p t) begins are.sound).carried);
    }

-- where the orders fit, there is none past the machines
pub begins_all : (p : PlannedShop) (orders : List (List ℕ)) (c : Cell) → IsWellShaped p → IsSound p c → IsWellShaped (reordered p orders) → Begin (machines p) c orders → BeginsWithEntries c (reordered p orders)
begins_all p orders c shaped sound fits begin m = elim (cases_lt m (machines p)) [
  | inl inside ↦ begin.1 m inside
  | inr past ↦ subst (IsPrefix (entries c m))
      (get_or_past p.plan.order m [] (omega (arith, past, shaped.counts.orders)) ∙ sym (get_or_past orders m [] (omega (arith, past, fits.counts.orders)))) (sound.in_order m)
]

-- what is taken out of a cell, and put together again
module _ (x : PlannedCell PlannedShop) (t : Tables) (plan : x.plan ≡ x.basis) (cell : cell_of x.basis t ≡ x.cell) (sound : AreSound x.basis t) where
  out_sound : AreSound x.plan t
  out_sound = subst (λ (p : PlannedShop). AreSound p t) (sym plan) sound

  out_cell : cell_of x.plan t ≡ x.cell
  out_cell = ap (λ (p : PlannedShop). cell_of p t) plan ∙ cell

  pub again_sound : (p : PlannedShop) → p ≡ x.plan → AreSound p t
  again_sound p same = subst (λ (q : PlannedShop). AreSound q t) (sym same) out_sound

  pub again_cell : (p : PlannedShop) → p ≡ x.plan → cell_of p t ≡ x.cell
  again_cell p same = ap (λ (q : PlannedShop). cell_of q t) same ∙ out_cell

  -- by the other plan it is the same cell
  module _ (orders : List (List ℕ)) (p : PlannedShop) (same : p ≡ reordered x.plan orders) (fits : IsWellShaped p) (begins : BeginsWithEntries x.cell (reordered x.plan orders)) where
    pub by_other : AreSound p t × (cell_of p t ≡ x.cell)
    by_other =
        let fits_there : IsWellShaped (reordered x.plan orders) = subst IsWellShaped same fits in
        let begins_there : BeginsWithEntries (cell_of x.plan t) (reordered x.plan orders) = subst (λ (c : Cell). BeginsWithEntries c (reordered x.plan orders)) (sym out_cell) begins in (
          subst (λ (q : PlannedShop). AreSound q t) (sym same) (other_sound x.plan orders t out_sound fits_there begins_there),
          ap (λ (q : PlannedShop). cell_of q t) same ∙ cell_same x.plan orders t out_sound fits_there begins_there ∙ out_cell,
        )

-- what is taken out of a rest's cell, and put together again by a plan with other orders that fit, and begin with the entries
module _ (x : PlannedCell PlannedShop) (t : Tables) (orders : List (List ℕ)) (old new p : PlannedShop) (c : Cell) (plan : x.plan ≡ x.basis) (cell : cell_of x.basis t ≡ x.cell)
    (sound : AreSound x.basis t) (basis : old ≡ x.basis) (put : new ≡ reordered old orders) (here : x.plan ≡ p) (there : x.cell ≡ c) where
  pub new_is : new ≡ reordered p orders
  new_is = put ∙ ap (λ (q : PlannedShop). reordered q orders) (basis ∙ sym plan ∙ here)

  pub put_by : IsWellShaped (reordered p orders) → BeginsWithEntries c (reordered p orders) → AreSound new t × (cell_of new t ≡ c)
  put_by fits begins =
      let is : new ≡ reordered x.plan orders = put ∙ ap (λ (q : PlannedShop). reordered q orders) (basis ∙ sym plan) in
      let by = by_other x t plan cell sound orders new is (subst IsWellShaped (sym new_is) fits)
      (subst (λ (d : Cell). BeginsWithEntries d (reordered x.plan orders)) (sym there) (subst (λ (q : PlannedShop). BeginsWithEntries c (reordered q orders)) (sym here) begins)) in
      (by.0, by.1 ∙ there)
