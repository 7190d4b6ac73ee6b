-- A cell without the jobs that don't stay: what is read of it, and what each part of an event makes of it.
use Rattle.std.proofs.Common.{◌≡◌, ℕ, ◌+◌, inl, inr, List, [], ◌∷◌, ◌++◌, length, set, map, Option, None, Some, Bool, true, false, nat_lt, if◌then◌else◌, refl, sym, ap, ◌∙◌, arith}
use Rattle.std.proofs.lemmas.Bool.{cases_lt}
use Rattle.std.proofs.lemmas.List.{get_or_past, get_or-map, length-map, map-set, append-nil}
use Rattle.std.proofs.Math.Seq.{map-set_same}
use Rattle.shop_base.specs.declared.job_state.JobState.{JobState}
use Rattle.shop_base.specs.declared.move_order.Spot.{Spot, TheVariants.{Out, At}}
use Rattle.shop_base.specs.Plan.{PlannedShop, clean}
use Rattle.shop_base.specs.Cell.{Cell, MachineState, absent, unused, job_in, machine_in, with_machine, made, entries, cleaning}
use Rattle.shop_base.specs.Report.{with_ready, with_clean}
use Rattle.shop_base.specs.Move.{after_leaving, with_entry, with_moved}
use Rattle.run_pruning.specs.Staying.{stays, new_number, staying, renumbered}
use Rattle.run_pruning.specs.Pruned.{pruned, last_in, pruned_machine, pruned_cell}
use Rattle.run_pruning.proofs.Left.{staying_at, staying-set_kept, staying-set_dropped, renumbered-append, renumbered_kept, renumbered_dropped}

module _ (marks : List Bool) where
  -- a machine with these entries and this cleaning
  machine_of : List ℕ → Option ℕ → MachineState
  machine_of es o = record { entries = es; cleaning = o }

  -- a machine that a job that stays entered last is cleaned as it is
  machine_kept : (s : MachineState) → stays marks (last_in s.entries) ≡ true → pruned_machine marks s ≡ record { entries = renumbered marks s.entries; cleaning = s.cleaning }
  machine_kept s is = ap {B = MachineState} (λ (b : Bool). record { entries = renumbered marks s.entries; cleaning = if b then s.cleaning else None }) is

  -- any other isn't cleaned
  machine_dropped : (s : MachineState) → stays marks (last_in s.entries) ≡ false → pruned_machine marks s ≡ record { entries = renumbered marks s.entries; cleaning = None }
  machine_dropped s is = ap {B = MachineState} (λ (b : Bool). record { entries = renumbered marks s.entries; cleaning = if b then s.cleaning else None }) is

  -- nor is one that wasn't
  machine_clean : (s : MachineState) → s.cleaning ≡ None → pruned_machine marks s ≡ record { entries = renumbered marks s.entries; cleaning = None }
  machine_clean s none = go (stays marks (last_in s.entries)) refl
    where
      go : (b : Bool) → stays marks (last_in s.entries) ≡ b → pruned_machine marks s ≡ record { entries = renumbered marks s.entries; cleaning = None }
      go true is = machine_kept s is ∙ ap {B = MachineState} (λ (o : Option ℕ). record { entries = renumbered marks s.entries; cleaning = o }) none
      go false is = machine_dropped s is

  pub unused_left : pruned_machine marks unused ≡ unused
  unused_left = machine_clean unused refl

  module _ (c : Cell) (u : ℕ) where
    abbrev left : Cell
    left = pruned_cell marks c u

    pub machine_left : (m : ℕ) → machine_in left m ≡ pruned_machine marks (machine_in c m)
    machine_left m = elim (cases_lt m (length c.machines)) [
      | inl inside ↦ get_or-map (pruned_machine marks) c.machines m unused unused inside
      | inr past ↦ get_or_past (map (pruned_machine marks) c.machines) m unused (omega (arith, past, length-map c.machines (pruned_machine marks)))
          ∙ sym unused_left ∙ sym (ap (pruned_machine marks) (get_or_past c.machines m unused past))
    ]

    pub entries_left : (m : ℕ) → entries left m ≡ renumbered marks (entries c m)
    entries_left m = ap (λ (s : MachineState). s.entries) (machine_left m)

    pub cleaning_kept : (m : ℕ) → stays marks (last_in (entries c m)) ≡ true → cleaning left m ≡ cleaning c m
    cleaning_kept m kept = ap (λ (s : MachineState). s.cleaning) (machine_left m ∙ machine_kept (machine_in c m) kept)

    pub cleaning_dropped : (m : ℕ) → stays marks (last_in (entries c m)) ≡ false → cleaning left m ≡ None
    cleaning_dropped m dropped = ap (λ (s : MachineState). s.cleaning) (machine_left m ∙ machine_dropped (machine_in c m) dropped)

    pub cleaning_none : (m : ℕ) → cleaning c m ≡ None → cleaning left m ≡ None
    cleaning_none m none = ap (λ (s : MachineState). s.cleaning) (machine_left m ∙ machine_clean (machine_in c m) none)

    pub job_left : (j : ℕ) → stays marks j ≡ true → job_in left (new_number marks j) ≡ job_in c j
    job_left j kept = staying_at marks c.jobs j absent kept

    -- the cell with other jobs or machines
    with_jobs : {js ks : List JobState} → js ≡ ks → (t : ℕ)
        → (let one : Cell = record { jobs = js; machines = map (pruned_machine marks) c.machines; last = t } in
        let other : Cell = record { jobs = ks; machines = map (pruned_machine marks) c.machines; last = t } in one ≡ other)
    with_jobs same t = ap {B = Cell} (λ (js : List JobState). record { jobs = js; machines = map (pruned_machine marks) c.machines; last = t }) same

    with_machines : {ms ns : List MachineState} → ms ≡ ns
        → (let one : Cell = record { jobs = staying marks c.jobs; machines = ms; last = u } in let other : Cell = record { jobs = staying marks c.jobs; machines = ns; last = u } in one ≡ other)
    with_machines same = ap {B = Cell} (λ (ms : List MachineState). record { jobs = staying marks c.jobs; machines = ms; last = u }) same

    machine_put : (m : ℕ) (s : MachineState) → pruned_cell marks (with_machine c m s) u ≡ with_machine left m (pruned_machine marks s)
    machine_put m s = with_machines (map-set (pruned_machine marks) c.machines m s)

    machine_same : (m : ℕ) (s : MachineState) → pruned_machine marks s ≡ pruned_machine marks (machine_in c m) → pruned_cell marks (with_machine c m s) u ≡ left
    machine_same m s same = with_machines (map-set_same (pruned_machine marks) c.machines m s unused same)

    -- a job becomes ready
    pub readied_kept : (j t : ℕ) → stays marks j ≡ true → pruned_cell marks (with_ready c j t) t ≡ with_ready left (new_number marks j) t
    readied_kept j t kept = with_jobs
        (staying-set_kept marks c.jobs j (record (job_in c j) { ready = true }) kept
        ∙ ap (λ (s : JobState). set (staying marks c.jobs) (new_number marks j) (record s { ready = true })) (sym (job_left j kept))) t

    pub readied_dropped : (j t : ℕ) → stays marks j ≡ false → pruned_cell marks (with_ready c j t) u ≡ left
    readied_dropped j t dropped = with_jobs (staying-set_dropped marks c.jobs j (record (job_in c j) { ready = true }) dropped) u

    -- a job has made a move
    pub moved_kept : (j t : ℕ) → stays marks j ≡ true → pruned_cell marks (with_moved c j t) t ≡ with_moved left (new_number marks j) t
    moved_kept j t kept = with_jobs
        (staying-set_kept marks c.jobs j (record { made = made c j + 1; ready = false; since = t }) kept
        ∙ ap (λ (s : JobState). set (staying marks c.jobs) (new_number marks j) (record { made = s.made + 1; ready = false; since = t })) (sym (job_left j kept))) t

    pub moved_dropped : (j t : ℕ) → stays marks j ≡ false → pruned_cell marks (with_moved c j t) u ≡ left
    moved_dropped j t dropped = with_jobs (staying-set_dropped marks c.jobs j (record { made = made c j + 1; ready = false; since = t }) dropped) u

    -- a machine becomes clean
    pub tidied_dropped : (m t : ℕ) → stays marks (last_in (entries c m)) ≡ false → pruned_cell marks (with_clean c m t) u ≡ left
    tidied_dropped m t dropped = machine_same m (record (machine_in c m) { cleaning = None })
        (machine_clean (record (machine_in c m) { cleaning = None }) refl ∙ sym (machine_dropped (machine_in c m) dropped))

    -- a job that stays leaves a spot: it entered there last
    pub leaving_kept : (p : PlannedShop) (spot : Spot) (t : ℕ) → ((m : ℕ) → spot ≡ At m → stays marks (last_in (entries c m)) ≡ true)
        → pruned_cell marks (after_leaving p c spot t) u ≡ after_leaving (pruned marks p) left spot t
    leaving_kept p Out t kept = refl
    leaving_kept p (At m) t kept = go (nat_lt 0 (clean p m))
      where
        go : (b : Bool) → pruned_cell marks (if b then with_machine c m (record (machine_in c m) { cleaning = Some t }) else c) u
            ≡ (if b then with_machine left m (record (machine_in left m) { cleaning = Some t }) else left)
        go true = machine_put m (record (machine_in c m) { cleaning = Some t })
            ∙ ap (λ (s : MachineState). with_machine left m s)
            (machine_kept (record (machine_in c m) { cleaning = Some t }) (kept m refl) ∙ sym (ap {B = MachineState} (λ (s : MachineState). record s { cleaning = Some t }) (machine_left m)))
        go false = refl

    pub leaving_dropped : (p : PlannedShop) (spot : Spot) (t : ℕ) → ((m : ℕ) → spot ≡ At m → stays marks (last_in (entries c m)) ≡ false)
        → pruned_cell marks (after_leaving p c spot t) u ≡ left
    leaving_dropped p Out t dropped = refl
    leaving_dropped p (At m) t dropped = go (nat_lt 0 (clean p m))
      where
        go : (b : Bool) → pruned_cell marks (if b then with_machine c m (record (machine_in c m) { cleaning = Some t }) else c) u ≡ left
        go true = machine_same m (record (machine_in c m) { cleaning = Some t })
            (machine_dropped (record (machine_in c m) { cleaning = Some t }) (dropped m refl) ∙ sym (machine_dropped (machine_in c m) (dropped m refl)))
        go false = refl

    -- a job comes to a spot, which isn't being cleaned
    pub entering_kept : (j : ℕ) (spot : Spot) → stays marks j ≡ true → ((m : ℕ) → spot ≡ At m → cleaning c m ≡ None)
        → pruned_cell marks (with_entry c j spot) u ≡ with_entry left (new_number marks j) spot
    entering_kept j Out kept none = refl
    entering_kept j (At m) kept none =
        let here : machine_in left m ≡ record { entries = renumbered marks (entries c m); cleaning = None } = machine_left m ∙ machine_clean (machine_in c m) (none m refl) in
        let more : renumbered marks (entries c m ++ j ∷ []) ≡ renumbered marks (entries c m) ++ new_number marks j ∷ [] =
        renumbered-append marks (entries c m) (j ∷ []) ∙ ap (λ (js : List ℕ). renumbered marks (entries c m) ++ js) (renumbered_kept marks j kept) in
        machine_put m (record (machine_in c m) { entries = entries c m ++ j ∷ [] })
        ∙ ap (λ (s : MachineState). with_machine left m s)
        (machine_clean (record (machine_in c m) { entries = entries c m ++ j ∷ [] }) (none m refl)
        ∙ ap {B = MachineState} (λ (js : List ℕ). record { entries = js; cleaning = None }) more
        ∙ sym (ap {B = MachineState} (λ (s : MachineState). record { entries = s.entries ++ new_number marks j ∷ []; cleaning = s.cleaning }) here))

    pub entering_dropped : (j : ℕ) (spot : Spot) → stays marks j ≡ false → ((m : ℕ) → spot ≡ At m → cleaning c m ≡ None)
        → pruned_cell marks (with_entry c j spot) u ≡ left
    entering_dropped j Out dropped none = refl
    entering_dropped j (At m) dropped none =
        let more : renumbered marks (entries c m ++ j ∷ []) ≡ renumbered marks (entries c m) =
        renumbered-append marks (entries c m) (j ∷ []) ∙ ap (λ (js : List ℕ). renumbered marks (entries c m) ++ js) (renumbered_dropped marks j dropped) ∙ append-nil (renumbered marks (entries c m)) in
        machine_same m (record (machine_in c m) { entries = entries c m ++ j ∷ [] })
        (machine_clean (record (machine_in c m) { entries = entries c m ++ j ∷ [] }) (none m refl)
        ∙ ap {B = MachineState} (λ (js : List ℕ). record { entries = js; cleaning = None }) more
        ∙ sym (machine_clean (machine_in c m) (none m refl)))

  -- a machine that was being cleaned after a job that stays becomes clean
  pub tidied_kept : (c : Cell) (u m t : ℕ) → pruned_cell marks (with_clean c m t) t ≡ with_clean (pruned_cell marks c u) m t
  tidied_kept c u m t = machine_put c t m (record (machine_in c m) { cleaning = None })
      ∙ ap (λ (s : MachineState). with_machine (pruned_cell marks c t) m s)
      (machine_clean (record (machine_in c m) { cleaning = None }) refl ∙ sym (ap {B = MachineState} (λ (s : MachineState). record s { cleaning = None }) (machine_left c u m)))

  -- where all that is being cleaned is so after jobs that stay, each machine is cleaned as it is
  pub cleanings_kept : (c : Cell) (u : ℕ) → ((m s : ℕ) → cleaning c m ≡ Some s → stays marks (last_in (entries c m)) ≡ true) → (m : ℕ) → cleaning (pruned_cell marks c u) m ≡ cleaning c m
  cleanings_kept c u after m = go (cleaning c m) refl
    where
      go : (o : Option ℕ) → cleaning c m ≡ o → cleaning (pruned_cell marks c u) m ≡ cleaning c m
      go None is = cleaning_none c u m is ∙ sym is
      go (Some s) is = cleaning_kept c u m (after m s is)
