-- The tables of all rows that are carried over to another plan.
use Rattle.std.proofs.Common.{◌≡◌, ℕ, ◌≤◌, inl, inr, length, take, Option, None, Some, IfSome, sym, ap, ◌∙◌, subst, arith, length-append}
use Rattle.std.proofs.{lemmas.Bool.cases_lt, lemmas.List.get_or_past}
use Rattle.shop_base.specs.{declared.limits.TheConstants.MAX_MOMENT, Plan.{PlannedShop, jobs, machines, order, IsWellShaped}}
use Rattle.shop_base.specs.{Cell.{Cell, MachineState, unused, entries, cleaning}, Sound.IsSound}
use Rattle.cell_tables.specs.{declared.tables.Tables.Tables, Tables.{cell_of, row_at, AreSound}}
use Rattle.cell_tables.proofs.Cells.{job-read, machine-read, length-jobs, length-machines, last-read}
use Rattle.cell_tables.specs.{Kept.KeepsSoFar, Carried.IsCarried, CarriedRows.{AreCarriedJobs, AreCarriedMachines}}
use Rattle.cell_tables.proofs.{KeptSoFar.{take_front, kept_begins}, CarriedCells.carried-sound}

module _ (p q : PlannedShop) (c : Cell) (t : Tables) (shaped_p : IsWellShaped p) (shaped : IsWellShaped q) (sound : IsSound p c) (keeps : KeepsSoFar p c q)
    (of_jobs : AreCarriedJobs p c (jobs q) t.jobs.items) (of_machines : AreCarriedMachines c q (machines q) t.machines.items) (last : t.last ≡ c.last) where
  pub carried : IsCarried p c q (cell_of q t)
  carried = record {
    job_count = length-jobs q t ∙ of_jobs.count;
    machine_count = length-machines q t ∙ of_machines.count;
    jobs_same = λ j inside. job-read q t j ∙ of_jobs.same j inside;
    entries_same = λ m inside. ap (λ (s : MachineState). s.entries) (machine-read q t m (omega (arith, of_machines.count)))
        ∙ ap (λ n. take n (order q m)) (of_machines.entered m inside) ∙ take_front (entries c m) (order q m) (kept_begins p c q sound keeps m);
    cleaning_is = λ m inside. ap (λ (s : MachineState). s.cleaning) (machine-read q t m (omega (arith, of_machines.count))) ∙ of_machines.cleaning m inside;
    last_same = last-read q t ∙ last;
  }

  new_sound : IsSound q (cell_of q t)
  new_sound = carried-sound p q c (cell_of q t) shaped_p shaped sound keeps carried

  some_range : (o : Option ℕ) (s : ℕ) → IfSome o (λ from. from ≤ MAX_MOMENT) → o ≡ Some s → s ≤ MAX_MOMENT
  some_range o s range is = subst (λ x. IfSome x (λ from. from ≤ MAX_MOMENT)) is range

  cleaning_range : (m s : ℕ) → cleaning (cell_of q t) m ≡ Some s → s ≤ MAX_MOMENT
  cleaning_range m s is = elim (cases_lt m (machines q)) [
    | inl inside ↦ some_range (row_at t m).cleaning s (of_machines.in_range m inside)
        (sym (ap (λ (x : MachineState). x.cleaning) (machine-read q t m (omega (arith, of_machines.count)))) ∙ is)
    | inr past ↦ absurd (let none : cleaning (cell_of q t) m ≡ None = ap (λ (s : MachineState). s.cleaning) (get_or_past (cell_of q t).machines m unused (omega (arith, new_sound.machine_count))) in cc)
  ]

  pub carried_are_sound : AreSound q t
  carried_are_sound = record {
    tables = record {
      shaped = shaped;
      job_count = of_jobs.count;
      machine_count = of_machines.count;
      cursors = λ m inside. (let (rest, is) = kept_begins p c q sound keeps m in omega (arith, of_machines.entered m inside, ap length is, length-append (entries c m) rest));
      since_in_range = λ j. omega (arith, new_sound.begun j, new_sound.last_in_range);
      cleaning_in_range = cleaning_range;
      last_in_range = omega (arith, last-read q t, new_sound.last_in_range);
    };
    sound = new_sound;
  }
