-- What all changes together come to: the run so far stays one, no cycle comes, and nobody else is later.
use Rattle.std.proofs.Common.{◌≡◌, ℕ, zero, suc, ◌+◌, ◌<◌, ◌≤◌, ◌⊎◌, inl, inr, List, [], ◌∷◌, ◌++◌, length, Option, None, Some, true, false, nat_lt, refl, sym, ap, ◌∙◌, subst, arith, ◌-◌}
use Rattle.std.proofs.lemmas.Bool.{cases_lt, cases_Bool, lt-ltb}
use Rattle.std.proofs.lemmas.List.{get_or_past}
use Rattle.shop_base.specs.declared.node.Node.{Node}
use Rattle.shop_base.specs.declared.job_state.JobState.{JobState}
use Rattle.shop_base.specs.Plan.{PlannedShop, jobs, machines, steps, nominal, clean, Visits, Stands, IsWellShaped}
use Rattle.shop_base.specs.Cell.{Cell, MachineState, unused, job_in, made, entries, cleaning}
use Rattle.shop_base.specs.Activity.{Arrival, Operation, Cleaning}
use Rattle.shop_base.specs.Run.{Event, ends_in}
use Rattle.shop_base.specs.Graph.{node, leaving, Arc, job_arc, blocking_arc}
use Rattle.shop_base.specs.Ahead.{PathAhead, now, held, onward}
use Rattle.shop_base.proofs.Keeping.{run-sound}
use Rattle.shop_base.proofs.Cycles.{source_node}
use Rattle.plan_verifier.specs.Accepted.{HasNoCycle}
use Rattle.cell_tables.specs.Kept.{KeepsSoFar}
use Rattle.cell_tables.specs.Carried.{IsCarried, carried_cleaning}
use Rattle.cell_tables.specs.KeptLaw.{AKeptRunIsOneOfTheOtherPlan}
use Rattle.plan_revise.specs.declared.change.Change.{Change}
use Rattle.plan_revise.specs.Settings.{RevisionSetting, setting}
use Rattle.plan_revise.specs.Revised.{AreMade}
use Rattle.plan_revise.specs.Paths.{HasLonger}
use Rattle.plan_revise.specs.Effects.{AreAll, SparesJob}
use Rattle.plan_revise.specs.RevisedLaw.{IsRevisedRun, TheRunSoFarStays, NoCycleComes, NobodyElseIsLater}
use Rattle.plan_revise.specs.Fits.{IsRevision, IsSetting}
use Rattle.plan_revise.proofs.Fitting.{fits_shaped}
use Rattle.plan_revise.proofs.Revisions.{given_revision, becomes-revision}
use Rattle.plan_revise.proofs.RevisedLaws.{becomes-no_cycle, becomes-stays, becomes_path, becomes-more_jobs}

-- ---- all changes

module _ (s : RevisionSetting) (is : IsSetting s) where
  pub made-revision : (p : PlannedShop) (changes : List Change) (q : PlannedShop) → IsRevision s p → AreMade s p changes q → IsRevision s q
  made-revision p [] q revision made = subst (IsRevision s) (sym made) revision
  made-revision p (change ∷ changes) q revision (next, one, rest) = made-revision next changes q (becomes-revision s is p change next revision one) rest

  made-no_cycle : (p : PlannedShop) (changes : List Change) (q : PlannedShop) → IsRevision s p → AreMade s p changes q → HasNoCycle p → HasNoCycle q
  made-no_cycle p [] q revision made acyclic = subst HasNoCycle (sym made) acyclic
  made-no_cycle p (change ∷ changes) q revision (next, one, rest) acyclic =
      made-no_cycle next changes q (becomes-revision s is p change next revision one) rest (becomes-no_cycle s is p change next revision one acyclic)

  pub made-stays : (p : PlannedShop) (changes : List Change) (q : PlannedShop) (i : ℕ) → AreAll (SparesJob s i) s p changes → IsRevision s p → AreMade s p changes q → i < jobs p → Visits p i 0 s.plant → Visits q i 0 s.plant
  made-stays p [] q i spares revision made inside visits = subst (λ (q : PlannedShop). Visits q i 0 s.plant) (sym made) visits
  made-stays p (change ∷ changes) q i (first, others) revision (next, one, rest) inside visits =
      made-stays next changes q i (others next one) (becomes-revision s is p change next revision one) rest (omega (arith, becomes-more_jobs s is p change next revision one)) (becomes-stays s is p change next i first revision one inside visits)

  pub made-more_jobs : (p : PlannedShop) (changes : List Change) (q : PlannedShop) → IsRevision s p → AreMade s p changes q → jobs p ≤ jobs q
  made-more_jobs p [] q revision made = omega (arith, ap jobs made)
  made-more_jobs p (change ∷ changes) q revision (next, one, rest) =
      omega (arith, becomes-more_jobs s is p change next revision one, made-more_jobs next changes q (becomes-revision s is p change next revision one) rest)

  made_path : (c : Cell) (t : ℕ) → ((m : ℕ) → entries c m ≡ entries s.cell m) → (p : PlannedShop) (changes : List Change) (q : PlannedShop) (nodes : List Node) (v : Node) (size : ℕ) → AreAll (SparesJob s v.job) s p changes → IsRevision s p → AreMade s p changes q → PathAhead q c t nodes v size → (Visits q v.job 0 s.plant → ⊥) → v.job < jobs p → HasLonger p c t v size
  made_path c t same p [] q nodes v size others revision made path free there =
      record { nodes = nodes; size = size; path = subst (λ (q : PlannedShop). PathAhead q c t nodes v size) made path; longer = omega arith }
  made_path c t same p (change ∷ changes) q nodes v size (first, others) revision (next, one, rest) path free there =
      let after = becomes-revision s is p change next revision one in
      let more = becomes-more_jobs s is p change next revision one in
      let l = made_path c t same next changes q nodes v size (others next one) after rest path free (omega arith) in
      let k = becomes_path s is c t same p change next l.nodes v l.size first revision one l.path
      (λ visits. free (made-stays next changes q v.job (others next one) after rest (omega arith) visits)) there in
      record { nodes = k.nodes; size = k.size; path = k.path; longer = omega (arith, l.longer, k.longer) }

  -- the run so far keeps it
  keeps : (q : PlannedShop) → IsRevision s q → KeepsSoFar s.given s.cell q
  keeps q revision = record {
    jobs_keep = λ j inside. record {
      lacking = λ past. absurd (omega (arith, revision.kept.jobs_there));
      entered = λ k moved within. revision.kept.entered j k moved (record { within = within; here = refl });
      gone = λ gone. revision.kept.left j inside gone;
    };
    machines_keep = λ m inside. record {
      in_order = revision.kept.begun m inside;
      cleanings = record {
        cleaned = λ timed none. absurd (omega (arith, revision.kept.cleaned m));
        uncleaned = λ none timed. absurd (omega (arith, revision.kept.cleaned m));
      };
    };
  }

-- ---- the setting of a revised run

module _ (p q : PlannedShop) (es : List Event) (t plant : ℕ) (changes : List Change) (r : IsRevisedRun p es t plant changes q) where
  pub run_setting : IsSetting (setting p (ends_in p es) t plant)
  run_setting = record { shaped = r.shaped; sound = run-sound p es r.shaped r.run; present = r.present; plant = r.is_plant }

  pub run_revision : IsRevision (setting p (ends_in p es) t plant) q
  run_revision = made-revision (setting p (ends_in p es) t plant) run_setting p changes q (given_revision (setting p (ends_in p es) t plant) run_setting) r.made

  pub revised_shaped : IsWellShaped q
  revised_shaped = fits_shaped q run_revision.fit run_revision.some_step

pub run_stays : AKeptRunIsOneOfTheOtherPlan → TheRunSoFarStays
run_stays kept p q es t plant changes r =
    let shaped = revised_shaped p q es t plant changes r in
    let both = kept p q es r.shaped shaped r.run (keeps (setting p (ends_in p es) t plant) (run_setting p q es t plant changes r) q (run_revision p q es t plant changes r)) in
    (shaped, both.0, both.1)

pub no_cycle : NoCycleComes
no_cycle p q es t plant changes r acyclic =
    made-no_cycle (setting p (ends_in p es) t plant) (run_setting p q es t plant changes r) p changes q (given_revision (setting p (ends_in p es) t plant) (run_setting p q es t plant changes r)) r.made acyclic

-- ---- paths ahead of two cells that are the same but for what the plan hasn't

module _ (p : PlannedShop) (c d : Cell) (t : ℕ) (same_jobs : (j : ℕ) → j < jobs p → job_in d j ≡ job_in c j) (same_entries : (m : ℕ) → entries d m ≡ entries c m) (same_cleaning : (m from : ℕ) → cleaning d m ≡ Some from → cleaning c m ≡ Some from) where
  pub recelled : (nodes : List Node) (v : Node) (size : ℕ) → PathAhead p d t nodes v size → v.job < jobs p → HasLonger p c t v size
  recelled _ _ _ (now v is ahead) inside = record {
    nodes = v ∷ [];
    size = t;
    path = now v is (omega (arith, ahead, ap (λ (s : JobState). s.made) (same_jobs v.job inside)));
    longer = omega arith;
  }
  recelled _ _ _ (held (Arrival i) due v goes holds) inside = record {
    nodes = v ∷ [];
    size = due;
    path = held (Arrival i) due v (record {
      outside = sym (ap (λ (s : JobState). s.made) same) ∙ goes.outside;
      not_ready = sym (ap (λ (s : JobState). s.ready) same) ∙ goes.not_ready;
      is_due = goes.is_due;
    }) (holds ∙ ap (λ (s : JobState). node i s.made) same);
    longer = omega arith;
  }
    where
      same : job_in d i ≡ job_in c i
      same = same_jobs i (omega (arith, ap (λ (w : Node). w.job) holds))
  recelled _ _ _ (held (Operation i m) due v (k, goes) holds) inside = record {
    nodes = v ∷ [];
    size = due;
    path = held (Operation i m) due v (
      k,
      record {
        on = record { entered = sym (ap (λ (s : JobState). s.made) same) ∙ goes.on.entered; visits = goes.on.visits };
        not_ready = sym (ap (λ (s : JobState). s.ready) same) ∙ goes.not_ready;
        is_due = goes.is_due ∙ ap (λ (s : JobState). s.since + nominal p i k) same;
      },
    ) (holds ∙ ap (λ (s : JobState). node i s.made) same);
    longer = omega arith;
  }
    where
      same : job_in d i ≡ job_in c i
      same = same_jobs i (omega (arith, ap (λ (w : Node). w.job) holds))
  recelled _ _ _ (held (Cleaning m) due v (from, goes) holds) inside = record {
    nodes = v ∷ [];
    size = due;
    path = held (Cleaning m) due v (from, record { is_cleaned = same_cleaning m from goes.is_cleaned; is_due = goes.is_due }) (subst (λ (xs : List ℕ). Stands p m (length xs) v.job v.place) (same_entries m) holds);
    longer = omega arith;
  }
  recelled _ _ _ (onward nodes u v size e path arc) inside =
      let l = recelled nodes u size path (source_node p u v e arc).job in
      record { nodes = l.nodes ++ v ∷ []; size = l.size + e; path = onward l.nodes u v l.size e l.path arc; longer = omega (arith, l.longer) }

-- ---- from a node of a job to its leaving

-- a path ahead of a cell of the plan leads to a node of its job
path_place : (p : PlannedShop) (c : Cell) (t : ℕ) (nodes : List Node) (v : Node) (size : ℕ) → PathAhead p c t nodes v size → v.place ≤ steps p v.job
path_place p c t _ _ _ (now v is ahead) = is.place
path_place p c t _ _ _ (held (Arrival i) due v goes holds) = omega (arith, ap (λ (w : Node). w.place) holds, goes.outside)
path_place p c t _ _ _ (held (Operation i m) due v (k, goes) holds) = omega (arith, ap (λ (w : Node). w.place) holds, goes.on.entered, goes.on.visits.within, ap (λ (w : Node). steps p w.job) holds)
path_place p c t _ _ _ (held (Cleaning m) due v goes holds) = omega (arith, holds.visits.within)
path_place p c t _ _ _ (onward nodes u v size e path arc) = target u v e arc
  where
    target : (u v : Node) (e : ℕ) → Arc p u v e → v.place ≤ steps p v.job
    target _ _ _ (job_arc j k within) = omega arith
    target _ _ _ (blocking_arc m a i k l g one other) = omega (arith, other.visits.within)

go_on : (p : PlannedShop) (c : Cell) (t j k size n : ℕ) → k + n ≤ steps p j → HasLonger p c t (node j k) size → HasLonger p c t (node j (k + n)) size
go_on p c t j k size zero few l = let same : k ≡ k + zero = omega arith in subst (λ i. HasLonger p c t (node j i) size) same l
go_on p c t j k size (suc n) few l =
    let before = go_on p c t j k size n (omega arith) l in
    let same : k + n + 1 ≡ k + suc n = omega arith in
    subst (λ i. HasLonger p c t (node j i) size) same (record {
      nodes = before.nodes ++ node j (k + n + 1) ∷ [];
      size = before.size + nominal p j (k + n);
      path = onward before.nodes (node j (k + n)) (node j (k + n + 1)) before.size (nominal p j (k + n)) before.path (job_arc j (k + n) (omega arith));
      longer = omega (arith, before.longer);
    })

to_leaving : (p : PlannedShop) (c : Cell) (t j k size : ℕ) → HasLonger p c t (node j k) size → HasLonger p c t (leaving p j) size
to_leaving p c t j k size l =
    let few : k ≤ steps p j = path_place p c t l.nodes (node j k) l.size l.path in
    let same : k + (steps p j - k) ≡ steps p j = omega arith in
    subst (λ i. HasLonger p c t (node j i) size) same (go_on p c t j k size (steps p j - k) (omega arith) l)

-- ---- nobody else is later

module _ (kept : AKeptRunIsOneOfTheOtherPlan) (p q : PlannedShop) (es : List Event) (t plant : ℕ) (changes : List Change) (r : IsRevisedRun p es t plant changes q) where
  carried : IsCarried p (ends_in p es) q (ends_in q es)
  carried = (run_stays kept p q es t plant changes r).2

  pub entries_there : (m : ℕ) → entries (ends_in q es) m ≡ entries (ends_in p es) m
  entries_there m = elim (cases_lt m (machines q)) [
    | inl inside ↦ carried.entries_same m inside
    | inr past ↦ ap (λ (x : MachineState). x.entries) (get_or_past (ends_in q es).machines m unused (omega (arith, carried.machine_count)))
        ∙ sym (ap (λ (x : MachineState). x.entries) (get_or_past (ends_in p es).machines m unused (omega (arith, (run-sound p es r.shaped r.run).machine_count, (run_revision p q es t plant changes r).no_fewer))))
  ]

  cleaning_there : (m from : ℕ) → cleaning (ends_in q es) m ≡ Some from → cleaning (ends_in p es) m ≡ Some from
  cleaning_there m from is_cleaned = elim (cases_lt m (machines q)) [
    | inl inside ↦ timed (cases_Bool (nat_lt 0 (clean q m))) (sym (carried.cleaning_is m inside) ∙ is_cleaned)
    | inr past ↦ absurd (never (cleaning (ends_in q es) m) (ap (λ (x : MachineState). x.cleaning) (get_or_past (ends_in q es).machines m unused (omega (arith, carried.machine_count)))) is_cleaned)
  ]
    where
      never : (x : Option ℕ) → x ≡ None → x ≡ Some from → ⊥
      never x absent present = cc

      untimed_none : nat_lt 0 (clean q m) ≡ false → carried_cleaning (ends_in p es) q m ≡ None
      untimed_none untimed = rw untimed refl

      timed_same : nat_lt 0 (clean q m) ≡ true → carried_cleaning (ends_in p es) q m ≡ cleaning (ends_in p es) m
      timed_same is_timed = rw is_timed refl

      timed : (nat_lt 0 (clean q m) ≡ true) ⊎ (nat_lt 0 (clean q m) ≡ false) → carried_cleaning (ends_in p es) q m ≡ Some from → cleaning (ends_in p es) m ≡ Some from
      timed (inl is_timed) is = sym (timed_same is_timed) ∙ is
      timed (inr untimed) is = absurd (never (carried_cleaning (ends_in p es) q m) (untimed_none untimed) is)

  pub jobs_there : (j : ℕ) → j < jobs p → job_in (ends_in q es) j ≡ job_in (ends_in p es) j
  jobs_there j inside = carried.jobs_same j (omega (arith, (run_revision p q es t plant changes r).kept.jobs_there)) ∙ rw (lt-ltb j (jobs p) inside) refl

  path_there : (j : ℕ) → AreAll (SparesJob (setting p (ends_in p es) t plant) j) (setting p (ends_in p es) t plant) p changes → j < jobs p → (Visits q j 0 plant → ⊥) → (k : ℕ) (nodes : List Node) (n : ℕ) → PathAhead q (ends_in q es) t nodes (node j k) n → HasLonger p (ends_in p es) t (node j k) n
  path_there j spares inside free k nodes n path =
      let s = run_setting p q es t plant changes r in
      let l = made_path (setting p (ends_in p es) t plant) s (ends_in q es) t entries_there p changes q nodes (node j k) n spares (given_revision (setting p (ends_in p es) t plant) s) r.made path free inside in
      let back = recelled p (ends_in p es) (ends_in q es) t jobs_there entries_there cleaning_there l.nodes (node j k) l.size l.path inside in
      record { nodes = back.nodes; size = back.size; path = back.path; longer = omega (arith, l.longer, back.longer) }

pub nobody_later : AKeptRunIsOneOfTheOtherPlan → NobodyElseIsLater
nobody_later kept p q es t plant changes r j spares inside free = record {
  leaves = λ nodes n path. to_leaving p (ends_in p es) t j (steps q j) n (path_there kept p q es t plant changes r j spares inside free (steps q j) nodes n path);
  moves = λ k nodes n path. path_there kept p q es t plant changes r j spares inside free k nodes n path;
}
