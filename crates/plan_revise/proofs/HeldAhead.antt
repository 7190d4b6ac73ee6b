-- What is ahead where a machine is held: moments fit it exactly where they fit what was ahead, and the machine's next entry waits for the hold and the cleaning.
use Rattle.std.proofs.Common.{◌≡◌, ◌≢◌, ℕ, ◌+◌, ◌-◌, ◌<◌, ◌≤◌, ◌⊎◌, inl, inr, List, [], ◌∷◌, ◌++◌, length, Option, None, Some, eqb, if◌then◌else◌, refl, sym, ap, ◌∙◌, subst, arith, le_refl}
use Rattle.std.specs.Prelude.{◌↔◌}
use Rattle.std.proofs.lemmas.Bool.{cases_eq, cases_lt, cases_order, eq-eqb, ne_eqb}
use Rattle.std.proofs.lemmas.List.{get_or-set_other}
use Rattle.shop_base.specs.declared.shop.Step.{Step}
use Rattle.shop_base.specs.declared.node.Node.{Node}
use Rattle.shop_base.specs.declared.job_state.JobState.{JobState}
use Rattle.shop_base.specs.declared.limits.TheConstants.{MAX_RELEASE}
use Rattle.shop_base.specs.Shop.{step_at}
use Rattle.shop_base.specs.Plan.{PlannedShop, jobs, route, steps, nominal, release, clean, Stands, IsWellShaped}
use Rattle.shop_base.specs.Cell.{Cell, MachineState, start, made, ready, since, entries, cleaning, IsOn}
use Rattle.shop_base.specs.Activity.{Activity, Arrival, Operation, Cleaning, GoesOn}
use Rattle.shop_base.specs.Run.{Event, Reported, Moved, AreEvents, CanHappen, after, after_all, ends_in}
use Rattle.shop_base.specs.Graph.{node, leaving, Arc, job_arc, blocking_arc}
use Rattle.shop_base.specs.Ahead.{next_node, IsAhead, HoldsUp, RespectArcs, MomentsFitAhead}
use Rattle.shop_base.specs.Sound.{IsSound}
use Rattle.shop_base.proofs.Visits.{steps_job, visits_job, on_or_not}
use Rattle.shop_base.proofs.Cycles.{source_node, target_job}
use Rattle.shop_base.proofs.InShop.{outside_in_shop, start_unused}
use Rattle.shop_base.proofs.Ahead.{held_left}
use Rattle.shop_base.proofs.InTime.{present_left}
use Rattle.shop_base.proofs.Changes.{IsMoved, after_move-moved}
use Rattle.shop_base.proofs.CellFacts.{after_report-last}
use Rattle.shop_base.proofs.Keeping.{after_report-like, after-sound, start-sound}
use Rattle.cell_tables.specs.KeptLaw.{AKeptRunIsOneOfTheOtherPlan}
use Rattle.alt_graph.proofs.NodeNumbers.{node_same}
use Rattle.plan_revise.specs.declared.change.Change.TheVariants.{Hold}
use Rattle.plan_revise.specs.Promises.{no_promise}
use Rattle.plan_revise.specs.Placed.{added}
use Rattle.plan_revise.specs.Settings.{RevisionSetting, setting}
use Rattle.plan_revise.specs.Held.{held, WaitForHold}
use Rattle.plan_revise.specs.Changes.{IsHeld}
use Rattle.plan_revise.specs.Refusals.{CanBeHeld}
use Rattle.plan_revise.specs.Fits.{IsFit, IsSetting}
use Rattle.plan_revise.specs.Answers.{HasPlace}
use Rattle.plan_revise.specs.RevisedLaw.{IsHeldRun, AHeldMachineHoldsUpItsNextEntry, NobodyIsLaterByMoreThanTheHold}
use Rattle.plan_revise.proofs.Inserted.{visit-others}
use Rattle.plan_revise.proofs.PlacedParts.{default_more, same-stands, same-stands_back}
use Rattle.plan_revise.proofs.HeldArcs.{ArcAround, passes, enters, stays, leaves, arc-around, mine, elsewhere, lift-elsewhere, lift-front, lift-back, own-visit, own-stands}
use Rattle.plan_revise.proofs.Holds.{bare-same, bare-route, bare-none, bare-fit, held-jobs, held-place}
use Rattle.plan_revise.proofs.Revisions.{given_revision}
use Rattle.plan_revise.proofs.Outcomes.{run_setting}
use Rattle.plan_revise.proofs.HeldEntry.{IsHeldIn, held_made, held_in}

-- ---- since when a machine is being cleaned

-- no cleaning began behind the last moment
abbrev BeganBefore : Cell → Type 0
BeganBefore c = (m from : ℕ) → cleaning c m ≡ Some from → from ≤ c.last

module _ (p : PlannedShop) (shaped : IsWellShaped p) where
  some_same : (x : Option ℕ) (t from : ℕ) → x ≡ Some t → x ≡ Some from → from ≡ t
  some_same x t from one other = cc

  began_after : (c : Cell) (e : Event) → IsSound p c → CanHappen p c e → BeganBefore c → BeganBefore (after p c e)
  began_after c (Reported r) sound can before m from is =
      omega (arith, before m from ((after_report-like p c r sound can).cleaned_before m from is), can.moment.in_order, after_report-last c r)
  began_after c (Moved o) sound (can, keeps) before m from is = go (on_or_not p c o.job m)
    where
      change : IsMoved p c o.job o.at (after p c (Moved o))
      change = after_move-moved p c o.job o.at shaped sound can.can

      same : cleaning (after p c (Moved o)) m ≡ cleaning c m → from ≤ (after p c (Moved o)).last
      same kept = omega (arith, before m from (sym kept ∙ is), can.can.moment.in_order, change.moment)

      go : ((k : ℕ) × IsOn p c o.job k m) ⊎ ((k : ℕ) → IsOn p c o.job k m → ⊥) → from ≤ (after p c (Moved o)).last
      go (inr off) = same (change.cleaning_elsewhere m off)
      go (inl (k, on)) = elim (cases_lt 0 (clean p m)) [
        | inl timed ↦ omega (arith, some_same (cleaning (after p c (Moved o)) m) o.at from (change.cleaning_begins k m on timed) is, change.moment)
        | inr none ↦ same (change.cleaning_needless k m on (omega arith))
      ]

  began_in : (c : Cell) (es : List Event) → IsSound p c → AreEvents p c es → BeganBefore c → BeganBefore (after_all p c es)
  began_in c [] sound can before = before
  began_in c (e ∷ es) sound (first, rest) before = began_in (after p c e) es (after-sound p c e shaped sound first) rest (began_after c e sound first before)

-- ---- one plan, and the same where a machine is held

module _ (s : RevisionSetting) (is : IsSetting s) (began : BeganBefore s.cell) (machine to : ℕ) (can : CanBeHeld s s.given machine) (early : s.present ≤ MAX_RELEASE) (not_past : s.present ≤ to) (d : Cell) (there : IsHeldIn s.given s.cell machine s.present d) where
  abbrev p : PlannedShop
  p = s.given

  abbrev bare : PlannedShop
  bare = added s.given [] s.present no_promise

  abbrev j : ℕ
  j = jobs s.given

  abbrev step : Step
  step = record { machine = machine; nominal = to - s.present }

  abbrev a : ℕ
  a = length (entries s.cell machine)

  abbrev q : PlannedShop
  q = held s s.given machine (to - s.present)

  fit : IsFit bare
  fit = bare-fit p s.present (given_revision s is).fit can.few_jobs early

  place : HasPlace bare j step a
  place = held-place s is p (given_revision s is) step can.in_plant

  none : route bare j ≡ []
  none = bare-none p s.present

  other_job : (i : ℕ) → i < jobs p → i ≢ j
  other_job i inside same = omega (arith, same)

  route_same : (i : ℕ) → i ≢ j → route q i ≡ route p i
  route_same i other = visit-others bare j step a i other ∙ bare-route p s.present i

  nominal_same : (i k : ℕ) → i ≢ j → nominal q i k ≡ nominal p i k
  nominal_same i k other = ap (λ (r : List Step). (step_at r k).nominal) (route_same i other)

  release_same : (i : ℕ) → i ≢ j → release q i ≡ release p i
  release_same i other = get_or-set_other (p.plan.release ++ 0 ∷ []) j i s.present 0 other ∙ default_more p.plan.release 0 i

  own_nominal : nominal q j 0 ≡ to - s.present
  own_nominal = ap (λ (r : List Step). (step_at r 0).nominal) (mine bare j step a fit place.inside none place.in_shop place.within)

  own_steps : steps q j ≡ 1
  own_steps = ap length (mine bare j step a fit place.inside none place.in_shop place.within)

  made_same : (i : ℕ) → i ≢ j → made d i ≡ made s.cell i
  made_same i other = ap (λ (x : JobState). x.made) (there.others i other)

  ready_same : (i : ℕ) → i ≢ j → ready d i ≡ ready s.cell i
  ready_same i other = ap (λ (x : JobState). x.ready) (there.others i other)

  since_same : (i : ℕ) → i ≢ j → since d i ≡ since s.cell i
  since_same i other = ap (λ (x : JobState). x.since) (there.others i other)

  made_own : made d j ≡ 1
  made_own = ap (λ (x : JobState). x.made) there.holder

  entries_same : (m : ℕ) → m ≢ machine → entries d m ≡ entries s.cell m
  entries_same m other = ap (λ (x : MachineState). x.entries) (there.elsewhere m other)

  cleaning_same : (m : ℕ) → m ≢ machine → cleaning d m ≡ cleaning s.cell m
  cleaning_same m other = ap (λ (x : MachineState). x.cleaning) (there.elsewhere m other)

  none_some : (x : Option ℕ) (from : ℕ) → x ≡ None → x ≡ Some from → ⊥
  none_some x from absent present = cc

  -- arcs and places of the plan, with the job more and without it
  arc_before : (u v : Node) (e : ℕ) → Arc bare u v e → Arc p u v e
  arc_before _ _ _ (job_arc i k less) =
      subst (λ x. Arc p (node i k) (node i (k + 1)) x) (sym (ap (λ (r : List Step). (step_at r k).nominal) (bare-route p s.present i))) (job_arc i k (omega (arith, ap length (bare-route p s.present i))))
  arc_before _ _ _ (blocking_arc m b i k l g one next) =
      blocking_arc m b i k l g (same-stands_back p bare (bare-same p s.present) m b i k one) (same-stands_back p bare (bare-same p s.present) m (b + 1) l g next)

  bare_stands : (m b i k : ℕ) → Stands p m b i k → Stands bare m b i k
  bare_stands m b i k stands = same-stands p bare (bare-same p s.present) m b i k stands

  stands_before : (m b i k : ℕ) → Stands bare m b i k → Stands p m b i k
  stands_before m b i k stands = same-stands_back p bare (bare-same p s.present) m b i k stands

  lift_elsewhere : (m b i k : ℕ) → m ≢ machine → Stands p m b i k → Stands q m b i k
  lift_elsewhere m b i k other stands = lift-elsewhere bare j step a fit place.inside none place.in_shop place.within m b i k other (bare_stands m b i k stands)

  lift_front : (b i k : ℕ) → b < a → Stands p machine b i k → Stands q machine b i k
  lift_front b i k less stands = lift-front bare j step a fit place.inside none place.in_shop place.within b i k less (bare_stands machine b i k stands)

  lift_back : (b i k : ℕ) → a ≤ b → Stands p machine b i k → Stands q machine (b + 1) i k
  lift_back b i k behind stands = lift-back bare j step a fit place.inside none place.in_shop place.within b i k behind (bare_stands machine b i k stands)

  -- who entered the machine has left it
  passed : (b i k : ℕ) → b < a → Stands p machine b i k → k + 1 < made s.cell i
  passed b i k less stands = elim (cases_eq (made s.cell i) (k + 1)) [
    | inl on ↦ absurd (can.free i k (record { entered = on; visits = stands.visits }))
    | inr off ↦ omega (arith, is.sound.entered_made machine b i k stands less, off)
  ]

  -- ---- moments that fit with the job more fit without it

  module _ (kept : Node → ℕ) (fits : MomentsFitAhead q d s.present kept) where
    waits : WaitForHold p s.cell machine to kept
    waits = record {
      over = fits.activities (Operation j machine) to (node j 1) (
        0,
        record {
          on = record { entered = made_own; visits = own-visit bare j step a fit place.inside none place.in_shop place.within };
          not_ready = ap (λ (x : JobState). x.ready) there.holder;
          is_due = omega (arith, not_past, ap (λ (x : JobState). x.since) there.holder, own_nominal);
        },
      ) (ap (node j) (sym made_own));
      next = λ l g stands. fits.arcs (node j 1) (node l g) (clean p machine) (omega (arith, made_own))
          (blocking_arc machine a j 0 l g (own-stands bare j step a fit place.inside none place.in_shop place.within) (lift_back a l g (le_refl a) stands));
    }

    goes_on_before : (x : Activity) (due : ℕ) (v : Node) → GoesOn p s.cell x due → HoldsUp p s.cell x v → due ≤ kept v
    goes_on_before (Arrival i) due v going holds =
        let other : i ≢ j = other_job i (outside_in_shop p s.cell i is.sound going.outside) in
        fits.activities (Arrival i) due v (record { outside = made_same i other ∙ going.outside; not_ready = ready_same i other ∙ going.not_ready; is_due = going.is_due ∙ sym (release_same i other) })
        (holds ∙ ap (node i) (sym (made_same i other)))
    goes_on_before (Operation i m) due v (k, work) holds =
        let other : i ≢ j = other_job i (visits_job p i k m work.on.visits) in
        fits.activities (Operation i m) due v (
          k,
          record {
            on = record {
              entered = made_same i other ∙ work.on.entered;
              visits = record { within = omega (arith, work.on.visits.within, ap length (route_same i other)); here = ap (λ (r : List Step). (step_at r k).machine) (route_same i other) ∙ work.on.visits.here };
            };
            not_ready = ready_same i other ∙ work.not_ready;
            is_due = omega (arith, work.is_due, since_same i other, nominal_same i k other);
          },
        ) (holds ∙ ap (node i) (sym (made_same i other)))
    goes_on_before (Cleaning m) due v (from, work) holds = elim (cases_eq m machine) [
      | inl same ↦ (let stands : Stands p machine a v.job v.place = subst (λ m. Stands p m (length (entries s.cell m)) v.job v.place) same holds in
          omega (arith, work.is_due, ap (clean p) same, began m from work.is_cleaned, is.present, not_past, waits.over, waits.next v.job v.place stands))
      | inr other ↦ fits.activities (Cleaning m) due v (from, record { is_cleaned = cleaning_same m other ∙ work.is_cleaned; is_due = work.is_due })
          (subst (λ (xs : List ℕ). Stands q m (length xs) v.job v.place) (sym (entries_same m other)) (lift_elsewhere m (length (entries s.cell m)) v.job v.place other holds))
    ]

    arcs_before : RespectArcs p s.cell kept
    arcs_before _ _ _ ahead (job_arc i k less) =
        let other : i ≢ j = other_job i (steps_job p i k less) in
        fits.arcs (node i k) (node i (k + 1)) (nominal p i k) (omega (arith, ahead, made_same i other))
        (subst (λ x. Arc q (node i k) (node i (k + 1)) x) (nominal_same i k other) (job_arc i k (omega (arith, less, ap length (route_same i other)))))
    arcs_before _ _ _ ahead (blocking_arc m b i k l g one next) = go (cases_eq m machine)
      where
        other_one : i ≢ j
        other_one = other_job i (visits_job p i k m one.visits)

        by : Arc q (node i (k + 1)) (node l g) (clean p m) → kept (node i (k + 1)) + clean p m ≤ kept (node l g)
        by arc = fits.arcs (node i (k + 1)) (node l g) (clean p m) (omega (arith, ahead, made_same i other_one)) arc

        here : (m ≡ machine) → Stands p machine b i k → Stands p machine (b + 1) l g → (b + 1 ≡ a) ⊎ ((b + 1 < a) ⊎ (a < b + 1)) → kept (node i (k + 1)) + clean p m ≤ kept (node l g)
        here same before after (inl at) = absurd (omega (arith, ahead, passed b i k (omega arith) before))
        here same before after (inr (inl less)) = absurd (omega (arith, ahead, passed b i k (omega arith) before))
        here same before after (inr (inr more)) =
            by (subst (λ x. Arc q (node i (k + 1)) (node l g) (clean p x)) (sym same) (blocking_arc machine (b + 1) i k l g (lift_back b i k (omega arith) before) (lift_back (b + 1) l g (omega arith) after)))

        go : (m ≡ machine) ⊎ (m ≢ machine) → kept (node i (k + 1)) + clean p m ≤ kept (node l g)
        go (inl same) = here same (subst (λ x. Stands p x b i k) same one) (subst (λ x. Stands p x (b + 1) l g) same next) (cases_order (b + 1) a)
        go (inr other) = by (blocking_arc m b i k l g (lift_elsewhere m b i k other one) (lift_elsewhere m (b + 1) l g other next))

    fits_before : MomentsFitAhead p s.cell s.present kept
    fits_before = record {
      left = λ i inside gone.
          let other : i ≢ j = other_job i inside in
          let same : steps q i ≡ steps p i = ap length (route_same i other) in
          omega (arith, fits.left i (omega (arith, held-jobs s p machine (to - s.present))) (omega (arith, gone, made_same i other, same)), since_same i other, ap (λ k. kept (node i k)) same);
      present = λ i inside few.
          let other : i ≢ j = other_job i inside in
          omega (arith, fits.present i (omega (arith, held-jobs s p machine (to - s.present))) (omega (arith, few, made_same i other, ap length (route_same i other))), ap (λ k. kept (node i k)) (made_same i other));
      activities = goes_on_before;
      arcs = arcs_before;
    }

  -- ---- and those that fit without it, with it, where the next entry waits

  module _ (kept : Node → ℕ) (fits : MomentsFitAhead p s.cell s.present kept) (waiting : WaitForHold p s.cell machine to kept) where
    goes_on_held : (x : Activity) (due : ℕ) (v : Node) → GoesOn q d x due → HoldsUp q d x v → due ≤ kept v
    goes_on_held (Arrival i) due v going holds = elim (cases_eq i j) [
      | inl same ↦ absurd (omega (arith, going.outside, ap (made d) same, made_own))
      | inr other ↦ fits.activities (Arrival i) due v (record { outside = sym (made_same i other) ∙ going.outside; not_ready = sym (ready_same i other) ∙ going.not_ready; is_due = going.is_due ∙ release_same i other })
          (holds ∙ ap (node i) (made_same i other))
    ]
    goes_on_held (Operation i m) due v (k, work) holds = elim (cases_eq i j) [
      | inl same ↦ (let first : k ≡ 0 = omega (arith, work.on.entered, ap (made d) same, made_own) in
          let at : v ≡ node j 1 = holds ∙ ap (λ i. node i (made d i)) same ∙ ap (node j) made_own in
          omega (arith, work.is_due, ap (since d) same, ap (λ (x : JobState). x.since) there.holder, ap (λ i. nominal q i k) same, ap (nominal q j) first, own_nominal, not_past, waiting.over, ap kept at))
      | inr other ↦ fits.activities (Operation i m) due v (
        k,
        record {
          on = record {
            entered = sym (made_same i other) ∙ work.on.entered;
            visits = record { within = omega (arith, work.on.visits.within, ap length (route_same i other)); here = sym (ap (λ (r : List Step). (step_at r k).machine) (route_same i other)) ∙ work.on.visits.here };
          };
          not_ready = sym (ready_same i other) ∙ work.not_ready;
          is_due = omega (arith, work.is_due, since_same i other, nominal_same i k other);
        },
      ) (holds ∙ ap (node i) (made_same i other))
    ]
    goes_on_held (Cleaning m) due v (from, work) holds = elim (cases_eq m machine) [
      | inl same ↦ absurd (none_some (cleaning d machine) from there.uncleaned (ap (cleaning d) (sym same) ∙ work.is_cleaned))
      | inr other ↦ fits.activities (Cleaning m) due v (from, record { is_cleaned = sym (cleaning_same m other) ∙ work.is_cleaned; is_due = work.is_due })
          (stands_before m (length (entries s.cell m)) v.job v.place
          (elsewhere bare j step a fit place.inside none place.in_shop place.within m (length (entries s.cell m)) v.job v.place other (subst (λ (xs : List ℕ). Stands q m (length xs) v.job v.place) (entries_same m other) holds)).1)
    ]

    arc_held : (u v : Node) (e : ℕ) → IsAhead d u → ArcAround bare j machine a u v e → kept u + e ≤ kept v
    arc_held u v e ahead (passes apart away arc) = fits.arcs u v e (omega (arith, ahead, made_same u.job apart)) (arc_before u v e arc)
    arc_held u v e ahead (enters apart to b i k at stands same long) =
        let mine : u.job ≡ i = ap (λ (w : Node). w.job) same in
        let other : i ≢ j = λ of. apart (mine ∙ of) in
        absurd (omega (arith, ahead, ap (made d) mine, ap (λ (w : Node). w.place) same, made_same i other, passed b i k (omega arith) (stands_before machine b i k stands)))
    arc_held u v e ahead (stays of to first rises) = absurd (omega (arith, ahead, first, ap (made d) of, made_own))
    arc_held u v e ahead (leaves of last away stands long) =
        omega (arith, long, ap kept (node_same u (node j 1) of last), waiting.next v.job v.place (stands_before machine a v.job v.place stands))

    fits_held : MomentsFitAhead q d s.present kept
    fits_held = record {
      left = λ i inside gone. elim (cases_eq i j) [
        | inl same ↦ absurd (omega (arith, gone, ap (steps q) same, own_steps, ap (made d) same, made_own))
        | inr other ↦ (let alike : steps q i ≡ steps p i = ap length (route_same i other) in
            omega (arith, fits.left i (omega (arith, inside, held-jobs s p machine (to - s.present), other)) (omega (arith, gone, made_same i other, alike)), since_same i other, ap (λ k. kept (node i k)) alike))
      ];
      present = λ i inside few. elim (cases_eq i j) [
        | inl same ↦ omega (arith, not_past, waiting.over, ap (λ i. kept (node i (made d i))) same, ap (λ k. kept (node j k)) made_own)
        | inr other ↦ omega (arith, fits.present i (omega (arith, inside, held-jobs s p machine (to - s.present), other)) (omega (arith, few, made_same i other, ap length (route_same i other))), ap (λ k. kept (node i k)) (made_same i other))
      ];
      activities = goes_on_held;
      arcs = λ u v e ahead arc. arc_held u v e ahead (arc-around bare j step a fit place.inside none place.in_shop place.within u v e arc);
    }

  -- ---- nobody is later by more than the hold and the cleaning

  -- by how much
  abbrev more : ℕ
  more = to - s.present + clean p machine

  -- the moments kept so much later, but that of the job more the end of its hold
  delayed : (Node → ℕ) → Node → ℕ
  delayed kept v = if eqb v.job j then to else kept v + more

  delayed_own : (kept : Node → ℕ) (v : Node) → v.job ≡ j → delayed kept v ≡ to
  unfolding delayed
  delayed_own kept v same = rw (eq-eqb v.job j same) refl

  delayed_other : (kept : Node → ℕ) (v : Node) → v.job < jobs p → delayed kept v ≡ kept v + more
  unfolding delayed
  delayed_other kept v inside = rw (ne_eqb v.job j (other_job v.job inside)) refl

  module _ (kept : Node → ℕ) (fits : MomentsFitAhead p s.cell s.present kept) where
    delayed_fits : MomentsFitAhead p s.cell s.present (delayed kept)
    delayed_fits = record {
      left = λ i inside gone. omega (arith, fits.left i inside gone, delayed_other kept (leaving p i) inside);
      present = λ i inside few. omega (arith, fits.present i inside few, delayed_other kept (next_node s.cell i) inside);
      activities = λ x due v going holds. omega (arith, fits.activities x due v going holds, delayed_other kept v (held_left p s.cell x due v is.sound going holds).job);
      arcs = λ u v e ahead arc. omega (arith, fits.arcs u v e ahead arc, delayed_other kept u (source_node p u v e arc).job, delayed_other kept v (target_job p u v e arc));
    }

    delayed_waits : WaitForHold p s.cell machine to (delayed kept)
    delayed_waits = record {
      over = omega (arith, delayed_own kept (node j 1) refl);
      next = λ l g stands.
          let inside : l < jobs p = visits_job p l g machine stands.visits in
          let ahead : made s.cell l ≤ g = elim (cases_lt g (made s.cell l)) [ inr enough ↦ enough | inl passed ↦ absurd (omega (arith, is.sound.made_entered machine a l g stands passed)) ] in
          omega (
            arith,
            not_past,
            delayed_own kept (node j 1) refl,
            delayed_other kept (node l g) inside,
            present_left p s.cell s.present kept (node l g) fits (record { ahead = ahead; job = inside; place = omega (arith, stands.visits.within) }),
          );
    }

    nobody_later_by : (later : Node → ℕ) × MomentsFitAhead q d s.present later × ((v : Node) → v.job < jobs p → later v ≡ kept v + more)
    nobody_later_by = (delayed kept, fits_held (delayed kept) delayed_fits delayed_waits, λ v inside. delayed_other kept v inside)

-- ---- the laws

module _ (kept_law : AKeptRunIsOneOfTheOtherPlan) (p q : PlannedShop) (es : List Event) (t plant machine to : ℕ) (entry : List Event) (r : IsHeldRun p es t plant machine to q entry) where
  abbrev s : RevisionSetting
  s = setting p (ends_in p es) t plant

  abbrev d : Cell
  d = ends_in q (es ++ entry)

  s_is : IsSetting s
  s_is = run_setting p q es t plant (Hold machine to ∷ []) r.revised

  one : IsHeld s p machine to q
  one = held_made kept_law p q es t plant machine to r.revised

  can : CanBeHeld s p machine
  can = record { in_plant = one.in_plant; free = one.free; few_jobs = one.few_jobs }

  began : BeganBefore (ends_in p es)
  began = began_in p r.revised.shaped (start p) es (start-sound p r.revised.shaped) r.revised.run (λ m from is. absurd (never (cleaning (start p) m) from (ap (λ (x : MachineState). x.cleaning) (start_unused p m)) is))
    where
      never : (x : Option ℕ) (from : ℕ) → x ≡ None → x ≡ Some from → ⊥
      never x from absent present = cc

  there : IsHeldIn p (ends_in p es) machine t d
  there = held_in kept_law p q es t plant machine to r.revised entry r.is_entry r.run

  holds_up_next : (kept : Node → ℕ) → MomentsFitAhead q d t kept ↔ (MomentsFitAhead p (ends_in p es) t kept × WaitForHold p (ends_in p es) machine to kept)
  holds_up_next kept = subst (λ (x : PlannedShop). MomentsFitAhead x d t kept ↔ (MomentsFitAhead p (ends_in p es) t kept × WaitForHold p (ends_in p es) machine to kept)) (sym one.is) (
    λ fits. (fits_before s s_is began machine to can one.in_range one.not_past d there kept fits, waits s s_is began machine to can one.in_range one.not_past d there kept fits),
    λ (fits, waiting). fits_held s s_is began machine to can one.in_range one.not_past d there kept fits waiting,
  )

  later_by : (kept : Node → ℕ) → MomentsFitAhead p (ends_in p es) t kept → (later : Node → ℕ) × MomentsFitAhead q d t later × ((v : Node) → v.job < jobs p → later v ≡ kept v + (to - t + clean p machine))
  later_by kept fits = subst (λ (x : PlannedShop). (later : Node → ℕ) × MomentsFitAhead x d t later × ((v : Node) → v.job < jobs p → later v ≡ kept v + (to - t + clean p machine))) (sym one.is)
      (nobody_later_by s s_is began machine to can one.in_range one.not_past d there kept fits)

pub held_machine : AKeptRunIsOneOfTheOtherPlan → AHeldMachineHoldsUpItsNextEntry
held_machine kept_law p q es t plant machine to entry r kept = holds_up_next kept_law p q es t plant machine to entry r kept

pub nobody_later_by_more : AKeptRunIsOneOfTheOtherPlan → NobodyIsLaterByMoreThanTheHold
nobody_later_by_more kept_law p q es t plant machine to entry r kept fits = later_by kept_law p q es t plant machine to entry r kept fits
