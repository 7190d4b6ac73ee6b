-- One job more, which holds a machine: the plan fits, and the run so far is kept.
use Rattle.std.proofs.Common.{◌≡◌, ℕ, ◌+◌, ◌<◌, ◌≤◌, inl, inr, List, [], ◌∷◌, ◌++◌, length, set, Bool, if◌then◌else◌, refl, sym, ap, ◌∙◌, subst, arith, length-append}
use Rattle.std.proofs.lemmas.Bool.{le-ltb}
use Rattle.std.proofs.lemmas.List.{set-get_or, length-set}
use Rattle.shop_base.specs.declared.shop.Step.{Step}
use Rattle.shop_base.specs.declared.limits.TheConstants.{MAX_JOBS, MAX_NOMINAL, MAX_RELEASE}
use Rattle.shop_base.specs.Shop.{IsRoute, step_at}
use Rattle.shop_base.specs.Plan.{PlannedShop, jobs, route, steps, order, Visits}
use Rattle.shop_base.specs.Cell.{made, entries}
use Rattle.shop_base.specs.Move.{IsPrefix}
use Rattle.plan_verifier.specs.Accepted.{HasNoCycle}
use Rattle.plan_revise.specs.Promises.{no_promise}
use Rattle.plan_revise.specs.Placed.{with_new_job, added}
use Rattle.plan_revise.specs.Dates.{coming_by, promised_by}
use Rattle.plan_revise.specs.Settings.{RevisionSetting, moves_made}
use Rattle.plan_revise.specs.AnotherWay.{IsOpenPlace}
use Rattle.plan_revise.specs.Held.{held}
use Rattle.plan_revise.specs.Fits.{IsFit, IsRevision, IsSetting}
use Rattle.plan_revise.specs.Answers.{HasPlace}
use Rattle.plan_revise.proofs.Fitting.{fit-place}
use Rattle.plan_revise.proofs.PlacedParts.{default_more, SameVisits, with_job-same, with_job-fit, new-inside, new-none}
use Rattle.plan_revise.proofs.DatesMoved.{coming-fit, promised-fit}
use Rattle.plan_revise.proofs.Inserted.{visit-jobs, visit-mine}
use Rattle.plan_revise.proofs.Keeping.{same_keep}
use Rattle.plan_revise.proofs.HeldArcs.{visit-no_cycle}
use Rattle.plan_revise.proofs.SentOn.{IsRevisionBut, longer-revision, one-way}

-- ---- before its visit

module _ (p : PlannedShop) (moment : ℕ) where
  -- the job is there, due and promised, without a route
  abbrev bare : PlannedShop
  bare = added p [] moment no_promise

  bare_dated : bare ≡ promised_by (coming_by (with_new_job p) (jobs p) moment) (jobs p) no_promise
  bare_dated = ap (λ (rs : List (List Step)). record {
    shop = record p.shop { routes = rs };
    plan = record p.plan { release = set (p.plan.release ++ 0 ∷ []) (jobs p) moment; budget = set (p.plan.budget ++ 0 ∷ []) (jobs p) no_promise };
  }) same
    where
      same : set (with_new_job p).shop.routes (jobs p) [] ≡ (with_new_job p).shop.routes
      same = ap (set (with_new_job p).shop.routes (jobs p)) (sym (new-none p)) ∙ set-get_or (with_new_job p).shop.routes (jobs p) []

  -- the same visits are made
  pub bare-same : SameVisits p bare
  bare-same = subst (SameVisits p) (sym bare_dated) (record { lengths = (with_job-same p).lengths; machines_same = (with_job-same p).machines_same; orders = λ m. refl })

  pub bare-jobs : jobs bare ≡ jobs p + 1
  bare-jobs = length-set (with_new_job p).shop.routes (jobs p) [] ∙ length-append p.shop.routes ([] ∷ [])

  pub bare-none : route bare (jobs p) ≡ []
  bare-none = subst (λ (q : PlannedShop). route q (jobs p) ≡ []) (sym bare_dated) (new-none p)

  pub bare-route : (i : ℕ) → route bare i ≡ route p i
  bare-route i = subst (λ (q : PlannedShop). route q i ≡ route p i) (sym bare_dated) (default_more p.shop.routes [] i)

  pub bare-fit : IsFit p → jobs p < MAX_JOBS → moment ≤ MAX_RELEASE → IsFit bare
  bare-fit fit few early = subst IsFit (sym bare_dated)
      (promised-fit (coming_by (with_new_job p) (jobs p) moment) (jobs p) no_promise (coming-fit (with_new_job p) (jobs p) moment (with_job-fit p fit few) (new-inside p) early) (new-inside p) (omega arith))

-- ---- with it

pub held-jobs : (s : RevisionSetting) (p : PlannedShop) (machine time : ℕ) → jobs (held s p machine time) ≡ jobs p + 1
held-jobs s p machine time = visit-jobs (added p [] s.present no_promise) (jobs p) (record { machine = machine; nominal = time }) (length (entries s.cell machine)) ∙ bare-jobs p s.present

-- its whole route is a visit of the machine
pub held-visit : (s : RevisionSetting) (p : PlannedShop) (machine time : ℕ) → Visits (held s p machine time) (jobs p) 0 machine
held-visit s p machine time = record { within = omega (arith, ap length way); here = ap (λ (r : List Step). (step_at r 0).machine) way }
  where
    way : route (held s p machine time) (jobs p) ≡ record { machine = machine; nominal = time } ∷ []
    way = visit-mine (added p [] s.present no_promise) (jobs p) (record { machine = machine; nominal = time }) (length (entries s.cell machine)) (omega (arith, bare-jobs p s.present))
        ∙ ap (λ (r : List Step). r ++ record { machine = machine; nominal = time } ∷ []) (bare-none p s.present)

module _ (s : RevisionSetting) (is : IsSetting s) (p : PlannedShop) (revision : IsRevision s p) where
  -- those that have entered a machine of the plant begin its order
  pub entries_fit : (machine : ℕ) → machine < s.plant → length (entries s.cell machine) ≤ length (order p machine)
  entries_fit machine in_plant =
      let prefix : IsPrefix (entries s.cell machine) (order p machine) = revision.kept.begun machine (elim is.plant [ inl whole ↦ omega arith | inr more ↦ omega (arith, more.last) ]) in
      omega (arith, ap length prefix.1, length-append (entries s.cell machine) prefix.0)

  -- the place behind them is there
  pub held-place : (step : Step) → step.machine < s.plant → HasPlace (added p [] s.present no_promise) (jobs p) step (length (entries s.cell step.machine))
  held-place step in_plant = record {
    inside = omega (arith, bare-jobs p s.present);
    in_shop = elim revision.plant [ inl same ↦ omega arith | inr more ↦ omega arith ];
    rows = revision.fit.counts.orders;
    within = omega (arith, entries_fit step.machine in_plant);
  }

  module _ (few : jobs p < MAX_JOBS) (early : s.present ≤ MAX_RELEASE) where
    -- all but the job more is as it was
    bare-revision : IsRevisionBut s (added p [] s.present no_promise) (jobs p)
    bare-revision = record {
      fit = bare-fit p s.present revision.fit few early;
      some_step = λ i there other. omega (arith, (bare-same p s.present).lengths i, revision.some_step i (omega (arith, bare-jobs p s.present)));
      kept = same_keep s p (added p [] s.present no_promise) revision.kept (bare-same p s.present) (omega (arith, bare-jobs p s.present)) (λ m. refl);
      no_fewer = revision.no_fewer;
      plant = revision.plant;
    }

    -- it can have the place behind the entries
    held-open : (machine : ℕ) → machine < s.plant → IsOpenPlace s (added p [] s.present no_promise) (jobs p) machine (length (entries s.cell machine))
    held-open machine in_plant = record {
      within = entries_fit machine in_plant;
      behind_entries = omega arith;
      behind_own = λ b within mine.
          let found = fit-place (added p [] s.present no_promise) (bare-fit p s.present revision.fit few early) machine b (jobs p) (elim revision.plant [ inl same ↦ omega arith | inr more ↦ omega arith ]) within mine in
          absurd (omega (arith, found.1.visits.within, ap length (bare-none p s.present)));
    }

    pub held-revision : (machine time : ℕ) → machine < s.plant → time ≤ MAX_NOMINAL → IsRevision s (held s p machine time)
    held-revision machine time in_plant short =
        longer-revision s (added p [] s.present no_promise) (jobs p) (record { machine = machine; nominal = time }) (length (entries s.cell machine)) bare-revision (omega (arith, bare-jobs p s.present)) outside
        (subst (λ (r : List Step). IsRoute s.plant p.shop.recirculates (r ++ record { machine = machine; nominal = time } ∷ [])) (sym (bare-none p s.present)) (one-way s.plant p.shop.recirculates (record { machine = machine; nominal = time }) in_plant short))
        (held-open machine in_plant)
      where
        outside : moves_made s (jobs p) ≤ steps (added p [] s.present no_promise) (jobs p)
        outside = omega (arith, ap (λ (b : Bool). if b then made s.cell (jobs p) else 0) (le-ltb (jobs p) (jobs s.given) revision.kept.jobs_there))

    -- no cycle comes
    pub held-no_cycle : (machine time : ℕ) → machine < s.plant → HasNoCycle (added p [] s.present no_promise) → HasNoCycle (held s p machine time)
    held-no_cycle machine time in_plant acyclic =
        let place : HasPlace (added p [] s.present no_promise) (jobs p) (record { machine = machine; nominal = time }) (length (entries s.cell machine)) = held-place (record { machine = machine; nominal = time }) in_plant in
        visit-no_cycle (added p [] s.present no_promise) (jobs p) (record { machine = machine; nominal = time }) (length (entries s.cell machine)) (bare-fit p s.present revision.fit few early) place.inside (bare-none p s.present) place.in_shop place.within acyclic
