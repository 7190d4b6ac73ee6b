-- What a change makes fits again, and keeps the run so far.
use Rattle.std.proofs.Common.{◌≡◌, ◌≢◌, ℕ, zero, suc, ◌+◌, ◌<◌, ◌≤◌, ◌⊎◌, inl, inr, List, [], ◌∷◌, ◌++◌, take, length, get_or, min, max, Option, None, Some, Bool, if◌then◌else◌, refl, sym, ap, ◌∙◌, subst, arith, length-append, add-one, ◌-◌}
use Rattle.std.proofs.lemmas.Bool.{cases_eq, eq-eqb, ne_eqb, cases_lt, le-ltb}
use Rattle.std.proofs.lemmas.List.{length-set, length-take}
use Rattle.shop_base.specs.declared.shop.Step.{Step}
use Rattle.shop_base.specs.declared.limits.TheConstants.{MAX_JOBS, MAX_RELEASE, MAX_MOMENT}
use Rattle.shop_base.specs.Shop.{IsRoute, step_at}
use Rattle.shop_base.specs.Plan.{PlannedShop, jobs, machines, route, steps, release, budget, clean, Visits}
use Rattle.shop_base.specs.Cell.{made, since}
use Rattle.shop_base.proofs.Visits.{visits_job}
use Rattle.plan_revise.specs.declared.change.Change.{Change}
use Rattle.plan_revise.specs.declared.change.Change.TheVariants.{Until, Add, Scrap, Down, Route, Release, Budget, Hold}
use Rattle.plan_revise.specs.Promises.{no_promise}
use Rattle.plan_revise.specs.Ended.{with_job_ended}
use Rattle.plan_revise.specs.Placed.{with_new_job, with_new_machine, added}
use Rattle.plan_revise.specs.Settings.{RevisionSetting, moves_made, HasLeftCell}
use Rattle.plan_revise.specs.Aside.{aside_route, with_aside, HasRoom, CanGoOn, put_aside}
use Rattle.plan_revise.specs.Stopped.{present_step, way_to, stopped, stopped_at, without_machine}
use Rattle.plan_revise.specs.Changes.{lasting, given_or, IsProlonged, IsScrapped, IsWithout, IsRerouted, IsChangedTo}
use Rattle.plan_revise.specs.Dates.{coming_by, promised_by}
use Rattle.plan_revise.specs.Fits.{IsFit, IsKept, IsRevision, IsSetting}
use Rattle.plan_revise.specs.Parts.{Ends, Places}
use Rattle.plan_revise.specs.Stages.{IsStage}
use Rattle.plan_revise.specs.AnotherWay.{way_on, sent_outside, IsSentInside, AreFurthestBehind}
use Rattle.plan_revise.proofs.Fitting.{shaped_fits}
use Rattle.plan_revise.proofs.Ways.{way_visits}
use Rattle.plan_revise.proofs.EndedParts.{ended-ends, ended-fit}
use Rattle.plan_revise.proofs.PlacedParts.{new-inside, new-none, placed-places, placed-fit, SameVisits, with_job-same, with_job-fit, with_machine-same, with_machine-fit, with_machine-clean, lasting-lasts, lasting-same, lasting-fit}
use Rattle.plan_revise.proofs.DatesMoved.{coming-same, promised-same, coming-fit, promised-fit}
use Rattle.plan_revise.proofs.SentOn.{wider-way, one-way, AreSentOn, all-sent}
use Rattle.plan_revise.proofs.Holds.{held-revision}
use Rattle.plan_revise.proofs.Keeping.{moves_given, given_kept, ends_keep, places_keep, same_keep}

-- what is given is a revision of itself
pub given_revision : (s : RevisionSetting) → IsSetting s → IsRevision s s.given
given_revision s is = record {
  fit = shaped_fits s.given is.shaped;
  some_step = λ j inside. (is.shaped.shop.routes j inside).visits_some;
  kept = given_kept s is;
  no_fewer = omega arith;
  plant = elim is.plant [
    | inl whole ↦ inl (sym whole)
    | inr aside ↦ inr (sym aside.last)
  ];
}

-- ---- a job that is put aside

-- the machine of the jobs that are put aside is there
pub record HasAside (s : RevisionSetting) (p q : PlannedShop) : Type 0 where
  pub fit : IsFit q
  pub same : SameVisits p q
  pub kept : IsKept s q
  pub cleans : (m : ℕ) → clean q m ≡ clean p m
  pub routes : q.shop.routes ≡ p.shop.routes
  pub releases : q.plan.release ≡ p.plan.release
  pub budgets : q.plan.budget ≡ p.plan.budget
  pub count : machines q ≡ s.plant + 1

pub has_aside : (s : RevisionSetting) (p : PlannedShop) → IsRevision s p → HasRoom s p → HasAside s p (with_aside s p)
has_aside s p revision room = elim (cases_eq (machines p) s.plant) [
  | inl same ↦ subst (HasAside s p) (sym (brought same)) (more same)
  | inr other ↦ subst (HasAside s p) (sym (there other)) (as_is other)
]
  where
    brought : machines p ≡ s.plant → with_aside s p ≡ with_new_machine p
    brought same = rw (eq-eqb (machines p) s.plant same) refl

    there : machines p ≢ s.plant → with_aside s p ≡ p
    there other = rw (ne_eqb (machines p) s.plant other) refl

    more : machines p ≡ s.plant → HasAside s p (with_new_machine p)
    more same = record {
      fit = with_machine-fit p revision.fit (omega (arith, room same));
      same = with_machine-same p;
      kept = same_keep s p (with_new_machine p) revision.kept (with_machine-same p) (omega arith) (with_machine-clean p);
      cleans = with_machine-clean p;
      routes = refl;
      releases = refl;
      budgets = refl;
      count = omega arith;
    }

    as_is : machines p ≢ s.plant → HasAside s p p
    as_is other = record {
      fit = revision.fit;
      same = record { lengths = λ j. refl; machines_same = λ j k. refl; orders = λ m. refl };
      kept = revision.kept;
      cleans = λ m. refl;
      routes = refl;
      releases = refl;
      budgets = refl;
      count = elim revision.plant [ inl same ↦ absurd (other same) | inr behind ↦ behind ];
    }

pub aside_way : (plant count : ℕ) (again : Bool) → plant < count → IsRoute count again (aside_route plant)
aside_way plant count again less = one-way count again (record { machine = plant; nominal = 0 }) less (omega arith)

module _ (s : RevisionSetting) (p : PlannedShop) (j : ℕ) (is : IsSetting s) (revision : IsRevision s p) (inside : j < jobs p) (outside : moves_made s j ≡ 0) (room : HasRoom s p) where
  -- the parts by which it is put aside
  pub aside_first : HasAside s p (with_aside s p)
  aside_first = has_aside s p revision room

  pub aside_inside : j < jobs (with_aside s p)
  aside_inside = omega (arith, ap length aside_first.routes)

  pub aside_ends : Ends (with_aside s p) j 0 (with_job_ended (with_aside s p) j 0)
  aside_ends = ended-ends (with_aside s p) j 0 aside_first.fit aside_inside

  pub aside_fit : IsFit (with_job_ended (with_aside s p) j 0)
  aside_fit = ended-fit (with_aside s p) j aside_first.fit aside_inside 0

  pub aside_places : Places (with_job_ended (with_aside s p) j 0) j (aside_route s.plant) (min s.present MAX_RELEASE) no_promise (put_aside s p j)
  aside_places = placed-places (with_job_ended (with_aside s p) j 0) j (aside_route s.plant) (min s.present MAX_RELEASE) no_promise aside_fit
      (omega (arith, aside_inside, aside_ends.jobs_same)) aside_ends.mine (aside_way s.plant (machines (with_aside s p)) (with_aside s p).shop.recirculates (omega (arith, aside_first.count)))

  not_moved : j < jobs s.given → made s.cell j ≡ 0
  not_moved given = sym (moves_given s j given) ∙ outside

  pub aside_jobs : jobs (put_aside s p j) ≡ jobs p
  aside_jobs = length-set (with_job_ended (with_aside s p) j 0).shop.routes j (aside_route s.plant) ∙ aside_ends.jobs_same ∙ ap length aside_first.routes

  pub aside_others : (i : ℕ) → i ≢ j → route (put_aside s p j) i ≡ route p i
  aside_others i other = aside_places.others i other ∙ aside_ends.others i other ∙ ap (λ (rs : List (List Step)). get_or rs i []) aside_first.routes

  pub aside_revision : IsRevision s (put_aside s p j)
  aside_revision = record {
    fit = placed-fit (with_job_ended (with_aside s p) j 0) j (aside_route s.plant) (min s.present MAX_RELEASE) no_promise aside_fit
        (omega (arith, aside_inside, aside_ends.jobs_same)) aside_ends.mine (aside_way s.plant (machines (with_aside s p)) (with_aside s p).shop.recirculates (omega (arith, aside_first.count))) (omega arith) (omega arith);
    some_step = λ i within. elim (cases_eq i j) [
      | inl same ↦ omega (arith, ap (steps (put_aside s p j)) same, ap length aside_places.route_is)
      | inr other ↦ omega (arith, ap length (aside_others i other), revision.some_step i (omega (arith, aside_jobs)))
    ];
    kept = places_keep s (with_job_ended (with_aside s p) j 0) j (aside_route s.plant) (min s.present MAX_RELEASE) no_promise (put_aside s p j)
        (ends_keep s (with_aside s p) j 0 is aside_first.fit aside_inside aside_first.kept (λ given. omega (arith, not_moved given)) (λ given gone. omega (arith, not_moved given)))
        aside_places (omega (arith, aside_jobs, aside_ends.jobs_same, ap length aside_first.routes)) not_moved;
    no_fewer = elim (given_revision s is).plant [ inl whole ↦ omega (arith, aside_first.count) | inr more ↦ omega (arith, aside_first.count) ];
    plant = inr aside_first.count;
  }

-- a job has made no more moves than its steps, and its leaving
pub moves_few : (s : RevisionSetting) (p : PlannedShop) (j : ℕ) → IsSetting s → IsRevision s p → moves_made s j ≤ steps p j + 1
moves_few s p j is revision = elim (cases_lt j (jobs s.given)) [
  | inr past ↦ omega (arith, ap (λ b. if b then made s.cell j else 0) (le-ltb j (jobs s.given) past))
  | inl inside ↦ elim (cases_lt (steps s.given j) (made s.cell j)) [
    | inl gone ↦ omega (arith, moves_given s j inside, is.sound.few_moves j inside, revision.kept.left j inside gone)
    | inr here ↦ elim (cases_lt 0 (made s.cell j)) [
      | inr outside ↦ omega (arith, moves_given s j inside, outside)
      | inl moved ↦ (let last : ℕ = made s.cell j - 1 in
          omega (arith, moves_given s j inside, moved, (revision.kept.entered j last (omega (arith, moved)) (record { within = omega (arith, here, moved); here = refl })).within))
    ]
  ]
]

-- ---- a job that is stopped

pub stopped_outside : (s : RevisionSetting) (p : PlannedShop) (j n : ℕ) → moves_made s j ≡ 0 → stopped s p j n ≡ put_aside s p j
stopped_outside s p j n outside = rw (eq-eqb (moves_made s j) 0 outside) refl

pub stopped_inside : (s : RevisionSetting) (p : PlannedShop) (j n : ℕ) → moves_made s j ≢ 0 → stopped s p j n ≡ with_job_ended p j n
stopped_inside s p j n moved = rw (ne_eqb (moves_made s j) 0 moved) refl

-- what stopping one job, or sending it another way, leaves
pub record IsOneStopped (s : RevisionSetting) (p : PlannedShop) (j : ℕ) (q : PlannedShop) : Type 0 where
  pub revision : IsRevision s q
  pub jobs_same : jobs q ≡ jobs p
  pub others : (i : ℕ) → i ≢ j → route q i ≡ route p i
  pub more_machines : machines p ≤ machines q

pub stopped-one : (s : RevisionSetting) (p : PlannedShop) (j n : ℕ) → IsSetting s → IsRevision s p → j < jobs p → (HasLeftCell s p j → ⊥) → moves_made s j ≤ n → (moves_made s j ≡ 0 → HasRoom s p) → IsOneStopped s p j (stopped s p j n)
stopped-one s p j n is revision inside here behind room = elim (cases_eq (moves_made s j) 0) [
  | inl outside ↦ subst (IsOneStopped s p j) (sym (stopped_outside s p j n outside)) (record {
    revision = aside_revision s p j is revision inside outside (room outside);
    jobs_same = aside_jobs s p j is revision inside outside (room outside);
    others = aside_others s p j is revision inside outside (room outside);
    more_machines = omega (arith, (has_aside s p revision (room outside)).count, count revision.plant);
  })
  | inr moved ↦ subst (IsOneStopped s p j) (sym (stopped_inside s p j n moved)) (record {
    revision = cut moved;
    jobs_same = ends.jobs_same;
    others = ends.others;
    more_machines = omega arith;
  })
]
  where
    count : (machines p ≡ s.plant) ⊎ (machines p ≡ s.plant + 1) → machines p ≤ s.plant + 1
    count (inl same) = omega arith
    count (inr more) = omega arith

    ends : Ends p j n (with_job_ended p j n)
    ends = ended-ends p j n revision.fit inside

    cut : moves_made s j ≢ 0 → IsRevision s (with_job_ended p j n)
    cut moved = record {
      fit = ended-fit p j revision.fit inside n;
      some_step = λ i within. elim (cases_eq i j) [
        | inl same ↦ omega (arith, ap (steps (with_job_ended p j n)) same, ap length ends.mine, length-take n (route p j), revision.some_step j inside)
        | inr other ↦ omega (arith, ap length (ends.others i other), revision.some_step i (omega (arith, ends.jobs_same)))
      ];
      kept = ends_keep s p j n is revision.fit inside revision.kept (λ given. omega (arith, moves_given s j given)) (λ given gone. here (omega (arith, moves_given s j given, revision.kept.left j given gone)));
      no_fewer = revision.no_fewer;
      plant = revision.plant;
    }

-- ---- all jobs but some stopped at a machine

pub stage_first : (s : RevisionSetting) (p : PlannedShop) (m : ℕ) → IsRevision s p → IsStage s p m 0 p
stage_first s p m revision = record {
  is = refl;
  revision = revision;
  jobs_same = refl;
  others = λ j more. refl;
  more_machines = omega arith;
  room = λ j k less. absurd (omega arith);
}

module _ (s : RevisionSetting) (is : IsSetting s) where
  -- one more job stopped at the machine
  pub stopped_at-one : (p : PlannedShop) (m j : ℕ) (found : Option ℕ) → way_to s p j m ≡ found → IsRevision s p → j < jobs p → ((k : ℕ) → moves_made s j ≡ 0 → Visits p j k m → HasRoom s p) → IsOneStopped s p j (stopped_at s p j found)
  stopped_at-one p m j None is_none revision inside room = record { revision = revision; jobs_same = refl; others = λ i other. refl; more_machines = omega arith }
  stopped_at-one p m j (Some k) is_there revision inside room =
      let there : Visits p j (present_step s j + k) m = way_visits s p m j k is_there in
      stopped-one s p j (max (present_step s j + k) (moves_made s j)) is revision inside (λ left. omega (arith, left, there.within)) (omega arith) (λ outside. room (present_step s j + k) outside there)

  pub stage_next : (p : PlannedShop) (m j : ℕ) (q r : PlannedShop) → IsStage s p m j q → j < jobs p → r ≡ stopped_at s q j (way_to s q j m) → ((k : ℕ) → moves_made s j ≡ 0 → Visits q j k m → HasRoom s q) → IsStage s p m (j + 1) r
  stage_next p m j q r stage inside is_next room = subst (IsStage s p m (j + 1)) (sym is_next) (record {
    is = ap (λ (x : PlannedShop). stopped_at s x j (way_to s x j m)) stage.is ∙ ap (without_machine s p m) (sym (add-one j));
    revision = one.revision;
    jobs_same = one.jobs_same ∙ stage.jobs_same;
    others = λ i more. one.others i (omega arith) ∙ stage.others i (omega arith);
    more_machines = omega (arith, one.more_machines, stage.more_machines);
    room = λ i k less outside visits. elim (cases_eq i j) [
      | inl same ↦ room_before (room k (ap (moves_made s) (sym same) ∙ outside) (there k (subst (λ i. Visits p i k m) same visits)))
      | inr other ↦ stage.room i k (omega arith) outside visits
    ];
  })
    where
      one : IsOneStopped s q j (stopped_at s q j (way_to s q j m))
      one = stopped_at-one q m j (way_to s q j m) refl stage.revision (omega (arith, stage.jobs_same)) room

      there : (k : ℕ) → Visits p j k m → Visits q j k m
      there k visits = record {
        within = omega (arith, ap length (stage.others j (omega arith)), visits.within);
        here = ap (λ (r : List Step). (step_at r k).machine) (stage.others j (omega arith)) ∙ visits.here;
      }

      room_before : HasRoom s q → HasRoom s p
      room_before room same = elim stage.revision.plant [
        | inl whole ↦ room whole
        | inr more ↦ omega (arith, stage.revision.fit.size.few_machines)
      ]

  -- ---- each change

  module _ (p : PlannedShop) (machine to : ℕ) (q : PlannedShop) (revision : IsRevision s p) (made : IsProlonged s p machine to q) where
    prolonged_inside : made.job < jobs p
    prolonged_inside = omega (arith, visits_job s.given made.job made.step machine made.at_work.on.visits, revision.kept.jobs_there)

    prolonged_within : made.step < steps p made.job
    prolonged_within = (revision.kept.entered made.job made.step (omega (arith, made.at_work.on.entered)) (record { within = made.at_work.on.visits.within; here = refl })).within

    pub prolonged_same : SameVisits p (lasting p made.job made.step (to - since s.cell made.job))
    prolonged_same = lasting-same p made.job made.step (to - since s.cell made.job) prolonged_inside prolonged_within

    pub prolonged_jobs : jobs (lasting p made.job made.step (to - since s.cell made.job)) ≡ jobs p
    prolonged_jobs = (lasting-lasts p made.job made.step (to - since s.cell made.job) prolonged_inside prolonged_within).jobs_same

    pub prolonged-revision : IsRevision s q
    prolonged-revision = subst (IsRevision s) (sym made.is) (record {
      fit = lasting-fit p made.job made.step (to - since s.cell made.job) prolonged_inside prolonged_within revision.fit made.short;
      some_step = λ j there. omega (arith, prolonged_same.lengths j, revision.some_step j (omega (arith, prolonged_jobs)));
      kept = same_keep s p (lasting p made.job made.step (to - since s.cell made.job)) revision.kept prolonged_same (omega (arith, prolonged_jobs)) (λ m. refl);
      no_fewer = revision.no_fewer;
      plant = revision.plant;
    })

  module _ (p : PlannedShop) (r : List Step) (release budget : ℕ) (revision : IsRevision s p) (few : jobs p < MAX_JOBS) (sound : IsRoute s.plant p.shop.recirculates r) where
    pub added_way : IsRoute (machines p) p.shop.recirculates r
    added_way = wider-way s p p.shop.recirculates r revision sound

    pub added_fit : IsFit (with_new_job p)
    added_fit = with_job-fit p revision.fit few

    pub added_places : Places (with_new_job p) (jobs p) r release budget (added p r release budget)
    added_places = placed-places (with_new_job p) (jobs p) r release budget added_fit (new-inside p) (new-none p) added_way

    pub added-revision : release ≤ MAX_RELEASE → budget ≤ MAX_MOMENT → IsRevision s (added p r release budget)
    added-revision early in_range = record {
      fit = placed-fit (with_new_job p) (jobs p) r release budget added_fit (new-inside p) (new-none p) added_way early in_range;
      some_step = λ j there. elim (cases_eq j (jobs p)) [
        | inl same ↦ omega (arith, ap (steps (added p r release budget)) same, ap length added_places.route_is, sound.visits_some)
        | inr other ↦ omega (arith, ap length (added_places.others j other), (with_job-same p).lengths j, revision.some_step j (omega (arith, added_places.jobs_but j there other, length-append p.shop.routes ([] ∷ []), other)))
      ];
      kept = places_keep s (with_new_job p) (jobs p) r release budget (added p r release budget)
          (same_keep s p (with_new_job p) revision.kept (with_job-same p) (omega (arith, new-inside p)) (λ m. refl)) added_places
          (omega (arith, length-set (with_new_job p).shop.routes (jobs p) r)) (λ given. absurd (omega (arith, revision.kept.jobs_there)));
      no_fewer = revision.no_fewer;
      plant = revision.plant;
    }

  pub scrapped-revision : (p : PlannedShop) (j : ℕ) (q : PlannedShop) → IsRevision s p → IsScrapped s p j q → IsRevision s q
  scrapped-revision p j q revision made = subst (IsRevision s) (sym made.is) (stopped-one s p j (moves_made s j) is revision made.in_shop made.here (omega arith) made.room).revision

  pub stage_room : (p : PlannedShop) (m n : ℕ) (q : PlannedShop) (k : ℕ) → IsRevision s p → IsStage s p m n q → ((j k : ℕ) → moves_made s j ≡ 0 → Visits p j k m → HasRoom s p) → moves_made s n ≡ 0 → Visits q n k m → HasRoom s q
  stage_room p m n q k revision stage room outside visits same = elim revision.plant [
    | inl whole ↦ room n k outside before whole
    | inr more ↦ absurd (omega (arith, stage.more_machines))
  ]
    where
      before : Visits p n k m
      before = record {
        within = omega (arith, ap length (stage.others n (omega arith)), visits.within);
        here = sym (ap (λ (r : List Step). (step_at r k).machine) (stage.others n (omega arith))) ∙ visits.here;
      }

  pub stage_upto : (p : PlannedShop) (m n : ℕ) → IsRevision s p → n ≤ jobs p → ((j k : ℕ) → moves_made s j ≡ 0 → Visits p j k m → HasRoom s p) → IsStage s p m n (without_machine s p m n)
  stage_upto p m zero revision few room = stage_first s p m revision
  stage_upto p m (suc n) revision few room =
      let before = stage_upto p m n revision (omega arith) room in
      subst (λ i. IsStage s p m i (without_machine s p m (suc n))) (add-one n)
      (stage_next p m n (without_machine s p m n) (without_machine s p m (suc n)) before (omega arith) refl (λ k outside visits. stage_room p m n (without_machine s p m n) k revision before room outside visits))

  pub without-revision : (p : PlannedShop) (m : ℕ) (q : PlannedShop) → IsRevision s p → IsWithout s p m q → IsRevision s q
  without-revision p m q revision made = subst (IsRevision s) (sym made.is) (stage_upto p m (jobs p) revision (omega arith) made.room).revision

  -- a plan with the same visits, jobs, machines and cleaning times
  same-revision : (p q : PlannedShop) → IsRevision s p → SameVisits p q → IsFit q → jobs q ≡ jobs p → machines q ≡ machines p → ((m : ℕ) → clean q m ≡ clean p m) → IsRevision s q
  same-revision p q revision same fit jobs_same machines_same cleans = record {
    fit = fit;
    some_step = λ i there. omega (arith, same.lengths i, revision.some_step i (omega (arith, jobs_same)));
    kept = same_keep s p q revision.kept same (omega (arith, jobs_same)) cleans;
    no_fewer = omega (arith, revision.no_fewer, machines_same);
    plant = elim revision.plant [ inl whole ↦ inl (machines_same ∙ whole) | inr more ↦ inr (machines_same ∙ more) ];
  }

  -- ---- a job that goes another way

  -- outside
  module _ (p : PlannedShop) (j : ℕ) (way : List Step) (revision : IsRevision s p) (inside : j < jobs p) (outside : moves_made s j ≡ 0) (sound : IsRoute s.plant p.shop.recirculates (way_on s p j way)) where
    sent_ends : Ends p j 0 (with_job_ended p j 0)
    sent_ends = ended-ends p j 0 revision.fit inside

    pub sent_fit : IsFit (with_job_ended p j 0)
    sent_fit = ended-fit p j revision.fit inside 0

    sent_inside : j < jobs (with_job_ended p j 0)
    sent_inside = omega (arith, sent_ends.jobs_same)

    sent_way : IsRoute (machines p) p.shop.recirculates way
    sent_way = wider-way s p p.shop.recirculates way revision (subst (λ n. IsRoute s.plant p.shop.recirculates (take n (route p j) ++ way)) outside sound)

    pub sent_places : Places (with_job_ended p j 0) j way (release p j) (budget p j) (sent_outside p j way)
    sent_places = placed-places (with_job_ended p j 0) j way (release p j) (budget p j) sent_fit sent_inside sent_ends.mine sent_way

    sent_jobs : jobs (sent_outside p j way) ≡ jobs p
    sent_jobs = length-set (with_job_ended p j 0).shop.routes j way ∙ sent_ends.jobs_same

    sent_others : (i : ℕ) → i ≢ j → route (sent_outside p j way) i ≡ route p i
    sent_others i other = sent_places.others i other ∙ sent_ends.others i other

    not_begun : j < jobs s.given → made s.cell j ≡ 0
    not_begun given = sym (moves_given s j given) ∙ outside

    sent-revision : IsRevision s (sent_outside p j way)
    sent-revision = record {
      fit = placed-fit (with_job_ended p j 0) j way (release p j) (budget p j) sent_fit sent_inside sent_ends.mine sent_way (revision.fit.limits.releases j inside) (revision.fit.limits.budgets j inside);
      some_step = λ i within. elim (cases_eq i j) [
        | inl same ↦ omega (arith, ap (steps (sent_outside p j way)) same, ap length sent_places.route_is, sent_way.visits_some)
        | inr other ↦ omega (arith, ap length (sent_others i other), revision.some_step i (omega (arith, sent_jobs)))
      ];
      kept = places_keep s (with_job_ended p j 0) j way (release p j) (budget p j) (sent_outside p j way)
          (ends_keep s p j 0 is revision.fit inside revision.kept (λ given. omega (arith, not_begun given)) (λ given gone. omega (arith, not_begun given)))
          sent_places (omega (arith, sent_jobs, sent_ends.jobs_same)) not_begun;
      no_fewer = revision.no_fewer;
      plant = revision.plant;
    }

  -- in the cell
  module _ (p : PlannedShop) (j : ℕ) (way : List Step) (q : PlannedShop) (revision : IsRevision s p) (can : CanGoOn s p j) (moved : 0 < moves_made s j) (sound : IsRoute s.plant p.shop.recirculates (way_on s p j way)) where
    pub cut_ends : Ends p j (moves_made s j) (with_job_ended p j (moves_made s j))
    cut_ends = ended-ends p j (moves_made s j) revision.fit can.in_shop

    pub cut_few : moves_made s j ≤ steps (with_job_ended p j (moves_made s j)) j
    cut_few = elim (cases_lt (steps p j) (moves_made s j)) [
      | inl gone ↦ absurd (can.here gone)
      | inr few ↦ omega (arith, few, ap length cut_ends.mine, length-take (moves_made s j) (route p j))
    ]

    pub cut-revision : IsRevision s (with_job_ended p j (moves_made s j))
    cut-revision = subst (IsRevision s) (stopped_inside s p j (moves_made s j) (λ none. omega arith))
        (stopped-one s p j (moves_made s j) is revision can.in_shop can.here (omega arith) (λ none. absurd (omega arith))).revision

    pub cut_way : IsRoute s.plant p.shop.recirculates (route (with_job_ended p j (moves_made s j)) j ++ way)
    cut_way = subst (λ (r : List Step). IsRoute s.plant p.shop.recirculates (r ++ way)) (sym cut_ends.mine) sound

    sent_on : (r : PlannedShop) → AreFurthestBehind s (with_job_ended p j (moves_made s j)) j way r → AreSentOn s (with_job_ended p j (moves_made s j)) j way r
    sent_on r made = all-sent s j (with_job_ended p j (moves_made s j)) way r cut-revision (omega (arith, can.in_shop, cut_ends.jobs_same)) cut_few cut_way made

    inside-one : IsSentInside s p j way q → IsOneStopped s p j q
    inside-one one = subst (IsOneStopped s p j) (sym one.is) (record {
      revision = same-revision one.sent (promised_by one.sent j (budget p j)) on.revision (promised-same one.sent j (budget p j))
          (promised-fit one.sent j (budget p j) on.revision.fit (omega (arith, can.in_shop, cut_ends.jobs_same, on.jobs_same)) (revision.fit.limits.budgets j can.in_shop)) refl refl (λ m. refl);
      jobs_same = on.jobs_same ∙ cut_ends.jobs_same;
      others = λ i other. on.others i other ∙ cut_ends.others i other;
      more_machines = on.more_machines;
    })
      where
        on : AreSentOn s (with_job_ended p j (moves_made s j)) j way one.sent
        on = sent_on one.sent one.behind

  pub rerouted-one : (p : PlannedShop) (j : ℕ) (words : List ℕ) (q : PlannedShop) → IsRevision s p → IsRerouted s p j words q → IsOneStopped s p j q
  rerouted-one p j words q revision made = elim (cases_lt 0 (moves_made s j)) [
    | inl moved ↦ inside-one p j made.steps q revision made.can moved made.sound (made.inside moved)
    | inr few ↦ (let outside : moves_made s j ≡ 0 = omega arith in
        subst (IsOneStopped s p j) (sym (made.outside outside)) (record {
          revision = sent-revision p j made.steps revision made.can.in_shop outside made.sound;
          jobs_same = sent_jobs p j made.steps revision made.can.in_shop outside made.sound;
          others = sent_others p j made.steps revision made.can.in_shop outside made.sound;
          more_machines = omega arith;
        }))
  ]

  -- each change keeps all this
  pub becomes-revision : (p : PlannedShop) (change : Change) (q : PlannedShop) → IsRevision s p → IsChangedTo s p change q → IsRevision s q
  becomes-revision p (Until machine to) q revision made = prolonged-revision p machine to q revision made
  becomes-revision p (Add words release budget) q revision made =
      subst (IsRevision s) (sym made.is) (added-revision p made.steps (given_or release s.present) (given_or budget no_promise) revision made.few_jobs made.sound made.release_in_range made.budget_in_range)
  becomes-revision p (Scrap j) q revision made = scrapped-revision p j q revision made
  becomes-revision p (Down machine) q revision made = without-revision p machine q revision made
  becomes-revision p (Route j words) q revision made = (rerouted-one p j words.now q revision made).revision
  becomes-revision p (Release j moment) q revision made = subst (IsRevision s) (sym made.is) (same-revision p (coming_by p j moment) revision (coming-same p j moment) (coming-fit p j moment revision.fit made.in_line.in_shop made.in_range) refl refl (λ m. refl))
  becomes-revision p (Budget j moment) q revision made = subst (IsRevision s) (sym made.is) (same-revision p (promised_by p j moment) revision (promised-same p j moment) (promised-fit p j moment revision.fit made.in_line.in_shop made.in_range) refl refl (λ m. refl))
  becomes-revision p (Hold machine to) q revision made = subst (IsRevision s) (sym made.is) (held-revision s is p revision made.few_jobs made.in_range machine (to - s.present) made.in_plant made.short)
