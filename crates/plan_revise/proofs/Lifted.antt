-- Deadlines where jobs are scrapped or machines are down: moments that fit before fit afterwards, with those of jobs that are put aside at the greatest.
use Rattle.std.proofs.Common.{◌≡◌, ◌≢◌, ℕ, zero, suc, ◌+◌, ◌-◌, ◌<◌, ◌≤◌, inl, inr, List, [], ◌∷◌, length, get_or, min, max, Option, None, Some, eqb, if◌then◌else◌, refl, sym, ap, ◌∙◌, subst, arith}
use Rattle.std.proofs.lemmas.Bool.{cases_eq, cases_lt, eq-eqb, ne_eqb}
use Rattle.std.proofs.lemmas.List.{get_or_past}
use Rattle.shop_base.specs.declared.limits.TheConstants.{MAX_RELEASE}
use Rattle.shop_base.specs.declared.node.Node.{Node}
use Rattle.shop_base.specs.declared.shop.Step.{Step}
use Rattle.shop_base.specs.Shop.{step_at}
use Rattle.shop_base.specs.Plan.{PlannedShop, jobs, machines, route, steps, nominal, clean, clean_in, HasCleanCount, release, budget, Visits}
use Rattle.shop_base.specs.Cell.{Cell, made}
use Rattle.shop_base.specs.Graph.{node, leaving, Arc, job_arc, blocking_arc}
use Rattle.shop_base.specs.Ahead.{IsAhead, RespectArcs, MeetBudgetsAhead}
use Rattle.plan_revise.specs.declared.change.Change.{Change}
use Rattle.plan_revise.specs.declared.change.Change.TheVariants.{Until, Add, Scrap, Down, Route, Release, Budget, Hold}
use Rattle.plan_revise.specs.Promises.{no_promise}
use Rattle.plan_revise.specs.Ended.{with_job_ended}
use Rattle.plan_revise.specs.Settings.{RevisionSetting, moves_made}
use Rattle.plan_revise.specs.Aside.{MayBeAside, IsInLine, aside_route, with_aside, HasRoom, put_aside}
use Rattle.plan_revise.specs.Stopped.{present_step, way_to, stopped, stopped_at, without_machine}
use Rattle.plan_revise.specs.Changes.{IsChangedTo}
use Rattle.plan_revise.specs.Dates.{coming_by, promised_by}
use Rattle.plan_revise.specs.Revised.{AreMade}
use Rattle.plan_revise.specs.Fits.{IsFit, IsRevision, IsSetting}
use Rattle.plan_revise.specs.Parts.{Ends, Places}
use Rattle.plan_revise.specs.Stages.{IsStage}
use Rattle.plan_revise.specs.Effects.{AreAll, SparesJob, AsksNoMore}
use Rattle.plan_revise.proofs.Ways.{way_visits}
use Rattle.plan_revise.proofs.EndedParts.{EndsOnce, ended-ends, ended_by, visits_before, steps_few, step_before}
use Rattle.plan_revise.proofs.EndedArcs.{once-arc}
use Rattle.plan_revise.proofs.PlacedArcs.{placed-arc, visits_others}
use Rattle.plan_revise.proofs.DatesMoved.{coming-same, promised-same, coming-release, coming-others, promised-budget, promised-others}
use Rattle.plan_revise.proofs.PlacedParts.{SameVisits, same-visits_back}
use Rattle.plan_revise.proofs.RevisedLaws.{same_arc, stopped_at-stays, aside_visits, becomes-more_jobs}
use Rattle.plan_revise.proofs.Outcomes.{made-stays, made-more_jobs}
use Rattle.shop_base.proofs.Visits.{visits_job, visits_machine}
use Rattle.plan_revise.proofs.Revisions.{HasAside, has_aside, aside_ends, aside_fit, aside_places, aside_others, stopped_outside, stopped_inside, stage_upto, stage_room, becomes-revision}

-- moments that respect the arcs ahead and meet the budgets there
pub record AreFitting (c : Cell) (p : PlannedShop) (kept : Node → ℕ) : Type 0 where
  pub arcs : RespectArcs p c kept
  pub budgets : MeetBudgetsAhead p c kept

-- the jobs on the machine of those that are put aside have one step each, of no time, and it isn't cleaned
pub record IsAsideSound (s : RevisionSetting) (p : PlannedShop) : Type 0 where
  pub whole : (i k : ℕ) → Visits p i k s.plant → steps p i ≡ 1
  pub timeless : (i k : ℕ) → Visits p i k s.plant → nominal p i k ≡ 0
  pub uncleaned : clean p s.plant ≡ 0
  pub unpromised : (i k : ℕ) → Visits p i k s.plant → budget p i ≡ no_promise

-- ---- what is read the same

same_fits : (c : Cell) (p q : PlannedShop) (kept : Node → ℕ) (same : SameVisits p q) → ((j k : ℕ) → nominal q j k ≡ nominal p j k) → ((m : ℕ) → clean q m ≡ clean p m) → ((j : ℕ) → release q j ≤ release p j) → jobs q ≡ jobs p → ((j : ℕ) → j < jobs p → budget p j ≤ budget q j) → AreFitting c p kept → AreFitting c q kept
same_fits c p q kept same times cleans releases jobs_same budgets_more f = record {
  arcs = λ u v d ahead arc. f.arcs u v d ahead (same_arc p q same times cleans releases c 0 u v d arc);
  budgets = λ i there here. omega (arith, f.budgets i (omega arith) (λ gone. here (omega (arith, same.lengths i))), ap (λ k. kept (node i k)) (same.lengths i), budgets_more i (omega arith));
}

-- ---- a job that ends

job_rise : (c : Cell) (p : PlannedShop) (kept : Node → ℕ) (j k n : ℕ) → RespectArcs p c kept → made c j ≤ k → k + n ≤ steps p j → kept (node j k) ≤ kept (node j (k + n))
job_rise c p kept j k zero arcs ahead few = let same : k ≡ k + zero = omega arith in omega (arith, ap (λ i. kept (node j i)) same)
job_rise c p kept j k (suc n) arcs ahead few =
    let same : k + n + 1 ≡ k + suc n = omega arith in
    omega (arith, job_rise c p kept j k n arcs ahead (omega arith), arcs (node j (k + n)) (node j (k + n + 1)) (nominal p j (k + n)) (omega arith) (job_arc j (k + n) (omega arith)), ap (λ i. kept (node j i)) same)

once_fits : (c : Cell) (p : PlannedShop) (j n : ℕ) (q : PlannedShop) (kept : Node → ℕ) → IsFit p → EndsOnce p j n q → j < jobs p → made c j ≤ n → AreFitting c p kept → AreFitting c q kept
once_fits c p j n q kept fit once inside behind f = record { arcs = arcs; budgets = budgets }
  where
    ends : Ends p j n q
    ends = once.ends

    arcs : RespectArcs q c kept
    arcs u v d ahead arc = elim (once-arc p j n q fit once u v d arc) [
      | inl same ↦ f.arcs u v d ahead same
      | inr joined ↦ omega (
        arith,
        f.arcs u joined.to d ahead joined.first,
        f.arcs joined.to joined.from joined.between (omega (arith, ap (made c) joined.mine, joined.behind)) joined.second,
        f.arcs joined.from v d (omega (arith, ap (made c) joined.mine_too, joined.behind_too)) joined.third,
      )
    ]

    budgets : MeetBudgetsAhead q c kept
    budgets i there here = elim (cases_eq i j) [
      | inr other ↦ (let same : steps p i ≡ steps q i = sym (ap length (ends.others i other)) in
          omega (arith, f.budgets i (omega (arith, ends.jobs_same)) (λ gone. here (omega arith)), ap (λ k. kept (node i k)) same, ends.budgets i other))
      | inl same ↦ mine same
    ]
      where
        mine : i ≡ j → kept (leaving q i) ≤ budget q i
        mine same =
            let moved : made c i ≡ made c j = ap (made c) same in
            let few : steps q j ≤ steps p j = steps_few p j n q ends j in
            let ahead : made c j ≤ steps q j = elim (cases_lt (steps q j) (made c j)) [ inl gone ↦ absurd (here (omega (arith, moved, ap (steps q) same))) | inr enough ↦ enough ] in
            let whole : steps q j + (steps p j - steps q j) ≡ steps p j = omega arith in
            omega (
              arith,
              ap (λ i. kept (leaving q i)) same,
              ap (budget q) same,
              ends.unpromised,
              fit.limits.budgets j inside,
              f.budgets j inside (λ gone. omega arith),
              job_rise c p kept j (steps q j) (steps p j - steps q j) f.arcs ahead (omega arith),
              ap (λ k. kept (node j k)) whole,
            )

pub ended_fits : (c : Cell) (p : PlannedShop) (j n : ℕ) (kept : Node → ℕ) → IsFit p → j < jobs p → made c j ≤ n → AreFitting c p kept → AreFitting c (with_job_ended p j n) kept
ended_fits c p j n kept fit inside behind f =
    (ended_by p j fit inside (λ q. AreFitting c q kept) n f (λ q r k more there fits once holds. once_fits c q j k r kept fits once there (omega arith) holds)).1

-- ---- changes that ask for no more

one_spares : (s : RevisionSetting) (i : ℕ) (p : PlannedShop) (change : Change) → AsksNoMore p change → SparesJob s i p change
one_spares s i p (Until machine to) less = less
one_spares s i p (Add words first last) less = tt
one_spares s i p (Scrap j) less = tt
one_spares s i p (Down machine) less = tt
one_spares s i p (Route j words) less = absurd less
one_spares s i p (Release j moment) less = less
one_spares s i p (Budget j moment) less = tt
one_spares s i p (Hold machine to) less = less

pub all_spare : (s : RevisionSetting) (i : ℕ) (p : PlannedShop) (changes : List Change) → AreAll AsksNoMore s p changes → AreAll (SparesJob s i) s p changes
all_spare s i p [] less = tt
all_spare s i p (change ∷ changes) (less, others) = (one_spares s i p change less, λ next one. all_spare s i next changes (others next one))

-- ---- a job that is put aside

-- the moments kept, but that of one job the greatest
pub lifted : ℕ → (Node → ℕ) → Node → ℕ
lifted j kept v = if eqb v.job j then no_promise else kept v

pub lifted_mine : (j : ℕ) (kept : Node → ℕ) (v : Node) → v.job ≡ j → lifted j kept v ≡ no_promise
unfolding lifted
lifted_mine j kept v mine = rw (eq-eqb v.job j mine) refl

pub lifted_other : (j : ℕ) (kept : Node → ℕ) (v : Node) → v.job ≢ j → lifted j kept v ≡ kept v
unfolding lifted
lifted_other j kept v other = rw (ne_eqb v.job j other) refl

module _ (s : RevisionSetting) (is : IsSetting s) (c : Cell) (top : ℕ) (moved : (j : ℕ) → j < top → made c j ≡ moves_made s j) where
  module _ (p : PlannedShop) (j : ℕ) (revision : IsRevision s p) (inside : j < jobs p) (outside : moves_made s j ≡ 0) (room : HasRoom s p) (few_jobs : jobs p ≤ top) where
    first : HasAside s p (with_aside s p)
    first = has_aside s p revision room

    ends : Ends (with_aside s p) j 0 (with_job_ended (with_aside s p) j 0)
    ends = aside_ends s p j is revision inside outside room

    places : Places (with_job_ended (with_aside s p) j 0) j (aside_route s.plant) (min s.present MAX_RELEASE) no_promise (put_aside s p j)
    places = aside_places s p j is revision inside outside room

    -- a visit of another job is one of before
    visit_before : (i k m : ℕ) → i ≢ j → Visits (put_aside s p j) i k m → Visits p i k m
    visit_before i k m other visits =
        same-visits_back p (with_aside s p) first.same i k m
        (visits_before (with_aside s p) j 0 (with_job_ended (with_aside s p) j 0) ends i k m
        (visits_others (with_job_ended (with_aside s p) j 0) j (aside_route s.plant) (min s.present MAX_RELEASE) no_promise (put_aside s p j) (aside_fit s p j is revision inside outside room) places i k m other visits))

    mine_step : (k : ℕ) → k < steps (put_aside s p j) j → (k ≡ 0) × (nominal (put_aside s p j) j k ≡ 0)
    mine_step k within =
        let here : k ≡ 0 = omega (arith, ap length places.route_is) in
        (here, ap (nominal (put_aside s p j) j) here ∙ ap (λ (r : List Step). (step_at r 0).nominal) places.route_is)

    pub aside_still : IsAsideSound s p → IsAsideSound s (put_aside s p j)
    aside_still sound = record {
      whole = λ i k visits. elim (cases_eq i j) [
        | inl same ↦ ap (steps (put_aside s p j)) same ∙ ap length places.route_is
        | inr other ↦ ap length (aside_others s p j is revision inside outside room i other) ∙ sound.whole i k (visit_before i k s.plant other visits)
      ];
      timeless = λ i k visits. elim (cases_eq i j) [
        | inl same ↦ ap (λ i. nominal (put_aside s p j) i k) same ∙ (mine_step k (omega (arith, visits.within, ap (steps (put_aside s p j)) same))).1
        | inr other ↦ ap (λ (r : List Step). (step_at r k).nominal) (aside_others s p j is revision inside outside room i other) ∙ sound.timeless i k (visit_before i k s.plant other visits)
      ];
      uncleaned = places.cleans s.plant ∙ ends.cleans s.plant ∙ first.cleans s.plant ∙ sound.uncleaned;
      unpromised = λ i k visits. elim (cases_eq i j) [
        | inl same ↦ ap (budget (put_aside s p j)) same ∙ places.budget_is
        | inr other ↦ places.budgets i other ∙ ends.budgets i other ∙ ap (λ (xs : List ℕ). get_or xs i 0) first.budgets ∙ sound.unpromised i k (visit_before i k s.plant other visits)
      ];
    }

    unmoved : made c j ≤ 0
    unmoved = omega (arith, moved j (omega arith))

    fits_first : (kept : Node → ℕ) → AreFitting c p kept → AreFitting c (with_aside s p) kept
    fits_first kept f = same_fits c p (with_aside s p) kept first.same (λ i k. ap (λ (rs : List (List Step)). (step_at (get_or rs i []) k).nominal) first.routes) first.cleans (λ i. omega (arith, ap (λ (xs : List ℕ). get_or xs i 0) first.releases)) (ap length first.routes) (λ i inside. omega (arith, ap (λ (xs : List ℕ). get_or xs i 0) first.budgets)) f

    fits_then : (kept : Node → ℕ) → AreFitting c p kept → AreFitting c (with_job_ended (with_aside s p) j 0) kept
    fits_then kept f = ended_fits c (with_aside s p) j 0 kept first.fit (omega (arith, inside, ap length first.routes)) unmoved (fits_first kept f)

    on_plant : (g m : ℕ) → Visits (put_aside s p j) j g m → m ≡ s.plant
    on_plant g m visits =
        let here : g ≡ 0 = (mine_step g visits.within).0 in
        sym visits.here ∙ ap (λ (k : ℕ). (step_at (route (put_aside s p j) j) k).machine) here ∙ ap (λ (r : List Step). (step_at r 0).machine) places.route_is

    to_mine : (kept : Node → ℕ) → AreFitting c p kept → IsAsideSound s p → (u v : Node) (d : ℕ) → IsAhead c u → Arc (put_aside s p j) u v d → v.job ≡ j → lifted j kept u + d ≤ lifted j kept v
    to_mine kept f sound _ _ _ ahead (job_arc i k within) mine =
        omega (arith, lifted_mine j kept (node i k) mine, lifted_mine j kept (node i (k + 1)) mine, ap (λ i. nominal (put_aside s p j) i k) mine, (mine_step k (omega (arith, within, ap (steps (put_aside s p j)) mine))).1)
    to_mine kept f sound _ _ _ ahead (blocking_arc m a i k l g one next) mine = elim (cases_eq i j) [
      | inl same ↦ omega (arith, lifted_mine j kept (node i (k + 1)) same, lifted_mine j kept (node l g) mine, timeless)
      | inr other ↦ omega (arith, lifted_other j kept (node i (k + 1)) other, lifted_mine j kept (node l g) mine, timeless, few other)
    ]
      where
        here : m ≡ s.plant
        here = on_plant g m (subst (λ l. Visits (put_aside s p j) l g m) mine next.visits)

        timeless : clean (put_aside s p j) m ≡ 0
        timeless = ap (clean (put_aside s p j)) here ∙ (aside_still sound).uncleaned

        few : i ≢ j → kept (node i (k + 1)) ≤ no_promise
        few other =
            let visits : Visits p i k s.plant = subst (λ m. Visits p i k m) here (visit_before i k m other one.visits) in
            let whole : steps p i ≡ k + 1 = omega (arith, sound.whole i k visits, visits.within) in
            let there : i < jobs p = visits_job p i k s.plant visits in
            omega (arith, f.budgets i there (λ gone. omega (arith, ahead)), revision.fit.limits.budgets i there, ap (λ n. kept (node i n)) whole)

    aside_fits : (kept : Node → ℕ) → AreFitting c p kept → IsAsideSound s p → AreFitting c (put_aside s p j) (lifted j kept)
    aside_fits kept f sound = record {
      arcs = λ u v d ahead arc. elim (cases_eq v.job j) [
        | inl mine ↦ to_mine kept f sound u v d ahead arc mine
        | inr other ↦ (let one = placed-arc (with_job_ended (with_aside s p) j 0) j (aside_route s.plant) (min s.present MAX_RELEASE) no_promise (put_aside s p j) (aside_fit s p j is revision inside outside room) places u v d arc other in
            omega (arith, (fits_then kept f).arcs u v d ahead one.1, lifted_other j kept u one.0, lifted_other j kept v other))
      ];
      budgets = λ i there here. elim (cases_eq i j) [
        | inl same ↦ omega (arith, lifted_mine j kept (leaving (put_aside s p j) i) same, ap (budget (put_aside s p j)) same, places.budget_is)
        | inr other ↦ (let size : steps (put_aside s p j) i ≡ steps (with_job_ended (with_aside s p) j 0) i = ap length (places.others i other) in
            omega (arith, lifted_other j kept (leaving (put_aside s p j) i) other, (fits_then kept f).budgets i (places.jobs_but i there other) (λ gone. here (omega arith)), ap (λ k. kept (node i k)) size, places.budgets i other))
      ];
    }

  -- ---- all changes

  -- moments that fit a plan become moments that fit another, the same but for jobs that are put aside
  record IsLifted (p : PlannedShop) (kept : Node → ℕ) (q : PlannedShop) : Type 0 where
    later : Node → ℕ
    fits : AreFitting c q later
    sound : IsAsideSound s q
    same : (v : Node) → (Visits q v.job 0 s.plant → ⊥) → later v ≡ kept v

  lifted_not : (p : PlannedShop) (kept : Node → ℕ) → AreFitting c p kept → IsAsideSound s p → IsLifted p kept p
  lifted_not p kept f sound = record { later = kept; fits = f; sound = sound; same = λ v free. refl }

  pub ended_sound : (p : PlannedShop) (j n : ℕ) → IsFit p → j < jobs p → IsAsideSound s p → IsAsideSound s (with_job_ended p j n)
  ended_sound p j n fit inside sound =
      let ends = ended-ends p j n fit inside in
      record {
        whole = λ i k visits. omega (arith, sound.whole i k (visits_before p j n (with_job_ended p j n) ends i k s.plant visits), steps_few p j n (with_job_ended p j n) ends i, visits.within);
        timeless = λ i k visits. ap (λ (x : Step). x.nominal) (step_before p j n (with_job_ended p j n) ends i k visits.within).1 ∙ sound.timeless i k (visits_before p j n (with_job_ended p j n) ends i k s.plant visits);
        uncleaned = ends.cleans s.plant ∙ sound.uncleaned;
        unpromised = λ i k visits. elim (cases_eq i j) [
          | inl same ↦ ap (budget (with_job_ended p j n)) same ∙ ends.unpromised
          | inr other ↦ ends.budgets i other ∙ sound.unpromised i k (visits_before p j n (with_job_ended p j n) ends i k s.plant visits)
        ];
      }

  stopped_lifted : (p : PlannedShop) (kept : Node → ℕ) (j n : ℕ) → IsRevision s p → j < jobs p → moves_made s j ≤ n → (moves_made s j ≡ 0 → HasRoom s p) → jobs p ≤ top → AreFitting c p kept → IsAsideSound s p → IsLifted p kept (stopped s p j n)
  stopped_lifted p kept j n revision inside behind room few_jobs f sound = elim (cases_eq (moves_made s j) 0) [
    | inl outside ↦ subst (IsLifted p kept) (sym (stopped_outside s p j n outside)) (record {
      later = lifted j kept;
      fits = aside_fits p j revision inside outside (room outside) few_jobs kept f sound;
      sound = aside_still p j revision inside outside (room outside) few_jobs sound;
      same = λ v free. lifted_other j kept v (λ mine. free (subst (λ i. Visits (put_aside s p j) i 0 s.plant) (sym mine) (aside_visits s is p j revision inside outside (room outside))));
    })
    | inr there ↦ subst (IsLifted p kept) (sym (stopped_inside s p j n there)) (record {
      later = kept;
      fits = ended_fits c p j n kept revision.fit inside (omega (arith, moved j (omega arith))) f;
      sound = ended_sound p j n revision.fit inside sound;
      same = λ v free. refl;
    })
  ]

  stopped_at_lifted : (p : PlannedShop) (kept : Node → ℕ) (m j : ℕ) (found : Option ℕ) → way_to s p j m ≡ found → IsRevision s p → j < jobs p → ((k : ℕ) → moves_made s j ≡ 0 → Visits p j k m → HasRoom s p) → jobs p ≤ top → AreFitting c p kept → IsAsideSound s p
      → IsLifted p kept (stopped_at s p j found)
  stopped_at_lifted p kept m j None is_none revision inside room few_jobs f sound = lifted_not p kept f sound
  stopped_at_lifted p kept m j (Some k) is_there revision inside room few_jobs f sound =
      stopped_lifted p kept j (max (present_step s j + k) (moves_made s j)) revision inside (omega arith) (λ outside. room (present_step s j + k) outside (way_visits s p m j k is_there)) few_jobs f sound

  -- the one after the other
  lifted_on : (p : PlannedShop) (kept : Node → ℕ) (q r : PlannedShop) (one : IsLifted p kept q) → ((i : ℕ) → Visits q i 0 s.plant → Visits r i 0 s.plant) → IsLifted q one.later r → IsLifted p kept r
  lifted_on p kept q r one stays next = record {
    later = next.later;
    fits = next.fits;
    sound = next.sound;
    same = λ v free. next.same v free ∙ one.same v (λ visits. free (stays v.job visits));
  }

  without_lifted : (p : PlannedShop) (kept : Node → ℕ) (m n : ℕ) → IsRevision s p → n ≤ jobs p → ((j k : ℕ) → moves_made s j ≡ 0 → Visits p j k m → HasRoom s p) → jobs p ≤ top → AreFitting c p kept → IsAsideSound s p → IsLifted p kept (without_machine s p m n)
  without_lifted p kept m zero revision few room few_jobs f sound = lifted_not p kept f sound
  without_lifted p kept m (suc n) revision few room few_jobs f sound =
      let stage : IsStage s p m n (without_machine s p m n) = stage_upto s is p m n revision (omega arith) room in
      let one : IsLifted p kept (without_machine s p m n) = without_lifted p kept m n revision (omega arith) room few_jobs f sound in
      lifted_on p kept (without_machine s p m n) (without_machine s p m (suc n)) one
      (λ i visits. stopped_at-stays s is (without_machine s p m n) m n (way_to s (without_machine s p m n) n m) i refl stage.revision (omega (arith, stage.jobs_same))
      (λ k outside there. stage_room s is p m n (without_machine s p m n) k revision stage room outside there) visits)
      (stopped_at_lifted (without_machine s p m n) one.later m n (way_to s (without_machine s p m n) n m) refl stage.revision (omega (arith, stage.jobs_same))
      (λ k outside there. stage_room s is p m n (without_machine s p m n) k revision stage room outside there) (omega (arith, stage.jobs_same)) one.fits one.sound)

  -- what is asked of the jobs on the machine of those that are put aside stays so
  pub coming_sound : (p : PlannedShop) (j moment : ℕ) → IsAsideSound s p → IsAsideSound s (coming_by p j moment)
  coming_sound p j moment sound =
      let back = same-visits_back p (coming_by p j moment) (coming-same p j moment) in
      record {
        whole = λ i k visits. sound.whole i k (back i k s.plant visits);
        timeless = λ i k visits. sound.timeless i k (back i k s.plant visits);
        uncleaned = sound.uncleaned;
        unpromised = λ i k visits. sound.unpromised i k (back i k s.plant visits);
      }

  pub promised_more : (p : PlannedShop) (j moment : ℕ) → IsFit p → j < jobs p → budget p j ≤ moment → (i : ℕ) → budget p i ≤ budget (promised_by p j moment) i
  promised_more p j moment fit inside late i = elim (cases_eq i j) [
    | inl same ↦ omega (arith, ap (budget (promised_by p j moment)) same, ap (budget p) same, promised-budget p j moment fit inside)
    | inr other ↦ omega (arith, promised-others p j moment fit inside i other)
  ]

  pub promised_sound : (p : PlannedShop) (j moment : ℕ) → IsFit p → IsInLine s p j → IsAsideSound s p → IsAsideSound s (promised_by p j moment)
  promised_sound p j moment fit in_line sound =
      let back = same-visits_back p (promised_by p j moment) (promised-same p j moment) in
      record {
        whole = λ i k visits. sound.whole i k (back i k s.plant visits);
        timeless = λ i k visits. sound.timeless i k (back i k s.plant visits);
        uncleaned = sound.uncleaned;
        unpromised = λ i k visits. elim (cases_eq i j) [
          | inl same ↦ absurd (first (back i k s.plant visits) same)
          | inr other ↦ promised-others p j moment fit in_line.in_shop i other ∙ sound.unpromised i k (back i k s.plant visits)
        ];
      }
    where
      first : {i k : ℕ} → Visits p i k s.plant → i ≡ j → ⊥
      first {i} {k} visits same =
          let here : k ≡ 0 = omega (arith, sound.whole i k visits, visits.within) in
          in_line.not_aside (subst (λ i. Visits p i 0 s.plant) same (subst (λ k. Visits p i k s.plant) here visits))

  becomes_lifted : (p : PlannedShop) (kept : Node → ℕ) (change : Change) (q : PlannedShop) → AsksNoMore p change → IsRevision s p → IsChangedTo s p change q → jobs p ≤ top → AreFitting c p kept → IsAsideSound s p → IsLifted p kept q
  becomes_lifted p kept (Until machine to) q stops revision made few_jobs f sound = absurd stops
  becomes_lifted p kept (Add words release budget) q stops revision made few_jobs f sound = absurd stops
  becomes_lifted p kept (Scrap j) q stops revision made few_jobs f sound = subst (IsLifted p kept) (sym made.is) (stopped_lifted p kept j (moves_made s j) revision made.in_shop (omega arith) made.room few_jobs f sound)
  becomes_lifted p kept (Down machine) q stops revision made few_jobs f sound = subst (IsLifted p kept) (sym made.is) (without_lifted p kept machine (jobs p) revision (omega arith) made.room few_jobs f sound)
  becomes_lifted p kept (Route j words) q less revision made few_jobs f sound = absurd less
  becomes_lifted p kept (Release j moment) q early revision made few_jobs f sound = subst (IsLifted p kept) (sym made.is) (record {
    later = kept;
    fits = same_fits c p (coming_by p j moment) kept (coming-same p j moment) (λ i k. refl) (λ m. refl) earlier refl (λ i inside. omega arith) f;
    sound = coming_sound p j moment sound;
    same = λ v free. refl;
  })
    where
      earlier : (i : ℕ) → release (coming_by p j moment) i ≤ release p i
      earlier i = elim (cases_eq i j) [
        | inl same ↦ omega (arith, ap (release (coming_by p j moment)) same, ap (release p) same, coming-release p j moment revision.fit made.in_line.in_shop, early)
        | inr other ↦ omega (arith, coming-others p j moment revision.fit made.in_line.in_shop i other)
      ]
  becomes_lifted p kept (Budget j moment) q late revision made few_jobs f sound = subst (IsLifted p kept) (sym made.is) (record {
    later = kept;
    fits = same_fits c p (promised_by p j moment) kept (promised-same p j moment) (λ i k. refl) (λ m. refl) (λ i. omega arith) refl (λ i inside. promised_more p j moment revision.fit made.in_line.in_shop late i) f;
    sound = promised_sound p j moment revision.fit made.in_line sound;
    same = λ v free. refl;
  })
  becomes_lifted p kept (Hold machine to) q less revision made few_jobs f sound = absurd less

  pub made_lifted : (p : PlannedShop) (kept : Node → ℕ) (changes : List Change) (q : PlannedShop) → AreAll AsksNoMore s p changes → IsRevision s p → AreMade s p changes q → jobs q ≤ top → AreFitting c p kept → IsAsideSound s p
      → (later : Node → ℕ) × AreFitting c q later × ((v : Node) → v.job < jobs p → (Visits q v.job 0 s.plant → ⊥) → later v ≡ kept v)
  made_lifted p kept [] q stops revision made few_jobs f sound = (kept, subst (λ (q : PlannedShop). AreFitting c q kept) (sym made) f, λ v inside free. refl)
  made_lifted p kept (change ∷ changes) q (less, others) revision (next, one, rest) few_jobs f sound =
      let after = becomes-revision s is p change next revision one in
      let more : jobs p ≤ jobs next = becomes-more_jobs s is p change next revision one in
      let most : jobs next ≤ jobs q = made-more_jobs s is next changes q after rest in
      let l = becomes_lifted p kept change next less revision one (omega arith) f sound in
      let k = made_lifted next l.later changes q (others next one) after rest few_jobs l.fits l.sound in
      (k.0, k.1, λ v inside free. k.2 v (omega (arith, more)) free ∙ l.same v (λ visits. free (made-stays s is next changes q v.job (all_spare s v.job next changes (others next one)) after rest (omega (arith, more)) visits)))

  pub given_sound : IsAsideSound s s.given
  given_sound = elim is.plant [
    | inl whole ↦ record {
      whole = λ i k visits. absurd (omega (arith, visits_machine s.given i k s.plant is.shaped visits, whole));
      timeless = λ i k visits. absurd (omega (arith, visits_machine s.given i k s.plant is.shaped visits, whole));
      uncleaned = past s.given.plan.clean is.shaped.counts.cleanings (omega (arith, whole));
      unpromised = λ i k visits. absurd (omega (arith, visits_machine s.given i k s.plant is.shaped visits, whole));
    }
    | inr aside ↦ record { whole = λ i k visits. (aside.visitors i k visits).whole; timeless = λ i k visits. timeless_first aside i k visits; uncleaned = aside.uncleaned; unpromised = λ i k visits. (aside.visitors i k visits).unpromised }
  ]
    where
      past : (times : Option (List ℕ)) → HasCleanCount times (machines s.given) → machines s.given ≤ s.plant → clean_in times s.plant ≡ 0
      past None counted more = refl
      past (Some times) counted more = get_or_past times s.plant 0 (omega (arith, counted))

      timeless_first : MayBeAside s.given s.plant → (i k : ℕ) → Visits s.given i k s.plant → nominal s.given i k ≡ 0
      timeless_first aside i k visits =
          let job = aside.visitors i k visits in
          let here : k ≡ 0 = omega (arith, job.whole, visits.within) in
          ap (nominal s.given i) here ∙ job.timeless
