-- No job has a machine ahead that is down.
use Rattle.std.proofs.Common.{◌≡◌, ◌≢◌, ℕ, zero, suc, ◌+◌, ◌<◌, ◌≤◌, ◌⊎◌, inl, inr, List, [], ◌∷◌, ◌++◌, length, max, Option, None, Some, refl, sym, ap, ◌∙◌, subst, arith}
use Rattle.std.proofs.lemmas.Bool.{cases_eq, cases_lt, lt-ltb, le-ltb}
use Rattle.shop_base.specs.declared.job_state.JobState.{JobState}
use Rattle.shop_base.specs.declared.shop.Step.{Step}
use Rattle.shop_base.specs.Shop.{step_at}
use Rattle.shop_base.specs.Plan.{PlannedShop, jobs, route, Visits}
use Rattle.shop_base.specs.Cell.{made, job_in}
use Rattle.shop_base.specs.Run.{ends_in}
use Rattle.shop_base.proofs.Visits.{visits_job}
use Rattle.cell_tables.specs.Carried.{carried_job}
use Rattle.cell_tables.specs.KeptLaw.{AKeptRunIsOneOfTheOtherPlan}
use Rattle.plan_revise.specs.declared.change.Change.{Change}
use Rattle.plan_revise.specs.declared.change.Change.TheVariants.{Until, Add, Scrap, Down, Route, Release, Budget, Hold}
use Rattle.plan_revise.specs.Ended.{with_job_ended}
use Rattle.plan_revise.specs.Settings.{RevisionSetting, setting, moves_made}
use Rattle.plan_revise.specs.Aside.{HasRoom, put_aside}
use Rattle.plan_revise.specs.Stopped.{present_step, way_to, stopped, stopped_at, without_machine}
use Rattle.plan_revise.specs.Revised.{AreMade}
use Rattle.plan_revise.specs.Fits.{IsRevision, IsSetting}
use Rattle.plan_revise.specs.Stages.{IsStage}
use Rattle.plan_revise.specs.RevisedLaw.{AreDowns, NoPartComesToAMachineThatIsDown}
use Rattle.plan_revise.proofs.Ways.{way_visits, way_first, way_none}
use Rattle.plan_revise.proofs.EndedParts.{ended-ends, visits_before, mine_below}
use Rattle.plan_revise.proofs.Revisions.{given_revision, becomes-revision, aside_places, stopped_outside, stopped_inside, stopped_at-one, stage_upto, stage_room}
use Rattle.plan_revise.proofs.Outcomes.{run_setting, run_stays}

module _ (s : RevisionSetting) (is : IsSetting s) where
  -- job j has no step ahead on machine m
  abbrev IsDone : PlannedShop → ℕ → ℕ → Type 0
  IsDone p m j = (k : ℕ) → Visits p j k m → k < moves_made s j

  done_aside : (p : PlannedShop) (m j : ℕ) → IsRevision s p → j < jobs p → m < s.plant → moves_made s j ≡ 0 → HasRoom s p → IsDone (put_aside s p j) m j
  done_aside p m j revision inside in_plant outside room zero visits =
      let is_route = (aside_places s p j is revision inside outside room).route_is in
      absurd (omega (arith, visits.here, ap (λ (r : List Step). (step_at r 0).machine) is_route))
  done_aside p m j revision inside in_plant outside room (suc k) visits =
      let is_route = (aside_places s p j is revision inside outside room).route_is in
      absurd (omega (arith, visits.within, ap length is_route))

  -- a job that is stopped before each step that it has ahead on the machine has none ahead there
  stopped-done : (p : PlannedShop) (m j n : ℕ) → IsRevision s p → j < jobs p → m < s.plant → (moves_made s j ≡ 0 → HasRoom s p) → ((k : ℕ) → k < n → Visits p j k m → k < moves_made s j) → IsDone (stopped s p j n) m j
  stopped-done p m j n revision inside in_plant room none k visits = elim (cases_eq (moves_made s j) 0) [
    | inl outside ↦ done_aside p m j revision inside in_plant outside (room outside) k (subst (λ (q : PlannedShop). Visits q j k m) (stopped_outside s p j n outside) visits)
    | inr moved ↦ (let there : Visits (with_job_ended p j n) j k m = subst (λ (q : PlannedShop). Visits q j k m) (stopped_inside s p j n moved) visits in
        let ends = ended-ends p j n revision.fit inside in
        none k (mine_below p j n (with_job_ended p j n) ends k there.within) (visits_before p j n (with_job_ended p j n) ends j k m there))
  ]

  -- and one that is stopped elsewhere gets none
  stopped-keeps : (p : PlannedShop) (m j n : ℕ) → IsRevision s p → j < jobs p → m < s.plant → (moves_made s j ≡ 0 → HasRoom s p) → IsDone p m j → IsDone (stopped s p j n) m j
  stopped-keeps p m j n revision inside in_plant room done k visits = elim (cases_eq (moves_made s j) 0) [
    | inl outside ↦ done_aside p m j revision inside in_plant outside (room outside) k (subst (λ (q : PlannedShop). Visits q j k m) (stopped_outside s p j n outside) visits)
    | inr moved ↦ done k (visits_before p j n (with_job_ended p j n) (ended-ends p j n revision.fit inside) j k m (subst (λ (q : PlannedShop). Visits q j k m) (stopped_inside s p j n moved) visits))
  ]

  stopped_at-done : (p : PlannedShop) (m j : ℕ) (found : Option ℕ) → way_to s p j m ≡ found → IsRevision s p → j < jobs p → m < s.plant → ((k : ℕ) → moves_made s j ≡ 0 → Visits p j k m → HasRoom s p) → IsDone (stopped_at s p j found) m j
  stopped_at-done p m j None is_none revision inside in_plant room k visits = elim (cases_lt k (present_step s j)) [
    | inl less ↦ omega arith
    | inr more ↦ absurd (way_none s p m j is_none k more visits)
  ]
  stopped_at-done p m j (Some further) is_there revision inside in_plant room k visits =
      stopped-done p m j (max (present_step s j + further) (moves_made s j)) revision inside in_plant (λ outside. room (present_step s j + further) outside (way_visits s p m j further is_there)) none k visits
    where
      none : (l : ℕ) → l < max (present_step s j + further) (moves_made s j) → Visits p j l m → l < moves_made s j
      none l less there = elim (cases_lt l (moves_made s j)) [
        | inl done ↦ done
        | inr ahead ↦ absurd (way_first s p m j further is_there l (omega arith) (omega arith) there)
      ]

  -- a job that has no step ahead on machine m gets none where others are stopped at machine n
  stopped_at-keeps : (p : PlannedShop) (m n j i : ℕ) (found : Option ℕ) → way_to s p j n ≡ found → IsRevision s p → j < jobs p → m < s.plant → ((k : ℕ) → moves_made s j ≡ 0 → Visits p j k n → HasRoom s p) → IsDone p m i → IsDone (stopped_at s p j found) m i
  stopped_at-keeps p m n j i None is_none revision inside in_plant room done k visits = done k visits
  stopped_at-keeps p m n j i (Some further) is_there revision inside in_plant room done k visits = elim (cases_eq i j) [
    | inl same ↦ omega (
      arith,
      ap (moves_made s) same,
      stopped-keeps p m j (max (present_step s j + further) (moves_made s j)) revision inside in_plant (λ outside. room (present_step s j + further) outside (way_visits s p n j further is_there)) (subst (IsDone p m) same done) k (subst (λ i. Visits (stopped s p j (max (present_step s j + further) (moves_made s j))) i k m) same visits),
    )
    | inr other ↦ done k (record {
      within = omega (arith, visits.within, ap length (one other));
      here = sym (ap (λ (r : List Step). (step_at r k).machine) (one other)) ∙ visits.here;
    })
  ]
    where
      one : (i ≢ j) → route (stopped_at s p j (Some further)) i ≡ route p i
      one other = (stopped_at-one s is p n j (Some further) is_there revision inside room).others i other

  abbrev HasRoomFor : PlannedShop → ℕ → Type 0
  HasRoomFor p m = (j k : ℕ) → moves_made s j ≡ 0 → Visits p j k m → HasRoom s p

  without-keeps : (p : PlannedShop) (m n i upto : ℕ) → IsRevision s p → upto ≤ jobs p → m < s.plant → HasRoomFor p n → IsDone p m i → IsDone (without_machine s p n upto) m i
  without-keeps p m n i zero revision few in_plant room done k visits = done k visits
  without-keeps p m n i (suc upto) revision few in_plant room done k visits =
      let stage = stage_upto s is p n upto revision (omega arith) room in
      stopped_at-keeps (without_machine s p n upto) m n upto i (way_to s (without_machine s p n upto) upto n) refl stage.revision (omega (arith, stage.jobs_same)) in_plant
      (λ l outside there. stage_room s is p n upto (without_machine s p n upto) l revision stage room outside there) (without-keeps p m n i upto revision (omega arith) in_plant room done) k visits

  without-done : (p : PlannedShop) (m upto i : ℕ) → IsRevision s p → upto ≤ jobs p → m < s.plant → HasRoomFor p m → i < upto → IsDone (without_machine s p m upto) m i
  without-done p m zero i revision few in_plant room less = absurd (omega arith)
  without-done p m (suc upto) i revision few in_plant room less = elim (cases_eq i upto) [
    | inl same ↦ subst (IsDone (without_machine s p m (suc upto)) m) (sym same)
        (stopped_at-done (without_machine s p m upto) m upto (way_to s (without_machine s p m upto) upto m) refl stage.revision (omega (arith, stage.jobs_same)) in_plant room_there)
    | inr other ↦ stopped_at-keeps (without_machine s p m upto) m m upto i (way_to s (without_machine s p m upto) upto m) refl stage.revision (omega (arith, stage.jobs_same)) in_plant room_there
        (without-done p m upto i revision (omega arith) in_plant room (omega arith))
  ]
    where
      stage : IsStage s p m upto (without_machine s p m upto)
      stage = stage_upto s is p m upto revision (omega arith) room

      room_there : (k : ℕ) → moves_made s upto ≡ 0 → Visits (without_machine s p m upto) upto k m → HasRoom s (without_machine s p m upto)
      room_there k outside visits = stage_room s is p m upto (without_machine s p m upto) k revision stage room outside visits

  -- ---- all changes

  downs-keep : (p : PlannedShop) (changes : List Change) (q : PlannedShop) (m i : ℕ) → AreDowns changes → IsRevision s p → AreMade s p changes q → m < s.plant → IsDone p m i → IsDone q m i
  downs-keep p [] q m i downs revision made in_plant done = subst (λ (q : PlannedShop). IsDone q m i) (sym made) done
  downs-keep p (Until machine to ∷ changes) q m i downs revision made in_plant done = absurd downs
  downs-keep p (Add words release budget ∷ changes) q m i downs revision made in_plant done = absurd downs
  downs-keep p (Scrap j ∷ changes) q m i downs revision made in_plant done = absurd downs
  downs-keep p (Route j words ∷ changes) q m i downs revision made in_plant done = absurd downs
  downs-keep p (Release j moment ∷ changes) q m i downs revision made in_plant done = absurd downs
  downs-keep p (Budget j moment ∷ changes) q m i downs revision made in_plant done = absurd downs
  downs-keep p (Hold machine to ∷ changes) q m i downs revision made in_plant done = absurd downs
  downs-keep p (Down machine ∷ changes) q m i downs revision (next, one, rest) in_plant done =
      downs-keep next changes q m i downs (becomes-revision s is p (Down machine) next revision one) rest in_plant
      (subst (λ (r : PlannedShop). IsDone r m i) (sym one.is) (without-keeps p m machine i (jobs p) revision (omega arith) in_plant one.room done))

  down-done : (p : PlannedShop) (before : List Change) (m : ℕ) (after : List Change) (q : PlannedShop) (j k : ℕ) → AreDowns after → IsRevision s p → AreMade s p (before ++ Down m ∷ after) q → Visits q j k m → k < moves_made s j
  down-done p [] m after q j k downs revision (next, one, rest) visits = downs-keep next after q m j downs (becomes-revision s is p (Down m) next revision one) rest one.in_plant done k visits
    where
      done : IsDone next m j
      done = elim (cases_lt j (jobs p)) [
        | inl inside ↦ subst (λ (r : PlannedShop). IsDone r m j) (sym one.is) (without-done p m (jobs p) j revision (omega arith) one.in_plant one.room inside)
        | inr past ↦ λ l there. absurd (omega (arith, visits_job next j l m there, ap jobs one.is, (stage_upto s is p m (jobs p) revision (omega arith) one.room).jobs_same))
      ]
  down-done p (change ∷ before) m after q j k downs revision (next, one, rest) visits = down-done next before m after q j k downs (becomes-revision s is p change next revision one) rest visits

pub no_part_comes : AKeptRunIsOneOfTheOtherPlan → NoPartComesToAMachineThatIsDown
no_part_comes kept p q es t plant before after machine r downs j k visits = omega (arith, moved, ap (λ (x : JobState). x.made) there, same (cases_lt j (jobs p)))
  where
    moved : k < moves_made (setting p (ends_in p es) t plant) j
    moved = down-done (setting p (ends_in p es) t plant) (run_setting p q es t plant (before ++ Down machine ∷ after) r) p before machine after q j k downs
        (given_revision (setting p (ends_in p es) t plant) (run_setting p q es t plant (before ++ Down machine ∷ after) r)) r.made visits

    there : job_in (ends_in q es) j ≡ carried_job p (ends_in p es) j
    there = (run_stays kept p q es t plant (before ++ Down machine ∷ after) r).2.jobs_same j (visits_job q j k machine visits)

    same : (j < jobs p) ⊎ (jobs p ≤ j) → (carried_job p (ends_in p es) j).made ≡ moves_made (setting p (ends_in p es) t plant) j
    same (inl inside) = rw (lt-ltb j (jobs p) inside) refl
    same (inr past) = rw (le-ltb j (jobs p) past) refl
