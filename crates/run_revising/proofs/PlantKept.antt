-- The machine behind those of the plant stays that of the jobs that are put aside, whatever is changed.
use Rattle.std.proofs.Common.{◌≡◌, ◌≢◌, ℕ, zero, suc, ◌+◌, ◌<◌, ◌≤◌, inl, inr, ◌-◌, List, [], ◌∷◌, ◌++◌, map, take, length, max, Option, None, Some, Bool, false, refl, sym, ap, ◌∙◌, subst, arith, length-append}
use Rattle.std.specs.List.{range_with_len}
use Rattle.std.proofs.lemmas.Bool.{cases_eq, cases_lt}
use Rattle.std.proofs.lemmas.List.FromFn.{get_or-map-range_with_len}
use Rattle.std.proofs.lemmas.List.{get_or-set_same, get_or-set_other, length-set}
use Rattle.shop_base.specs.declared.job_state.JobState.{JobState}
use Rattle.shop_base.specs.declared.shop.Step.{Step}
use Rattle.shop_base.specs.Shop.{IsRoute, step_at}
use Rattle.shop_base.specs.Plan.{PlannedShop, jobs, route, machine_of, nominal, budget, Visits}
use Rattle.shop_base.specs.Cell.{Cell, absent, made, since, entries}
use Rattle.shop_base.proofs.Visits.{visits_job}
use Rattle.plan_revise.specs.declared.change.Change.{Change}
use Rattle.plan_revise.specs.declared.change.Change.TheVariants.{Until, Add, Scrap, Down, Route, Release, Budget, Hold}
use Rattle.plan_revise.specs.Promises.{no_promise}
use Rattle.plan_revise.specs.Ended.{with_job_ended}
use Rattle.plan_revise.specs.Placed.{with_new_job, added}
use Rattle.plan_revise.specs.Settings.{RevisionSetting, moves_made}
use Rattle.plan_revise.specs.Aside.{HasRoom, IsAsideJob, IsPlantOf}
use Rattle.plan_revise.specs.Stopped.{present_step, way_to, stopped, stopped_at, without_machine}
use Rattle.plan_revise.specs.AnotherWay.{way_on, IsSentInside, AreFurthestBehind}
use Rattle.plan_revise.specs.Held.{held}
use Rattle.plan_revise.specs.Changes.{lasting, given_or, IsProlonged, IsAdded, IsRerouted, IsHeld, IsChangedTo}
use Rattle.plan_revise.specs.Revised.{AreMade}
use Rattle.plan_revise.specs.Fits.{IsRevision, IsSetting}
use Rattle.plan_revise.specs.Parts.{Places}
use Rattle.plan_revise.specs.Stages.{IsStage}
use Rattle.plan_revise.proofs.Ways.{way_visits}
use Rattle.plan_revise.proofs.EndedParts.{ended-ends}
use Rattle.plan_revise.proofs.PlacedParts.{default_more, SameVisits, same-visits_back, lasting-same}
use Rattle.plan_revise.proofs.Inserted.{visit-mine, visit-others}
use Rattle.plan_revise.proofs.SentOn.{all-sent}
use Rattle.plan_revise.proofs.Revisions.{given_revision, becomes-revision, stopped_outside, stopped_inside, stage_room, stage_upto, added_places, sent_places, cut_ends, cut_few, cut-revision, cut_way, rerouted-one}
use Rattle.plan_revise.proofs.Lifted.{IsAsideSound, aside_still, ended_sound, coming_sound, promised_sound, given_sound}
use Rattle.plan_revise.proofs.Outcomes.{made-revision}

module _ (s : RevisionSetting) (is : IsSetting s) where
  -- where one job doesn't visit that machine, and the others are as they were
  module _ (p q : PlannedShop) (j : ℕ) (revision : IsRevision s q) (sound : IsAsideSound s p) (before : IsRevision s p)
      (routes : (i : ℕ) → i ≢ j → route q i ≡ route p i) (budgets : (i : ℕ) → i ≢ j → budget q i ≡ budget p i) (off : (k : ℕ) → Visits q j k s.plant → ⊥) where
    back : (i k : ℕ) → i ≢ j → Visits q i k s.plant → Visits p i k s.plant
    back i k other visits = record {
      within = omega (arith, visits.within, ap length (routes i other));
      here = sym (ap (λ (r : List Step). (step_at r k).machine) (routes i other)) ∙ visits.here;
    }

    never : (i k : ℕ) → i ≡ j → Visits q i k s.plant → ⊥
    never i k same visits = off k (subst (λ i. Visits q i k s.plant) same visits)

    others_sound : IsAsideSound s q
    others_sound = record {
      whole = λ i k visits. elim (cases_eq i j) [
        | inl same ↦ absurd (never i k same visits)
        | inr other ↦ ap length (routes i other) ∙ sound.whole i k (back i k other visits)
      ];
      timeless = λ i k visits. elim (cases_eq i j) [
        | inl same ↦ absurd (never i k same visits)
        | inr other ↦ ap (λ (r : List Step). (step_at r k).nominal) (routes i other) ∙ sound.timeless i k (back i k other visits)
      ];
      uncleaned = revision.kept.cleaned s.plant ∙ sym (before.kept.cleaned s.plant) ∙ sound.uncleaned;
      unpromised = λ i k visits. elim (cases_eq i j) [
        | inl same ↦ absurd (never i k same visits)
        | inr other ↦ budgets i other ∙ sound.unpromised i k (back i k other visits)
      ];
    }

  -- a job whose route is over machines of the plant doesn't visit it
  way_off : (q : PlannedShop) (j : ℕ) (r : List Step) → route q j ≡ r → ((k : ℕ) → k < length r → (step_at r k).machine < s.plant) → (k : ℕ) → Visits q j k s.plant → ⊥
  way_off q j r same in_plant k visits =
      omega (arith, visits.here, ap (λ (r : List Step). (step_at r k).machine) same, in_plant k (omega (arith, visits.within, ap length same)))

  -- ---- jobs that are stopped

  -- a cell in which each job has made its moves
  abbrev counted : ℕ → Cell
  counted top = record { jobs = map (λ (j : ℕ). record { made = moves_made s j; ready = false; since = 0 }) (range_with_len 0 top); machines = []; last = 0 }

  counted_moves : (top j : ℕ) → j < top → made (counted top) j ≡ moves_made s j
  counted_moves top j less = ap (λ (x : JobState). x.made) (get_or-map-range_with_len (λ (j : ℕ). record { made = moves_made s j; ready = false; since = 0 }) 0 top j j absent less (omega arith))

  stopped_sound : (p : PlannedShop) (j n : ℕ) → IsRevision s p → j < jobs p → (moves_made s j ≡ 0 → HasRoom s p) → IsAsideSound s p → IsAsideSound s (stopped s p j n)
  stopped_sound p j n revision inside room sound = elim (cases_eq (moves_made s j) 0) [
    | inl outside ↦ subst (IsAsideSound s) (sym (stopped_outside s p j n outside)) (aside_still s is (counted (jobs p)) (jobs p) (counted_moves (jobs p)) p j revision inside outside (room outside) (omega arith) sound)
    | inr there ↦ subst (IsAsideSound s) (sym (stopped_inside s p j n there)) (ended_sound s is (counted 0) 0 (counted_moves 0) p j n revision.fit inside sound)
  ]

  stopped_at_sound : (p : PlannedShop) (m j : ℕ) (found : Option ℕ) → way_to s p j m ≡ found → IsRevision s p → j < jobs p → ((k : ℕ) → moves_made s j ≡ 0 → Visits p j k m → HasRoom s p) → IsAsideSound s p
      → IsAsideSound s (stopped_at s p j found)
  stopped_at_sound p m j None is_none revision inside room sound = sound
  stopped_at_sound p m j (Some k) is_there revision inside room sound =
      stopped_sound p j (max (present_step s j + k) (moves_made s j)) revision inside (λ outside. room (present_step s j + k) outside (way_visits s p m j k is_there)) sound

  without_sound : (p : PlannedShop) (m n : ℕ) → IsRevision s p → n ≤ jobs p → ((j k : ℕ) → moves_made s j ≡ 0 → Visits p j k m → HasRoom s p) → IsAsideSound s p → IsAsideSound s (without_machine s p m n)
  without_sound p m zero revision few room sound = sound
  without_sound p m (suc n) revision few room sound =
      let stage : IsStage s p m n (without_machine s p m n) = stage_upto s is p m n revision (omega arith) room in
      stopped_at_sound (without_machine s p m n) m n (way_to s (without_machine s p m n) n m) refl stage.revision (omega (arith, stage.jobs_same))
      (λ k outside there. stage_room s is p m n (without_machine s p m n) k revision stage room outside there) (without_sound p m n revision (omega arith) room sound)

  -- ---- each change

  prolonged_sound : (p : PlannedShop) (machine to : ℕ) (q : PlannedShop) → IsRevision s p → IsRevision s q → IsProlonged s p machine to q → IsAsideSound s p → IsAsideSound s q
  prolonged_sound p machine to q before revision one sound =
      others_sound p q one.job revision sound before
      (λ i other. ap (λ (q : PlannedShop). route q i) one.is ∙ get_or_set_other_route i other)
      (λ i other. ap (λ (q : PlannedShop). budget q i) one.is) off
    where
      get_or_set_other_route : (i : ℕ) → i ≢ one.job → route (lasting p one.job one.step (to - since s.cell one.job)) i ≡ route p i
      get_or_set_other_route i other = get_or-set_other p.shop.routes one.job i _ [] other

      there : Visits p one.job one.step machine
      there = subst (λ m. Visits p one.job one.step m) one.at_work.on.visits.here
          (before.kept.entered one.job one.step (omega (arith, one.at_work.on.entered)) (record { within = one.at_work.on.visits.within; here = refl }))

      same : SameVisits p (lasting p one.job one.step (to - since s.cell one.job))
      same = lasting-same p one.job one.step (to - since s.cell one.job) (visits_job p one.job one.step machine there) there.within

      off : (k : ℕ) → Visits q one.job k s.plant → ⊥
      off k visits =
          let was = same-visits_back p (lasting p one.job one.step (to - since s.cell one.job)) same one.job k s.plant (subst (λ (q : PlannedShop). Visits q one.job k s.plant) one.is visits) in
          let whole = sound.whole one.job k was in
          let first : k ≡ one.step = omega (arith, whole, was.within, there.within) in
          omega (arith, one.in_plant, there.here, was.here, ap (machine_of p one.job) first)

  in_plant_of : (again : Bool) (r : List Step) → IsRoute s.plant again r → (k : ℕ) → k < length r → (step_at r k).machine < s.plant
  in_plant_of again r way k within = (way.steps k within).in_range

  more_sound : (p : PlannedShop) (words : List ℕ) (release budget : Option ℕ) (q : PlannedShop) → IsRevision s p → IsRevision s q → IsAdded s p words release budget q → IsAsideSound s p → IsAsideSound s q
  more_sound p words first last q before revision one sound =
      others_sound p q (jobs p) revision sound before
      (λ i other. ap (λ (q : PlannedShop). route q i) one.is ∙ places.others i other ∙ default_more p.shop.routes [] i)
      (λ i other. ap (λ (q : PlannedShop). budget q i) one.is ∙ places.budgets i other ∙ default_more p.plan.budget 0 i)
      (way_off q (jobs p) one.steps (ap (λ (q : PlannedShop). route q (jobs p)) one.is ∙ places.route_is) (in_plant_of p.shop.recirculates one.steps one.sound))
    where
      places : Places (with_new_job p) (jobs p) one.steps (given_or first s.present) (given_or last no_promise) (added p one.steps (given_or first s.present) (given_or last no_promise))
      places = added_places s is p one.steps (given_or first s.present) (given_or last no_promise) before one.few_jobs one.sound

  -- budgets stay where a job goes as far behind as it can
  behind_budgets : (p : PlannedShop) (j : ℕ) (way : List Step) (q : PlannedShop) → AreFurthestBehind s p j way q → (i : ℕ) → budget q i ≡ budget p i
  behind_budgets p j [] q is_end i = ap (λ (q : PlannedShop). budget q i) is_end
  behind_budgets p j (step ∷ way) q (next, one, rest) i = behind_budgets next j way q rest i ∙ ap (λ (q : PlannedShop). budget q i) one.is

  sent_sound : (p : PlannedShop) (j : ℕ) (words : List ℕ) (q : PlannedShop) → IsRevision s p → IsRevision s q → IsRerouted s p j words q → IsAsideSound s p → IsAsideSound s q
  sent_sound p j words q before revision one sound = elim (cases_lt 0 (moves_made s j)) [
    | inl moved ↦ others_sound p q j revision sound before (rerouted-one s is p j words q before one).others (budgets_inside (one.inside moved)) (off_inside moved (one.inside moved))
    | inr few ↦ (let outside : moves_made s j ≡ 0 = omega (arith, few) in
        let places = sent_places s is p j one.steps before one.can.in_shop outside one.sound in
        let ends = ended-ends p j 0 before.fit one.can.in_shop in
        others_sound p q j revision sound before (rerouted-one s is p j words q before one).others
        (λ i other. ap (λ (q : PlannedShop). budget q i) (one.outside outside) ∙ places.budgets i other ∙ ends.budgets i other)
        (way_off q j one.steps (ap (λ (q : PlannedShop). route q j) (one.outside outside) ∙ places.route_is)
        (in_plant_of p.shop.recirculates one.steps (subst (λ n. IsRoute s.plant p.shop.recirculates (take n (route p j) ++ one.steps)) outside one.sound))))
  ]
    where
      budgets_inside : IsSentInside s p j one.steps q → (i : ℕ) → i ≢ j → budget q i ≡ budget p i
      budgets_inside inside i other =
          ap (λ (q : PlannedShop). budget q i) inside.is ∙ get_or-set_other inside.sent.plan.budget j i (budget p j) 0 other
          ∙ behind_budgets (with_job_ended p j (moves_made s j)) j one.steps inside.sent inside.behind i
          ∙ (ended-ends p j (moves_made s j) before.fit one.can.in_shop).budgets i other

      off_inside : 0 < moves_made s j → IsSentInside s p j one.steps q → (k : ℕ) → Visits q j k s.plant → ⊥
      off_inside moved inside =
          let on = all-sent s j (with_job_ended p j (moves_made s j)) one.steps inside.sent (cut-revision s is p j one.steps q before one.can moved one.sound)
          (omega (arith, one.can.in_shop, (cut_ends s is p j one.steps q before one.can moved one.sound).jobs_same)) (cut_few s is p j one.steps q before one.can moved one.sound) (cut_way s is p j one.steps q before one.can moved one.sound) inside.behind in
          way_off q j (way_on s p j one.steps)
          (ap (λ (q : PlannedShop). route q j) inside.is ∙ on.mine ∙ ap (λ (r : List Step). r ++ one.steps) (cut_ends s is p j one.steps q before one.can moved one.sound).mine)
          (in_plant_of p.shop.recirculates (way_on s p j one.steps) one.sound)

  -- the route of a job more that holds a machine, and what it leaves
  pub held_route : (p : PlannedShop) (machine time : ℕ) → route (held s p machine time) (jobs p) ≡ record { machine = machine; nominal = time } ∷ []
  held_route p machine time =
      visit-mine (added p [] s.present no_promise) (jobs p) (record { machine = machine; nominal = time }) (length (entries s.cell machine)) more
      ∙ ap (λ (r : List Step). r ++ record { machine = machine; nominal = time } ∷ []) (get_or-set_same (with_new_job p).shop.routes (jobs p) [] [] room)
    where
      room : jobs p < jobs (with_new_job p)
      room = omega (arith, length-append p.shop.routes ([] ∷ []))

      more : jobs p < jobs (added p [] s.present no_promise)
      more = omega (arith, room, length-set (with_new_job p).shop.routes (jobs p) [])

  held_others : (p : PlannedShop) (machine time : ℕ) (i : ℕ) → i ≢ jobs p → route (held s p machine time) i ≡ route p i
  held_others p machine time i other =
      visit-others (added p [] s.present no_promise) (jobs p) (record { machine = machine; nominal = time }) (length (entries s.cell machine)) i other
      ∙ get_or-set_other (with_new_job p).shop.routes (jobs p) i [] [] other ∙ default_more p.shop.routes [] i

  held_sound : (p : PlannedShop) (machine to : ℕ) (q : PlannedShop) → IsRevision s p → IsRevision s q → IsHeld s p machine to q → IsAsideSound s p → IsAsideSound s q
  held_sound p machine to q before revision one sound =
      others_sound p q (jobs p) revision sound before
      (λ i other. ap (λ (q : PlannedShop). route q i) one.is ∙ held_others p machine (to - s.present) i other)
      (λ i other. ap (λ (q : PlannedShop). budget q i) one.is ∙ get_or-set_other (with_new_job p).plan.budget (jobs p) i no_promise 0 other ∙ default_more p.plan.budget 0 i)
      (way_off q (jobs p) (record { machine = machine; nominal = to - s.present } ∷ []) (ap (λ (q : PlannedShop). route q (jobs p)) one.is ∙ held_route p machine (to - s.present)) alone)
    where
      alone : (k : ℕ) → k < length {A = Step} (record { machine = machine; nominal = to - s.present } ∷ []) → (step_at (record { machine = machine; nominal = to - s.present } ∷ []) k).machine < s.plant
      alone zero within = one.in_plant
      alone (suc k) within = absurd (omega (arith, within))

  pub becomes_sound : (p : PlannedShop) (change : Change) (q : PlannedShop) → IsRevision s p → IsChangedTo s p change q → IsAsideSound s p → IsAsideSound s q
  becomes_sound p (Until machine to) q before one sound = prolonged_sound p machine to q before (becomes-revision s is p (Until machine to) q before one) one sound
  becomes_sound p (Add words first last) q before one sound = more_sound p words.now first last q before (becomes-revision s is p (Add words first last) q before one) one sound
  becomes_sound p (Scrap j) q before one sound = subst (IsAsideSound s) (sym one.is) (stopped_sound p j (moves_made s j) before one.in_shop one.room sound)
  becomes_sound p (Down machine) q before one sound = subst (IsAsideSound s) (sym one.is) (without_sound p machine (jobs p) before (omega arith) one.room sound)
  becomes_sound p (Route j words) q before one sound = sent_sound p j words.now q before (becomes-revision s is p (Route j words) q before one) one sound
  becomes_sound p (Release j moment) q before one sound = subst (IsAsideSound s) (sym one.is) (coming_sound s is (counted 0) 0 (counted_moves 0) p j moment sound)
  becomes_sound p (Budget j moment) q before one sound = subst (IsAsideSound s) (sym one.is) (promised_sound s is (counted 0) 0 (counted_moves 0) p j moment before.fit one.in_line sound)
  becomes_sound p (Hold machine to) q before one sound = held_sound p machine to q before (becomes-revision s is p (Hold machine to) q before one) one sound

  -- all changes
  pub all_sound : (p : PlannedShop) (changes : List Change) (q : PlannedShop) → IsRevision s p → AreMade s p changes q → IsAsideSound s p → IsAsideSound s q
  all_sound p [] q before same sound = subst (IsAsideSound s) (sym same) sound
  all_sound p (change ∷ changes) q before (next, one, rest) sound = all_sound next changes q (becomes-revision s is p change next before one) rest (becomes_sound p change next before one sound)

  -- so the plant has as many machines as before
  pub plant_stays : (changes : List Change) (q : PlannedShop) → AreMade s s.given changes q → IsPlantOf q s.plant
  plant_stays changes q all =
      let first = given_revision s is in
      let revision = made-revision s is s.given changes q first all in
      let sound = all_sound s.given changes q first all (given_sound s is (counted 0) 0 (counted_moves 0)) in
      elim revision.plant [
        | inl whole ↦ inl (sym whole)
        | inr more ↦ inr (record { last = sym more; uncleaned = sound.uncleaned; visitors = λ j k visits. aside_job q sound j k visits })
      ]
    where
      aside_job : (q : PlannedShop) → IsAsideSound s q → (j k : ℕ) → Visits q j k s.plant → IsAsideJob q j
      aside_job q sound j k visits =
          let whole = sound.whole j k visits in
          let first : 0 ≡ k = omega (arith, whole, visits.within) in
          record { whole = whole; timeless = ap (nominal q j) first ∙ sound.timeless j k visits; unpromised = sound.unpromised j k visits }
