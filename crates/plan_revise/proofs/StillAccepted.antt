-- An accepted rest stays accepted where jobs are scrapped and machines are down.
use Rattle.std.proofs.Common.{◌≡◌, ℕ, zero, suc, ◌+◌, ◌<◌, ◌≤◌, ◌⊎◌, inl, inr, List, [], ◌∷◌, get_or, max, Option, None, Some, refl, sym, ap, ◌∙◌, subst, arith}
use Rattle.std.proofs.lemmas.Bool.{cases_eq}
use Rattle.shop_base.specs.declared.limits.TheConstants.{MAX_MOMENT}
use Rattle.shop_base.specs.declared.node.Node.{Node}
use Rattle.shop_base.specs.declared.job_state.JobState.{JobState}
use Rattle.shop_base.specs.Plan.{PlannedShop, jobs, machine_of, nominal, clean, release, budget, Visits, IsWellShaped}
use Rattle.shop_base.specs.Cell.{Cell, made, IsGone}
use Rattle.shop_base.specs.Activity.{Arrival, Operation, Cleaning}
use Rattle.shop_base.specs.Run.{ends_in}
use Rattle.shop_base.specs.Graph.{leaving, Arc, job_arc, blocking_arc}
use Rattle.shop_base.specs.Ahead.{PathAhead, now, held, onward}
use Rattle.shop_base.specs.Sound.{IsSound}
use Rattle.shop_base.proofs.Keeping.{run-sound}
use Rattle.shop_base.proofs.Visits.{visits_job, visits_or_not}
use Rattle.cell_tables.specs.KeptLaw.{AKeptRunIsOneOfTheOtherPlan}
use Rattle.plan_revise.specs.declared.change.Change.{Change}
use Rattle.plan_revise.specs.declared.change.Change.TheVariants.{Until, Add, Scrap, Down, Route, Release, Budget, Hold}
use Rattle.plan_revise.specs.Ended.{with_job_ended}
use Rattle.plan_revise.specs.Settings.{RevisionSetting, setting, moves_made}
use Rattle.plan_revise.specs.Aside.{HasRoom, put_aside}
use Rattle.plan_revise.specs.Stopped.{present_step, way_to, stopped, stopped_at, without_machine}
use Rattle.plan_revise.specs.Changes.{IsChangedTo}
use Rattle.plan_revise.specs.Revised.{AreMade}
use Rattle.plan_revise.specs.Fits.{IsRevision, IsSetting}
use Rattle.plan_revise.specs.Stages.{IsStage}
use Rattle.plan_revise.specs.Effects.{AreAll, AsksNoMore}
use Rattle.plan_revise.specs.RevisedLaw.{RevisedRestsStayAccepted}
use Rattle.plan_revise.proofs.Ways.{way_visits}
use Rattle.plan_revise.proofs.EndedParts.{ended-ends}
use Rattle.plan_revise.proofs.RevisedLaws.{becomes-more_jobs}
use Rattle.plan_revise.proofs.Revisions.{given_revision, has_aside, aside_ends, aside_places, aside_jobs, stopped_outside, stopped_inside, stage_upto, stage_room, becomes-revision}
use Rattle.plan_revise.proofs.Outcomes.{run_stays, run_setting, run_revision, no_cycle, jobs_there, nobody_later, made-more_jobs}
use Rattle.plan_revise.proofs.Lifted.{IsAsideSound, aside_still, ended_sound, coming_sound, promised_more, promised_sound, all_spare, given_sound}
use Rattle.plan_revise.proofs.Sooner.{moves_there}

-- ---- what stopping jobs leaves of the jobs that are put aside, and of budgets

-- no job comes or goes, the jobs that are put aside stay what they are, and no budget falls
record IsStep (s : RevisionSetting) (p q : PlannedShop) : Type 0 where
  jobs_same : jobs q ≡ jobs p
  sound : IsAsideSound s p → IsAsideSound s q
  rises : (i : ℕ) → i < jobs p → budget p i ≤ budget q i

no_step : (s : RevisionSetting) (p : PlannedShop) → IsStep s p p
no_step s p = record { jobs_same = refl; sound = λ sound. sound; rises = λ i inside. omega arith }

steps_join : (s : RevisionSetting) (p q r : PlannedShop) → IsStep s p q → IsStep s q r → IsStep s p r
steps_join s p q r one next = record {
  jobs_same = next.jobs_same ∙ one.jobs_same;
  sound = λ sound. next.sound (one.sound sound);
  rises = λ i inside. omega (arith, one.rises i inside, next.rises i (omega (arith, one.jobs_same)));
}

module _ (s : RevisionSetting) (is : IsSetting s) (c : Cell) (top : ℕ) (moved : (j : ℕ) → j < top → made c j ≡ moves_made s j) where
  stopped_step : (p : PlannedShop) (j n : ℕ) → IsRevision s p → j < jobs p → (moves_made s j ≡ 0 → HasRoom s p) → jobs p ≤ top → IsStep s p (stopped s p j n)
  stopped_step p j n revision inside room few = elim (cases_eq (moves_made s j) 0) [
    | inl outside ↦ subst (IsStep s p) (sym (stopped_outside s p j n outside)) (aside outside)
    | inr there ↦ subst (IsStep s p) (sym (stopped_inside s p j n there)) cut
  ]
    where
      aside : moves_made s j ≡ 0 → IsStep s p (put_aside s p j)
      aside outside =
          let first = has_aside s p revision (room outside) in
          let ends = aside_ends s p j is revision inside outside (room outside) in
          let places = aside_places s p j is revision inside outside (room outside) in
          record {
            jobs_same = aside_jobs s p j is revision inside outside (room outside);
            sound = aside_still s is c top moved p j revision inside outside (room outside) few;
            rises = λ i within. elim (cases_eq i j) [
              | inl same ↦ omega (arith, revision.fit.limits.budgets i within, ap (budget (put_aside s p j)) same, places.budget_is)
              | inr other ↦ omega (arith, places.budgets i other, ends.budgets i other, ap (λ (xs : List ℕ). get_or xs i 0) first.budgets)
            ];
          }

      cut : IsStep s p (with_job_ended p j n)
      cut =
          let ends = ended-ends p j n revision.fit inside in
          record {
            jobs_same = ends.jobs_same;
            sound = ended_sound s is c top moved p j n revision.fit inside;
            rises = λ i within. elim (cases_eq i j) [
              | inl same ↦ omega (arith, revision.fit.limits.budgets i within, ap (budget (with_job_ended p j n)) same, ends.unpromised)
              | inr other ↦ omega (arith, ends.budgets i other)
            ];
          }

  stopped_at_step : (p : PlannedShop) (m j : ℕ) (found : Option ℕ) → way_to s p j m ≡ found → IsRevision s p → j < jobs p → ((k : ℕ) → moves_made s j ≡ 0 → Visits p j k m → HasRoom s p) → jobs p ≤ top → IsStep s p (stopped_at s p j found)
  stopped_at_step p m j None is_none revision inside room few = no_step s p
  stopped_at_step p m j (Some k) is_there revision inside room few =
      stopped_step p j (max (present_step s j + k) (moves_made s j)) revision inside (λ outside. room (present_step s j + k) outside (way_visits s p m j k is_there)) few

  without_step : (p : PlannedShop) (m n : ℕ) → IsRevision s p → n ≤ jobs p → ((j k : ℕ) → moves_made s j ≡ 0 → Visits p j k m → HasRoom s p) → jobs p ≤ top → IsStep s p (without_machine s p m n)
  without_step p m zero revision few room most = no_step s p
  without_step p m (suc n) revision few room most =
      let stage : IsStage s p m n (without_machine s p m n) = stage_upto s is p m n revision (omega arith) room in
      steps_join s p (without_machine s p m n) (without_machine s p m (suc n)) (without_step p m n revision (omega arith) room most)
      (stopped_at_step (without_machine s p m n) m n (way_to s (without_machine s p m n) n m) refl stage.revision (omega (arith, stage.jobs_same))
      (λ k outside there. stage_room s is p m n (without_machine s p m n) k revision stage room outside there) (omega (arith, stage.jobs_same)))

  becomes_step : (p : PlannedShop) (change : Change) (q : PlannedShop) → AsksNoMore p change → IsRevision s p → IsChangedTo s p change q → jobs p ≤ top → IsStep s p q
  becomes_step p (Until machine to) q stops revision made few = absurd stops
  becomes_step p (Add words release budget) q stops revision made few = absurd stops
  becomes_step p (Scrap j) q stops revision made few = subst (IsStep s p) (sym made.is) (stopped_step p j (moves_made s j) revision made.in_shop made.room few)
  becomes_step p (Down machine) q stops revision made few = subst (IsStep s p) (sym made.is) (without_step p machine (jobs p) revision (omega arith) made.room few)
  becomes_step p (Route j words) q less revision made few = absurd less
  becomes_step p (Release j moment) q early revision made few = subst (IsStep s p) (sym made.is) (record { jobs_same = refl; sound = coming_sound s is c top moved p j moment; rises = λ i inside. omega arith })
  becomes_step p (Budget j moment) q late revision made few = subst (IsStep s p) (sym made.is) (record {
    jobs_same = refl;
    sound = promised_sound s is c top moved p j moment revision.fit made.in_line;
    rises = λ i inside. promised_more s is c top moved p j moment revision.fit made.in_line.in_shop late i;
  })
  becomes_step p (Hold machine to) q less revision made few = absurd less

  made_step : (p : PlannedShop) (changes : List Change) (q : PlannedShop) → AreAll AsksNoMore s p changes → IsRevision s p → AreMade s p changes q → jobs q ≤ top → IsStep s p q
  made_step p [] q stops revision made few = subst (IsStep s p) (sym made) (no_step s p)
  made_step p (change ∷ changes) q (less, others) revision (next, one, rest) few =
      let after = becomes-revision s is p change next revision one in
      let more : jobs p ≤ jobs next = becomes-more_jobs s is p change next revision one in
      let most : jobs next ≤ jobs q = made-more_jobs s is next changes q after rest in
      steps_join s p next q (becomes_step p change next less revision one (omega arith)) (made_step next changes q (others next one) after rest few)

-- ---- a job that is put aside is never late

-- the moments of a path ahead to a node of a job that is put aside are within the greatest one
aside_short : (s : RevisionSetting) (q : PlannedShop) (c : Cell) (t : ℕ) → IsWellShaped q → IsSound q c → IsAsideSound s q → t ≤ MAX_MOMENT → (nodes : List Node) (v : Node) (n : ℕ) → PathAhead q c t nodes v n → Visits q v.job 0 s.plant → n ≤ MAX_MOMENT
aside_short s q c t shaped sound aside soon _ _ _ (now v is ahead) visits = soon
aside_short s q c t shaped sound aside soon _ _ _ (held (Arrival i) due v goes holds) visits =
    omega (arith, goes.is_due, shaped.limits.releases i (omega (arith, visits_job q v.job 0 s.plant visits, ap (λ (w : Node). w.job) holds)))
aside_short s q c t shaped sound aside soon _ _ _ (held (Operation i m) due v (k, goes) holds) visits =
    let mine : Visits q i 0 s.plant = subst (λ j. Visits q j 0 s.plant) (ap (λ (w : Node). w.job) holds) visits in
    let here : k ≡ 0 = omega (arith, aside.whole i 0 mine, goes.on.visits.within) in
    omega (arith, goes.is_due, ap (nominal q i) here, aside.timeless i 0 mine, sound.begun i, sound.last_in_range)
aside_short s q c t shaped sound aside soon _ _ _ (held (Cleaning m) due v (from, goes) holds) visits =
    let here : v.place ≡ 0 = omega (arith, aside.whole v.job 0 visits, holds.visits.within) in
    let on : m ≡ s.plant = sym holds.visits.here ∙ ap (machine_of q v.job) here ∙ visits.here in
    absurd (omega (arith, sound.cleaned_timed m from goes.is_cleaned, ap (clean q) on, aside.uncleaned))
aside_short s q c t shaped sound aside soon _ _ _ (onward nodes u v n d path arc) visits = go u v d arc visits (λ there. aside_short s q c t shaped sound aside soon nodes u n path there)
  where
    go : (u v : Node) (d : ℕ) → Arc q u v d → Visits q v.job 0 s.plant → (Visits q u.job 0 s.plant → n ≤ MAX_MOMENT) → n + d ≤ MAX_MOMENT
    go _ _ _ (job_arc j k within) visits before =
        let here : k ≡ 0 = omega (arith, aside.whole j 0 visits, within) in
        omega (arith, before visits, ap (nominal q j) here, aside.timeless j 0 visits)
    go _ _ _ (blocking_arc m a i k l g one next) visits before =
        let here : g ≡ 0 = omega (arith, aside.whole l 0 visits, next.visits.within) in
        let on : m ≡ s.plant = sym next.visits.here ∙ ap (machine_of q l) here ∙ visits.here in
        let there : Visits q i k s.plant = subst (λ m. Visits q i k m) on one.visits in
        let first : k ≡ 0 = omega (arith, aside.whole i k there, there.within) in
        omega (arith, before (subst (λ k. Visits q i k s.plant) first there), ap (clean q) on, aside.uncleaned)

-- ---- an accepted rest stays accepted

pub still_accepted : AKeptRunIsOneOfTheOtherPlan → RevisedRestsStayAccepted
still_accepted kept p q es t plant changes r less soon accepted = record {
  acyclic = λ (nodes, cycle). no_cycle p q es t plant changes r (λ others ring. accepted.acyclic (others, ring)) nodes cycle;
  budgets = λ j there here nodes n path. within j there here nodes n path (visits_or_not q j 0 plant);
}
  where
    s_is : IsSetting (setting p (ends_in p es) t plant)
    s_is = run_setting p q es t plant changes r

    step : IsStep (setting p (ends_in p es) t plant) p q
    step = made_step (setting p (ends_in p es) t plant) s_is (ends_in q es) (jobs q) (moves_there kept p q es t plant changes r) p changes q less (given_revision (setting p (ends_in p es) t plant) s_is) r.made (omega arith)

    aside : IsAsideSound (setting p (ends_in p es) t plant) q
    aside = step.sound (given_sound (setting p (ends_in p es) t plant) s_is (ends_in q es) (jobs q) (moves_there kept p q es t plant changes r))

    within : (j : ℕ) → j < jobs q → (IsGone q (ends_in q es) j → ⊥) → (nodes : List Node) (n : ℕ) → PathAhead q (ends_in q es) t nodes (leaving q j) n → Visits q j 0 plant ⊎ (Visits q j 0 plant → ⊥) → n ≤ budget q j
    within j there here nodes n path (inl visits) =
        let stays = run_stays kept p q es t plant changes r in
        omega (arith, aside.unpromised j 0 visits, aside_short (setting p (ends_in p es) t plant) q (ends_in q es) t stays.0 (run-sound q es stays.0 stays.1) aside soon nodes (leaving q j) n path visits)
    within j there here nodes n path (inr free) =
        let inside : j < jobs p = omega (arith, step.jobs_same) in
        let l = (nobody_later kept p q es t plant changes r j (all_spare (setting p (ends_in p es) t plant) j p changes less) inside free).leaves nodes n path in
        let same = ap (λ (x : JobState). x.made) (jobs_there kept p q es t plant changes r j inside) in
        let not_gone : IsGone p (ends_in p es) j → ⊥ = λ gone. here (omega (arith, same, (run_revision p q es t plant changes r).kept.left j inside gone)) in
        omega (arith, l.longer, accepted.budgets j inside not_gone l.nodes l.size l.path, step.rises j inside)
