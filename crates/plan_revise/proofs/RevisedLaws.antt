-- The laws of revised plans: each change keeps the run, brings no cycle, and makes nobody else later.
use Rattle.std.proofs.Common.{◌≡◌, ◌≢◌, ℕ, zero, suc, ◌+◌, ◌<◌, ◌≤◌, inl, inr, List, [], ◌∷◌, ◌++◌, length, get_or, min, max, Option, None, Some, refl, sym, ap, ◌∙◌, subst, arith, length-append, ◌-◌}
use Rattle.std.proofs.lemmas.Bool.{cases_eq, cases_lt}
use Rattle.std.proofs.lemmas.List.{get_or-set_other, length-set}
use Rattle.shop_base.specs.declared.node.Node.{Node}
use Rattle.shop_base.specs.declared.limits.TheConstants.{MAX_RELEASE}
use Rattle.shop_base.specs.declared.shop.Step.{Step}
use Rattle.shop_base.specs.Shop.{step_at}
use Rattle.shop_base.specs.Plan.{PlannedShop, jobs, route, nominal, clean, release, budget, Visits}
use Rattle.shop_base.specs.Cell.{Cell, made, since, entries, IsGone}
use Rattle.shop_base.specs.Activity.{Arrival, Operation, Cleaning}
use Rattle.shop_base.specs.Graph.{node, Arc, job_arc, blocking_arc, HasArc, ArcsLead}
use Rattle.shop_base.specs.Ahead.{PathAhead, now, held, onward}
use Rattle.shop_base.proofs.Cycles.{source_node}
use Rattle.plan_verifier.specs.Accepted.{HasNoCycle}
use Rattle.plan_revise.specs.declared.change.Change.{Change}
use Rattle.plan_revise.specs.declared.change.Change.TheVariants.{Until, Add, Scrap, Down, Route, Release, Budget, Hold}
use Rattle.plan_revise.specs.Promises.{no_promise}
use Rattle.plan_revise.specs.Ended.{with_job_ended}
use Rattle.plan_revise.specs.Placed.{with_new_job, added}
use Rattle.plan_revise.specs.Settings.{RevisionSetting, moves_made, HasLeftCell}
use Rattle.plan_revise.specs.Aside.{aside_route, with_aside, HasRoom, put_aside}
use Rattle.plan_revise.specs.Stopped.{present_step, way_to, stopped, stopped_at, without_machine}
use Rattle.plan_revise.specs.Changes.{lasting, given_or, IsChangedTo}
use Rattle.plan_revise.specs.Dates.{coming_by, promised_by}
use Rattle.plan_revise.specs.Fits.{IsFit, IsKept, IsRevision, IsSetting}
use Rattle.plan_revise.specs.Paths.{HasLonger}
use Rattle.plan_revise.specs.AnotherWay.{sent_outside, IsSentInside}
use Rattle.plan_revise.specs.Effects.{SparesJob}
use Rattle.plan_revise.specs.Stages.{IsStage}
use Rattle.plan_revise.proofs.Ways.{way_visits}
use Rattle.plan_revise.proofs.EndedParts.{EndsOnce, ended-ends, ended_by, visits_mine, visits_others}
use Rattle.plan_revise.proofs.SentOn.{all-no_cycle}
use Rattle.plan_revise.proofs.DatesMoved.{coming-same, promised-same, coming-release, coming-others}
use Rattle.plan_revise.proofs.PlacedParts.{SameVisits, same-visits, same-stands_back, same-visits_back, default_more, with_job-same}
use Rattle.plan_revise.proofs.Keeping.{moves_given, unentered, once_keep}
use Rattle.plan_revise.proofs.Holds.{bare-same, held-jobs, held-no_cycle}
use Rattle.alt_graph.proofs.ClosedWalks.{no_cycle_by_ways}
use Rattle.plan_revise.proofs.EndedArcs.{ended-no_cycle, once-path}
use Rattle.plan_revise.proofs.PlacedArcs.{placed-no_cycle, placed-path}
use Rattle.plan_revise.proofs.Revisions.{HasAside, has_aside, aside_inside, aside_fit, aside_places, aside_others, stopped_outside, stopped_inside, stage_upto, stage_room, added_fit, added_places, prolonged_same, prolonged_jobs, stopped-one, sent_fit, sent_places, rerouted-one}

-- ---- what is read the same has the same ways and paths

module _ (p q : PlannedShop) (same : SameVisits p q) where
  same_way : (u v : Node) → HasArc q u v → (ws : List Node) × ArcsLead p u ws v
  same_way u v (d, arc) = ([], at u v d arc)
    where
      at : (u v : Node) (d : ℕ) → Arc q u v d → HasArc p u v
      at _ _ _ (job_arc j k within) = (nominal p j k, job_arc j k (omega (arith, same.lengths j)))
      at _ _ _ (blocking_arc m a i k l g one other) = (clean p m, blocking_arc m a i k l g (same-stands_back p q same m a i k one) (same-stands_back p q same m (a + 1) l g other))

  pub same-no_cycle : HasNoCycle p → HasNoCycle q
  same-no_cycle acyclic = no_cycle_by_ways p q same_way acyclic

  -- with the same times too, and releases that are no later
  module _ (times : (j k : ℕ) → nominal q j k ≡ nominal p j k) (cleans : (m : ℕ) → clean q m ≡ clean p m) (releases : (j : ℕ) → release q j ≤ release p j) (c : Cell) (t : ℕ) where
    pub same_arc : (u v : Node) (d : ℕ) → Arc q u v d → Arc p u v d
    same_arc _ _ _ (job_arc j k within) = subst (λ d. Arc p (node j k) (node j (k + 1)) d) (sym (times j k)) (job_arc j k (omega (arith, same.lengths j)))
    same_arc _ _ _ (blocking_arc m a i k l g one other) =
        subst (λ d. Arc p (node i (k + 1)) (node l g) d) (sym (cleans m)) (blocking_arc m a i k l g (same-stands_back p q same m a i k one) (same-stands_back p q same m (a + 1) l g other))

    pub same-path : (nodes : List Node) (v : Node) (size : ℕ) → PathAhead q c t nodes v size → v.job < jobs p → HasLonger p c t v size
    same-path _ _ _ (now v is ahead) inside = record {
      nodes = v ∷ [];
      size = t;
      path = now v (record { job = inside; place = omega (arith, is.place, same.lengths v.job) }) ahead;
      longer = omega arith;
    }
    same-path _ _ _ (held (Arrival i) due v goes holds) inside = record {
      nodes = v ∷ [];
      size = release p i;
      path = held (Arrival i) (release p i) v (record { outside = goes.outside; not_ready = goes.not_ready; is_due = refl }) holds;
      longer = omega (arith, goes.is_due, releases i);
    }
    same-path _ _ _ (held (Operation i m) due v (k, goes) holds) inside = record {
      nodes = v ∷ [];
      size = due;
      path = held (Operation i m) due v (
        k,
        record {
          on = record { entered = goes.on.entered; visits = same-visits_back p q same i k m goes.on.visits };
          not_ready = goes.not_ready;
          is_due = goes.is_due ∙ ap (λ x. since c i + x) (times i k);
        },
      ) holds;
      longer = omega arith;
    }
    same-path _ _ _ (held (Cleaning m) due v (from, goes) holds) inside = record {
      nodes = v ∷ [];
      size = due;
      path = held (Cleaning m) due v (from, record { is_cleaned = goes.is_cleaned; is_due = goes.is_due ∙ ap (λ x. from + x) (cleans m) }) (same-stands_back p q same m (length (entries c m)) v.job v.place holds);
      longer = omega arith;
    }
    same-path _ _ _ (onward nodes u v size d path arc) inside =
        let one = same_arc u v d arc in
        let l = same-path nodes u size path (source_node p u v d one).job in
        record { nodes = l.nodes ++ v ∷ []; size = l.size + d; path = onward l.nodes u v l.size d l.path one; longer = omega (arith, l.longer) }

-- ---- no cycle comes

module _ (s : RevisionSetting) (is : IsSetting s) where
  aside-no_cycle : (p : PlannedShop) (j : ℕ) → IsRevision s p → j < jobs p → moves_made s j ≡ 0 → HasRoom s p → HasNoCycle p → HasNoCycle (put_aside s p j)
  aside-no_cycle p j revision inside outside room acyclic =
      placed-no_cycle (with_job_ended (with_aside s p) j 0) j (aside_route s.plant) (min s.present MAX_RELEASE) no_promise (put_aside s p j) (aside_fit s p j is revision inside outside room) (aside_places s p j is revision inside outside room)
      (ended-no_cycle (with_aside s p) j 0 (has_aside s p revision room).fit (aside_inside s p j is revision inside outside room)
      (same-no_cycle p (with_aside s p) (has_aside s p revision room).same acyclic))

  stopped-no_cycle : (p : PlannedShop) (j n : ℕ) → IsRevision s p → j < jobs p → (moves_made s j ≡ 0 → HasRoom s p) → HasNoCycle p → HasNoCycle (stopped s p j n)
  stopped-no_cycle p j n revision inside room acyclic = elim (cases_eq (moves_made s j) 0) [
    | inl outside ↦ subst HasNoCycle (sym (stopped_outside s p j n outside)) (aside-no_cycle p j revision inside outside (room outside) acyclic)
    | inr moved ↦ subst HasNoCycle (sym (stopped_inside s p j n moved)) (ended-no_cycle p j n revision.fit inside acyclic)
  ]

  stopped_at-no_cycle : (p : PlannedShop) (m j : ℕ) (found : Option ℕ) → way_to s p j m ≡ found → IsRevision s p → j < jobs p → ((k : ℕ) → moves_made s j ≡ 0 → Visits p j k m → HasRoom s p) → HasNoCycle p → HasNoCycle (stopped_at s p j found)
  stopped_at-no_cycle p m j None is_none revision inside room acyclic = acyclic
  stopped_at-no_cycle p m j (Some k) is_there revision inside room acyclic =
      stopped-no_cycle p j (max (present_step s j + k) (moves_made s j)) revision inside (λ outside. room (present_step s j + k) outside (way_visits s p m j k is_there)) acyclic

  without-no_cycle : (p : PlannedShop) (m n : ℕ) → IsRevision s p → n ≤ jobs p → ((j k : ℕ) → moves_made s j ≡ 0 → Visits p j k m → HasRoom s p) → HasNoCycle p → HasNoCycle (without_machine s p m n)
  without-no_cycle p m zero revision few room acyclic = acyclic
  without-no_cycle p m (suc n) revision few room acyclic =
      let stage = stage_upto s is p m n revision (omega arith) room in
      stopped_at-no_cycle (without_machine s p m n) m n (way_to s (without_machine s p m n) n m) refl stage.revision (omega (arith, stage.jobs_same))
      (λ k outside visits. stage_room s is p m n (without_machine s p m n) k revision stage room outside visits) (without-no_cycle p m n revision (omega arith) room acyclic)

  pub becomes-no_cycle : (p : PlannedShop) (change : Change) (q : PlannedShop) → IsRevision s p → IsChangedTo s p change q → HasNoCycle p → HasNoCycle q
  becomes-no_cycle p (Until machine to) q revision made acyclic =
      subst HasNoCycle (sym made.is) (same-no_cycle p (lasting p made.job made.step (to - since s.cell made.job)) (prolonged_same s is p machine to q revision made) acyclic)
  becomes-no_cycle p (Add words release budget) q revision made acyclic =
      subst HasNoCycle (sym made.is) (placed-no_cycle (with_new_job p) (jobs p) made.steps (given_or release s.present) (given_or budget no_promise) (added p made.steps (given_or release s.present) (given_or budget no_promise))
      (added_fit s is p made.steps (given_or release s.present) (given_or budget no_promise) revision made.few_jobs made.sound)
      (added_places s is p made.steps (given_or release s.present) (given_or budget no_promise) revision made.few_jobs made.sound)
      (same-no_cycle p (with_new_job p) (with_job-same p) acyclic))
  becomes-no_cycle p (Scrap j) q revision made acyclic = subst HasNoCycle (sym made.is) (stopped-no_cycle p j (moves_made s j) revision made.in_shop made.room acyclic)
  becomes-no_cycle p (Down machine) q revision made acyclic = subst HasNoCycle (sym made.is) (without-no_cycle p machine (jobs p) revision (omega arith) made.room acyclic)
  becomes-no_cycle p (Route j words) q revision made acyclic = elim (cases_lt 0 (moves_made s j)) [
    | inl moved ↦ (let one : IsSentInside s p j made.steps q = made.inside moved in
        subst HasNoCycle (sym one.is) (same-no_cycle one.sent (promised_by one.sent j (budget p j)) (promised-same one.sent j (budget p j))
        (all-no_cycle s j (with_job_ended p j (moves_made s j)) made.steps one.sent one.behind (ended-no_cycle p j (moves_made s j) revision.fit made.can.in_shop acyclic))))
    | inr few ↦ (let outside : moves_made s j ≡ 0 = omega arith in
        subst HasNoCycle (sym (made.outside outside)) (placed-no_cycle (with_job_ended p j 0) j made.steps (release p j) (budget p j) (sent_outside p j made.steps)
        (sent_fit s is p j made.steps revision made.can.in_shop outside made.sound) (sent_places s is p j made.steps revision made.can.in_shop outside made.sound)
        (ended-no_cycle p j 0 revision.fit made.can.in_shop acyclic)))
  ]
  becomes-no_cycle p (Release j moment) q revision made acyclic = subst HasNoCycle (sym made.is) (same-no_cycle p (coming_by p j moment) (coming-same p j moment) acyclic)
  becomes-no_cycle p (Budget j moment) q revision made acyclic = subst HasNoCycle (sym made.is) (same-no_cycle p (promised_by p j moment) (promised-same p j moment) acyclic)
  becomes-no_cycle p (Hold machine to) q revision made acyclic = subst HasNoCycle (sym made.is) (held-no_cycle s is p revision made.few_jobs made.in_range machine (to - s.present) made.in_plant (same-no_cycle p (added p [] s.present no_promise) (bare-same p s.present) acyclic))

  -- ---- who is put aside stays so

  abbrev IsFree : PlannedShop → ℕ → Type 0
  IsFree p j = Visits p j 0 s.plant → ⊥

  pub aside_visits : (p : PlannedShop) (j : ℕ) → IsRevision s p → j < jobs p → moves_made s j ≡ 0 → HasRoom s p → Visits (put_aside s p j) j 0 s.plant
  aside_visits p j revision inside outside room =
      let is_route = (aside_places s p j is revision inside outside room).route_is in
      record { within = omega (arith, ap length is_route); here = ap (λ (r : List Step). (step_at r 0).machine) is_route }

  stopped-stays : (p : PlannedShop) (j n i : ℕ) → IsRevision s p → j < jobs p → moves_made s j ≤ n → (moves_made s j ≡ 0 → HasRoom s p) → Visits p i 0 s.plant → Visits (stopped s p j n) i 0 s.plant
  stopped-stays p j n i revision inside behind room visits = elim (cases_eq (moves_made s j) 0) [
    | inl outside ↦ subst (λ (q : PlannedShop). Visits q i 0 s.plant) (sym (stopped_outside s p j n outside)) (aside outside)
    | inr moved ↦ subst (λ (q : PlannedShop). Visits q i 0 s.plant) (sym (stopped_inside s p j n moved)) (cut moved)
  ]
    where
      aside : moves_made s j ≡ 0 → Visits (put_aside s p j) i 0 s.plant
      aside outside = elim (cases_eq i j) [
        | inl same ↦ subst (λ i. Visits (put_aside s p j) i 0 s.plant) (sym same) (aside_visits p j revision inside outside (room outside))
        | inr other ↦ (let is_route = aside_others s p j is revision inside outside (room outside) i other in
            record { within = omega (arith, ap length is_route, visits.within); here = ap (λ (r : List Step). (step_at r 0).machine) is_route ∙ visits.here })
      ]

      cut : moves_made s j ≢ 0 → Visits (with_job_ended p j n) i 0 s.plant
      cut moved = elim (cases_eq i j) [
        | inl same ↦ subst (λ i. Visits (with_job_ended p j n) i 0 s.plant) (sym same)
            (visits_mine p j n (with_job_ended p j n) (ended-ends p j n revision.fit inside) 0 s.plant (omega arith) (subst (λ i. Visits p i 0 s.plant) same visits))
        | inr other ↦ visits_others p j n (with_job_ended p j n) (ended-ends p j n revision.fit inside) i 0 s.plant other visits
      ]

  pub stopped_at-stays : (p : PlannedShop) (m j : ℕ) (found : Option ℕ) (i : ℕ) → way_to s p j m ≡ found → IsRevision s p → j < jobs p → ((k : ℕ) → moves_made s j ≡ 0 → Visits p j k m → HasRoom s p)
      → Visits p i 0 s.plant → Visits (stopped_at s p j found) i 0 s.plant
  stopped_at-stays p m j None i is_none revision inside room visits = visits
  stopped_at-stays p m j (Some k) i is_there revision inside room visits =
      stopped-stays p j (max (present_step s j + k) (moves_made s j)) i revision inside (omega arith) (λ outside. room (present_step s j + k) outside (way_visits s p m j k is_there)) visits

  without-stays : (p : PlannedShop) (m n i : ℕ) → IsRevision s p → n ≤ jobs p → ((j k : ℕ) → moves_made s j ≡ 0 → Visits p j k m → HasRoom s p) → Visits p i 0 s.plant → Visits (without_machine s p m n) i 0 s.plant
  without-stays p m zero i revision few room visits = visits
  without-stays p m (suc n) i revision few room visits =
      let stage = stage_upto s is p m n revision (omega arith) room in
      stopped_at-stays (without_machine s p m n) m n (way_to s (without_machine s p m n) n m) i refl stage.revision (omega (arith, stage.jobs_same))
      (λ k outside there. stage_room s is p m n (without_machine s p m n) k revision stage room outside there) (without-stays p m n i revision (omega arith) room visits)

  added-others : (p : PlannedShop) (r : List Step) (release budget i : ℕ) → IsRevision s p → i < jobs p → route (added p r release budget) i ≡ route p i
  added-others p r release budget i revision inside = get_or-set_other (with_new_job p).shop.routes (jobs p) i r [] (omega arith) ∙ default_more p.shop.routes [] i

  pub becomes-stays : (p : PlannedShop) (change : Change) (q : PlannedShop) (i : ℕ) → SparesJob s i p change → IsRevision s p → IsChangedTo s p change q → i < jobs p → Visits p i 0 s.plant → Visits q i 0 s.plant
  becomes-stays p (Until machine to) q i spares revision made inside visits = absurd spares
  becomes-stays p (Add words release budget) q i spares revision made inside visits =
      let same = added-others p made.steps (given_or release s.present) (given_or budget no_promise) i revision inside in
      subst (λ (q : PlannedShop). Visits q i 0 s.plant) (sym made.is) (record { within = omega (arith, ap length same, visits.within); here = ap (λ (r : List Step). (step_at r 0).machine) same ∙ visits.here })
  becomes-stays p (Scrap j) q i spares revision made inside visits = subst (λ (q : PlannedShop). Visits q i 0 s.plant) (sym made.is) (stopped-stays p j (moves_made s j) i revision made.in_shop (omega arith) made.room visits)
  becomes-stays p (Down machine) q i spares revision made inside visits = subst (λ (q : PlannedShop). Visits q i 0 s.plant) (sym made.is) (without-stays p machine (jobs p) i revision (omega arith) made.room visits)
  becomes-stays p (Route j words) q i (outside, other) revision made inside visits =
      let same = (rerouted-one s is p j words.now q revision made).others i other in
      record { within = omega (arith, ap length same, visits.within); here = ap (λ (r : List Step). (step_at r 0).machine) same ∙ visits.here }
  becomes-stays p (Release j moment) q i spares revision made inside visits = subst (λ (q : PlannedShop). Visits q i 0 s.plant) (sym made.is) (same-visits p (coming_by p j moment) (coming-same p j moment) i 0 s.plant visits)
  becomes-stays p (Budget j moment) q i spares revision made inside visits = subst (λ (q : PlannedShop). Visits q i 0 s.plant) (sym made.is) (same-visits p (promised_by p j moment) (promised-same p j moment) i 0 s.plant visits)
  becomes-stays p (Hold machine to) q i spares revision made inside visits = absurd spares

  -- no job is taken away
  pub becomes-more_jobs : (p : PlannedShop) (change : Change) (q : PlannedShop) → IsRevision s p → IsChangedTo s p change q → jobs p ≤ jobs q
  becomes-more_jobs p (Until machine to) q revision made = omega (arith, ap jobs made.is, prolonged_jobs s is p machine to q revision made)
  becomes-more_jobs p (Add words release budget) q revision made =
      omega (arith, ap jobs made.is, length-set (with_new_job p).shop.routes (jobs p) made.steps, length-append p.shop.routes ([] ∷ []))
  becomes-more_jobs p (Scrap j) q revision made = omega (arith, ap jobs made.is, (stopped-one s p j (moves_made s j) is revision made.in_shop made.here (omega arith) made.room).jobs_same)
  becomes-more_jobs p (Down machine) q revision made = omega (arith, ap jobs made.is, (stage_upto s is p machine (jobs p) revision (omega arith) made.room).jobs_same)
  becomes-more_jobs p (Route j words) q revision made = omega (arith, (rerouted-one s is p j words.now q revision made).jobs_same)
  becomes-more_jobs p (Release j moment) q revision made = omega (arith, ap jobs made.is)
  becomes-more_jobs p (Budget j moment) q revision made = omega (arith, ap jobs made.is)
  becomes-more_jobs p (Hold machine to) q revision made = omega (arith, ap jobs made.is, held-jobs s p machine (to - s.present))

  -- ---- nobody else is later, by one cell of all these plans

  module _ (c : Cell) (t : ℕ) (same_entries : (m : ℕ) → entries c m ≡ entries s.cell m) where
    cut_path : (p : PlannedShop) (j n : ℕ) (fit : IsFit p) → j < jobs p → IsKept s p → (j < jobs s.given → made s.cell j ≤ n) → (j < jobs s.given → IsGone s.given s.cell j → ⊥)
        → (nodes : List Node) (v : Node) (size : ℕ) → PathAhead (with_job_ended p j n) c t nodes v size → HasLonger p c t v size
    cut_path p j n fit inside kept behind here = (ended_by p j fit inside IsNoLonger n (kept, λ nodes v size path. record { nodes = nodes; size = size; path = path; longer = omega arith }) one).1.1
      where
        IsNoLonger : PlannedShop → Type 0
        IsNoLonger q = IsKept s q × ((nodes : List Node) (v : Node) (size : ℕ) → PathAhead q c t nodes v size → HasLonger p c t v size)

        one : (q r : PlannedShop) (k : ℕ) → n ≤ k → j < jobs q → IsFit q → EndsOnce q j k r → IsNoLonger q → IsNoLonger r
        one q r k more there fits once (is_kept, no_longer) = (
          once_keep s q j k r is is_kept once (λ given. omega (arith, behind given)) here,
          λ nodes v size path.
              let before = once-path q j k r fits once c t (λ m x l under stands. omega (arith, ap length (same_entries m), unentered s q j k is is_kept (λ given. omega (arith, behind given)) m x l under stands)) nodes v size path in
              let first = no_longer before.nodes v before.size before.path in
              record { nodes = first.nodes; size = first.size; path = first.path; longer = omega (arith, before.longer, first.longer) },
        )

    aside_path : (p : PlannedShop) (j : ℕ) → IsRevision s p → j < jobs p → moves_made s j ≡ 0 → HasRoom s p
        → (nodes : List Node) (v : Node) (size : ℕ) → PathAhead (put_aside s p j) c t nodes v size → v.job ≢ j → v.job < jobs p → HasLonger p c t v size
    aside_path p j revision inside outside room nodes v size path other there =
        record { nodes = three.nodes; size = three.size; path = three.path; longer = omega (arith, one.longer, two.longer, three.longer) }
      where
        first : HasAside s p (with_aside s p)
        first = has_aside s p revision room

        one : HasLonger (with_job_ended (with_aside s p) j 0) c t v size
        one = placed-path (with_job_ended (with_aside s p) j 0) j (aside_route s.plant) (min s.present MAX_RELEASE) no_promise (put_aside s p j)
            (aside_fit s p j is revision inside outside room) (aside_places s p j is revision inside outside room) c t nodes v size path other

        two : HasLonger (with_aside s p) c t v one.size
        two = cut_path (with_aside s p) j 0 first.fit (aside_inside s p j is revision inside outside room) first.kept (λ given. omega (arith, moves_given s j given))
            (λ given gone. omega (arith, moves_given s j given)) one.nodes v one.size one.path

        three : HasLonger p c t v two.size
        three = same-path p (with_aside s p) first.same (λ i k. ap (λ (rs : List (List Step)). (step_at (get_or rs i []) k).nominal) first.routes) first.cleans
            (λ i. omega (arith, ap (λ (xs : List ℕ). get_or xs i 0) first.releases)) c t two.nodes v two.size two.path there

    stopped_path : (p : PlannedShop) (j n : ℕ) → IsRevision s p → j < jobs p → (HasLeftCell s p j → ⊥) → moves_made s j ≤ n → (moves_made s j ≡ 0 → HasRoom s p)
        → (nodes : List Node) (v : Node) (size : ℕ) → PathAhead (stopped s p j n) c t nodes v size → IsFree (stopped s p j n) v.job → v.job < jobs p → HasLonger p c t v size
    stopped_path p j n revision inside here behind room nodes v size path free there = elim (cases_eq (moves_made s j) 0) [
      | inl outside ↦ (let is_aside = stopped_outside s p j n outside in
          aside_path p j revision inside outside (room outside) nodes v size (subst (λ (q : PlannedShop). PathAhead q c t nodes v size) is_aside path)
          (λ same. free (subst (λ i. Visits (stopped s p j n) i 0 s.plant) (sym same) (subst (λ (q : PlannedShop). Visits q j 0 s.plant) (sym is_aside) (aside_visits p j revision inside outside (room outside))))) there)
      | inr moved ↦ cut_path p j n revision.fit inside revision.kept (λ given. omega (arith, moves_given s j given)) (λ given gone. here (omega (arith, moves_given s j given, revision.kept.left j given gone))) nodes v size
          (subst (λ (q : PlannedShop). PathAhead q c t nodes v size) (stopped_inside s p j n moved) path)
    ]

    stopped_at_path : (p : PlannedShop) (m j : ℕ) (found : Option ℕ) → way_to s p j m ≡ found → IsRevision s p → j < jobs p → ((k : ℕ) → moves_made s j ≡ 0 → Visits p j k m → HasRoom s p)
        → (nodes : List Node) (v : Node) (size : ℕ) → PathAhead (stopped_at s p j found) c t nodes v size → IsFree (stopped_at s p j found) v.job → v.job < jobs p → HasLonger p c t v size
    stopped_at_path p m j None is_none revision inside room nodes v size path free there = record { nodes = nodes; size = size; path = path; longer = omega arith }
    stopped_at_path p m j (Some k) is_there revision inside room nodes v size path free there =
        stopped_path p j (max (present_step s j + k) (moves_made s j)) revision inside (λ left. omega (arith, left, (way_visits s p m j k is_there).within)) (omega arith) (λ outside. room (present_step s j + k) outside (way_visits s p m j k is_there)) nodes v size path free there

    without_path : (p : PlannedShop) (m n : ℕ) → IsRevision s p → n ≤ jobs p → ((j k : ℕ) → moves_made s j ≡ 0 → Visits p j k m → HasRoom s p)
        → (nodes : List Node) (v : Node) (size : ℕ) → PathAhead (without_machine s p m n) c t nodes v size → IsFree (without_machine s p m n) v.job → v.job < jobs p → HasLonger p c t v size
    without_path p m zero revision few room nodes v size path free there = record { nodes = nodes; size = size; path = path; longer = omega arith }
    without_path p m (suc n) revision few room nodes v size path free there =
        let stage : IsStage s p m n (without_machine s p m n) = stage_upto s is p m n revision (omega arith) room in
        let one : HasLonger (without_machine s p m n) c t v size = stopped_at_path (without_machine s p m n) m n (way_to s (without_machine s p m n) n m) refl stage.revision (omega (arith, stage.jobs_same))
        (λ k outside visits. stage_room s is p m n (without_machine s p m n) k revision stage room outside visits) nodes v size path free (omega (arith, stage.jobs_same)) in
        let two : HasLonger p c t v one.size = without_path p m n revision (omega arith) room one.nodes v one.size one.path
        (λ visits. free (stopped_at-stays (without_machine s p m n) m n (way_to s (without_machine s p m n) n m) v.job refl stage.revision (omega (arith, stage.jobs_same))
        (λ k outside there. stage_room s is p m n (without_machine s p m n) k revision stage room outside there) visits)) there in
        record { nodes = two.nodes; size = two.size; path = two.path; longer = omega (arith, one.longer, two.longer) }

    pub becomes_path : (p : PlannedShop) (change : Change) (q : PlannedShop) (nodes : List Node) (v : Node) (size : ℕ) → SparesJob s v.job p change → IsRevision s p → IsChangedTo s p change q → PathAhead q c t nodes v size → IsFree q v.job → v.job < jobs p → HasLonger p c t v size
    becomes_path p (Until machine to) q nodes v size spares revision made path free there = absurd spares
    becomes_path p (Add words release budget) q nodes v size spares revision made path free there =
        record { nodes = two.nodes; size = two.size; path = two.path; longer = omega (arith, one.longer, two.longer) }
      where
        one : HasLonger (with_new_job p) c t v size
        one = placed-path (with_new_job p) (jobs p) made.steps (given_or release s.present) (given_or budget no_promise) (added p made.steps (given_or release s.present) (given_or budget no_promise))
            (added_fit s is p made.steps (given_or release s.present) (given_or budget no_promise) revision made.few_jobs made.sound) (added_places s is p made.steps (given_or release s.present) (given_or budget no_promise) revision made.few_jobs made.sound) c t nodes v size
            (subst (λ (q : PlannedShop). PathAhead q c t nodes v size) made.is path) (omega arith)

        two : HasLonger p c t v one.size
        two = same-path p (with_new_job p) (with_job-same p) (λ i k. ap (λ (r : List Step). (step_at r k).nominal) (default_more p.shop.routes [] i)) (λ m. refl) (λ i. omega (arith, default_more p.plan.release 0 i)) c t one.nodes v one.size one.path there
    becomes_path p (Scrap j) q nodes v size spares revision made path free there =
        stopped_path p j (moves_made s j) revision made.in_shop made.here (omega arith) made.room nodes v size (subst (λ (q : PlannedShop). PathAhead q c t nodes v size) made.is path) (subst (λ (q : PlannedShop). IsFree q v.job) made.is free) there
    becomes_path p (Down machine) q nodes v size spares revision made path free there =
        without_path p machine (jobs p) revision (omega arith) made.room nodes v size (subst (λ (q : PlannedShop). PathAhead q c t nodes v size) made.is path) (subst (λ (q : PlannedShop). IsFree q v.job) made.is free) there
    becomes_path p (Route j words) q nodes v size (outside, other) revision made path free there =
        record { nodes = two.nodes; size = two.size; path = two.path; longer = omega (arith, one.longer, two.longer) }
      where
        one : HasLonger (with_job_ended p j 0) c t v size
        one = placed-path (with_job_ended p j 0) j made.steps (release p j) (budget p j) (sent_outside p j made.steps)
            (sent_fit s is p j made.steps revision made.can.in_shop outside made.sound) (sent_places s is p j made.steps revision made.can.in_shop outside made.sound) c t nodes v size
            (subst (λ (q : PlannedShop). PathAhead q c t nodes v size) (made.outside outside) path) other

        two : HasLonger p c t v one.size
        two = cut_path p j 0 revision.fit made.can.in_shop revision.kept (λ given. omega (arith, moves_given s j given, outside))
            (λ given gone. omega (arith, gone, moves_given s j given, outside)) one.nodes v one.size one.path
    becomes_path p (Release j moment) q nodes v size early revision made path free there =
        same-path p (coming_by p j moment) (coming-same p j moment) (λ i k. refl) (λ m. refl) earlier c t nodes v size (subst (λ (q : PlannedShop). PathAhead q c t nodes v size) made.is path) there
      where
        earlier : (i : ℕ) → release (coming_by p j moment) i ≤ release p i
        earlier i = elim (cases_eq i j) [
          | inl same ↦ omega (arith, ap (release (coming_by p j moment)) same, ap (release p) same, coming-release p j moment revision.fit made.in_line.in_shop, early)
          | inr other ↦ omega (arith, coming-others p j moment revision.fit made.in_line.in_shop i other)
        ]
    becomes_path p (Budget j moment) q nodes v size spares revision made path free there =
        same-path p (promised_by p j moment) (promised-same p j moment) (λ i k. refl) (λ m. refl) (λ i. omega arith) c t nodes v size (subst (λ (q : PlannedShop). PathAhead q c t nodes v size) made.is path) there
    becomes_path p (Hold machine to) q nodes v size spares revision made path free there = absurd spares
