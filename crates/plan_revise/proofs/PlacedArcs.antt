-- The arcs where a job is placed: no arc leads from it to another job, and the others are as they were.
use Rattle.std.proofs.Common.{◌≡◌, ◌≢◌, ℕ, ◌+◌, ◌-◌, ◌<◌, ◌≤◌, inl, inr, List, [], ◌∷◌, ◌++◌, length, get_or, replicate, sym, ap, ◌∙◌, subst, arith, length-append}
use Rattle.std.proofs.lemmas.Bool.{cases_lt, cases_eq}
use Rattle.std.proofs.lemmas.List.{get_or_past, get_or-replicate, length-replicate, get_or-append-add}
use Rattle.std.proofs.Math.ListN.{get_or-append}
use Rattle.shop_base.specs.declared.shop.Step.{Step}
use Rattle.shop_base.specs.declared.node.Node.{Node}
use Rattle.shop_base.specs.Shop.{step_at}
use Rattle.shop_base.specs.Plan.{PlannedShop, machines, order, job_at, Visits, Stands}
use Rattle.shop_base.specs.Cell.{Cell, since, entries}
use Rattle.shop_base.specs.Activity.{Arrival, Operation, Cleaning}
use Rattle.shop_base.specs.Graph.{node, Arc, job_arc, blocking_arc, ArcsLead}
use Rattle.shop_base.specs.Ahead.{PathAhead, now, held, onward}
use Rattle.shop_base.proofs.Visits.{stands_alike, stands_in_turn}
use Rattle.plan_verifier.specs.Accepted.{HasNoCycle}
use Rattle.plan_revise.specs.Fits.{IsFit}
use Rattle.plan_revise.specs.Parts.{visits_in, Places}
use Rattle.plan_revise.specs.Paths.{HasLonger}
use Rattle.plan_revise.proofs.Fitting.{fit-place}
use Rattle.alt_graph.proofs.ClosedWalks.{no_way_back}

module _ (p : PlannedShop) (j : ℕ) (r : List Step) (first last : ℕ) (q : PlannedShop) (fit : IsFit p) (places : Places p j r first last q) where
  pub visits_others : (i k m : ℕ) → i ≢ j → Visits q i k m → Visits p i k m
  visits_others i k m other visits = record {
    within = omega (arith, ap length (places.others i other), visits.within);
    here = sym (ap (λ (s : List Step). (step_at s k).machine) (places.others i other)) ∙ visits.here;
  }

  size : (m : ℕ) → length (order q m) ≡ length (order p m) + visits_in r m
  size m = ap length (places.last m) ∙ length-append (order p m) (replicate (visits_in r m) j) ∙ ap (λ n. length (order p m) + n) (length-replicate (visits_in r m) j)

  front : (m a : ℕ) → a < length (order p m) → job_at q m a ≡ job_at p m a
  front m a less = ap (λ (xs : List ℕ). get_or xs a 0) (places.last m) ∙ get_or-append (order p m) (replicate (visits_in r m) j) 0 a less

  -- behind the places of before stands the job that is placed
  back : (m a : ℕ) → length (order p m) ≤ a → a < length (order q m) → job_at q m a ≡ j
  back m a more within =
      let there : length (order p m) + (a - length (order p m)) ≡ a = omega arith in
      ap (λ (xs : List ℕ). get_or xs a 0) (places.last m) ∙ ap (λ b. get_or (order p m ++ replicate (visits_in r m) j) b 0) (sym there)
      ∙ get_or-append-add (order p m) (replicate (visits_in r m) j) (a - length (order p m)) 0 ∙ get_or-replicate (visits_in r m) (a - length (order p m)) j 0 (omega (arith, size m))

  -- another job stands where it stood
  stands_others : (m a i k : ℕ) → i ≢ j → Stands q m a i k → Stands p m a i k
  stands_others m a i k other stands = elim (cases_lt a (length (order p m))) [
    | inl less ↦ stands_alike q p m a i k stands less (λ b before. sym (front m b (omega arith))) (visits_others i k m other stands.visits).within
        (λ l before. sym (ap (λ (s : List Step). (step_at s l).machine) (places.others i other)))
    | inr more ↦ absurd (other (sym stands.job ∙ back m a more stands.within))
  ]

  -- the job that is placed is in no order of before
  not_before : (m a : ℕ) → a < length (order p m) → job_at p m a ≢ j
  not_before m a within same =
      let found = fit-place p fit m a j inside within same in
      omega (arith, found.1.visits.within, ap length places.none)
    where
      inside : m < machines p
      inside = elim (cases_lt m (machines p)) [
        | inl less ↦ less
        | inr past ↦ absurd (omega (arith, within, ap length (get_or_past p.plan.order m [] (omega (arith, fit.counts.orders)))))
      ]

  -- behind it stands no other one
  stands_last : (m a k l g : ℕ) → Stands q m a j k → Stands q m (a + 1) l g → l ≡ j
  stands_last m a k l g one next = elim (cases_lt a (length (order p m))) [
    | inl less ↦ absurd (not_before m a less (sym (front m a less) ∙ one.job))
    | inr more ↦ sym next.job ∙ back m (a + 1) (omega arith) next.within
  ]

  -- an arc to another job comes from another job, and is one of before
  pub placed-arc : (u v : Node) (d : ℕ) → Arc q u v d → v.job ≢ j → (u.job ≢ j) × Arc p u v d
  placed-arc _ _ _ (job_arc i k within) other =
      (other, subst (λ d. Arc p (node i k) (node i (k + 1)) d) (sym (ap (λ (s : List Step). (step_at s k).nominal) (places.others i other))) (job_arc i k (omega (arith, ap length (places.others i other)))))
  placed-arc _ _ _ (blocking_arc m a i k l g one next) other = elim (cases_eq i j) [
    | inl same ↦ absurd (other (stands_last m a k l g (subst (λ i. Stands q m a i k) same one) next))
    | inr apart ↦ (
      apart,
      subst (λ d. Arc p (node i (k + 1)) (node l g) d) (sym (places.cleans m))
          (blocking_arc m a i k l g (stands_others m a i k apart one) (stands_others m (a + 1) l g other next)),
    )
  ]

  -- an arc from it leads to a later node of its own
  placed-own : (u v : Node) (d : ℕ) → Arc q u v d → u.job ≡ j → (v.job ≡ j) × (u.place < v.place)
  placed-own _ _ _ (job_arc i k within) same = (same, omega arith)
  placed-own _ _ _ (blocking_arc m a i k l g one next) same = (mine, omega (arith, later, apart))
    where
      own : Stands q m a j k
      own = subst (λ i. Stands q m a i k) same one

      mine : l ≡ j
      mine = stands_last m a k l g own next

      own_next : Stands q m (a + 1) j g
      own_next = subst (λ l. Stands q m (a + 1) l g) mine next

      later : k < g
      later = stands_in_turn q m a (a + 1) j k g own own_next (omega arith)

      machine_is : (n : ℕ) → Visits q j n m → (step_at r n).machine ≡ m
      machine_is n visits = sym (ap (λ (s : List Step). (step_at s n).machine) places.route_is) ∙ visits.here

      apart : k + 1 ≢ g
      apart is = places.apart g (omega (arith, own_next.visits.within, ap length places.route_is)) (k, omega (arith, is), machine_is k own.visits ∙ sym (machine_is g own_next.visits))

  own_rise : (u : Node) (ws : List Node) (v : Node) → ArcsLead q u ws v → u.job ≡ j → (v.job ≡ j) × (u.place < v.place)
  own_rise u [] v (d, arc) same = placed-own u v d arc same
  own_rise u (w ∷ ws) v ((d, arc), rest) same =
      let one = placed-own u w d arc same in
      let more = own_rise w ws v rest one.0 in
      (more.0, omega (arith, one.1, more.1))

  others_lead : (u : Node) (ws : List Node) (v : Node) → ArcsLead q u ws v → v.job ≢ j → ArcsLead p u ws v
  others_lead u [] v (d, arc) other = (d, (placed-arc u v d arc other).1)
  others_lead u (w ∷ ws) v ((d, arc), rest) other = elim (cases_eq w.job j) [
    | inl same ↦ absurd (other (own_rise w ws v rest same).0)
    | inr apart ↦ ((d, (placed-arc u w d arc apart).1), others_lead w ws v rest other)
  ]

  -- no cycle where there was none
  pub placed-no_cycle : HasNoCycle p → HasNoCycle q
  placed-no_cycle acyclic [] cycle = cycle
  placed-no_cycle acyclic (u ∷ us) (distinct, leads) = elim (cases_eq u.job j) [
    | inl same ↦ omega (arith, (own_rise u us u leads same).1)
    | inr other ↦ no_way_back p u us acyclic (others_lead u us u leads other)
  ]

  -- each path to another job's node is as long as one of before
  module _ (c : Cell) (t : ℕ) where
    pub placed-path : (nodes : List Node) (v : Node) (size : ℕ) → PathAhead q c t nodes v size → v.job ≢ j → HasLonger p c t v size
    placed-path _ _ _ (now v is ahead) other = record {
      nodes = v ∷ [];
      size = t;
      path = now v (record { job = places.jobs_but v.job is.job other; place = omega (arith, is.place, ap length (places.others v.job other)) }) ahead;
      longer = omega arith;
    }
    placed-path _ _ _ (held (Arrival i) due v goes holds) other = record {
      nodes = v ∷ [];
      size = due;
      path = held (Arrival i) due v (record { outside = goes.outside; not_ready = goes.not_ready; is_due = goes.is_due ∙ places.releases i (λ same. other (ap (λ (w : Node). w.job) holds ∙ same)) }) holds;
      longer = omega arith;
    }
    placed-path _ _ _ (held (Operation i m) due v (k, goes) holds) other = record {
      nodes = v ∷ [];
      size = due;
      path = held (Operation i m) due v (
        k,
        record {
          on = record { entered = goes.on.entered; visits = visits_others i k m apart goes.on.visits };
          not_ready = goes.not_ready;
          is_due = goes.is_due ∙ ap (λ x. since c i + x) (ap (λ (s : List Step). (step_at s k).nominal) (places.others i apart));
        },
      ) holds;
      longer = omega arith;
    }
      where
        apart : i ≢ j
        apart same = other (ap (λ (w : Node). w.job) holds ∙ same)
    placed-path _ _ _ (held (Cleaning m) due v (from, goes) holds) other = record {
      nodes = v ∷ [];
      size = due;
      path = held (Cleaning m) due v (from, record { is_cleaned = goes.is_cleaned; is_due = goes.is_due ∙ ap (λ x. from + x) (places.cleans m) }) (stands_others m (length (entries c m)) v.job v.place other holds);
      longer = omega arith;
    }
    placed-path _ _ _ (onward nodes u v size d path arc) other =
        let one = placed-arc u v d arc other in
        let l = placed-path nodes u size path one.0 in
        record { nodes = l.nodes ++ v ∷ []; size = l.size + d; path = onward l.nodes u v l.size d l.path one.1; longer = omega (arith, l.longer) }
