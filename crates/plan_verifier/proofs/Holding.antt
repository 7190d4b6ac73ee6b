-- What holds up a node is in the tables, and of its bounds one goes before all others.
use Rattle.std.proofs.Common.{◌≡◌, ◌≢◌, ℕ, ◌+◌, ◌-◌, ◌<◌, ◌≤◌, ◌⊎◌, Bool, true, false, if◌then◌else◌, Option, None, Some, inl, inr, arith, refl, sym, ap, subst, ◌∙◌, lt-ltb, le-ltb}
use Rattle.std.specs.Prelude.{MatchOption}
use Rattle.shop_base.specs.{declared.node.Node.Node, declared.shop.Step.Step, declared.job_state.JobState.JobState}
use Rattle.shop_base.specs.Shop.{step_at}
use Rattle.shop_base.specs.Plan.{PlannedShop, steps, route, nominal, clean, release, Visits}
use Rattle.shop_base.specs.Cell.{Cell, job_in, made, ready, since, cleaning, IsOutside, IsOn}
use Rattle.shop_base.specs.{Activity.{Cleaning, IsAwaited, IsWorked, IsCleaned}, Movers.{due_of_job, due_of_cleaning}, Sound.IsSound}
use Rattle.shop_base.specs.Ahead.{next_node}
use Rattle.shop_base.proofs.{CellFacts.{arrival_due, operation_due}, Ahead.held_left}
use Rattle.alt_graph.proofs.NodeNumbers.{node_same}
use Rattle.plan_verifier.specs.declared.node_bound.Hold.{Hold}
use Rattle.plan_verifier.specs.declared.node_bound.Hold.TheVariants.{Awaited, Arrived, Worked, Done, Cleaned}
use Rattle.plan_verifier.specs.{declared.node_bound.NodeBound.NodeBound, CellBounds.{cleaned_at, is_next_in}}
use Rattle.plan_verifier.specs.Held.{IsHeldBy, awaited, arrived, worked, done, cleaned, IsHeldUp, IsHoldBound, IsBoundOf, GoesBefore, later_than, overdue_at, turn}
use Rattle.plan_verifier.specs.JobHolds.{IsJobHold, IsBoundBy, job_turn}
use Rattle.plan_verifier.proofs.Tables.{holds_cleaned, next_there}

module _ (p : PlannedShop) (c : Cell) where
  -- what holds up a node by its job, with its due moment and its turn
  abbrev IsByJob : Hold → Option ℕ → Node → Type 0
  IsByJob h due v = (made c v.job ≡ v.place) × (due ≡ due_of_job p v.job (job_in c v.job)) × (turn h ≡ job_turn c v.job)

  -- by a cleaning
  abbrev IsByCleaning : Hold → Option ℕ → Node → Type 0
  IsByCleaning h due v = (n : ℕ) × (cleaned_at p c v ≡ Some n) × (due ≡ Some n) × (turn h ≡ 1)

  -- all that holds up a node is of one of these kinds
  hold_kind : (h : Hold) (due : Option ℕ) (v : Node) → IsHeldBy p c h due v → IsByJob h due v ⊎ IsByCleaning h due v
  hold_kind _ _ _ (awaited j d is) = inl (refl, sym (arrival_due p c j d is), rw is.not_ready refl)
  hold_kind _ _ _ (arrived j outside is) = inl (refl, rw is refl, rw is refl)
  hold_kind _ _ _ (worked j k m d is) = inl (refl, sym (operation_due p c j m d (k, is)), rw is.not_ready refl)
  hold_kind _ _ _ (done j k m on is) = inl (refl, rw is refl, rw is refl)
  hold_kind _ _ _ (cleaned m from d v is stands) = inr (d, holds_cleaned p c v d m (from, is) stands, refl, refl)

  -- and the node is held up
  pub hold_up : (h : Hold) (due : Option ℕ) (v : Node) → IsHeldBy p c h due v → IsHeldUp p c v
  hold_up _ _ _ (awaited j d is) = inl refl
  hold_up _ _ _ (arrived j outside is) = inl refl
  hold_up _ _ _ (worked j k m d is) = inl refl
  hold_up _ _ _ (done j k m on is) = inl refl
  hold_up _ _ _ (cleaned m from d v is stands) = inr (m, d, (from, is), stands)

  -- so what holds up the next node of a job, but a cleaning, is due with the job's activity
  job_hold : (j : ℕ) (h : Hold) (due : Option ℕ) → IsHeldBy p c h due (next_node c j) → due ≡ due_of_job p j (job_in c j) → turn h ≡ job_turn c j → IsJobHold p c j h
  job_hold j h due holds is at = record { holds = subst (λ d. IsHeldBy p c h d (next_node c j)) is holds; turn_is = at }

  pub hold_arrived : (j : ℕ) → IsOutside c j → ready c j ≡ true → IsJobHold p c j (Arrived j)
  hold_arrived j outside is = job_hold j (Arrived j) None (arrived j outside is) (rw is refl) (rw is refl)

  pub hold_awaited : (j : ℕ) → IsOutside c j → ready c j ≡ false → IsJobHold p c j (Awaited j)
  hold_awaited j outside is =
      let awaits : IsAwaited p c j (release p j) = record { outside = outside; not_ready = is; is_due = refl } in
      job_hold j (Awaited j) (Some (release p j)) (awaited j (release p j) awaits) (sym (arrival_due p c j (release p j) awaits)) (rw is refl)

  -- on a machine, by the job's state and the step that it is on
  module _ (j : ℕ) (state : JobState) (step : Step) (is : state ≡ job_in c j) (inside : 0 < made c j) (within : state.made - 1 < steps p j) (at : step ≡ step_at (route p j) (state.made - 1)) where
    on : IsOn p c j (state.made - 1) step.machine
    on = record { entered = omega (arith, ap (λ (s : JobState). s.made) is, inside); visits = record { within = within; here = sym (ap (λ (s : Step). s.machine) at) } }

    pub hold_done : state.ready ≡ true → IsJobHold p c j (Done j step.machine)
    hold_done waits =
        let idle : ready c j ≡ true = sym (ap (λ (s : JobState). s.ready) is) ∙ waits in
        job_hold j (Done j step.machine) None (done j (state.made - 1) step.machine on idle) (rw idle refl) (rw idle refl)

    pub hold_worked : state.ready ≡ false → IsJobHold p c j (Worked j step.machine state.since step.nominal)
    hold_worked works =
        let busy : ready c j ≡ false = sym (ap (λ (s : JobState). s.ready) is) ∙ works in
        let goes : IsWorked p c j (state.made - 1) step.machine (since c j + nominal p j (state.made - 1)) = record { on = on; not_ready = busy; is_due = refl } in
        rw (ap (λ (s : JobState). s.since) is, ap (λ (s : Step). s.nominal) at)
        (job_hold j _ _ (worked j (state.made - 1) step.machine _ goes) (sym (operation_due p c j step.machine _ (state.made - 1, goes))) (rw busy refl))

  module _ (t : ℕ) (v : Node) where
    -- a bound is given by what holds up the node
    pub bound_is : (h : Hold) (due : Option ℕ) (n : ℕ) (b : NodeBound) → IsHeldBy p c h due v → turn h ≡ n
        → b ≡ record { moment = later_than t due; holds = h; overdue = overdue_at t due } → IsBoundBy p c t v due n b
    bound_is h due n b is at same = rw same (record { by_hold = record { due = due; holds = is; moment = refl; overdue = refl }; moment = refl; turn_is = at })

    -- of the cleaning of the machine that it enters
    pub cleaning_bound : (m from n : ℕ) (b : NodeBound) → Visits p v.job v.place m → is_next_in p c m v ≡ true → cleaning c m ≡ Some from → n ≡ clean p m
        → b ≡ record { moment = later_than t (Some (from + n)); holds = Cleaned m from n; overdue = overdue_at t (Some (from + n)) } → IsBoundBy p c t v (cleaned_at p c v) 1 b
    cleaning_bound m from n b visits next is long same =
        let stands = next_there p c v m next visits in
        let goes : IsCleaned p c m from (from + clean p m) = record { is_cleaned = is; is_due = refl } in
        rw (holds_cleaned p c v (from + clean p m) m (from, goes) stands)
        (bound_is (Cleaned m from (clean p m)) (Some (from + clean p m)) 1 b (cleaned m from (from + clean p m) v goes stands) refl (rw long at same))

    -- nor does a cleaning hold up a leaving, nor the entry of a machine by another than the next, or of one that isn't being cleaned
    pub free_leaving : steps p v.job ≤ v.place → cleaned_at p c v ≡ None
    free_leaving past = rw (le-ltb v.place (steps p v.job) past) refl

    pub free_other : (m : ℕ) → Visits p v.job v.place m → is_next_in p c m v ≡ false → cleaned_at p c v ≡ None
    free_other m visits other = rw (lt-ltb v.place (steps p v.job) visits.within, visits.here, other) refl

    pub free_idle : (m : ℕ) → Visits p v.job v.place m → cleaning c m ≡ None → cleaned_at p c v ≡ None
    free_idle m visits idle = rw (lt-ltb v.place (steps p v.job) visits.within, visits.here, idle) (go (is_next_in p c m v))
      where
        go : (next : Bool) → (if next then due_of_cleaning p m None else None) ≡ None
        go true = refl
        go false = refl

    -- a node that is not its job's next and not held up by a cleaning isn't held up
    pub free_later : made c v.job ≢ v.place → cleaned_at p c v ≡ None → IsHeldUp p c v → ⊥
    free_later later free (inl next) = later next
    free_later later free (inr (m, due, going, holds)) = (let at = holds_cleaned p c v due m going holds in absurd (cc))

    -- nor is a passed one
    pub free_passed : IsSound p c → v.place < made c v.job → IsHeldUp p c v → ⊥
    free_passed sound passed (inl next) = omega (arith, passed, next)
    free_passed sound passed (inr (m, due, going, holds)) = (let here : made c v.job ≤ v.place = (held_left p c (Cleaning m) due v sound going holds).ahead in omega (arith, here, passed))

    -- the bound goes before one with this due moment and this turn
    abbrev GoesFirst : NodeBound → Option ℕ → ℕ → Type 0
    GoesFirst b due n = (later_than t due < b.moment) ⊎ ((b.moment ≡ later_than t due) × (turn b.holds ≤ n))

    own_first : (b : NodeBound) (due : Option ℕ) (n : ℕ) → IsBoundBy p c t v due n b → GoesFirst b due n
    own_first b due n by = inr (by.moment, omega (arith, by.turn_is))

    other_first : (b other : NodeBound) (due : Option ℕ) (n : ℕ) → IsBoundBy p c t v due n other → GoesBefore b other → GoesFirst b due n
    other_first b other due n by (inl later) = inl (omega (arith, later, by.moment))
    other_first b other due n by (inr (same, first)) = inr (same ∙ by.moment, omega (arith, first, by.turn_is))

    -- where it does so with the one by the job and the one by a cleaning it goes before all
    bound_first : (b : NodeBound) → IsHoldBound p c t v b → (made c v.job ≡ v.place → GoesFirst b (due_of_job p v.job (job_in c v.job)) (job_turn c v.job))
        → ((n : ℕ) → cleaned_at p c v ≡ Some n → GoesFirst b (Some n) 1) → IsBoundOf p c t v b
    bound_first b by_hold by_job by_cleaning = record { by_hold = by_hold; first = λ other its. go other its (hold_kind other.holds its.due v its.holds) }
      where
        go : (other : NodeBound) (its : IsHoldBound p c t v other) → IsByJob other.holds its.due v ⊎ IsByCleaning other.holds its.due v → GoesBefore b other
        go other its (inl (next, is, at)) = rw (its.moment, is, at) (by_job next)
        go other its (inr (n, is, due, at)) = rw (its.moment, due, at) (by_cleaning n is)

    -- of a node that isn't its job's next only a cleaning gives a bound
    pub later_bound : (o : Option NodeBound) → made c v.job ≢ v.place → MatchOption o (cleaned_at p c v ≡ None) (IsBoundBy p c t v (cleaned_at p c v) 1)
        → MatchOption o (IsHeldUp p c v → ⊥) (IsBoundOf p c t v)
    later_bound None later free = free_later later free
    later_bound (Some b) later by = bound_first b by.by_hold (λ next. absurd (later next)) (λ n is. rw is at (own_first b (cleaned_at p c v) 1 by))

    -- of its job's next one what goes on with the job, or a cleaning too
    module _ (own : NodeBound) (next : made c v.job ≡ v.place) (by_job : IsBoundBy p c t (next_node c v.job) (due_of_job p v.job (job_in c v.job)) (job_turn c v.job) own) where
      abbrev due : Option ℕ
      due = due_of_job p v.job (job_in c v.job)

      by : IsBoundBy p c t v due (job_turn c v.job) own
      by = subst (λ (w : Node). IsBoundBy p c t w due (job_turn c v.job) own) (node_same (next_node c v.job) v refl next) by_job

      pub alone_bound : cleaned_at p c v ≡ None → IsBoundOf p c t v own
      alone_bound free = bound_first own by.by_hold (λ _. own_first own due (job_turn c v.job) by) (λ n is. absurd (cc))

      pub first_bound : (other found : NodeBound) → IsBoundBy p c t v (cleaned_at p c v) 1 other → ((found ≡ own) × GoesBefore own other) ⊎ ((found ≡ other) × GoesBefore other own)
          → IsBoundOf p c t v found
      first_bound other found its (inl (is, before)) =
          rw is (bound_first own by.by_hold (λ _. own_first own due (job_turn c v.job) by) (λ n at. rw at at (other_first own other (cleaned_at p c v) 1 its before)))
      first_bound other found its (inr (is, before)) =
          rw is (bound_first other its.by_hold (λ _. other_first other own due (job_turn c v.job) by before) (λ n at. rw at at (own_first other (cleaned_at p c v) 1 its)))
