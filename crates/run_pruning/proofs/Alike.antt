-- Planned shops and cells of which the same is read: the same can happen, and the same is ahead.
use Rattle.std.proofs.Common.{◌≡◌, ℕ, zero, suc, inl, inr, List, [], ◌∷◌, ◌++◌, length, slice_index, drop, nat_eq, refl, sym, ap, ap₂, ◌∙◌, subst, arith}
use Rattle.shop_base.specs.declared.shop.Step.{Step}
use Rattle.shop_base.specs.declared.job_state.JobState.{JobState}
use Rattle.shop_base.specs.declared.move_order.Spot.{Spot}
use Rattle.shop_base.specs.declared.move_order.MoveOrder.{MoveOrder}
use Rattle.shop_base.specs.declared.report.Report.{Report}
use Rattle.shop_base.specs.Shop.{route_at, step_at}
use Rattle.shop_base.specs.Plan.{PlannedShop, route, nominal, release, clean, order, count_below, Visits, Stands}
use Rattle.shop_base.specs.Cell.{Cell, MachineState, absent, job_in, machine_in, made, ready, since, entries, cleaning, IsOn, IsFree}
use Rattle.shop_base.specs.Activity.{Activity, Arrival, Operation, Cleaning, GoesOn}
use Rattle.shop_base.specs.Report.{ended, IsNextMoment, CanReport}
use Rattle.shop_base.specs.Move.{first_stop, spot_after, source, target, CanMove, KeepsPlan, order_for}
use Rattle.shop_base.specs.Run.{Event, Reported, Moved, CanHappen, IsAtRest}
use Rattle.std.specs.Prelude.{slice_index_or}

-- the same is read of both planned shops
pub record AreAlike (p q : PlannedShop) : Type 0 where
  pub routes : q.shop.routes ≡ p.shop.routes
  pub releases : q.plan.release ≡ p.plan.release
  pub budgets : q.plan.budget ≡ p.plan.budget
  pub orders : (m : ℕ) → order q m ≡ order p m
  pub cleans : (m : ℕ) → clean q m ≡ clean p m

-- and of both cells
pub record AreCellsAlike (c d : Cell) : Type 0 where
  pub jobs : d.jobs ≡ c.jobs
  pub machines : (m : ℕ) → machine_in d m ≡ machine_in c m
  pub last : d.last ≡ c.last

pub alike_back : (p q : PlannedShop) → AreAlike p q → AreAlike q p
alike_back p q alike = record { routes = sym alike.routes; releases = sym alike.releases; budgets = sym alike.budgets; orders = λ m. sym (alike.orders m); cleans = λ m. sym (alike.cleans m) }

pub cells_back : (c d : Cell) → AreCellsAlike c d → AreCellsAlike d c
cells_back c d cells = record { jobs = sym cells.jobs; machines = λ m. sym (cells.machines m); last = sym cells.last }

module _ (p q : PlannedShop) (alike : AreAlike p q) where
  pub route_there : (j : ℕ) → route q j ≡ route p j
  route_there j = ap (λ (rs : List (List Step)). route_at rs j) alike.routes

  pub nominal_there : (j k : ℕ) → nominal q j k ≡ nominal p j k
  nominal_there j k = ap (λ (r : List Step). (step_at r k).nominal) (route_there j)

  pub release_there : (j : ℕ) → release q j ≡ release p j
  release_there j = ap (λ (ts : List ℕ). slice_index ts j) alike.releases

  pub visits_there : (j k m : ℕ) → Visits p j k m → Visits q j k m
  visits_there j k m visits = record {
    within = omega (arith, visits.within, ap length (route_there j));
    here = ap (λ (r : List Step). (step_at r k).machine) (route_there j) ∙ visits.here;
  }

  pub stands_there : (m a j k : ℕ) → Stands p m a j k → Stands q m a j k
  stands_there m a j k stands = record {
    within = omega (arith, stands.within, ap length (alike.orders m));
    job = ap (λ (js : List ℕ). slice_index js a) (alike.orders m) ∙ stands.job;
    visits = visits_there j k m stands.visits;
    turn = ap (λ (js : List ℕ). count_below (λ b. nat_eq (slice_index js b) j) a) (alike.orders m) ∙ stands.turn
        ∙ sym (ap (λ (r : List Step). count_below (λ i. nat_eq (step_at r i).machine m) k) (route_there j));
  }

module _ (c d : Cell) (cells : AreCellsAlike c d) where
  pub job_there : (j : ℕ) → job_in d j ≡ job_in c j
  job_there j = ap (λ (js : List JobState). slice_index_or js j absent) cells.jobs

  pub made_there : (j : ℕ) → made d j ≡ made c j
  made_there j = ap (λ (s : JobState). s.made) (job_there j)

  pub ready_there : (j : ℕ) → ready d j ≡ ready c j
  ready_there j = ap (λ (s : JobState). s.ready) (job_there j)

  pub since_there : (j : ℕ) → since d j ≡ since c j
  since_there j = ap (λ (s : JobState). s.since) (job_there j)

  pub entries_there : (m : ℕ) → entries d m ≡ entries c m
  entries_there m = ap (λ (s : MachineState). s.entries) (cells.machines m)

  pub cleaning_there : (m : ℕ) → cleaning d m ≡ cleaning c m
  cleaning_there m = ap (λ (s : MachineState). s.cleaning) (cells.machines m)

  pub moment_there : (t : ℕ) → IsNextMoment c t → IsNextMoment d t
  moment_there t moment = record { in_order = omega (arith, moment.in_order, cells.last); in_range = moment.in_range }

-- the job is on the machine in both
pub on_there : (p q : PlannedShop) → AreAlike p q → (c d : Cell) → AreCellsAlike c d → (j k m : ℕ) → IsOn p c j k m → IsOn q d j k m
on_there p q alike c d cells j k m on = record { entered = made_there c d cells j ∙ on.entered; visits = visits_there p q alike j k m on.visits }

-- a list of jobs that begins one order begins the other
prefix_there : (es fs xs ys : List ℕ) → fs ≡ es → ys ≡ xs → (rest : List ℕ) × (xs ≡ es ++ rest) → (rest : List ℕ) × (ys ≡ fs ++ rest)
prefix_there es fs xs ys one other (rest, e) = (rest, other ∙ e ∙ ap (λ zs. zs ++ rest) (sym one))

module _ (p q : PlannedShop) (alike : AreAlike p q) (c d : Cell) (cells : AreCellsAlike c d) where
  free_there : (m : ℕ) → IsFree p c m → IsFree q d m
  free_there m free j k on = free j k (on_there q p (alike_back p q alike) d c (cells_back c d cells) j k m on)

  pub goes_there : (a : Activity) (due : ℕ) → GoesOn p c a due → GoesOn q d a due
  goes_there (Arrival j) due awaits = record {
    outside = made_there c d cells j ∙ awaits.outside;
    not_ready = ready_there c d cells j ∙ awaits.not_ready;
    is_due = awaits.is_due ∙ sym (release_there p q alike j);
  }
  goes_there (Operation j m) due (k, works) = (
    k,
    record {
      on = on_there p q alike c d cells j k m works.on;
      not_ready = ready_there c d cells j ∙ works.not_ready;
      is_due = omega (arith, works.is_due, since_there c d cells j, nominal_there p q alike j k);
    },
  )
  goes_there (Cleaning m) due (from, cleaned) = (
    from,
    record { is_cleaned = cleaning_there c d cells m ∙ cleaned.is_cleaned; is_due = omega (arith, cleaned.is_due, alike.cleans m) },
  )

  pub report_there : (r : Report) → CanReport p c r → CanReport q d r
  report_there r can = record { going = (can.going.0, goes_there (ended r) can.going.0 can.going.1); moment = moment_there c d cells _ can.moment }

  remaining_there : (j : ℕ) → drop (made d j) (route q j) ≡ drop (made c j) (route p j)
  remaining_there j = ap₂ (λ (n : ℕ) (r : List Step). drop n r) (made_there c d cells j) (route_there p q alike j)

  next_there : (j m : ℕ) → Visits p j (made c j) m → Visits q j (made d j) m
  next_there j m next = subst (λ n. Visits q j n m) (sym (made_there c d cells j)) (visits_there p q alike j (made c j) m next)

  next_back : (j m : ℕ) → Visits q j (made d j) m → Visits p j (made c j) m
  next_back j m next = subst (λ n. Visits p j n m) (made_there c d cells j) (visits_there q p (alike_back p q alike) j (made d j) m next)

  pub move_there : (j t : ℕ) → CanMove p c j t → CanMove q d j t
  move_there j t can = record {
    is_ready = ready_there c d cells j ∙ can.is_ready;
    way = elim can.way [
      | inl leaves ↦ inl (remaining_there j ∙ leaves)
      | inr (m, enters) ↦ inr (m, record { next = next_there j m enters.next; free = free_there m enters.free; is_clean = cleaning_there c d cells m ∙ enters.is_clean })
    ];
    moment = moment_there c d cells t can.moment;
  }

  pub keeps_there : (j : ℕ) → KeepsPlan p c j → KeepsPlan q d j
  keeps_there j keeps m next =
      prefix_there (entries c m ++ j ∷ []) (entries d m ++ j ∷ []) (order p m) (order q m) (ap (λ (js : List ℕ). js ++ j ∷ []) (entries_there c d cells m)) (alike.orders m) (keeps m (next_back j m next))

  pub source_there : (j : ℕ) → source q d j ≡ source p c j
  source_there j = ap (spot_after q j) (made_there c d cells j) ∙ spot_there (made c j)
    where
      spot_there : (n : ℕ) → spot_after q j n ≡ spot_after p j n
      spot_there zero = refl
      spot_there (suc k) = ap (λ (r : List Step). first_stop (drop k r)) (route_there p q alike j)

  pub target_there : (j : ℕ) → target q d j ≡ target p c j
  target_there j = ap first_stop (remaining_there j)

  pub order_there : (j t : ℕ) → order_for q d j t ≡ order_for p c j t
  order_there j t = ap₂ {C = MoveOrder} (λ (a b : Spot). record { job = j; source = a; target = b; at = t }) (source_there j) (target_there j)

  pub happens_there : (e : Event) → CanHappen p c e → CanHappen q d e
  happens_there (Reported r) can = report_there r can
  happens_there (Moved o) (obeys, keeps) = (
    record { can = move_there o.job o.at obeys.can; is_move = obeys.is_move ∙ sym (order_there o.job o.at) },
    keeps_there o.job keeps,
  )

-- where one cell is at rest, the other is
pub rest_there : (p q : PlannedShop) → AreAlike p q → (c d : Cell) → AreCellsAlike c d → IsAtRest p c → IsAtRest q d
rest_there p q alike c d cells rest j t can keeps =
    rest j t (move_there q p (alike_back p q alike) d c (cells_back c d cells) j t can) (keeps_there q p (alike_back p q alike) d c (cells_back c d cells) j keeps)
