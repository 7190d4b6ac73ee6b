-- A planned shop with its first machines alone, where the others are neither visited nor cleaned: it has the same runs.
use Rattle.std.proofs.Common.{◌≡◌, ℕ, zero, suc, ◌<◌, ◌≤◌, inl, inr, List, [], ◌∷◌, ◌++◌, length, get_or, set, take, Option, None, Some, Bool, true, false, nat_lt, if◌then◌else◌, refl, sym, ap, ap₂, ◌∙◌, subst, arith}
use Rattle.std.proofs.lemmas.Bool.{cases_lt}
use Rattle.std.proofs.lemmas.List.{get_or_past, get_or-take, length-take, length-take-le, take-replicate}
use Rattle.shop_base.specs.declared.move_order.Spot.{Spot, TheVariants.{Out, At}}
use Rattle.shop_base.specs.declared.report.Report.{Report, TheVariants.{Arrive, Finish, Clean}}
use Rattle.shop_base.specs.Shop.{IsRoute}
use Rattle.shop_base.specs.Plan.{PlannedShop, jobs, machines, route, steps, machine_of, clean, clean_in, HasCleanCount, order, job_at, Visits, Stands, IsOrder, IsWellShaped}
use Rattle.shop_base.specs.Cell.{Cell, MachineState, unused, machine_in, with_machine, made, entries, cleaning, start}
use Rattle.shop_base.specs.Report.{after_report}
use Rattle.shop_base.specs.Move.{source, target, after_leaving, with_entry, with_moved, after_move}
use Rattle.shop_base.specs.Run.{Event, Reported, Moved, CanHappen, after, AreEvents, after_all, IsRun, ends_in}
use Rattle.shop_base.specs.Sound.{IsSound}
use Rattle.shop_base.proofs.Visits.{visits-stands}
use Rattle.shop_base.proofs.CellFacts.{visits_target}
use Rattle.shop_base.proofs.Keeping.{after-sound, start-sound}
use Rattle.run_pruning.specs.Spare.{first_cleanings, narrowed, narrowed_cell}
use Rattle.run_pruning.specs.SpareLaw.{HasTheSameRuns}
use Rattle.run_pruning.proofs.Alike.{AreAlike, AreCellsAlike, alike_back, cells_back, stands_there, source_there, target_there, happens_there}

-- no machine but the first n is visited or cleaned
pub record AreEnough (p : PlannedShop) (n : ℕ) : Type 0 where
  pub few : n ≤ machines p
  pub unvisited : (m : ℕ) → n ≤ m → order p m ≡ []
  pub uncleaned : (m : ℕ) → n ≤ m → clean p m ≡ 0

-- the first of a list are the same after a write
pub take_set : {A : Type 0} (n : ℕ) (xs : List A) (i : ℕ) (x : A) → take n (set xs i x) ≡ set (take n xs) i x
take_set zero xs i x = refl
take_set (suc n) [] i x = refl
take_set (suc n) (y ∷ xs) zero x = refl
take_set {A} (suc n) (y ∷ xs) (suc i) x = ap {B = List A} (λ l. y ∷ l) (take_set n xs i x)

-- past the first of a list there is nothing
first_get : {A : Type 0} (n : ℕ) (xs : List A) (i : ℕ) (d : A) → (n ≤ i → get_or xs i d ≡ d) → get_or (take n xs) i d ≡ get_or xs i d
first_get n xs i d none = elim (cases_lt i n) [
  | inl inside ↦ get_or-take n xs i d inside
  | inr past ↦ get_or_past (take n xs) i d (omega (arith, past, length-take n xs)) ∙ sym (none past)
]

first_clean : (n : ℕ) (o : Option (List ℕ)) (m : ℕ) → (n ≤ m → clean_in o m ≡ 0) → clean_in (first_cleanings n o) m ≡ clean_in o m
first_clean n None m none = refl
first_clean n (Some times) m none = first_get n times m 0 none

first_count : (n k : ℕ) (o : Option (List ℕ)) → n ≤ k → HasCleanCount o k → HasCleanCount (first_cleanings n o) n
first_count n k None few count = tt
first_count n k (Some times) few count = length-take-le n times (omega (arith, few, count))

module _ (p : PlannedShop) (n : ℕ) (shaped : IsWellShaped p) (enough : AreEnough p n) where
  abbrev q : PlannedShop
  q = narrowed n p

  pub narrowed-alike : AreAlike p q
  narrowed-alike = record {
    routes = refl;
    releases = refl;
    budgets = refl;
    orders = λ m. first_get n p.plan.order m [] (enough.unvisited m);
    cleans = λ m. first_clean n p.plan.clean m (enough.uncleaned m);
  }

  -- a machine that is visited is one of the first
  visited_first : (j k m : ℕ) → Visits p j k m → m < n
  visited_first j k m visits = elim (cases_lt m n) [
    | inl inside ↦ inside
    | inr past ↦ (let (a, stands) = visits-stands p j k m shaped visits in absurd (omega (arith, stands.within, ap length (enough.unvisited m past))))
  ]

  step_first : (j k : ℕ) → k < steps p j → machine_of p j k < n
  step_first j k within = visited_first j k (machine_of p j k) (record { within = within; here = refl })

  narrowed_route : (j : ℕ) → j < jobs p → IsRoute n p.shop.recirculates (route p j)
  narrowed_route j inside =
      let known = shaped.shop.routes j inside in record {
        visits_some = known.visits_some;
        few_steps = known.few_steps;
        steps = λ k within. let step = known.steps k within in record { in_range = step_first j k within; elsewhere = step.elsewhere; first_visit = step.first_visit; nominal = step.nominal };
      }

  narrowed_order : (m : ℕ) → m < n → IsOrder q m
  narrowed_order m inside =
      let known : IsOrder p m = shaped.orders m (omega (arith, inside, enough.few)) in record {
        on_route = λ a within.
            let (k, stands) = known.on_route a (omega (arith, within, ap length (narrowed-alike.orders m))) in
            let there : Stands q m a (job_at p m a) k = stands_there p q narrowed-alike m a (job_at p m a) k stands in
            (k, subst (λ x. Stands q m a x k) (sym there.job) there);
        complete = λ j k visits.
            let (a, stands) = known.complete j k (record { within = visits.within; here = visits.here }) in
            (a, stands_there p q narrowed-alike m a j k stands);
      }

  pub narrowed-shaped : IsWellShaped q
  narrowed-shaped = record {
    shop = record {
      counts = record {
        some_job = shaped.shop.counts.some_job;
        few_jobs = shaped.shop.counts.few_jobs;
        some_machine = omega (arith, step_first 0 0 (shaped.shop.routes 0 shaped.shop.counts.some_job).visits_some);
        few_machines = omega (arith, enough.few, shaped.shop.counts.few_machines);
      };
      routes = narrowed_route;
    };
    counts = record {
      releases = shaped.counts.releases;
      budgets = shaped.counts.budgets;
      orders = length-take-le n p.plan.order (omega (arith, enough.few, shaped.counts.orders));
      cleanings = first_count n (machines p) p.plan.clean enough.few shaped.counts.cleanings;
    };
    limits = record {
      releases = shaped.limits.releases;
      budgets = shaped.limits.budgets;
      cleanings = λ m inside. omega (arith, narrowed-alike.cleans m, shaped.limits.cleanings m (omega (arith, inside, enough.few)));
    };
    orders = narrowed_order;
  }

  module _ (c : Cell) (sound : IsSound p c) where
    -- nobody entered the others, and none of them is being cleaned
    others_unused : (m : ℕ) → n ≤ m → machine_in c m ≡ unused
    others_unused m past = unused_of (entries c m) (cleaning c m) none refl
      where
        none : entries c m ≡ []
        none = let (rest, e) = sound.in_order m in front_none (entries c m) rest (sym e ∙ enough.unvisited m past)
          where
            front_none : (xs ys : List ℕ) → xs ++ ys ≡ [] → xs ≡ []
            front_none [] ys is = refl
            front_none (x ∷ xs) ys is = absurd (omega (arith, ap length is))

        unused_of : (es : List ℕ) (o : Option ℕ) → es ≡ [] → o ≡ cleaning c m → (let s : MachineState = record { entries = es; cleaning = o } in s ≡ unused)
        unused_of es None is same = ap {B = MachineState} (λ (xs : List ℕ). record { entries = xs; cleaning = None }) is
        unused_of es (Some s) is same = absurd (omega (arith, sound.cleaned_entered m s (sym same), ap length none))

    pub narrowed-cells : AreCellsAlike c (narrowed_cell n c)
    narrowed-cells = record { jobs = refl; machines = λ m. first_get n c.machines m unused (others_unused m); last = refl }

  -- a write to a machine is one to that of the first
  machine_put : (c : Cell) (m : ℕ) (s : MachineState) → with_machine (narrowed_cell n c) m s ≡ narrowed_cell n (with_machine c m s)
  machine_put c m s = ap {B = Cell} (λ (ms : List MachineState). record { jobs = c.jobs; machines = ms; last = c.last }) (sym (take_set n c.machines m s))

  leaving_same : (c : Cell) (spot : Spot) (t : ℕ) → ((m : ℕ) → machine_in (narrowed_cell n c) m ≡ machine_in c m) → after_leaving q (narrowed_cell n c) spot t ≡ narrowed_cell n (after_leaving p c spot t)
  leaving_same c Out t same = refl
  leaving_same c (At m) t same =
      ap {B = Cell} (λ (x : ℕ). if nat_lt 0 x then with_machine (narrowed_cell n c) m (record (machine_in (narrowed_cell n c) m) { cleaning = Some t }) else narrowed_cell n c) (narrowed-alike.cleans m)
      ∙ go (nat_lt 0 (clean p m))
    where
      go : (b : Bool) → (if b then with_machine (narrowed_cell n c) m (record (machine_in (narrowed_cell n c) m) { cleaning = Some t }) else narrowed_cell n c)
          ≡ narrowed_cell n (if b then with_machine c m (record (machine_in c m) { cleaning = Some t }) else c)
      go true = ap (λ (s : MachineState). with_machine (narrowed_cell n c) m (record s { cleaning = Some t })) (same m) ∙ machine_put c m (record (machine_in c m) { cleaning = Some t })
      go false = refl

  entering_same : (c : Cell) (j : ℕ) (spot : Spot) → ((m : ℕ) → spot ≡ At m → m < n) → with_entry (narrowed_cell n c) j spot ≡ narrowed_cell n (with_entry c j spot)
  entering_same c j Out first = refl
  entering_same c j (At m) first =
      ap (λ (s : MachineState). with_machine (narrowed_cell n c) m (record s { entries = s.entries ++ j ∷ [] })) (get_or-take n c.machines m unused (first m refl))
      ∙ machine_put c m (record (machine_in c m) { entries = entries c m ++ j ∷ [] })

  module _ (c : Cell) (sound : IsSound p c) where
    abbrev d : Cell
    d = narrowed_cell n c

    cells : AreCellsAlike c d
    cells = narrowed-cells c sound

    pub move_same : (j t : ℕ) → after_move q d j t ≡ narrowed_cell n (after_move p c j t)
    move_same j t =
        ap₂ (λ (a b : Spot). with_moved (with_entry (after_leaving q d a t) j b) j t) (source_there p q narrowed-alike c d cells j) (target_there p q narrowed-alike c d cells j)
        ∙ ap (λ (x : Cell). with_moved (with_entry x j (target p c j)) j t) (leaving_same c (source p c j) t cells.machines)
        ∙ ap (λ (x : Cell). with_moved x j t) (entering_same (after_leaving p c (source p c j) t) j (target p c j) (λ m is. visited_first j (made c j) m (visits_target p c j m is)))

    pub report_same : (r : Report) → after_report d r ≡ narrowed_cell n (after_report c r)
    report_same (Arrive j t) = refl
    report_same (Finish j m t) = refl
    report_same (Clean m t) =
        ap (λ (s : MachineState). record (with_machine d m (record s { cleaning = None })) { last = t }) (cells.machines m)
        ∙ ap {B = Cell} (λ (x : Cell). record x { last = t }) (machine_put c m (record (machine_in c m) { cleaning = None }))

    event_same : (e : Event) → after q d e ≡ narrowed_cell n (after p c e)
    event_same (Reported r) = report_same r
    event_same (Moved o) = move_same o.job o.at

  events_there : (c : Cell) (es : List Event) → IsSound p c → AreEvents p c es → AreEvents q (narrowed_cell n c) es × (after_all q (narrowed_cell n c) es ≡ narrowed_cell n (after_all p c es))
  events_there c [] sound events = (tt, refl)
  events_there c (e ∷ es) sound (can, events) =
      let (rest, ends) = events_there (after p c e) es (after-sound p c e shaped sound can) events in (
        (happens_there p q narrowed-alike c (narrowed_cell n c) (narrowed-cells c sound) e can, subst (λ x. AreEvents q x es) (sym (event_same c sound e)) rest),
        ap (λ x. after_all q x es) (event_same c sound e) ∙ ends,
      )

  events_back : (c : Cell) (es : List Event) → IsSound p c → AreEvents q (narrowed_cell n c) es → AreEvents p c es
  events_back c [] sound events = tt
  events_back c (e ∷ es) sound (can, events) =
      let here : CanHappen p c e = happens_there q p (alike_back p q narrowed-alike) (narrowed_cell n c) c (cells_back c (narrowed_cell n c) (narrowed-cells c sound)) e can in
      (here, events_back (after p c e) es (after-sound p c e shaped sound here) (subst (λ x. AreEvents q x es) (event_same c sound e) events))

  start_same : start q ≡ narrowed_cell n (start p)
  start_same = ap {B = Cell} (λ (ms : List MachineState). record { jobs = (start p).jobs; machines = ms; last = 0 }) (sym (take-replicate n (machines p) unused enough.few))

  run_there : (es : List Event) → IsRun p es → IsRun q es × (ends_in q es ≡ narrowed_cell n (ends_in p es))
  run_there es run =
      let (events, ends) = events_there (start p) es (start-sound p shaped) run in
      (subst (λ x. AreEvents q x es) (sym start_same) events, ap (λ x. after_all q x es) start_same ∙ ends)

  pub narrowed-runs : HasTheSameRuns p q
  narrowed-runs = record {
    shaped = narrowed-shaped;
    runs = λ es. (λ run. (run_there es run).0, λ run. events_back (start p) es (start-sound p shaped) (subst (λ x. AreEvents q x es) start_same run));
    ends = λ es run. (run_there es run).1;
  }
