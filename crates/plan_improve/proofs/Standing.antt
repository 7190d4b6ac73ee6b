-- The rest to which what is fixed leads, by plans that differ in their orders alone.
use Rattle.std.proofs.Common.{◌≡◌, ℕ, ◌<◌, ◌≤◌, List, [], ◌∷◌, ◌++◌, length, length-append, Option, arith, inl, inr, refl, sym, ap, ◌∙◌, subst}
use Rattle.std.proofs.lemmas.{Bool.cases_lt, List.get_or_past}
use Rattle.shop_base.specs.Plan.{job_at}
use Rattle.shop_base.proofs.{InShop.start_unused, Visits.visits_job}
use Rattle.plan_improve.proofs.Common.{AfterRound, BeginsWithEntries, Best, Cell, Cost, Fixed, NothingIsDone, IsLast, IsNextOf, IsSound, IsWellShaped, MachineState, Nothing, PartAhead, PlannedShop, Progress, Proposal, ReportedRounds, RestOfRun, Run, Setting, IsRestOfDone, Watched, entries, machines, order, reordered, setting_of, start}
use Rattle.plan_improve.proofs.Once.{setting_same}

-- nobody has entered a machine at the start
start_begins : (p q : PlannedShop) (c : Cell) → c ≡ start p → BeginsWithEntries c q
start_begins p q c same m = (order q m, sym (ap (λ es. es ++ order q m) (ap (λ (x : Cell). entries x m) same ∙ ap (λ (x : MachineState). x.entries) (start_unused p m))))

-- it is the same by a plan whose orders begin with the entries
pub stands_by : (fixed : Fixed) (x y : RestOfRun PlannedShop) (orders : List (List ℕ)) → IsRestOfDone (setting_of fixed x) x → y.plan ≡ reordered x.plan orders → y.cell ≡ x.cell → y.present ≡ x.present
    → BeginsWithEntries x.cell y.plan → IsRestOfDone (setting_of fixed x) y
stands_by (Nothing at_least) x y orders stands plan cell present begins = (cell ∙ stands.0 ∙ sym (ap start plan), present ∙ stands.1)
stands_by (Run left) x y orders stands plan cell present begins = (begins, cell, present)

-- and only by such a plan there is a cost
pub costs_begin : (fixed : Fixed) (x : RestOfRun PlannedShop) (q : PlannedShop) (cost : Cost) → IsRestOfDone (setting_of fixed x) x → (setting_of fixed x).costs q cost → BeginsWithEntries x.cell q
costs_begin (Nothing at_least) x q cost stands costs = start_begins x.plan q x.cell stands.0
costs_begin (Run left) x q cost stands costs = costs.begins

-- where no job has arrived, nobody has entered a machine
module _ (p : PlannedShop) (c : Cell) (shaped : IsWellShaped p) (sound : IsSound p c) (fresh : NothingIsDone p c) where
  -- a job that stands first in an order would have made a move
  none_first : (m : ℕ) → m < machines p → 0 < length (entries c m) → ⊥
  none_first m inside some =
      let (rest, whole) = sound.in_order m in
      let here : 0 < length (order p m) = omega (arith, ap length whole, length-append (entries c m) rest, some) in
      let (k, first) = (shaped.orders m inside).on_route 0 here in
      let moved = sound.entered_made m 0 (job_at p m 0) k first some in
      omega (arith, moved, (fresh (job_at p m 0) (visits_job p (job_at p m 0) k m first.visits)).0)

  none_past : (m : ℕ) → machines p ≤ m → 0 < length (entries c m) → ⊥
  none_past m past some =
      let (rest, whole) = sound.in_order m in
      omega (arith, ap length whole, length-append (entries c m) rest, ap length (get_or_past p.plan.order m [] (omega (arith, past, shaped.counts.orders))), some)

  nobody_entered : (m : ℕ) (es : List ℕ) → entries c m ≡ es → es ≡ []
  nobody_entered m [] is = refl
  nobody_entered m (e ∷ es) is = absurd (elim (cases_lt m (machines p)) [
    | inl inside ↦ none_first m inside (omega (arith, ap length is))
    | inr past ↦ none_past m past (omega (arith, ap length is))
  ])

-- where nothing was done yet, any orders do
pub fresh_begins : (fixed : Fixed) (x : RestOfRun PlannedShop) (q : PlannedShop) → IsWellShaped x.plan → IsSound x.plan x.cell → IsRestOfDone (setting_of fixed x) x → (setting_of fixed x).fresh x.plan
    → BeginsWithEntries x.cell q
fresh_begins (Nothing at_least) x q shaped sound stands fresh = start_begins x.plan q x.cell stands.0
fresh_begins (Run left) x q shaped sound stands fresh =
    λ m. (order q m, sym (ap (λ es. es ++ order q m) (nobody_entered x.plan x.cell shaped sound fresh m (entries x.cell m) refl)))

-- what is fixed of a rest, said of one to which that leads
module _ (fixed : Fixed) (r x : RestOfRun PlannedShop) (stands : IsRestOfDone (setting_of fixed r) x) where
  same : setting_of fixed x ≡ setting_of fixed r
  same = setting_same fixed r x stands

  pub stands_own : IsRestOfDone (setting_of fixed x) x
  stands_own = subst (λ (s : Setting). IsRestOfDone s x) (sym same) stands

  pub costs_own : (p : PlannedShop) (cost : Cost) → (setting_of fixed r).costs p cost → (setting_of fixed x).costs p cost
  costs_own p cost is = subst (λ (s : Setting). s.costs p cost) (sym same) is

  pub costs_back : (p : PlannedShop) (cost : Cost) → (setting_of fixed x).costs p cost → (setting_of fixed r).costs p cost
  costs_back p cost is = subst (λ (s : Setting). s.costs p cost) same is

  pub next_back : (may : Proposal → Type 0) (best kept : Best) → IsNextOf (setting_of fixed x) may best kept → IsNextOf (setting_of fixed r) may best kept
  next_back may best kept is = subst (λ (s : Setting). IsNextOf s may best kept) same is

  pub round_back : {B : Type 0} (may : B → PlannedShop → Option PartAhead → ℕ → Proposal → Type 0) (improvers : List B) (n : ℕ) (p : PlannedShop) (cost : Cost) (kept : Best)
      → IsLast (setting_of fixed x) (AfterRound (setting_of fixed x) may improvers n) p cost kept → IsLast (setting_of fixed r) (AfterRound (setting_of fixed r) may improvers n) p cost kept
  round_back may improvers n p cost kept is = subst (λ (s : Setting). IsLast s (AfterRound s may improvers n) p cost kept) same is

  pub rounds_back : {B : Type 0} (may : B → PlannedShop → Option PartAhead → ℕ → Proposal → Type 0) (improvers : List B) (before after : Option (List Progress)) (rounds : ℕ) (p : PlannedShop) (cost : Cost)
      (kept : Best) → IsLast (setting_of fixed x) (Watched before after (ReportedRounds (setting_of fixed x) may improvers rounds)) p cost kept
      → IsLast (setting_of fixed r) (Watched before after (ReportedRounds (setting_of fixed r) may improvers rounds)) p cost kept
  rounds_back may improvers before after rounds p cost kept is = subst (λ (s : Setting). IsLast s (Watched before after (ReportedRounds s may improvers rounds)) p cost kept) same is
