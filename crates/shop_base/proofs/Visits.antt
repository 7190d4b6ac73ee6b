-- Facts of visits and of places in orders, in a well-shaped plan.
use Rattle.std.proofs.Common.{◌≡◌, ℕ, zero, suc, ◌<◌, ◌≤◌, [], length, drop, drop-cons, drop_of_length-le, ap, arith, refl, subst, lt_of_not-le, ◌⊎◌, inl, inr, ⊎_elim, ◌+◌, sym, ◌∙◌, eq-eqb, nat_eq}
use Rattle.std.proofs.lemmas.Bool.{cases_eq, cases_lt}
use Rattle.std.proofs.lemmas.List.{get_or_past, length-drop}
use Rattle.shop_base.specs.declared.move_order.Spot.TheVariants.{Out, At}
use Rattle.shop_base.specs.Shop.{IsSoundStep, no_step}
use Rattle.shop_base.specs.Plan.{PlannedShop, jobs, machines, route, steps, machine_of, order, job_at, Visits, Stands, IsOrder, IsWellShaped}
use Rattle.shop_base.specs.Cell.{Cell, made, IsOn}
use Rattle.shop_base.specs.Move.{first_stop, CanLeave}
use Rattle.shop_base.proofs.Counting.{count_apart, count_rises, count_less, count_same}

-- only a job of the shop has steps
pub steps_job : (p : PlannedShop) (j k : ℕ) → k < steps p j → j < jobs p
steps_job p j k within = lt_of_not-le λ past. absurd (omega (arith, ap length (get_or_past p.shop.routes j [] past)))

-- only a job of the shop visits a machine
pub visits_job : (p : PlannedShop) (j k m : ℕ) → Visits p j k m → j < jobs p
visits_job p j k m visits = steps_job p j k visits.within

-- step k of job j is a sound step
pub visits-sound : (p : PlannedShop) (j k m : ℕ) → IsWellShaped p → Visits p j k m → IsSoundStep (machines p) p.shop.recirculates (route p j) k
visits-sound p j k m shaped visits = (shaped.shop.routes j (visits_job p j k m visits)).steps k visits.within

-- only machines of the shop are visited
pub visits_machine : (p : PlannedShop) (j k m : ℕ) → IsWellShaped p → Visits p j k m → m < machines p
visits_machine p j k m shaped visits = omega (arith, visits.here, (visits-sound p j k m shaped visits).in_range)

-- a job doesn't visit a machine in two steps in a row
pub visits_apart : (p : PlannedShop) (j k l m : ℕ) → IsWellShaped p → Visits p j k m → Visits p j l m → l ≡ k + 1 → ⊥
visits_apart p j k l m shaped one other next = (visits-sound p j l m shaped other).elsewhere (k, omega (arith, next), one.here ∙ sym other.here)

-- the order of a machine that is visited is sound
pub visits-order : (p : PlannedShop) (j k m : ℕ) → IsWellShaped p → Visits p j k m → IsOrder p m
visits-order p j k m shaped visits = shaped.orders m (visits_machine p j k m shaped visits)

-- the place of a visit in the order of its machine
pub visits-stands : (p : PlannedShop) (j k m : ℕ) → IsWellShaped p → Visits p j k m → (a : ℕ) × Stands p m a j k
visits-stands p j k m shaped visits = (visits-order p j k m shaped visits).complete j k visits

-- a visit stands once in an order
pub stands_once : (p : PlannedShop) (m a b j k : ℕ) → Stands p m a j k → Stands p m b j k → a ≡ b
stands_once p m a b j k one other =
    count_apart (λ (x : ℕ). nat_eq (job_at p m x) j) a b (eq-eqb (job_at p m a) j one.job) (eq-eqb (job_at p m b) j other.job) (one.turn ∙ sym other.turn)

-- a place is for one visit
pub stands_step : (p : PlannedShop) (m a j k l : ℕ) → Stands p m a j k → Stands p m a j l → k ≡ l
stands_step p m a j k l one other =
    count_apart (λ (x : ℕ). nat_eq (machine_of p j x) m) k l (eq-eqb (machine_of p j k) m one.visits.here) (eq-eqb (machine_of p j l) m other.visits.here) (sym one.turn ∙ other.turn)

-- a place is for the same visit in a plan that has the same jobs up to there, and the job the same steps up to its own
pub stands_alike : (p q : PlannedShop) (m a j k : ℕ) → Stands p m a j k → a < length (order q m) → ((b : ℕ) → b ≤ a → job_at q m b ≡ job_at p m b)
    → k < steps q j → ((i : ℕ) → i ≤ k → machine_of q j i ≡ machine_of p j i) → Stands q m a j k
stands_alike p q m a j k stands within places below machines = record {
  within = within;
  job = places a (omega arith) ∙ stands.job;
  visits = record { within = below; here = machines k (omega arith) ∙ stands.visits.here };
  turn = count_same (λ (b : ℕ). nat_eq (job_at q m b) j) (λ (b : ℕ). nat_eq (job_at p m b) j) a (λ b less. ap (λ (x : ℕ). nat_eq x j) (places b (omega arith))) ∙ stands.turn
      ∙ count_same (λ (i : ℕ). nat_eq (machine_of p j i) m) (λ (i : ℕ). nat_eq (machine_of q j i) m) k (λ i less. ap (λ (x : ℕ). nat_eq x m) (sym (machines i (omega arith))));
}

-- a job stands in the order for its visits as its route has them
pub stands_in_turn : (p : PlannedShop) (m a b j k l : ℕ) → Stands p m a j k → Stands p m b j l → a < b → k < l
stands_in_turn p m a b j k l one other less =
    count_less (λ (x : ℕ). nat_eq (machine_of p j x) m) k l
    (omega (arith, one.turn, other.turn, count_rises (λ (x : ℕ). nat_eq (job_at p m x) j) a b (eq-eqb (job_at p m a) j one.job) less))

-- two jobs at one place of an order are one
pub stands_same : (p : PlannedShop) (m a i j k l : ℕ) → Stands p m a i k → Stands p m a j l → i ≡ j
stands_same p m a i j k l one other = cc

-- whether step k of job j is on machine m
pub visits_or_not : (p : PlannedShop) (j k m : ℕ) → Visits p j k m ⊎ (Visits p j k m → ⊥)
visits_or_not p j k m = go (cases_lt k (steps p j)) (cases_eq (machine_of p j k) m)
  where
    go : (k < steps p j) ⊎ (steps p j ≤ k) → (machine_of p j k ≡ m) ⊎ (machine_of p j k ≡ m → ⊥) → Visits p j k m ⊎ (Visits p j k m → ⊥)
    go (inl within) (inl here) = inl (record { within = within; here = here })
    go (inl within) (inr elsewhere) = inr λ visits. elsewhere visits.here
    go (inr past) _ = inr λ visits. omega (arith, visits.within)

-- whether job j is on machine m
pub on_or_not : (p : PlannedShop) (c : Cell) (j m : ℕ) → ((k : ℕ) × IsOn p c j k m) ⊎ ((k : ℕ) → IsOn p c j k m → ⊥)
on_or_not p c j m = go (made c j) refl
  where
    go : (n : ℕ) → made c j ≡ n → ((k : ℕ) × IsOn p c j k m) ⊎ ((k : ℕ) → IsOn p c j k m → ⊥)
    go zero outside = inr λ k on. omega (arith, on.entered)
    go (suc n) is = ⊎_elim
        (λ visits. inl (n, record { entered = omega arith; visits = visits }))
        (λ elsewhere. inr λ k on. let same : k ≡ n = omega (arith, on.entered) in elsewhere (subst (λ (l : ℕ). Visits p j l m) same on.visits))
        (visits_or_not p j n m)

-- what is left of a route begins with the machine of its next step
pub stop_at : (p : PlannedShop) (j k m : ℕ) → Visits p j k m → first_stop (drop k (route p j)) ≡ At m
stop_at p j k m visits = rw (drop-cons (route p j) k no_step visits.within) (ap At visits.here)

-- and is nothing, once all its steps are behind
pub stop_past : (p : PlannedShop) (j k : ℕ) → steps p j ≤ k → first_stop (drop k (route p j)) ≡ Out
stop_past p j k past = ap first_stop (drop_of_length-le (route p j) past)

-- a job can leave exactly where it has entered all its steps
pub leaves_past : (p : PlannedShop) (c : Cell) (j : ℕ) → CanLeave p c j → steps p j ≤ made c j
leaves_past p c j leaves = omega (arith, ap length leaves, length-drop (made c j) (route p j))

pub past_leaves : (p : PlannedShop) (c : Cell) (j : ℕ) → steps p j ≤ made c j → CanLeave p c j
past_leaves p c j past = drop_of_length-le (route p j) past
