-- A planned shop without the machine that nobody visits is that with its first machines alone.
use Rattle.std.proofs.Common.{◌≡◌, ℕ, ◌+◌, ◌≤◌, inl, inr, List, [], ◌∷◌, length, take, Option, None, Some, Bool, true, false, nat_eq, ◌&&◌, if◌then◌else◌, le_refl, refl, ap, ◌∙◌, subst, arith}
use Rattle.std.proofs.lemmas.Bool.{cases_eq, eqb-true}
use Rattle.std.proofs.lemmas.List.{get_or_past, take_all}
use Rattle.shop_base.specs.declared.shop.Step.{Step}
use Rattle.shop_base.specs.Plan.{PlannedShop, ShopPlan, machines, clean, clean_in, HasCleanCount, order, IsWellShaped}
use Rattle.run_pruning.specs.Spare.{first_cleanings, narrowed, has_spare, without_spare}
use Rattle.run_pruning.specs.SpareLaw.{HasTheSameRuns, TheRunsAreTheSame}
use Rattle.run_pruning.proofs.PrunedShops.{planned_parts}
use Rattle.run_pruning.proofs.Narrowed.{AreEnough, narrowed-shaped, narrowed-runs}

-- past the machines of a shop there is no cleaning time
clean_past : (o : Option (List ℕ)) (k m : ℕ) → HasCleanCount o k → k ≤ m → clean_in o m ≡ 0
clean_past None k m count past = refl
clean_past (Some times) k m count past = get_or_past times m 0 (omega (arith, count, past))

first_all : (o : Option (List ℕ)) (k : ℕ) → HasCleanCount o k → first_cleanings k o ≡ o
first_all None k count = refl
first_all (Some times) k count = ap {B = Option (List ℕ)} (λ (ts : List ℕ). Some ts) (take_all k times (omega (arith, count)))

length_none : (xs : List ℕ) → length xs ≡ 0 → xs ≡ []
length_none [] is = refl
length_none (x ∷ xs) is = absurd (omega (arith, is))

both_true : (a b : Bool) → (a && b) ≡ true → (a ≡ true) × (b ≡ true)
both_true true true is = (refl, refl)
both_true true false is = absurd (cc)
both_true false b is = absurd (cc)

module _ (p : PlannedShop) (shaped : IsWellShaped p) where
  past_unvisited : (m : ℕ) → machines p ≤ m → order p m ≡ []
  past_unvisited m past = get_or_past p.plan.order m [] (omega (arith, past, shaped.counts.orders))

  past_uncleaned : (m : ℕ) → machines p ≤ m → clean p m ≡ 0
  past_uncleaned m past = clean_past p.plan.clean (machines p) m shaped.counts.cleanings past

  -- all its machines are enough, and it is the shop with these
  all_enough : AreEnough p (machines p)
  all_enough = record { few = le_refl (machines p); unvisited = past_unvisited; uncleaned = past_uncleaned }

  narrowed_all : narrowed (machines p) p ≡ p
  narrowed_all = planned_parts p (machines p) p.shop.recirculates p.shop.routes p.plan.release p.plan.budget (take (machines p) p.plan.order) (first_cleanings (machines p) p.plan.clean)
      refl refl refl refl refl (take_all (machines p) p.plan.order (omega (arith, shaped.counts.orders))) (first_all p.plan.clean (machines p) shaped.counts.cleanings)

  module _ (plant : ℕ) where
    -- those of the plant are enough where the last is spare
    plant_enough : has_spare p plant ≡ true → AreEnough p plant
    plant_enough spare =
        let (one, more) = both_true (nat_eq (machines p) (plant + 1)) (nat_eq (length (order p plant)) 0 && nat_eq (clean p plant) 0) spare in
        let (none, free) = both_true (nat_eq (length (order p plant)) 0) (nat_eq (clean p plant) 0) more in
        let count : machines p ≡ plant + 1 = eqb-true (machines p) (plant + 1) one in record {
          few = omega (arith, count);
          unvisited = λ m past. elim (cases_eq m plant) [
            | inl same ↦ ap (order p) same ∙ length_none (order p plant) (eqb-true (length (order p plant)) 0 none)
            | inr apart ↦ past_unvisited m (omega (arith, past, apart, count))
          ];
          uncleaned = λ m past. elim (cases_eq m plant) [
            | inl same ↦ ap (clean p) same ∙ eqb-true (clean p plant) 0 free
            | inr apart ↦ past_uncleaned m (omega (arith, past, apart, count))
          ];
        }

    -- without a spare machine, if there is one, it is the shop with so many machines
    pub left_enough : (n : ℕ) × AreEnough p n × (narrowed n p ≡ without_spare p plant)
    left_enough = go (has_spare p plant) refl
      where
        go : (b : Bool) → has_spare p plant ≡ b → (n : ℕ) × AreEnough p n × (narrowed n p ≡ (if b then narrowed plant p else p))
        go true spare = (plant, plant_enough spare, refl)
        go false none = (machines p, all_enough, narrowed_all)

-- what is made of the parts is well shaped
pub made-shaped : (p : PlannedShop) (plant : ℕ) (routes : List (List Step)) (again : Bool) (plan parts : ShopPlan) → IsWellShaped p → has_spare p plant ≡ true
    → routes ≡ p.shop.routes → again ≡ p.shop.recirculates → parts ≡ p.plan
    → plan ≡ record { release = parts.release; budget = parts.budget; order = take plant parts.order; clean = first_cleanings plant parts.clean }
    → IsWellShaped (record { shop = record { machines = plant; routes = routes; recirculates = again }; plan = plan })
made-shaped p plant routes again plan parts shaped spare one two three four = rw (four, three, two, one) (narrowed-shaped p plant shaped (plant_enough p shaped plant spare))

pub the_runs_are_the_same-holds : TheRunsAreTheSame
the_runs_are_the_same-holds p plant shaped =
    let (n, enough, is) = left_enough p shaped plant in
    subst (λ x. HasTheSameRuns p x) is (narrowed-runs p n shaped enough)
