-- A step that is made behind a job's others, before the first job of the order that can leave only behind the job's next move.
use Rattle.std.proofs.Common.{ℕ, ◌<◌, ◌≤◌, inl, inr, [], ◌∷◌, ◌++◌, length, subst, arith}
use Rattle.std.specs.Prelude.{◌↔◌}
use Rattle.std.proofs.lemmas.Bool.{cases_order}
use Rattle.shop_base.specs.declared.shop.Step.{Step}
use Rattle.shop_base.specs.Graph.{leaving}
use Rattle.shop_base.specs.Plan.{PlannedShop, machines, route, order}
use Rattle.plan_verifier.specs.Accepted.{HasNoCycle}
use Rattle.plan_revise.specs.Settings.{RevisionSetting}
use Rattle.plan_revise.specs.AnotherWay.{with_visit_at, IsOpenPlace, LocksEverywhere}
use Rattle.plan_revise.specs.Answers.{IsSendable}
use Rattle.plan_revise.specs.Reaching.{IsFirstReached}
use Rattle.plan_revise.specs.Fits.{IsSetting}
use Rattle.plan_revise.proofs.Holds.{entries_fit}
use Rattle.plan_revise.proofs.SentOn.{last-machine, wider-way, visit-revision}
use Rattle.plan_revise.proofs.BehindMove.{IsPlaceFor, cycle-behind, no-cycle-later}

module _ (s : RevisionSetting) (p : PlannedShop) (j : ℕ) (step : Step) (can : IsSendable s p j step) where
  pub sent-in_shop : step.machine < machines p
  sent-in_shop = last-machine (machines p) p.shop.recirculates (route p j) step (wider-way s p p.shop.recirculates (route p j ++ step ∷ []) can.revision can.sound)

  place_for : (a : ℕ) → IsOpenPlace s p j step.machine a → IsPlaceFor p j step a
  place_for a free = record {
    within = free.within;
    behind_own = free.behind_own;
    fits = (visit-revision s p j step a can.revision can.inside can.here can.sound free).fit;
  }

  -- the first place is within the order
  pub first-within : IsSetting s → (first : ℕ) → ((a : ℕ) → IsOpenPlace s p j step.machine a ↔ ((first ≤ a) × (a ≤ length (order p step.machine)))) → first ≤ length (order p step.machine)
  first-within is first free_from = ((free_from (length (order p step.machine))).0 (record {
    within = omega arith;
    behind_entries = entries_fit s is p can.revision step.machine (last-machine s.plant p.shop.recirculates (route p j) step can.sound);
    behind_own = λ b less mine. less;
  })).0

  module _ (first place : ℕ) (free_from : (a : ℕ) → IsOpenPlace s p j step.machine a ↔ ((first ≤ a) × (a ≤ length (order p step.machine)))) (found : IsFirstReached p (leaving p j) step.machine first place) where
    pub place-open : IsOpenPlace s p j step.machine place
    place-open = (free_from place).1 (found.after, found.within)

    -- behind it each place has a cycle
    pub none-further : (a : ℕ) → place < a → IsOpenPlace s p j step.machine a → HasNoCycle (with_visit_at p j step a) → ⊥
    none-further a more free acyclic = cycle-behind p j step can.revision.fit can.inside sent-in_shop a (place_for a free) place more (found.there (omega (arith, more, free.within))) acyclic

    -- where it has a cycle, each place has one
    pub locks-all : (HasNoCycle (with_visit_at p j step place) → ⊥) → LocksEverywhere s p j step
    locks-all cycle a free acyclic = elim (cases_order a place) [
      | inl same ↦ cycle (subst (λ b. HasNoCycle (with_visit_at p j step b)) same acyclic)
      | inr (inl less) ↦ cycle (no-cycle-later p j step can.revision.fit can.inside sent-in_shop place a (place_for place place-open) (place_for a free) (omega (arith, less)) acyclic
          (λ b at there. found.before b (omega (arith, less, at, ((free_from a).0 free).0)) (omega (arith, at)) there))
      | inr (inr more) ↦ none-further a more free acyclic
    ]
