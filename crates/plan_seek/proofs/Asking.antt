-- What comes of one proposal, of one round and of all rounds.
use Rattle.std.proofs.Common.{◌≡◌, ℕ, ◌+◌, ◌<◌, List, length, get_or, Some, inl, inr, refl, sym, ap, ◌∙◌, subst}
use Rattle.std.proofs.lemmas.Option.{slice_get_read}
use borrow.Author.Count.{below_more}
use Rattle.shop_base.specs.Shop.{JobShop}
use Rattle.shop_base.specs.Plan.{ShopPlan, PlannedShop, IsWellShaped}
use Rattle.shop_base.specs.declared.shape_fault.ShapeFault.{ShapeFault}
use Rattle.shop_base.specs.ShapeFault.{IsFirstShapeFault}
use Rattle.plan_verifier.specs.Accepted.{IsAcceptable}
use Rattle.plan_seek.specs.declared.attempt.Attempt.{Attempt}
use Rattle.plan_seek.specs.declared.attempt.Attempt.TheVariants.{Accepted, InVain, NoMemory}
use Rattle.plan_seek.specs.Orders.{Proposal}
use Rattle.plan_seek.specs.Tasks.{PlanTask, task_in, with_order}
use Rattle.plan_seek.specs.Turns.{PlanSearch, search_by, IsInVain, MayFail, IsFirstFound, EachMayFail, EachInRound, turn_of}
use Rattle.plan_seek.specs.Outcomes.{IsPlanFor, IsOutcome, IsFoundIn}
use Rattle.shop_base.proofs.Refusals.{shape_fault_refutes}

pub same_task : (s t : PlanTask) (one other : List (List ℕ)) → with_order s one ≡ with_order t other → s ≡ t
same_task s t one other same = ap task_in same

-- a plan with these orders was verified
pub shaped_outcome : (t : PlanTask) (orders : List (List ℕ)) (p : PlannedShop) (attempt : Attempt) → p ≡ with_order t orders
    → IsOutcome (task_in p) (λ found. found ≡ p.plan.order) (IsAcceptable p → ⊥) attempt
    → IsOutcome t (λ found. found ≡ orders) (IsInVain t (Some orders)) attempt
shaped_outcome t orders p (Accepted verified) is given = rw is at given
shaped_outcome t orders p (InVain back) is given =
    (given.0 ∙ ap task_in is, λ accepted. given.1 (subst IsAcceptable (sym is) accepted.acceptable))
shaped_outcome t orders p (NoMemory error back) is given = given ∙ ap task_in is

-- the plan with these orders isn't well shaped
pub refused_outcome : (t back : PlanTask) (orders : List (List ℕ)) (shop other_shop : JobShop) (plan other_plan : ShopPlan) (fault : ShapeFault)
    → record { shop = shop; plan = plan } ≡ with_order t orders → other_shop ≡ shop → other_plan ≡ plan
    → record { shop = other_shop; plan = other_plan } ≡ with_order back other_plan.order
    → IsFirstShapeFault (record { shop = shop; plan = plan }) fault
    → (back ≡ t) × IsInVain t (Some orders)
refused_outcome t back orders shop other_shop plan other_plan fault is same_shop same_plan behind first =
    let of_shop : JobShop → PlannedShop = λ s. record { shop = s; plan = other_plan } in
    let of_plan : ShopPlan → PlannedShop = λ q. record { shop = shop; plan = q } in (
      same_task back t other_plan.order orders (sym behind ∙ ap of_shop same_shop ∙ ap of_plan same_plan ∙ is),
      λ accepted. shape_fault_refutes (record { shop = shop; plan = plan }) fault first (subst IsWellShaped (sym is) accepted.shaped),
    )

module _ {B : Type 0} (proposers : List B) (may : B → JobShop → ℕ → Proposal → Type 0) where
  -- the search for a plan by these proposers
  abbrev asked : PlanTask → PlanSearch
  asked t = search_by may proposers t

  -- the proposer at a place was asked in vain, after those before it
  pub one_more_fails : (s t : PlanTask) (b : B) (round place : ℕ) → s ≡ t → place < length proposers → b ≡ get_or proposers place b
      → MayFail s (may b s.shop round) → EachInRound (asked t) round place → EachInRound (asked t) round (place + 1)
  one_more_fails s t b round place same within stands failed before =
      let moved : MayFail t (may b t.shop round) = subst (λ x. MayFail x (may b x.shop round)) same failed in
      below_more (λ k. MayFail t ((asked t).may (turn_of round k))) place before (record {
        proposal = moved.proposal;
        given = record { who = b; stands = slice_get_read proposers (length proposers) place b refl within stands; given = moved.given };
        in_vain = moved.in_vain;
      })

  -- the proposer at a place made a proposal that is accepted, after those before it failed
  pub found_in_round : (s t : PlanTask) (p : PlannedShop) (b : B) (round place : ℕ) → s ≡ t → place < length proposers → b ≡ get_or proposers place b
      → IsPlanFor s p × may b s.shop round (Some p.plan.order) → EachInRound (asked t) round place
      → IsPlanFor t p × IsFoundIn (asked t) round p.plan.order
  found_in_round s t p b round place same within stands found before =
      let moved : IsPlanFor t p × may b t.shop round (Some p.plan.order) =
      subst (λ x. IsPlanFor x p × may b x.shop round (Some p.plan.order)) same found in (
        moved.0,
        record {
          place = place;
          inside = within;
          given = record { who = b; stands = slice_get_read proposers (length proposers) place b refl within stands; given = moved.1 };
          before = before;
        },
      )

  -- a round was in vain, after those before it
  pub one_more_round : (s t : PlanTask) (round : ℕ) → s ≡ t → EachInRound (asked s) round (length proposers)
      → ((r : ℕ) → r < round → EachInRound (asked t) r (length proposers))
      → (r : ℕ) → r < round + 1 → EachInRound (asked t) r (length proposers)
  one_more_round s t round same failed before =
      below_more (λ r. EachInRound (asked t) r (length proposers)) round before
      (subst (λ x. EachInRound (asked x) round (length proposers)) same failed)

  -- a round gave a plan, after those before it were in vain
  pub found_after : (s t : PlanTask) (p : PlannedShop) (round rounds : ℕ) → s ≡ t → round < rounds
      → IsPlanFor s p × IsFoundIn (asked s) round p.plan.order
      → ((r : ℕ) → r < round → EachInRound (asked t) r (length proposers))
      → IsPlanFor t p × IsFirstFound (asked t) rounds p.plan.order
  found_after s t p round rounds same within found before =
      let moved : IsPlanFor t p × IsFoundIn (asked t) round p.plan.order =
      subst (λ x. IsPlanFor x p × IsFoundIn (asked x) round p.plan.order) same found in
      let first : IsFoundIn (asked t) round p.plan.order = moved.1 in (
        moved.0,
        record {
          turn = turn_of round first.place;
          inside = record { within_rounds = within; within_list = first.inside };
          given = first.given;
          before = λ earlier inside comes_before. elim comes_before [
            | inl sooner ↦ before earlier.round sooner earlier.proposer inside.within_list
            | inr later ↦ subst (λ r. MayFail t ((asked t).may (turn_of r earlier.proposer))) (sym later.0) (first.before earlier.proposer later.1)
          ];
        },
      )

  -- all rounds were in vain
  pub all_in_vain : (t : PlanTask) (rounds : ℕ) → ((r : ℕ) → r < rounds → EachInRound (asked t) r (length proposers))
      → EachMayFail (asked t) rounds
  all_in_vain t rounds each turn inside = each turn.round inside.within_rounds turn.proposer inside.within_list
