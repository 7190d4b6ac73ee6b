-- What is known of an objective while what lies between a bound and a plan is halved.
use Rattle.std.proofs.Common.{◌≡◌, ℕ, ◌<◌, ◌≤◌, List, length, slice_index, set, arith, sym, ap, ◌∙◌, subst, inl, inr}
use Rattle.std.proofs.lemmas.Bool.{cases_eq}
use Rattle.std.proofs.lemmas.List.{get_or-set_same, get_or-set_other, length-set}
use Rattle.shop_base.specs.declared.limits.TheConstants.{MAX_MOMENT}
use Rattle.shop_base.specs.Plan.{PlannedShop, jobs}
use Rattle.plan_seek.specs.Tasks.{with_order}
use Rattle.plan_decide.specs.declared.aim.Objective.{Objective}
use Rattle.plan_decide.specs.declared.aim.Objective.TheVariants.{Makespan, Leaving}
use Rattle.plan_decide.specs.declared.decided.Within.{Within}
use Rattle.plan_decide.specs.declared.halving.Best.{Best}
use Rattle.plan_decide.specs.declared.halving.Halfway.{Halfway}
use Rattle.plan_decide.specs.Cases.{Case, HasValue, IsAcceptedFromPast, with_budget}
use Rattle.plan_decide.specs.Objectives.{IsLeastValue}
use Rattle.plan_decide.specs.Decisions.{IsAcceptedWith, given_with}
use Rattle.plan_decide.specs.Settings.{plan_of}
use Rattle.plan_decide.specs.Halves.{IsFree, IsFoundWith, IsHalfway, IsHalved}
use Rattle.plan_decide.proofs.Budgets.{shaped_again, keeps_again, acyclic_again, out_again, out_later, leaving_value_again}
use Rattle.plan_decide.proofs.Bounded.{good_acyclic, good_out, good_from}

-- a plan that is accepted with an earlier budget of a job is accepted without a promise to it
loosened : (t : Case) (j n : ℕ) (order : List (List ℕ)) → IsFree t (Leaving j) → IsAcceptedFromPast t.past (with_order (with_budget t j n).task order) → IsAcceptedFromPast t.past (with_order t.task order)
loosened t j n order free accepted = record {
  shaped = shaped_again p t.task.budget accepted.shaped count few;
  keeps = keeps_again t.past p t.task.budget accepted.keeps;
  acceptable = good_from t.past (with_order t.task order) (acyclic_again p t.task.budget (good_acyclic t.past p accepted.acceptable))
      (λ i inside waits. out_again t.past p t.task.budget i (slice_index t.task.budget i)
      (out_later t.past p i (slice_index (set t.task.budget j n) i) (slice_index t.task.budget i) (earlier i inside) (good_out t.past p i accepted.acceptable inside waits)));
}
  where
    p : PlannedShop
    p = with_order (with_budget t j n).task order

    count : length t.task.budget ≡ jobs p
    count = sym (length-set t.task.budget j n) ∙ accepted.shaped.counts.budgets

    here : j < length t.task.budget
    here = omega (arith, free.0, count)

    earlier : (i : ℕ) → i < jobs p → slice_index (set t.task.budget j n) i ≤ slice_index t.task.budget i
    earlier i inside = elim (cases_eq i j) [
      | inl same ↦ (let at : slice_index (set t.task.budget j n) i ≡ n = ap (slice_index (set t.task.budget j n)) same ∙ get_or-set_same t.task.budget j n 0 here in
          let most : slice_index (set t.task.budget j n) i ≤ MAX_MOMENT = accepted.shaped.limits.budgets i inside in
          let there : slice_index t.task.budget i ≡ MAX_MOMENT = ap (slice_index t.task.budget) same ∙ free.1 in
          omega (arith, most, there))
      | inr apart ↦ (let at : slice_index (set t.task.budget j n) i ≡ slice_index t.task.budget i = get_or-set_other t.task.budget j i n 0 apart in omega (arith, at))
    ]

    few : (i : ℕ) → i < jobs p → slice_index t.task.budget i ≤ MAX_MOMENT
    few i inside = elim (cases_eq i j) [
      | inl same ↦ (let there : slice_index t.task.budget i ≡ MAX_MOMENT = ap (slice_index t.task.budget) same ∙ free.1 in omega (arith, there))
      | inr apart ↦ (let at : slice_index (set t.task.budget j n) i ≡ slice_index t.task.budget i = get_or-set_other t.task.budget j i n 0 apart in
          let most : slice_index (set t.task.budget j n) i ≤ MAX_MOMENT = accepted.shaped.limits.budgets i inside in omega (arith, at, most))
    ]

-- the best plan isn't below the moment below which none is
found_apart : (t : Case) (objective : Objective) (best : Best) (n : ℕ) → IsFree t objective → IsFoundWith t objective best → IsLeastValue t objective n → n ≤ best.value
found_apart t Makespan best n free found least =
    least (plan_of best.plan).plan.order best.value (subst (IsAcceptedFromPast t.past) found.plan.same found.plan.accepted) (subst (λ p. HasValue t.past Makespan p best.value) found.plan.same found.value)
found_apart t (Leaving j) best n free found least =
    let order = (plan_of best.plan).plan.order in
    let accepted = subst (IsAcceptedFromPast t.past) found.plan.same found.plan.accepted in
    let value = subst (λ p. HasValue t.past (Leaving j) p best.value) found.plan.same found.value in
    least order best.value (loosened t j best.value order free accepted) (leaving_value_again t.past (with_order (with_budget t j best.value).task order) t.task.budget j best.value value)

pub halved : (t : Case) (objective : Objective) (halfway : Halfway) (within : Within) → IsFree t objective → within.at_least ≡ halfway.at_least → within.at_most ≡ halfway.best.value → within.ended_open ≡ halfway.ended_open
    → halfway.best.value ≤ halfway.low → IsHalfway t objective halfway → IsHalved t objective (halfway.best.plan, within)
halved t objective halfway within free lower upper opened end known =
    let apart = found_apart t objective halfway.best halfway.at_least free known.found known.least in
    record {
      plan = subst (λ n. IsAcceptedWith (given_with t objective n) (plan_of halfway.best.plan)) (sym upper) known.found.plan;
      fits = known.found.fits;
      value = subst (HasValue t.past objective (plan_of halfway.best.plan)) (sym upper) known.found.value;
      least = subst (IsLeastValue t objective) (sym lower) known.least;
      apart = omega (arith, apart, lower, upper);
      exact = λ closed. (let same = known.same (sym opened ∙ closed) in omega (arith, same, apart, end, lower, upper));
    }

-- a leaving is the same in a plan with the same orders and another budget of the job
pub leaving_again : (t : Case) (j m n : ℕ) (loose plan : PlannedShop) → IsAcceptedWith (with_budget t j m) loose → IsAcceptedWith (with_budget t j n) plan → loose.plan.order ≡ plan.plan.order
    → HasValue t.past (Leaving j) loose n → HasValue t.past (Leaving j) plan n
leaving_again t j m n loose plan one other same value =
    let order = plan.plan.order in
    let is : loose ≡ with_order (with_budget t j m).task order = one.same ∙ ap (with_order (with_budget t j m).task) same in
    let there : HasValue t.past (Leaving j) (with_order (with_budget t j m).task order) n = subst (λ p. HasValue t.past (Leaving j) p n) is value in
    subst (λ p. HasValue t.past (Leaving j) p n) (sym other.same) (leaving_value_again t.past (with_order (with_budget t j m).task order) (set t.task.budget j n) j n there)
