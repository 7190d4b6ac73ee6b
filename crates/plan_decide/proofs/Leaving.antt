-- Jobs left out in turn.
use Rattle.std.proofs.Common.{◌≡◌, ◌≢◌, ℕ, ◌+◌, ◌<◌, ◌≤◌, ◌==◌, ◌||◌, if◌then◌else◌, Bool, true, false, eqb-true, List, [], ◌∷◌, ◌++◌, map, length, set, slice_index, All, AllPairs, Contains, Option, None, Some, IsSome, is_some, Vec, Global, arith, refl, sym, ap, ◌∙◌, subst, inl, inr, true≢false, le_refl}
use Rattle.std.proofs.lemmas.Bool.{cases_eq, cases_lt, eq-eqb}
use Rattle.std.proofs.lemmas.List.{get_or_past, get_or-set_same, get_or-set_other, get_or-map, length-set, length-map}
use Rattle.std.proofs.lemmas.List.Elements.{All-nil, All-push, All-weaker, All-contains, Contains-append_left, Contains-push}
use Rattle.shop_base.specs.declared.limits.TheConstants.{MAX_MOMENT}
use Rattle.shop_base.specs.Plan.{PlannedShop, jobs}
use Rattle.plan_bounds.specs.Bounds.{times_of}
use Rattle.plan_limits.specs.Limits.{limit_of}
use Rattle.plan_decide.specs.declared.asked.Asked.TheVariants.{All as AllAsked, Both}
use Rattle.plan_decide.specs.declared.decided.Excluded.TheVariants.{Several}
use Rattle.plan_decide.specs.declared.leaving_out.Left.{Left}
use Rattle.plan_decide.specs.Cases.{Case, is_waiting, case_jobs, budget_in, times_in, with_budgets}
use Rattle.plan_decide.specs.Promises.{IsPromised}
use Rattle.plan_decide.specs.Excluding.{AreAllCyclic, AreExcluded, HasPlanFor, AreNeeded, AreNeededUnless, IsExclusion}
use Rattle.plan_decide.specs.Decisions.{IsAcceptedWith}
use Rattle.plan_decide.specs.Asking.{promise_in, AreLimits, NoPlanKeeps}
use Rattle.plan_decide.specs.LeftOut.{cap, AreLimited, ArePromised, CanKeep, IsLeft}
use Rattle.plan_decide.proofs.Limits.{limit_if, promise_is, promise_of}
use Rattle.plan_decide.proofs.Collecting.{is_either, has_either}
use Rattle.plan_decide.proofs.Pushing.{pairs_push}
use Rattle.plan_decide.proofs.Budgets.{rebudgeted, shaped_again, keeps_again, out_again, out_later, acyclic_again}
use Rattle.plan_decide.proofs.Bounded.{good_acyclic, good_out, good_from}

-- a job with a limit has a place in the list
limit_inside : (limits : List (Option ℕ)) (j n : ℕ) → limit_of limits j ≡ Some n → j < length limits
limit_inside limits j n is = elim (cases_lt j (length limits)) [
  | inl inside ↦ inside
  | inr past ↦ absurd (true≢false (sym (ap is_some (sym (get_or_past limits j None past) ∙ is))))
]

or_second : (a b : Bool) → b ≡ true → (a || b) ≡ true
or_second true b is = refl
or_second false b is = is

-- the limits without one of them
limit_gone : (limits : List (Option ℕ)) (k : ℕ) → k < length limits → limit_of (set limits k None) k ≡ None
limit_gone limits k inside = get_or-set_same limits k None None inside

limit_stays : (limits : List (Option ℕ)) (k i : ℕ) → i ≢ k → limit_of (set limits k None) i ≡ limit_of limits i
limit_stays limits k i apart = get_or-set_other limits k i None None apart

-- a limit that is left was there
limit_was : (limits : List (Option ℕ)) (k i n : ℕ) → k < length limits → limit_of (set limits k None) i ≡ Some n → (i ≢ k) × (limit_of limits i ≡ Some n)
limit_was limits k i n inside is =
    let apart : i ≢ k = λ same. true≢false (sym (ap is_some (sym (ap (limit_of (set limits k None)) same ∙ limit_gone limits k inside) ∙ is))) in
    (apart, sym (limit_stays limits k i apart) ∙ is)

-- the jobs that have limits, as they are collected
pub limited_none : (limits : List (Option ℕ)) → AreLimited limits 0 []
limited_none limits = record {
  below = All-nil (λ j. j < 0);
  ascending = λ a b d one two. absurd (omega (arith, two));
  limited = All-nil (λ j. IsSome (limit_of limits j));
  complete = λ j k before is. absurd (omega (arith, before));
}

pub limited_more : (limits : List (Option ℕ)) (n : ℕ) (js more : List ℕ) → more ≡ js ++ n ∷ [] → IsSome (limit_of limits n) → AreLimited limits n js → AreLimited limits (n + 1) more
limited_more limits n js more is some known = subst (AreLimited limits (n + 1)) (sym is) (record {
  below = All-push (λ j. j < n + 1) js n (All-weaker (λ j. j < n) (λ j. j < n + 1) (λ j lt. omega (arith, lt)) js known.below) (omega arith);
  ascending = pairs_push (λ i j. i < j) js n known.ascending known.below;
  limited = All-push (λ j. IsSome (limit_of limits j)) js n known.limited some;
  complete = λ j k lt has. elim (cases_eq j n) [
    | inl same ↦ subst (Contains (js ++ n ∷ [])) (sym same) (Contains-push js n)
    | inr other ↦ Contains-append_left js (n ∷ []) j (known.complete j k (omega (arith, lt, other)) has)
  ];
})

pub limited_passed : (limits : List (Option ℕ)) (n : ℕ) (js : List ℕ) → limit_of limits n ≡ None → AreLimited limits n js → AreLimited limits (n + 1) js
limited_passed limits n js none known = record {
  below = All-weaker (λ j. j < n) (λ j. j < n + 1) (λ j lt. omega (arith, lt)) js known.below;
  ascending = known.ascending;
  limited = known.limited;
  complete = λ j k lt has. elim (cases_eq j n) [
    | inl same ↦ absurd (true≢false (sym (ap is_some (sym (ap (limit_of limits) same ∙ none) ∙ has))))
    | inr other ↦ known.complete j k (omega (arith, lt, other)) has
  ];
}

module _ (t : Case) where
  fewer_promised : (limits : List (Option ℕ)) (k : ℕ) → k < case_jobs t → ArePromised t limits → ArePromised t (set limits k None)
  fewer_promised limits k inside are = record {
    count = length-set limits k None ∙ are.count;
    each = λ j n is. are.each j n (limit_was limits k j n (omega (arith, inside, are.count)) is).1;
  }

  -- the limits of all promises
  pub all_promised : (limits : List (Option ℕ)) → AreLimits t AllAsked (case_jobs t) limits → ArePromised t limits
  all_promised limits all = record {
    count = all.count;
    each = λ j n is.
        (let inside : j < case_jobs t = omega (arith, limit_inside limits j n is, all.count) in
        let promise = promise_is t j n (sym (all.each j inside) ∙ is) in
        (record { inside = inside; waits = promise.0; below = promise.1 }, promise.2));
  }

  -- no cap is past the greatest budget
  cap-le : (limits : List (Option ℕ)) → ArePromised t limits → (i : ℕ) → cap (limit_of limits i) ≤ MAX_MOMENT
  cap-le limits are i = go (limit_of limits i) refl
    where
      go : (o : Option ℕ) → limit_of limits i ≡ o → cap o ≤ MAX_MOMENT
      go None is = le_refl MAX_MOMENT
      go (Some n) is = (let each = are.each i n is in omega (arith, each.0.below, each.1))

  -- a plan that keeps limits keeps later ones
  can_keep_later : (xs ys : List (Option ℕ)) → ((i : ℕ) → cap (limit_of xs i) ≤ cap (limit_of ys i)) → CanKeep t xs → CanKeep t ys
  can_keep_later xs ys later can = record {
    plan = can.plan;
    is = can.is;
    acyclic = can.acyclic;
    out = λ j inside waits. out_later t.past can.plan j (cap (limit_of xs j)) (cap (limit_of ys j)) (later j) (can.out j inside waits);
  }

  -- so one that keeps all but one limit keeps them when another is left out too
  can_keep_fewer : (limits : List (Option ℕ)) (j k : ℕ) → j < case_jobs t → k < case_jobs t → ArePromised t limits → CanKeep t (set limits j None) → CanKeep t (set (set limits k None) j None)
  can_keep_fewer limits j k here there are can = can_keep_later _ _ later can
    where
      long : length (set limits k None) ≡ length limits
      long = length-set limits k None

      later : (i : ℕ) → cap (limit_of (set limits j None) i) ≤ cap (limit_of (set (set limits k None) j None) i)
      later i = elim (cases_eq i j) [
        | inl same ↦ rw (same, limit_gone limits j (omega (arith, here, are.count)), limit_gone (set limits k None) j (omega (arith, here, are.count, long))) (le_refl MAX_MOMENT)
        | inr apart ↦ rw (limit_stays limits j i apart, limit_stays (set limits k None) j i apart) (elim (cases_eq i k) [
          | inl same ↦ rw (same, limit_gone limits k (omega (arith, there, are.count))) (cap-le limits are k)
          | inr other ↦ rw (limit_stays limits k i other) (le_refl (cap (limit_of limits i)))
        ])
      ]

  -- a plan that is accepted with the budgets of limits keeps them
  pub accepted_keeps : (limits : List (Option ℕ)) (p : PlannedShop) → length limits ≡ case_jobs t → IsAcceptedWith (with_budgets t (map cap limits)) p → CanKeep t limits
  accepted_keeps limits p count is = record {
    plan = p;
    is = record { shaped = is.accepted.shaped; same = ap times_of is.same; keeps = is.accepted.keeps };
    acyclic = good_acyclic t.past p is.accepted.acceptable;
    out = λ j inside waits. (
        let same : jobs p ≡ case_jobs t = ap jobs is.same in
        let budget : slice_index p.plan.budget j ≡ cap (limit_of limits j) = ap (λ q. slice_index q.plan.budget j) is.same ∙ get_or-map cap limits j None 0 (omega (arith, inside, same, count)) in
        let there : is_waiting (times_of p) t.past j ≡ true = ap (λ q. is_waiting (times_of q) t.past j) is.same ∙ waits in
        out_later t.past p j (slice_index p.plan.budget j) (cap (limit_of limits j)) (omega (arith, budget)) (good_out t.past p j is.accepted.acceptable inside there));
  }

  -- an accepted plan with the budgets of the jobs that have limits, which it keeps
  pub plan_for : (limits : List (Option ℕ)) (is_meant : ℕ → Type 0) → length limits ≡ case_jobs t → ((i : ℕ) → cap (limit_of limits i) ≤ MAX_MOMENT)
      → ((i : ℕ) → is_meant i → (i < case_jobs t) × (limit_of limits i ≡ Some (budget_in t i))) → ((i : ℕ) → i < case_jobs t → (is_meant i → ⊥) → limit_of limits i ≡ None) → CanKeep t limits → HasPlanFor t is_meant
  plan_for limits is_meant count few meant others can =
      let p = can.plan in
      let budgets = map cap limits in
      let same : jobs p ≡ case_jobs t = ap (λ s. length s.shop.routes) can.is.same in
      let budget : (i : ℕ) → i < case_jobs t → slice_index budgets i ≡ cap (limit_of limits i) = λ i inside. get_or-map cap limits i None 0 (omega (arith, inside, count)) in
      record {
        plan = rebudgeted p budgets;
        same = can.is.same;
        accepted = record {
          shaped = shaped_again p budgets can.is.shaped (length-map limits cap ∙ count ∙ sym same) (λ i inside. omega (arith, budget i (omega (arith, inside, same)), few i));
          keeps = keeps_again t.past p budgets can.is.keeps;
          acceptable = good_from t.past (rebudgeted p budgets) (acyclic_again p budgets can.acyclic)
              (λ i inside waits. (
              let there : is_waiting (times_in t) t.past i ≡ true = sym (ap (λ x. is_waiting x t.past i) can.is.same) ∙ waits in
              out_again t.past p budgets i (slice_index budgets i)
              (out_later t.past p i (cap (limit_of limits i)) (slice_index budgets i) (omega (arith, budget i (omega (arith, inside, same)))) (can.out i inside there))));
        };
        meant = λ i is. budget i (meant i is).0 ∙ ap cap (meant i is).1;
        others = λ i inside not. (let here : i < case_jobs t = omega (arith, inside, same) in budget i here ∙ ap cap (others i here not));
      }

  -- ---- two jobs

  module _ (i j : ℕ) (limits : List (Option ℕ)) (all : AreLimits t (Both i j) (case_jobs t) limits) where
    both_limited : ArePromised t limits
    both_limited = record {
      count = all.count;
      each = λ k n is.
          (let inside : k < case_jobs t = omega (arith, limit_inside limits k n is, all.count) in
          let asked = limit_if ((k == i) || (k == j)) (promise_in t k) n (sym (all.each k inside) ∙ is) in
          let promise = promise_is t k n asked.1 in
          (record { inside = inside; waits = promise.0; below = promise.1 }, promise.2));
    }

    -- a plan that keeps their limits is one for them
    pub both_kept : IsPromised t i → IsPromised t j → CanKeep t limits → HasPlanFor t (Contains (i ∷ j ∷ []))
    both_kept one other can = plan_for limits (Contains (i ∷ j ∷ [])) all.count (cap-le limits both_limited) meant others can
      where
        asked : (k : ℕ) → IsPromised t k → ((k == i) || (k == j)) ≡ true → (k < case_jobs t) × (limit_of limits k ≡ Some (budget_in t k))
        asked k promised either = (promised.inside, all.each k promised.inside ∙ ap (λ (b : Bool). if b then promise_in t k else None) either ∙ promise_of t k promised)

        meant : (k : ℕ) → Contains (i ∷ j ∷ []) k → (k < case_jobs t) × (limit_of limits k ≡ Some (budget_in t k))
        meant k has = elim (is_either i j k has) [
          | inl is ↦ asked k (subst (IsPromised t) (sym is) one) (ap (λ (b : Bool). b || (k == j)) (eq-eqb k i is))
          | inr is ↦ asked k (subst (IsPromised t) (sym is) other) (or_second (k == i) (k == j) (eq-eqb k j is))
        ]

        others : (k : ℕ) → k < case_jobs t → (Contains (i ∷ j ∷ []) k → ⊥) → limit_of limits k ≡ None
        others k inside not = all.each k inside ∙ go (k == i) (k == j) refl refl
          where
            go : (a b : Bool) → (k == i) ≡ a → (k == j) ≡ b → (if a || b then promise_in t k else None) ≡ None
            go true b is_one is_other = absurd (not (has_either i j k (inl (eqb-true k i is_one))))
            go false true is_one is_other = absurd (not (has_either i j k (inr (eqb-true k j is_other))))
            go false false is_one is_other = refl

  pub left_out : (left more : Left) (k : ℕ) → k < case_jobs t → more.or_fewer ≡ left.or_fewer → more.limits.items ≡ set left.limits.items k None → NoPlanKeeps t more.limits.items
      → IsLeft t left (k + 1) → IsLeft t more k
  left_out left more k inside fewer is none known = record {
    promised = subst (ArePromised t) (sym is) (fewer_promised left.limits.items k inside known.promised);
    none = none;
    needed = λ closed j n from named. (
        let limits = left.limits.items in
        let was = limit_was limits k j n (omega (arith, inside, known.promised.count)) (sym (ap (λ l. limit_of l j) is) ∙ named) in
        let here : j < case_jobs t = omega (arith, limit_inside limits j n was.1, known.promised.count) in
        subst (λ l. CanKeep t (set l j None)) (sym is) (can_keep_fewer limits j k here inside known.promised
        (known.needed (sym fewer ∙ closed) j n (omega (arith, from, was.0)) was.1)));
  }

  -- what is left before any job was asked about
  pub left_begin : (left : Left) (n : ℕ) → case_jobs t ≤ n → ArePromised t left.limits.items → NoPlanKeeps t left.limits.items → IsLeft t left n
  left_begin left n past promised none = record {
    promised = promised;
    none = none;
    needed = λ closed j k from is. absurd (omega (arith, limit_inside left.limits.items j k is, promised.count, from, past));
  }

  pub left_needed : (left : Left) (k : ℕ) → CanKeep t (set left.limits.items k None) → IsLeft t left (k + 1) → IsLeft t left k
  left_needed left k can known = record {
    promised = known.promised;
    none = known.none;
    needed = λ closed j n from named. elim (cases_eq j k) [
      | inl same ↦ subst (λ i. CanKeep t (set left.limits.items i None)) (sym same) can
      | inr other ↦ known.needed closed j n (omega (arith, from, other)) named
    ];
  }

  pub left_open : (left more : Left) (k : ℕ) → more.or_fewer ≡ true → more.limits.items ≡ left.limits.items → IsLeft t left (k + 1) → IsLeft t more k
  left_open left more k fewer is known = record {
    promised = subst (ArePromised t) (sym is) known.promised;
    none = subst (NoPlanKeeps t) (sym is) known.none;
    needed = λ closed. absurd (true≢false (sym fewer ∙ closed));
  }

  module _ (limits : List (Option ℕ)) (n : ℕ) (js : List ℕ) (all : n ≡ case_jobs t) (are : ArePromised t limits) (named : AreLimited limits n js) where
    some_promised : (j : ℕ) → IsSome (limit_of limits j) → IsPromised t j
    some_promised j some = go (limit_of limits j) refl some
      where
        go : (o : Option ℕ) → limit_of limits j ≡ o → is_some o ≡ true → IsPromised t j
        go None is none = absurd (true≢false (sym none))
        go (Some k) is there = (are.each j k is).0

    -- the limit of a job that is named
    named_limit : (j : ℕ) → Contains js j → limit_of limits j ≡ Some (budget_in t j)
    named_limit j has = go (limit_of limits j) refl (All-contains (λ i. IsSome (limit_of limits i)) js j named.limited has)
      where
        go : (o : Option ℕ) → limit_of limits j ≡ o → is_some o ≡ true → o ≡ Some (budget_in t j)
        go None is none = absurd (true≢false (sym none))
        go (Some k) is there = ap Some (are.each j k is).1

    -- of one that isn't
    unnamed_limit : (j : ℕ) → (Contains js j → ⊥) → limit_of limits j ≡ None
    unnamed_limit j not_named = go (limit_of limits j) refl
      where
        go : (o : Option ℕ) → limit_of limits j ≡ o → o ≡ None
        go None is = refl
        go (Some k) is = absurd (not_named (named.complete j k (omega (arith, all, are.count, limit_inside limits j k is)) is))

    -- the promises to all of them exclude each other
    all_excluded : NoPlanKeeps t limits → AreExcluded t js
    all_excluded none p plan keeps = none p plan (record {
      acyclic = keeps.acyclic;
      out = λ j k inside waits is. (
          let same : jobs p ≡ case_jobs t = ap (λ s. length s.shop.routes) plan.same in
          out_later t.past p j (budget_in t j) k (omega (arith, (are.each j k is).1)) (keeps.out j (named.complete j k (omega (arith, inside, same, all)) is)));
    })

    -- a job without which the others can be kept
    plan_without : (j : ℕ) → Contains js j → CanKeep t (set limits j None) → HasPlanFor t (λ i. Contains js i × (i ≢ j))
    plan_without j has can = plan_for (set limits j None) (λ i. Contains js i × (i ≢ j)) (length-set limits j None ∙ are.count) (cap-le (set limits j None) (fewer_promised limits j here are)) meant others can
      where
        here : j < case_jobs t
        here = omega (arith, limit_inside limits j _ (named_limit j has), are.count)

        meant : (i : ℕ) → Contains js i × (i ≢ j) → (i < case_jobs t) × (limit_of (set limits j None) i ≡ Some (budget_in t i))
        meant i (named_too, apart) = (omega (arith, limit_inside limits i _ (named_limit i named_too), are.count), limit_stays limits j i apart ∙ named_limit i named_too)

        others : (i : ℕ) → i < case_jobs t → (Contains js i × (i ≢ j) → ⊥) → limit_of (set limits j None) i ≡ None
        others i inside not = elim (cases_eq i j) [
          | inl same ↦ ap (limit_of (set limits j None)) same ∙ limit_gone limits j (omega (arith, here, are.count))
          | inr apart ↦ limit_stays limits j i apart ∙ unnamed_limit i (λ named_too. not (named_too, apart))
        ]

    -- where none is named, no plan is without a cycle
    pub none_left : length js ≡ 0 → NoPlanKeeps t limits → AreAllCyclic t
    none_left empty none p plan acyclic = none p plan (record {
      acyclic = acyclic;
      out = λ j k inside waits is. (
          let same : jobs p ≡ case_jobs t = ap (λ s. length s.shop.routes) plan.same in
          let has = named.complete j k (omega (arith, inside, same, all)) is in
          absurd (omega (arith, empty, has.1)));
    })

    -- what is left
    pub several : (jobs : Vec ℕ Global) (or_fewer : Bool) → jobs.items ≡ js → 0 < length jobs.items → NoPlanKeeps t limits
        → (or_fewer ≡ false → (j k : ℕ) → 0 ≤ j → limit_of limits j ≡ Some k → CanKeep t (set limits j None)) → IsExclusion t (Several jobs or_fewer)
    several jobs or_fewer is some none needed = record {
      some = some;
      promised = subst (All (IsPromised t)) (sym is) (All-weaker (λ j. IsSome (limit_of limits j)) (IsPromised t) some_promised js named.limited);
      ascending = subst (AllPairs (λ i j. i < j)) (sym is) named.ascending;
      excluded = subst (AreExcluded t) (sym is) (all_excluded none);
      said = said or_fewer needed;
    }
      where
        said : (fewer : Bool) → (fewer ≡ false → (j k : ℕ) → 0 ≤ j → limit_of limits j ≡ Some k → CanKeep t (set limits j None)) → AreNeededUnless fewer t jobs.items
        said true needed = tt
        said false needed = subst (AreNeeded t) (sym is) (λ j has. plan_without j has (needed refl j _ (omega arith) (named_limit j has)))
