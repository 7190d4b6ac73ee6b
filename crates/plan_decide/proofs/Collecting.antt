-- What is listed of promises that can't be kept, as it is collected.
use Rattle.std.proofs.Common.{◌≡◌, ◌≢◌, ℕ, ◌+◌, ◌<◌, ◌≤◌, ◌==◌, Bool, true, false, true≢false, eqb-true, List, [], ◌∷◌, ◌++◌, length, All, AllPairs, Contains, arith, refl, sym, ap, subst, inl, inr, ◌⊎◌, ◌∙◌}
use Rattle.std.proofs.lemmas.Bool.{cases_eq, cases_lt}
use Rattle.std.proofs.lemmas.List.{get_or_past, get_or_append_left, get_or_push, length_push}
use Rattle.std.proofs.lemmas.List.Elements.{All-nil, All-cons, All-push, All-weaker, All-contains, Contains-append_left, Contains-push}
use Rattle.std.proofs.lemmas.List.Kept.{AllPairs-cons}
use Rattle.plan_decide.specs.declared.decided.Excluded.{Excluded}
use Rattle.plan_decide.specs.declared.decided.Excluded.TheVariants.{Alone, Pair, Several}
use Rattle.plan_decide.specs.declared.listing.Listing.{Listing}
use Rattle.plan_decide.specs.declared.standing.Standing.{Standing}
use Rattle.plan_decide.specs.declared.standing.Standing.TheVariants.{Unpromised, Late, Doubt}
use Rattle.plan_decide.specs.Cases.{Past, nothing, run_to, Case, case_jobs, budget_in}
use Rattle.plan_decide.specs.Promises.{IsPromised}
use Rattle.plan_decide.specs.Excluding.{AreExcluded, HasPlanFor, AreNeeded, AreNeededUnless, IsNeverInTime, IsInDoubt, IsLateAlone, IsExclusion, ComesBefore, IsSettled, one_alone, other_alone, as_pair, together, IsApart, IsNotOf, HasUnlistedPair, AreExclusions, NoneIsAlone}
use Rattle.plan_decide.specs.Listed.{standing_of, exclusions_of, AreTwoInDoubt, AreCounted, IsLeftBefore, IsSeveral, IsStanding, AreStandings, IsPairSettled, IsFrom, AreListedBefore, AreAllAlone, ArePairedTo}
use Rattle.plan_decide.proofs.Bounded.{IsRooted, bound_le}
use Rattle.plan_decide.proofs.Pushing.{pairs_push}

-- a job whose bound is past its budget excludes itself
alone_excluded : (t : Case) (j : ℕ) → IsRooted t → IsNeverInTime t j → AreExcluded t (j ∷ [])
alone_excluded t j rooted never p plan keeps =
    let bound = bound_le t p j (budget_in t j) rooted plan never.promised.inside never.promised.waits (keeps.out j (0, omega arith, refl)) in
    absurd (omega (arith, bound, never.late))

-- a job whose promise no plan keeps
pub alone_exclusion : (t : Case) (j : ℕ) → IsPromised t j → AreExcluded t (j ∷ []) → IsLateAlone t.past t j → IsExclusion t (Alone j)
alone_exclusion t j promised excluded said = record {
  some = omega arith;
  promised = All-cons (IsPromised t) j [] promised (All-nil (IsPromised t));
  ascending = λ a b d one two. absurd (omega (arith, one, two));
  excluded = excluded;
  said = said;
}

pub late_exclusion : (t : Case) (j : ℕ) → IsRooted t → IsNeverInTime t j → IsExclusion t (Alone j)
late_exclusion t j rooted never = alone_exclusion t j never.promised (alone_excluded t j rooted never) (said t.past)
  where
    said : (past : Past) → IsLateAlone past t j
    said nothing = never
    said (run_to base c present) = tt

pub pair_exclusion : (t : Case) (i j : ℕ) (or_fewer : Bool) → i < j → IsInDoubt t i → IsInDoubt t j → AreExcluded t (i ∷ j ∷ []) → AreNeededUnless or_fewer t (i ∷ j ∷ []) → IsExclusion t (Pair i j or_fewer)
pair_exclusion t i j or_fewer below one other excluded needed = record {
  some = omega arith;
  promised = All-cons (IsPromised t) i (j ∷ []) one.promised (All-cons (IsPromised t) j [] other.promised (All-nil (IsPromised t)));
  ascending = AllPairs-cons (λ a b. a < b) i (j ∷ []) (All-cons (λ b. i < b) j [] below (All-nil (λ b. i < b))) (λ a b d two three. absurd (omega (arith, two, three)));
  excluded = excluded;
  said = (one, other, needed);
}

-- ---- two jobs, and one that is given twice

pub is_either : (i j k : ℕ) → Contains (i ∷ j ∷ []) k → (k ≡ i) ⊎ (k ≡ j)
is_either i j k has = All-contains (λ l. (l ≡ i) ⊎ (l ≡ j)) (i ∷ j ∷ []) k
    (All-cons (λ l. (l ≡ i) ⊎ (l ≡ j)) i (j ∷ []) (inl refl) (All-cons (λ l. (l ≡ i) ⊎ (l ≡ j)) j [] (inr refl) (All-nil (λ l. (l ≡ i) ⊎ (l ≡ j))))) has

pub has_either : (i j k : ℕ) → (k ≡ i) ⊎ (k ≡ j) → Contains (i ∷ j ∷ []) k
has_either i j k (inl is) = (0, omega arith, sym is)
has_either i j k (inr is) = (1, omega arith, sym is)

is_twice : (j k : ℕ) → Contains (j ∷ j ∷ []) k → k ≡ j
is_twice j k has = elim (is_either j j k has) [
  | inl is ↦ is
  | inr is ↦ is
]

-- a promise that no plan keeps twice none keeps
pub excluded_once : (t : Case) (j : ℕ) → AreExcluded t (j ∷ j ∷ []) → AreExcluded t (j ∷ [])
excluded_once t j none p plan keeps = none p plan (record { acyclic = keeps.acyclic; out = λ k has. keeps.out k (0, omega arith, sym (is_twice j k has)) })

-- an accepted plan for some jobs is one for the same jobs
plan_for_same : (t : Case) (P Q : ℕ → Type 0) → ((j : ℕ) → P j → Q j) → ((j : ℕ) → Q j → P j) → HasPlanFor t P → HasPlanFor t Q
plan_for_same t P Q there back has = record {
  plan = has.plan;
  same = has.same;
  accepted = has.accepted;
  meant = λ j is. has.meant j (back j is);
  others = λ j inside not. has.others j inside (λ is. not (there j is));
}

-- each of two jobs is needed, where the other can be out without it
pub both_needed : (t : Case) (i j : ℕ) → i < j → HasPlanFor t (Contains (i ∷ i ∷ [])) → HasPlanFor t (Contains (j ∷ j ∷ [])) → AreNeeded t (i ∷ j ∷ [])
both_needed t i j below one other k has = elim (is_either i j k has) [
  | inl is ↦ plan_for_same t (Contains (j ∷ j ∷ [])) (λ l. Contains (i ∷ j ∷ []) l × (l ≢ k))
      (λ l twice. (has_either i j l (inr (is_twice j l twice)), λ same. omega (arith, below, is, same, is_twice j l twice)))
      (λ l is_other. has_either j j l (inl (left l is_other.0 (λ first. is_other.1 (first ∙ sym is))))) other
  | inr is ↦ plan_for_same t (Contains (i ∷ i ∷ [])) (λ l. Contains (i ∷ j ∷ []) l × (l ≢ k))
      (λ l twice. (has_either i j l (inl (is_twice i l twice)), λ same. omega (arith, below, is, same, is_twice i l twice)))
      (λ l is_other. has_either i i l (inl (right l is_other.0 (λ second. is_other.1 (second ∙ sym is))))) one
]
  where
    left : (l : ℕ) → Contains (i ∷ j ∷ []) l → l ≢ i → l ≡ j
    left l has_it apart = elim (is_either i j l has_it) [
      | inl first ↦ absurd (apart first)
      | inr second ↦ second
    ]

    right : (l : ℕ) → Contains (i ∷ j ∷ []) l → l ≢ j → l ≡ i
    right l has_it apart = elim (is_either i j l has_it) [
      | inl first ↦ first
      | inr second ↦ absurd (apart second)
    ]

-- ---- how promises stand

abbrev is_late : Standing → Bool
is_late Unpromised = false
is_late Late = true
is_late Doubt = false

abbrev is_doubt : Standing → Bool
is_doubt Unpromised = false
is_doubt Late = false
is_doubt Doubt = true

doubt_not_late : (s : Standing) → s ≡ Doubt → s ≡ Late → ⊥
doubt_not_late s one other = true≢false (sym (ap is_doubt one) ∙ ap is_doubt other)

-- a job whose promise is late or in doubt is one of the shop
late_inside : (standings : List Standing) (j : ℕ) → standing_of standings j ≡ Late → j < length standings
late_inside standings j late = elim (cases_lt j (length standings)) [
  | inl inside ↦ inside
  | inr past ↦ absurd (true≢false (sym (ap is_late late) ∙ ap is_late (get_or_past standings j Unpromised past)))
]

doubt_inside : (standings : List Standing) (j : ℕ) → standing_of standings j ≡ Doubt → j < length standings
doubt_inside standings j doubt = elim (cases_lt j (length standings)) [
  | inl inside ↦ inside
  | inr past ↦ absurd (true≢false (sym (ap is_doubt doubt) ∙ ap is_doubt (get_or_past standings j Unpromised past)))
]

-- what is listed before two jobs in doubt, or before some pair before them, is neither one of them alone nor both
not_of : (standings : List Standing) (i j : ℕ) → standing_of standings i ≡ Doubt → standing_of standings j ≡ Doubt → (e : Excluded) → IsFrom standings e → ComesBefore e (Pair i j false) → IsNotOf i j e
not_of standings i j one other (Alone k) late before =
    (λ same. doubt_not_late (standing_of standings k) (subst (λ l. standing_of standings l ≡ Doubt) (sym same) one) late, λ same. doubt_not_late (standing_of standings k) (subst (λ l. standing_of standings l ≡ Doubt) (sym same) other) late)
not_of standings i j one other (Pair k l fewer) from (inl less) = λ first second. omega (arith, first, less)
not_of standings i j one other (Pair k l fewer) from (inr (same, less)) = λ first second. omega (arith, second, less)
not_of standings i j one other (Several js fewer) from before = tt

-- of so many jobs one, or two, are in doubt
pub counted_none : (standings : List Standing) → AreCounted standings 0 0
counted_none standings = record { one = λ some. absurd (omega (arith, some)); two = λ some. absurd (omega (arith, some)) }

pub counted_more : (standings : List Standing) (n count more : ℕ) → more ≤ count + 1 → standing_of standings n ≡ Doubt → AreCounted standings n count → AreCounted standings (n + 1) more
counted_more standings n count more few doubt known = record {
  one = λ some. (n, omega arith, doubt);
  two = λ some. (let earlier = known.one (omega (arith, some, few)) in record { lesser = earlier.0; greater = n; ascending = earlier.1; doubt = (earlier.2, doubt) });
}

pub counted_passed : (standings : List Standing) (n count : ℕ) → AreCounted standings n count → AreCounted standings (n + 1) count
counted_passed standings n count known = record { one = λ some. (let earlier = known.one some in (earlier.0, omega (arith, earlier.1), earlier.2)); two = known.two }

-- how one more job's promise stands
pub standings_more : (t : Case) (n : ℕ) (found more : List Standing) (s : Standing) → more ≡ found ++ s ∷ [] → IsStanding t n s → AreStandings t n found → AreStandings t (n + 1) more
standings_more t n found more s is stands known = subst (AreStandings t (n + 1)) (sym is) (record {
  count = omega (arith, length_push found s, known.count);
  each = λ j lt. elim (cases_eq j n) [
    | inl same ↦ subst (λ k. IsStanding t k (standing_of (found ++ s ∷ []) k)) (sym same) (subst (IsStanding t n) (sym (get_or_push found s Unpromised n (known.count))) stands)
    | inr apart ↦ subst (IsStanding t j) (sym (get_or_append_left found (s ∷ []) Unpromised j (omega (arith, lt, apart, known.count)))) (known.each j (omega (arith, lt, apart)))
  ];
})

module _ (t : Case) (n : ℕ) (standings : List Standing) (are : AreStandings t n standings) where
  pub late_is : (j : ℕ) → standing_of standings j ≡ Late → IsExclusion t (Alone j)
  late_is j late = subst (IsStanding t j) late (are.each j (omega (arith, late_inside standings j late, are.count)))

  pub doubt_is : (j : ℕ) → standing_of standings j ≡ Doubt → IsInDoubt t j
  doubt_is j doubt = subst (IsStanding t j) doubt (are.each j (omega (arith, doubt_inside standings j doubt, are.count)))

  -- a job that is never in time is late
  never_is_late : (j : ℕ) → j < n → IsNeverInTime t j → standing_of standings j ≡ Late
  never_is_late j inside never = go (standing_of standings j) (are.each j inside)
    where
      go : (s : Standing) → IsStanding t j s → s ≡ Late
      go Unpromised none = absurd (none never.promised)
      go Late is = refl
      go Doubt doubt = absurd (doubt.possible never)

  -- one in doubt by its bound is late or in doubt
  in_doubt : (j : ℕ) → j < n → IsInDoubt t j → (standing_of standings j ≡ Late) ⊎ (standing_of standings j ≡ Doubt)
  in_doubt j inside doubt = go (standing_of standings j) (are.each j inside)
    where
      go : (s : Standing) → IsStanding t j s → (s ≡ Late) ⊎ (s ≡ Doubt)
      go Unpromised none = absurd (none doubt.promised)
      go Late is = inl refl
      go Doubt is = inr refl

-- what comes before a job alone comes before the next
before_alone : (e : Excluded) (n : ℕ) → ComesBefore e (Alone n) → ComesBefore e (Alone (n + 1))
before_alone (Alone i) n before = omega (arith, before)
before_alone (Pair i j fewer) n before = before
before_alone (Several js or_fewer) n before = before

-- what comes before a pair comes before a later one
before_pair : (e : Excluded) (i j k l : ℕ) → (i < k) ⊎ ((i ≡ k) × (j ≤ l)) → ComesBefore e (Pair i j false) → ComesBefore e (Pair k l false)
before_pair (Alone a) i j k l later before = tt
before_pair (Pair a b fewer) i j k l (inl more) (inl before) = inl (omega (arith, more, before))
before_pair (Pair a b fewer) i j k l (inl more) (inr (same, before)) = inl (omega (arith, more, same))
before_pair (Pair a b fewer) i j k l (inr (is, more)) (inl before) = inl (omega (arith, is, before))
before_pair (Pair a b fewer) i j k l (inr (is, more)) (inr (same, before)) = inr (omega (arith, is, same), omega (arith, more, before))
before_pair (Several js or_fewer) i j k l later before = before

-- a job alone comes before all pairs
before_pairs : (e : Excluded) (n : ℕ) → ComesBefore e (Alone n) → ComesBefore e (Pair 0 0 false)
before_pairs (Alone i) n before = tt
before_pairs (Pair i j fewer) n before = absurd before
before_pairs (Several js or_fewer) n before = absurd before

-- a test whether something is listed
pub some_listed : {X : Type 0} (es : List X) (n : ℕ) (is_empty : Bool) → n ≡ length es → is_empty ≡ (n == 0) → is_empty ≡ false → 0 < length es
some_listed es n is_empty count is not = elim (cases_eq n 0) [
  | inl none ↦ absurd (true≢false (sym (is ∙ ap (λ (k : ℕ). k == 0) none) ∙ not))
  | inr some ↦ omega (arith, some, count)
]

pub none_listed : {X : Type 0} (es : List X) (n : ℕ) (is_empty : Bool) → n ≡ length es → is_empty ≡ (n == 0) → is_empty ≡ true → length es ≡ 0
none_listed es n is_empty count is none = omega (arith, count, eqb-true n 0 (sym is ∙ none))

-- what is listed by itself is apart
abbrev is_alone : Excluded → Bool
is_alone (Alone k) = true
is_alone (Pair k l some) = false
is_alone (Several js some) = false

not_alone : (i j : ℕ) (fewer : Bool) (k : ℕ) → Contains (Pair i j fewer ∷ []) (Alone k) → ⊥
not_alone i j fewer k has = true≢false (All-contains (λ x. is_alone x ≡ false) (Pair i j fewer ∷ []) (Alone k) (All-cons (λ x. is_alone x ≡ false) (Pair i j fewer) [] refl (All-nil (λ x. is_alone x ≡ false))) has)

alone_only : (e : Excluded) → IsApart (e ∷ []) e
alone_only (Alone j) = tt
alone_only (Pair i j fewer) = (λ has. not_alone i j fewer i has, λ has. not_alone i j fewer j has)
alone_only (Several js fewer) = tt

module _ (t : Case) (standings : List Standing) where
  none_before : (next : Excluded) → AreListedBefore t standings next []
  none_before next = record {
    each = All-nil (IsExclusion t);
    from = All-nil (IsFrom standings);
    order = λ i j d one two. absurd (omega (arith, two));
    before = All-nil (λ e. ComesBefore e next);
  }

  -- one more is listed
  one_more_before : (e next : Excluded) (es : List Excluded) → IsExclusion t e → IsFrom standings e → ((other : Excluded) → ComesBefore other e → ComesBefore other next) → ComesBefore e next → AreListedBefore t standings e es
      → AreListedBefore t standings next (es ++ e ∷ [])
  one_more_before e next es exclusion stands later before known = record {
    each = All-push (IsExclusion t) es e known.each exclusion;
    from = All-push (IsFrom standings) es e known.from stands;
    order = pairs_push ComesBefore es e known.order known.before;
    before = All-push (λ other. ComesBefore other next) es e (All-weaker (λ other. ComesBefore other e) (λ other. ComesBefore other next) later es known.before) before;
  }

  -- nothing more is
  all_before : (e next : Excluded) (es : List Excluded) → ((other : Excluded) → ComesBefore other e → ComesBefore other next) → AreListedBefore t standings e es → AreListedBefore t standings next es
  all_before e next es later known = record {
    each = known.each;
    from = known.from;
    order = known.order;
    before = All-weaker (λ other. ComesBefore other e) (λ other. ComesBefore other next) later es known.before;
  }

  pub alone_begin : (es : List Excluded) → es ≡ [] → AreAllAlone t standings 0 es
  alone_begin es is = subst (AreAllAlone t standings 0) (sym is) (record { listed = none_before (Alone 0); alone = λ j before late. absurd (omega (arith, before)) })

  pub alone_more : (n : ℕ) (es more : List Excluded) → more ≡ es ++ Alone n ∷ [] → IsExclusion t (Alone n) → standing_of standings n ≡ Late → AreAllAlone t standings n es → AreAllAlone t standings (n + 1) more
  alone_more n es more is exclusion late known = subst (AreAllAlone t standings (n + 1)) (sym is) (record {
    listed = one_more_before (Alone n) (Alone (n + 1)) es exclusion late (λ e before. before_alone e n before) (omega arith) known.listed;
    alone = λ j lt late_there. elim (cases_eq j n) [
      | inl same ↦ subst (λ k. Contains (es ++ Alone n ∷ []) (Alone k)) (sym same) (Contains-push es (Alone n))
      | inr other ↦ Contains-append_left es (Alone n ∷ []) (Alone j) (known.alone j (omega (arith, lt, other)) late_there)
    ];
  })

  pub alone_passed : (n : ℕ) (es : List Excluded) → (standing_of standings n ≡ Late → ⊥) → AreAllAlone t standings n es → AreAllAlone t standings (n + 1) es
  alone_passed n es not known = record {
    listed = all_before (Alone n) (Alone (n + 1)) es (λ e before. before_alone e n before) known.listed;
    alone = λ j lt late. elim (cases_eq j n) [
      | inl same ↦ absurd (not (subst (λ k. standing_of standings k ≡ Late) same late))
      | inr other ↦ known.alone j (omega (arith, lt, other)) late
    ];
  }

  -- no job is never in time where none is listed alone
  pub none_alone : (n : ℕ) → n ≡ case_jobs t → AreStandings t n standings → AreAllAlone t standings n [] → NoneIsAlone t
  none_alone n all are known j never =
      let inside : j < n = omega (arith, all, never.promised.inside) in
      (let has = known.alone j inside (never_is_late t n standings are j inside never) in omega (arith, has.1))

  -- ---- pairs

  pub paired_begin : (n : ℕ) (found : Listing) (es : List Excluded) → found.listed.items ≡ es → found.pairs_open ≡ false → length standings ≡ n → AreAllAlone t standings n es → ArePairedTo t standings 0 0 found
  paired_begin n found es is closed count known = record {
    listed = subst (AreListedBefore t standings (Pair 0 0 false)) (sym is) (all_before (Alone n) (Pair 0 0 false) es (λ e before. before_pairs e n before) known.listed);
    alone = λ j late. subst (λ (list : List Excluded). Contains list (Alone j)) (sym is) (known.alone j (omega (arith, late_inside standings j late, count)) late);
    settled = λ closed k l below before. absurd (nothing_before k l before);
    left = λ opened. absurd (true≢false (sym opened ∙ closed));
  }
    where
      nothing_before : (k l : ℕ) → (k < 0) ⊎ ((k ≡ 0) × (l < 0)) → ⊥
      nothing_before k l (inl less) = omega (arith, less)
      nothing_before k l (inr (same, less)) = omega (arith, less)

  -- what is before a pair is before a later one
  left_later : (i j k l : ℕ) (es : List Excluded) → (i < k) ⊎ ((i ≡ k) × (j ≤ l)) → IsLeftBefore standings i j es → IsLeftBefore standings k l es
  left_later i j k l es later is = record { two = is.two; before = go later is.before; unlisted = is.unlisted }
    where
      go : (i < k) ⊎ ((i ≡ k) × (j ≤ l)) → (is.two.lesser < i) ⊎ ((is.two.lesser ≡ i) × (is.two.greater < j)) → (is.two.lesser < k) ⊎ ((is.two.lesser ≡ k) × (is.two.greater < l))
      go (inl more) (inl less) = inl (omega (arith, more, less))
      go (inl more) (inr (same, less)) = inl (omega (arith, more, same))
      go (inr (is_same, more)) (inl less) = inl (omega (arith, is_same, less))
      go (inr (is_same, more)) (inr (same, less)) = inr (omega (arith, is_same, same), omega (arith, more, less))

  -- two jobs in doubt behind what is listed aren't
  pub two_left : (i j : ℕ) (found : Listing) (two : AreTwoInDoubt standings) → (i < two.lesser) ⊎ ((i ≡ two.lesser) × (j ≤ two.greater)) → ArePairedTo t standings i j found → All (IsNotOf two.lesser two.greater) found.listed.items
  two_left i j found two later known k d inside =
      not_of standings two.lesser two.greater two.doubt.0 two.doubt.1 _ (known.listed.from k d inside) (before_pair _ i j two.lesser two.greater later (known.listed.before k d inside))

  -- the next pair is looked at, and nothing more listed
  pub paired_passed : (i j k l : ℕ) (found : Listing) → (i < k) ⊎ ((i ≡ k) × (j ≤ l))
      → ((a b : ℕ) → a < b → (a < k) ⊎ ((a ≡ k) × (b < l)) → standing_of standings a ≡ Doubt → standing_of standings b ≡ Doubt → ((a < i) ⊎ ((a ≡ i) × (b < j))) ⊎ IsPairSettled t found.listed.items a b)
      → ArePairedTo t standings i j found → ArePairedTo t standings k l found
  paired_passed i j k l found later each known = record {
    listed = all_before (Pair i j false) (Pair k l false) found.listed.items (λ e before. before_pair e i j k l later before) known.listed;
    alone = known.alone;
    settled = λ closed a b below before one other. elim (each a b below before one other) [
      | inl earlier ↦ known.settled closed a b below earlier one other
      | inr is ↦ is
    ];
    left = λ opened. left_later i j k l found.listed.items later (known.left opened);
  }

  -- what is left of a row begins behind its job
  pub row_begins : (i j : ℕ) (found : Listing) → j ≤ i + 1 → ArePairedTo t standings i 0 found → ArePairedTo t standings i j found
  row_begins i j found few known = paired_passed i 0 i j found (inr (refl, omega arith)) go known
    where
      go : (a b : ℕ) → a < b → (a < i) ⊎ ((a ≡ i) × (b < j)) → standing_of standings a ≡ Doubt → standing_of standings b ≡ Doubt → ((a < i) ⊎ ((a ≡ i) × (b < 0))) ⊎ IsPairSettled t found.listed.items a b
      go a b below (inl less) one other = inl (inl less)
      go a b below (inr (same, less)) one other = absurd (omega (arith, below, same, less, few))

  -- a row whose job isn't in doubt has no pair
  pub row_without : (i : ℕ) (found : Listing) → (standing_of standings i ≡ Doubt → ⊥) → ArePairedTo t standings i 0 found → ArePairedTo t standings (i + 1) 0 found
  row_without i found not known = paired_passed i 0 (i + 1) 0 found (inl (omega arith)) go known
    where
      go : (a b : ℕ) → a < b → (a < i + 1) ⊎ ((a ≡ i + 1) × (b < 0)) → standing_of standings a ≡ Doubt → standing_of standings b ≡ Doubt → ((a < i) ⊎ ((a ≡ i) × (b < 0))) ⊎ IsPairSettled t found.listed.items a b
      go a b below (inr (same, less)) one other = absurd (omega (arith, less))
      go a b below (inl less) one other = elim (cases_eq a i) [
        | inl same ↦ absurd (not (subst (λ k. standing_of standings k ≡ Doubt) same one))
        | inr apart ↦ inl (inl (omega (arith, less, apart)))
      ]

  -- a row ends with the last job
  pub row_ends : (i j n : ℕ) (found : Listing) → length standings ≡ n → n ≤ j → ArePairedTo t standings i j found → ArePairedTo t standings (i + 1) 0 found
  row_ends i j n found count all known = paired_passed i j (i + 1) 0 found (inl (omega arith)) go known
    where
      go : (a b : ℕ) → a < b → (a < i + 1) ⊎ ((a ≡ i + 1) × (b < 0)) → standing_of standings a ≡ Doubt → standing_of standings b ≡ Doubt → ((a < i) ⊎ ((a ≡ i) × (b < j))) ⊎ IsPairSettled t found.listed.items a b
      go a b below (inr (same, less)) one other = absurd (omega (arith, less))
      go a b below (inl less) one other = elim (cases_eq a i) [
        | inl same ↦ inl (inr (same, omega (arith, doubt_inside standings b other, count, all)))
        | inr apart ↦ inl (inl (omega (arith, less, apart)))
      ]

  -- a pair that is settled is looked at, or one whose other job isn't in doubt
  pub pair_passed : (i j : ℕ) (found : Listing) → (standing_of standings j ≡ Doubt → IsPairSettled t found.listed.items i j) → ArePairedTo t standings i j found → ArePairedTo t standings i (j + 1) found
  pair_passed i j found settled known = paired_passed i j i (j + 1) found (inr (refl, omega arith)) go known
    where
      go : (a b : ℕ) → a < b → (a < i) ⊎ ((a ≡ i) × (b < j + 1)) → standing_of standings a ≡ Doubt → standing_of standings b ≡ Doubt → ((a < i) ⊎ ((a ≡ i) × (b < j))) ⊎ IsPairSettled t found.listed.items a b
      go a b below (inl less) one other = inl (inl less)
      go a b below (inr (same, less)) one other = elim (cases_eq b j) [
        | inl is ↦ inr (subst (λ k. IsPairSettled t found.listed.items k b) (sym same) (subst (IsPairSettled t found.listed.items i) (sym is) (settled (subst (λ k. standing_of standings k ≡ Doubt) is other))))
        | inr apart ↦ inl (inr (same, omega (arith, less, apart)))
      ]

  -- one that is open is passed over
  pub pair_open : (i j k l : ℕ) (found more : Listing) → (i < k) ⊎ ((i ≡ k) × (j ≤ l)) → more.listed.items ≡ found.listed.items → more.pairs_open ≡ true → IsLeftBefore standings k l found.listed.items → ArePairedTo t standings i j found → ArePairedTo t standings k l more
  pair_open i j k l found more later same opened left known = record {
    listed = subst (AreListedBefore t standings (Pair k l false)) (sym same) (all_before (Pair i j false) (Pair k l false) found.listed.items (λ e before. before_pair e i j k l later before) known.listed);
    alone = λ a late. subst (λ (list : List Excluded). Contains list (Alone a)) (sym same) (known.alone a late);
    settled = λ closed. absurd (true≢false (sym opened ∙ closed));
    left = λ is. subst (IsLeftBefore standings k l) (sym same) left;
  }

  -- two jobs in doubt that are asked about in vain
  pub this_left : (i j : ℕ) (found : Listing) → i < j → standing_of standings i ≡ Doubt → standing_of standings j ≡ Doubt → ArePairedTo t standings i j found → IsLeftBefore standings i (j + 1) found.listed.items
  this_left i j found below one other known =
      let two : AreTwoInDoubt standings = record { lesser = i; greater = j; ascending = below; doubt = (one, other) } in
      record { two = two; before = inr (refl, omega arith); unlisted = two_left i j found two (inr (refl, omega arith)) known }

  -- more are in doubt than are asked about together
  pub many_left : (n : ℕ) (found : Listing) → length standings ≡ n → AreTwoInDoubt standings → ArePairedTo t standings 0 0 found → IsLeftBefore standings n 0 found.listed.items
  many_left n found count two known = record {
    two = two;
    before = inl (omega (arith, count, doubt_inside standings two.lesser two.doubt.0));
    unlisted = two_left 0 0 found two (first two.lesser) known;
  }
    where
      first : (i : ℕ) → (0 < i) ⊎ ((0 ≡ i) × (0 ≤ two.greater))
      first i = elim (cases_eq 0 i) [
        | inl same ↦ inr (same, omega arith)
        | inr apart ↦ inl (omega (arith, apart))
      ]

  pub many_open : (n : ℕ) (found more : Listing) → length standings ≡ n → AreTwoInDoubt standings → more.listed.items ≡ found.listed.items → more.pairs_open ≡ true → ArePairedTo t standings 0 0 found → ArePairedTo t standings n 0 more
  many_open n found more count two same opened known = pair_open 0 0 n 0 found more (first n) same opened (many_left n found count two known) known
    where
      first : (i : ℕ) → (0 < i) ⊎ ((0 ≡ i) × (0 ≤ 0))
      first i = elim (cases_eq 0 i) [
        | inl is ↦ inr (is, omega arith)
        | inr apart ↦ inl (omega (arith, apart))
      ]

  -- a pair that excludes each other is listed
  pub pair_more : (i j : ℕ) (or_fewer : Bool) (found more : Listing) → more.listed.items ≡ found.listed.items ++ Pair i j or_fewer ∷ [] → more.pairs_open ≡ found.pairs_open
      → IsExclusion t (Pair i j or_fewer) → standing_of standings i ≡ Doubt → standing_of standings j ≡ Doubt → ArePairedTo t standings i j found → ArePairedTo t standings i (j + 1) more
  unfolding left_later
  pair_more i j or_fewer found more is same exclusion one_doubt other_doubt known = record {
    listed = subst (AreListedBefore t standings (Pair i (j + 1) false)) (sym is)
        (one_more_before (Pair i j or_fewer) (Pair i (j + 1) false) es exclusion (one_doubt, other_doubt) (λ e before. before_pair e i j i (j + 1) (inr (refl, omega arith)) (any_pair e before)) (inr (refl, omega arith)) (all_before (Pair i j false) (Pair i j or_fewer) es (λ e before. this_pair e before) known.listed));
    alone = λ a late. subst (λ (list : List Excluded). Contains list (Alone a)) (sym is) (Contains-append_left es (Pair i j or_fewer ∷ []) (Alone a) (known.alone a late));
    settled = λ closed a b below before one other. (
        subst (λ list. IsPairSettled t list a b) (sym is) (settled_before a b below before (λ earlier. known.settled (sym same ∙ closed) a b below earlier one other)));
    left = λ opened. left_still (known.left (sym same ∙ opened));
  }
    where
      es : List Excluded
      es = found.listed.items

      left_still : IsLeftBefore standings i j es → IsLeftBefore standings i (j + 1) more.listed.items
      left_still left = subst (IsLeftBefore standings i (j + 1)) (sym is) (record {
        two = left.two;
        before = (left_later i j i (j + 1) es (inr (refl, omega arith)) left).before;
        unlisted = All-push (IsNotOf left.two.lesser left.two.greater) es (Pair i j or_fewer) left.unlisted (apart left.before);
      })
        where
          apart : (left.two.lesser < i) ⊎ ((left.two.lesser ≡ i) × (left.two.greater < j)) → i ≡ left.two.lesser → j ≡ left.two.greater → ⊥
          apart (inl less) first second = omega (arith, less, first)
          apart (inr (same_one, less)) first second = omega (arith, less, second)

      any_pair : (e : Excluded) → ComesBefore e (Pair i j or_fewer) → ComesBefore e (Pair i j false)
      any_pair (Alone a) before = before
      any_pair (Pair a b fewer) before = before
      any_pair (Several js fewer) before = before

      this_pair : (e : Excluded) → ComesBefore e (Pair i j false) → ComesBefore e (Pair i j or_fewer)
      this_pair (Alone a) before = before
      this_pair (Pair a b fewer) before = before
      this_pair (Several js fewer) before = before

      listed_still : (a b : ℕ) → IsPairSettled t es a b → IsPairSettled t (es ++ Pair i j or_fewer ∷ []) a b
      listed_still a b (inl (fewer, has)) = inl (fewer, Contains-append_left es (Pair i j or_fewer ∷ []) (Pair a b fewer) has)
      listed_still a b (inr plan) = inr plan

      settled_before : (a b : ℕ) → a < b → (a < i) ⊎ ((a ≡ i) × (b < j + 1)) → ((a < i) ⊎ ((a ≡ i) × (b < j)) → IsPairSettled t es a b) → IsPairSettled t (es ++ Pair i j or_fewer ∷ []) a b
      settled_before a b below (inl less) earlier = listed_still a b (earlier (inl less))
      settled_before a b below (inr (first, less)) earlier = elim (cases_eq b j) [
        | inl last ↦ inl (or_fewer, subst (λ k. Contains (es ++ Pair i j or_fewer ∷ []) (Pair k b or_fewer)) (sym first) (subst (λ k. Contains (es ++ Pair i j or_fewer ∷ []) (Pair i k or_fewer)) (sym last) (Contains-push es (Pair i j or_fewer))))
        | inr apart ↦ listed_still a b (earlier (inr (first, omega (arith, less, apart))))
      ]

  -- neither of a pair is late alone
  pair_apart : (es : List Excluded) → All (IsFrom standings) es → (e : Excluded) → IsFrom standings e → IsApart es e
  pair_apart es stand (Alone j) is = tt
  pair_apart es stand (Pair i j fewer) (one, other) =
      (λ has. doubt_not_late (standing_of standings i) one (All-contains (IsFrom standings) es (Alone i) stand has), λ has. doubt_not_late (standing_of standings j) other (All-contains (IsFrom standings) es (Alone j) stand has))
  pair_apart es stand (Several js fewer) is = absurd is

  module _ (n : ℕ) (found : Listing) (all : n ≡ case_jobs t) (are : AreStandings t n standings) (known : ArePairedTo t standings n 0 found) where
    -- what is known of each two jobs in doubt
    settled_all : found.pairs_open ≡ false → (i j : ℕ) → i < j → IsInDoubt t i → IsInDoubt t j → IsSettled t found.listed.items i j
    settled_all closed i j below one other =
        let first : i < n = omega (arith, all, one.promised.inside) in
        let second : j < n = omega (arith, all, other.promised.inside) in
        go (in_doubt t n standings are i first one) (in_doubt t n standings are j second other)
      where
        settled_pair : IsPairSettled t found.listed.items i j → IsSettled t found.listed.items i j
        settled_pair (inl (fewer, has)) = as_pair fewer has
        settled_pair (inr plan) = together plan

        go : (standing_of standings i ≡ Late) ⊎ (standing_of standings i ≡ Doubt) → (standing_of standings j ≡ Late) ⊎ (standing_of standings j ≡ Doubt) → IsSettled t found.listed.items i j
        go (inl late) stands = one_alone (known.alone i late)
        go (inr doubt) (inl late) = other_alone (known.alone j late)
        go (inr doubt) (inr doubt_too) = settled_pair (known.settled closed i j below (inl (omega (arith, all, one.promised.inside))) doubt doubt_too)

    -- where a pair is open, two jobs in doubt aren't listed
    left_all : found.pairs_open ≡ true → HasUnlistedPair t found.listed.items
    left_all opened =
        let left = known.left opened in
        record {
          lesser = left.two.lesser;
          greater = left.two.greater;
          ascending = left.two.ascending;
          doubt = (doubt_is t n standings are left.two.lesser left.two.doubt.0, doubt_is t n standings are left.two.greater left.two.doubt.1);
          unlisted = left.unlisted;
        }

    never_listed : (j : ℕ) → IsNeverInTime t j → Contains found.listed.items (Alone j)
    never_listed j never = known.alone j (never_is_late t n standings are j (omega (arith, all, never.promised.inside)) never)

    -- what is listed in the end
    pub exclusions_some : 0 < length found.listed.items → AreExclusions t (exclusions_of found true)
    exclusions_some some = record {
      some = some;
      each = known.listed.each;
      order = known.listed.order;
      alone = never_listed;
      apart = All-weaker (IsFrom standings) (IsApart found.listed.items) (λ e is. pair_apart found.listed.items known.listed.from e is) found.listed.items known.listed.from;
      acyclic = λ closed. absurd (true≢false closed);
      pairs = settled_all;
      left = left_all;
    }

    -- one exclusion, where nothing else is listed
    pub exclusions_one : (e : Excluded) (more : Listing) → length found.listed.items ≡ 0 → more.listed.items ≡ found.listed.items ++ e ∷ [] → more.pairs_open ≡ found.pairs_open → IsExclusion t e → IsSeveral e → AreExclusions t (exclusions_of more true)
    exclusions_one e more empty is same exclusion are_several = go found.listed.items empty is never_listed settled_all left_all
      where
        settled_more : (i j : ℕ) → IsSettled t [] i j → IsSettled t (e ∷ []) i j
        settled_more i j (one_alone has) = absurd (omega (arith, has.1))
        settled_more i j (other_alone has) = absurd (omega (arith, has.1))
        settled_more i j (as_pair fewer has) = absurd (omega (arith, has.1))
        settled_more i j (together plan) = together plan

        not_it : (i j : ℕ) (x : Excluded) → IsSeveral x → IsNotOf i j x
        not_it i j (Alone k) several = absurd several
        not_it i j (Pair k l fewer) several = absurd several
        not_it i j (Several js fewer) several = tt

        left_more : HasUnlistedPair t [] → HasUnlistedPair t (e ∷ [])
        left_more left = record { lesser = left.lesser; greater = left.greater; ascending = left.ascending; doubt = left.doubt; unlisted = All-cons (IsNotOf left.lesser left.greater) e [] (not_it left.lesser left.greater e are_several) left.unlisted }

        go : (es : List Excluded) → length es ≡ 0 → more.listed.items ≡ es ++ e ∷ [] → ((j : ℕ) → IsNeverInTime t j → Contains es (Alone j))
            → (found.pairs_open ≡ false → (i j : ℕ) → i < j → IsInDoubt t i → IsInDoubt t j → IsSettled t es i j) → (found.pairs_open ≡ true → HasUnlistedPair t es) → AreExclusions t (exclusions_of more true)
        go (x ∷ es) none is_more never pairs left = absurd (omega (arith, none))
        go [] none is_more never pairs left = record {
          some = omega (arith, ap length is_more);
          each = subst (All (IsExclusion t)) (sym is_more) (All-cons (IsExclusion t) e [] exclusion (All-nil (IsExclusion t)));
          order = subst (AllPairs ComesBefore) (sym is_more) (λ a b d one two. absurd (omega (arith, one, two)));
          alone = λ j is_never. (let has = never j is_never in absurd (omega (arith, has.1)));
          apart = subst (λ list. All (IsApart list) list) (sym is_more) (All-cons (IsApart (e ∷ [])) e [] (alone_only e) (All-nil (IsApart (e ∷ []))));
          acyclic = λ open_not. absurd (true≢false open_not);
          pairs = λ closed i j below one other. subst (λ list. IsSettled t list i j) (sym is_more) (settled_more i j (pairs (sym same ∙ closed) i j below one other));
          left = λ opened. subst (HasUnlistedPair t) (sym is_more) (left_more (left (sym same ∙ opened)));
        }
