-- Parts of changes, one after another.
use Rattle.std.proofs.Common.{◌≡◌, ℕ, zero, suc, ◌+◌, ◌-◌, ◌<◌, ◌≤◌, ◌^◌, inl, inr, List, [], ◌∷◌, ◌++◌, take, drop, length, get_or, Option, Some, None, true, false, refl, sym, ap, ◌∙◌, subst, arith, length-append, append_assoc, add-one}
use Rattle.std.specs.Prelude.{slice_get, is_some}
use Rattle.std.proofs.Math.Seq.{take-add}
use Rattle.std.proofs.lemmas.List.{length-take, length-drop, take_all}
use Rattle.std.proofs.lemmas.Option.{slice_get_within}
use Rattle.shop_base.specs.Plan.{PlannedShop, jobs, machines, IsWellShaped}
use Rattle.shop_base.specs.Report.{IsNextMoment}
use Rattle.shop_base.specs.Cell.{Cell, cleaning}
use Rattle.shop_base.specs.Run.{Event, Reported, IsRun, ends_in}
use Rattle.shop_base.specs.declared.report.Report.TheVariants.{Arrive, Clean}
use Rattle.shop_base.specs.declared.move_order.Spot.TheVariants.{Out, At}
use Rattle.cell_tables.specs.declared.entry.Entry.{Entry}
use Rattle.cell_tables.specs.declared.entry.Entry.TheVariants.{Report as ReportEntry, Order as OrderEntry}
use Rattle.cell_tables.specs.Events.{events_of}
use Rattle.run_log.proofs.Audits.{events-join}
use Rattle.plan_revise.specs.declared.change.Change.{Change}
use Rattle.plan_revise.specs.declared.change.Change.TheVariants.{Hold}
use Rattle.plan_revise.specs.declared.change.NotRevised.{NotRevised}
use Rattle.plan_revise.specs.declared.change.NotRevised.TheVariants.{Refused, Memory}
use Rattle.plan_revise.specs.Settings.{setting}
use Rattle.plan_revise.specs.Aside.{IsPlantOf}
use Rattle.plan_revise.specs.Changes.{IsHeld}
use Rattle.plan_revise.specs.Revised.{AreMade, IsRevisedWithin, IsReasonNotRevisedWithin}
use Rattle.plan_revise.specs.Held.{entry_at_once}
use Rattle.run_revising.specs.Holding.{end_of_cleaning, hold_events}
use Rattle.run_revising.specs.RunChanges.{ChangingRun, unchanged, AreRunChanges, IsReasonNotMade}
use Rattle.run_revising.specs.Parts.{HoldsLast, IsPart, IsPartLength, IsPlaceBehind, placed_behind, AreAllMade, IsPartMade}
use Rattle.run_revising.specs.Holding.{is_hold, HoldNone}
use Rattle.run_revising.proofs.SoundRuns.{IsSoundRun, first_run, changes_sound}
use Rattle.run_revising.proofs.RunsChanged.{made_split, held_jobs, none_refused, take_none, before_last, changes_join, refused_join, refused_front}

-- ---- the length of a part

pub part_is : (changes : List Change) (n : ℕ) → IsPartLength changes n → IsPart (take n changes)
part_is changes n part = elim part.ends [
  | inl all ↦ inl (subst HoldNone (sym (take_all n changes (omega (arith, all.0)))) all.1)
  | inr held ↦ inr held
]

-- it has a change where there is one
pub part_some : (changes : List Change) (n : ℕ) → IsPartLength changes n → 0 < length changes → 0 < n
part_some changes n part some = elim part.ends [
  | inl all ↦ omega (arith, all.0, some)
  | inr held ↦ omega (arith, ap length held.1.is, length-append held.1.front (Hold held.0 held.1.to ∷ []), length-take n changes)
]

-- the first that holds a machine ends one
pub part_held : (changes : List Change) (n : ℕ) (change : Change) → HoldNone (take n changes) → slice_get changes n ≡ Some change → is_hold change ≡ true → IsPartLength changes (n + 1)
part_held changes n change none there held = go change there held
  where
    more : (n : ℕ) (xs : List Change) (x : Change) → slice_get xs n ≡ Some x → take (suc n) xs ≡ take n xs ++ x ∷ []
    more zero [] x there = absurd (cc)
    more zero (first ∷ xs) x there = ap (λ (y : Change). y ∷ []) (cc)
    more (suc n) [] x there = absurd (cc)
    more (suc n) (first ∷ xs) x there = ap (λ (ys : List Change). first ∷ ys) (more n xs x there)

    go : (change : Change) → slice_get changes n ≡ Some change → is_hold change ≡ true → IsPartLength changes (n + 1)
    go (Hold machine to) there held = record {
      within = omega (arith, slice_get_within changes n (Hold machine to) there);
      ends = inr (machine, record { front = take n changes; none = none; to = to; is = ap (λ k. take k changes) (add-one n) ∙ more n changes (Hold machine to) there });
    }
    go change there held = absurd (cc)

-- one more change that holds none
pub none_more : (changes : List Change) (n : ℕ) (d : Change) → HoldNone (take n changes) → n < length changes → is_hold (get_or changes n d) ≡ false → HoldNone (take (n + 1) changes)
none_more changes n d none inside next = subst (λ k. HoldNone (take k changes)) (sym (add-one n)) (go n changes none inside next)
  where
    go : (n : ℕ) (xs : List Change) → HoldNone (take n xs) → n < length xs → is_hold (get_or xs n d) ≡ false → HoldNone (take (suc n) xs)
    go n [] none inside next = absurd (omega (arith, inside))
    go zero (x ∷ xs) none inside next = (next, tt)
    go (suc n) (x ∷ xs) (first, others) inside next = (first, go n xs others (omega (arith, inside)) next)

-- no part holds a machine and holds none
holds_some : (front : List Change) (machine to : ℕ) → HoldNone (front ++ Hold machine to ∷ []) → ⊥
holds_some [] machine to none = absurd (differ none.0)
  where
    differ : true ≡ false → ⊥
    differ same = cc
holds_some (change ∷ front) machine to none = holds_some front machine to none.1

module _ (plant t : ℕ) (start : ChangingRun) (changes : List Change) where
  -- the first n changes make a plan and events of the run, which is one of that plan where there are more changes
  pub record IsMadeUpTo (n : ℕ) (q : PlannedShop) (events : List Event) : Type 0 where
    pub within : n ≤ length changes
    pub last : ChangingRun
    pub made : AreRunChanges plant t start (take n changes) last
    pub reached : q ≡ last.reached
    pub all_events : events ≡ last.events
    pub anew : n < length changes → last ≡ unchanged q events

module _ (plant t : ℕ) where
  -- what comes of a part
  record IsPartEnd (start : ChangingRun) (part : List Change) (q : PlannedShop) (events : List Event) : Type 0 where
    last : ChangingRun
    made : AreRunChanges plant t start part last
    reached : q ≡ last.reached
    all_events : events ≡ last.events
    anew : (machine : ℕ) → HoldsLast part machine → last ≡ unchanged q events

  part_end : (start : ChangingRun) (part : List Change) (q : PlannedShop) (events : List Event) → IsPartMade plant t start part q events → IsPartEnd start part q events
  part_end start part q events (inl alone) = record {
    last = record start { reached = q };
    made = alone.1;
    reached = refl;
    all_events = alone.2;
    anew = λ machine holds. absurd (holds_some holds.front machine holds.to (subst HoldNone holds.is alone.0));
  }
  part_end start part q events (inr made) = record { last = unchanged q events; made = made; reached = refl; all_events = refl; anew = λ machine holds. refl }

  held_before : (changes : List Change) (n : ℕ) → IsPartLength changes n → n < length changes → (machine : ℕ) × HoldsLast (take n changes) machine
  held_before changes n part less = elim part.ends [ inl all ↦ absurd (omega (arith, less, all.0)) | inr held ↦ held ]

  pub made_first : (start : ChangingRun) (changes : List Change) (n : ℕ) (q : PlannedShop) (events : List Event) → IsPartLength changes n → IsPartMade plant t start (take n changes) q events
      → IsMadeUpTo plant t start changes n q events
  made_first start changes n q events part made =
      let end = part_end start (take n changes) q events made in
      record {
        within = part.within;
        last = end.last;
        made = end.made;
        reached = end.reached;
        all_events = end.all_events;
        anew = λ less. (let held = held_before changes n part less in end.anew held.0 held.1);
      }

  pub made_next : (start : ChangingRun) (changes : List Change) (n k : ℕ) (q : PlannedShop) (events : List Event) (r : PlannedShop) (more : List Event) → IsMadeUpTo plant t start changes n q events → n < length changes
      → IsPartLength (drop n changes) k → IsPartMade plant t (unchanged q events) (take k (drop n changes)) r more → IsMadeUpTo plant t start changes (n + k) r more
  made_next start changes n k q events r more before less part made =
      let end = part_end (unchanged q events) (take k (drop n changes)) r more made in
      record {
        within = omega (arith, part.within, length-drop n changes, before.within);
        last = end.last;
        made = subst (λ (cs : List Change). AreRunChanges plant t start cs end.last) (sym (take-add n k changes))
            (changes_join plant t start (take n changes) (take k (drop n changes)) (unchanged q events) end.last
            (subst (AreRunChanges plant t start (take n changes)) (before.anew less) before.made) end.made);
        reached = end.reached;
        all_events = end.all_events;
        anew = λ left. (let held = held_before (drop n changes) k part (omega (arith, left, length-drop n changes)) in end.anew held.0 held.1);
      }

  pub made_all : (start : ChangingRun) (changes : List Change) (n : ℕ) (q : PlannedShop) (events : List Event) → IsMadeUpTo plant t start changes n q events → length changes ≤ n → AreAllMade plant t start changes q events
  made_all start changes n q events up past = record {
    last = up.last;
    made = subst (λ (cs : List Change). AreRunChanges plant t start cs up.last) (take_all n changes past) up.made;
    reached = up.reached;
    all_events = up.all_events;
  }

  -- ---- a change that can't be

  pub front_reason : (start : ChangingRun) (changes : List Change) (n : ℕ) (answer : NotRevised) → IsReasonNotMade plant t start (take n changes) answer → IsReasonNotMade plant t start changes answer
  front_reason start changes n (Refused k fault) is = refused_front plant t start changes n k fault is
  front_reason start changes n Memory is = tt

  pub further_reason : (start : ChangingRun) (changes : List Change) (n k : ℕ) (q : PlannedShop) (events : List Event) (answer : NotRevised) → IsMadeUpTo plant t start changes n q events → n < length changes
      → IsReasonNotMade plant t (unchanged q events) (take k (drop n changes)) answer → IsReasonNotMade plant t start changes (placed_behind n answer)
  further_reason start changes n k q events (Refused place fault) before less is =
      refused_front plant t start changes (n + k) (n + place) fault
      (subst (λ (cs : List Change). IsReasonNotMade plant t start cs (Refused (n + place) fault)) (sym (take-add n k changes))
      (refused_join plant t start (take n changes) (take k (drop n changes)) (unchanged q events) place (n + place) fault
      (subst (AreRunChanges plant t start (take n changes)) (before.anew less) before.made) is (omega (arith, length-take n changes, before.within))))
  further_reason start changes n k q events Memory before less is = tt

  -- its place is within the list
  pub place_behind : (start : ChangingRun) (changes : List Change) (n k : ℕ) (answer : NotRevised) → n < length changes → length changes < 2 ^ 64 → IsReasonNotMade plant t start (take k (drop n changes)) answer → IsPlaceBehind n answer
  place_behind start changes n k (Refused place fault) less few is =
      omega (arith, less, few, slice_get_within (take k (drop n changes)) place is.change is.there, length-take k (drop n changes), length-drop n changes)
  place_behind start changes n k Memory less few is = tt

  -- the part's first change that can't be
  pub part_reason : (p : PlannedShop) (es : List Event) (part : List Change) (answer : NotRevised) → IsPart part → IsReasonNotRevisedWithin p (ends_in p es) t plant part answer
      → IsReasonNotMade plant t (unchanged p es) part answer
  part_reason p es part (Refused n fault) is_part is = none_refused plant t (unchanged p es) part n fault (elim is_part [
    | inl none ↦ take_none n part none
    | inr held ↦ subst (λ (cs : List Change). HoldNone (take n cs)) (sym held.1.is)
        (before_last held.1.front (Hold held.0 held.1.to) is.change n held.1.none (subst (λ (cs : List Change). slice_get cs n ≡ Some is.change) held.1.is is.there))
  ]) is
  part_reason p es part Memory is_part is = tt

-- ---- the last change of a part

last_there : (front : List Change) (x : Change) (n : ℕ) → length front ≡ n → slice_get (front ++ x ∷ []) n ≡ Some x
last_there [] x zero size = refl
last_there [] x (suc n) size = absurd (omega (arith, size))
last_there (change ∷ front) x zero size = absurd (omega (arith, size))
last_there (change ∷ front) x (suc n) size = last_there front x n (omega (arith, size))

none_there : (changes : List Change) (n : ℕ) (found : Change) → HoldNone changes → slice_get changes n ≡ Some found → is_hold found ≡ false
none_there [] n found none there = absurd (cc)
none_there (change ∷ changes) zero found none there = go (cc) none.0
  where
    go : change ≡ found → is_hold change ≡ false → is_hold found ≡ false
    go same is = subst (λ (x : Change). is_hold x ≡ false) same is
none_there (change ∷ changes) (suc n) found none there = none_there changes n found none.1 there

pub last_held : (part : List Change) (machine to : ℕ) → IsPart part → slice_get part (length part - 1) ≡ Some (Hold machine to) → HoldsLast part machine
last_held part machine to (inl none) there = absurd (differ (none_there part (length part - 1) (Hold machine to) none there))
  where
    differ : true ≡ false → ⊥
    differ same = cc
last_held part machine to (inr (other, holds)) there = subst (HoldsLast part) same holds
  where
    at_end : slice_get part (length part - 1) ≡ Some (Hold other holds.to)
    at_end =
        let size : length holds.front ≡ length part - 1 = omega (arith, ap length holds.is, length-append holds.front (Hold other holds.to ∷ [])) in
        ap (λ (cs : List Change). slice_get cs (length part - 1)) holds.is ∙ last_there holds.front (Hold other holds.to) (length part - 1) size

    same : other ≡ machine
    same = let both : Some (Hold other holds.to) ≡ Some (Hold machine to) = sym at_end ∙ there in cc

pub last_other : (part : List Change) (change : Change) → IsPart part → slice_get part (length part - 1) ≡ Some change → is_hold change ≡ false → HoldNone part
last_other part change (inl none) there other = none
last_other part change (inr (machine, holds)) there other = absurd (differ (subst (λ (x : Change). is_hold x ≡ false) same other))
  where
    at_end : slice_get part (length part - 1) ≡ Some (Hold machine holds.to)
    at_end =
        let size : length holds.front ≡ length part - 1 = omega (arith, ap length holds.is, length-append holds.front (Hold machine holds.to ∷ [])) in
        ap (λ (cs : List Change). slice_get cs (length part - 1)) holds.is ∙ last_there holds.front (Hold machine holds.to) (length part - 1) size

    same : change ≡ Hold machine holds.to
    same = let both : Some change ≡ Some (Hold machine holds.to) = sym there ∙ at_end in cc

    differ : true ≡ false → ⊥
    differ is = cc

-- ---- a job that holds a machine

-- the last of some changes is made of what those before it made
held_one : (p : PlannedShop) (c : Cell) (t plant : ℕ) (part : List Change) (machine : ℕ) (q : PlannedShop) → (holds : HoldsLast part machine) → IsRevisedWithin p c t plant part q
    → (mid : PlannedShop) × IsHeld (setting p c t plant) mid machine holds.to q
held_one p c t plant part machine q holds made =
    let found = made_split (setting p c t plant) p holds.front (Hold machine holds.to ∷ []) q (subst (λ (cs : List Change). AreMade (setting p c t plant) p cs q) holds.is made) in
    (found.0, subst (λ (x : PlannedShop). IsHeld (setting p c t plant) found.0 machine holds.to x) (sym found.2.2) found.2.1)

-- the machine is one of the plan
pub held_inside : (p : PlannedShop) (c : Cell) (t plant : ℕ) (part : List Change) (machine : ℕ) (q : PlannedShop) → IsPlantOf p plant → HoldsLast part machine → IsRevisedWithin p c t plant part q → machine < machines p
held_inside p c t plant part machine q (inl whole) holds made = omega (arith, whole, (held_one p c t plant part machine q holds made).1.in_plant)
held_inside p c t plant part machine q (inr aside) holds made = omega (arith, aside.last, (held_one p c t plant part machine q holds made).1.in_plant)

-- the new plan has a job
pub held_some_job : (p : PlannedShop) (c : Cell) (t plant : ℕ) (part : List Change) (machine : ℕ) (q : PlannedShop) → HoldsLast part machine → IsRevisedWithin p c t plant part q → 0 < jobs q
held_some_job p c t plant part machine q holds made =
    let one = held_one p c t plant part machine q holds made in
    omega (arith, ap jobs one.1.is, held_jobs (setting p c t plant) one.0 machine (holds.to - t))

-- ---- the entries of a hold

end_there : (since : Option ℕ) (machine t : ℕ) → is_some since ≡ true → end_of_cleaning since machine t ≡ Reported (Clean machine t) ∷ []
end_there None machine t some = absurd (cc)
end_there (Some from) machine t some = refl

no_end : (since : Option ℕ) (machine t : ℕ) → is_some since ≡ false → end_of_cleaning since machine t ≡ []
no_end None machine t none = refl
no_end (Some from) machine t none = absurd (cc)

module _ (before : List Entry) (c : Cell) (machine j t : ℕ) (since : Option ℕ) (same : since ≡ cleaning c machine) where
  abbrev entering : List Entry
  entering = ReportEntry (Arrive j t) ∷ OrderEntry (record { job = j; source = Out; target = At machine; at = t }) ∷ []

  -- the entries of a hold behind others are its events, where the machine isn't being cleaned
  pub entered_clean : (after : List Entry) → is_some since ≡ false → after ≡ before ++ entering → events_of after ≡ events_of before ++ hold_events c machine j t
  entered_clean after none is =
      ap events_of is ∙ events-join before entering
      ∙ ap (λ (es : List Event). events_of before ++ (es ++ entry_at_once machine j t)) (sym (ap (λ (x : Option ℕ). end_of_cleaning x machine t) (sym same) ∙ no_end since machine t none))

  -- and where it is
  pub entered_cleaned : (after : List Entry) → is_some since ≡ true → after ≡ before ++ ReportEntry (Clean machine t) ∷ entering → events_of after ≡ events_of before ++ hold_events c machine j t
  entered_cleaned after some is =
      ap events_of is ∙ events-join before (ReportEntry (Clean machine t) ∷ entering)
      ∙ ap (λ (es : List Event). events_of before ++ (es ++ entry_at_once machine j t)) (sym (ap (λ (x : Option ℕ). end_of_cleaning x machine t) (sym same) ∙ end_there since machine t some))

-- entries that are added one by one
pub add_two : (xs : List Entry) (a b : Entry) → (xs ++ a ∷ []) ++ b ∷ [] ≡ xs ++ a ∷ b ∷ []
add_two xs a b = append_assoc xs (a ∷ []) (b ∷ [])

pub add_three : (xs : List Entry) (a b c : Entry) → ((xs ++ a ∷ []) ++ b ∷ []) ++ c ∷ [] ≡ xs ++ a ∷ b ∷ c ∷ []
add_three xs a b c = append_assoc (xs ++ a ∷ []) (b ∷ []) (c ∷ []) ∙ append_assoc xs (a ∷ []) (b ∷ c ∷ [])

-- ---- what is left of the changes

-- all behind the first n
pub left_is : (changes : List Change) (n : ℕ) → take (length changes - n) (drop n changes) ≡ drop n changes
left_is changes n = take_all (length changes - n) (drop n changes) (omega (arith, length-drop n changes))

module _ (p : PlannedShop) (es : List Event) (c : Cell) (plant t : ℕ) (shaped : IsWellShaped p) (run : IsRun p es) (ends : c ≡ ends_in p es) (moment : IsNextMoment c t) (is_plant : IsPlantOf p plant) where
  at_first : IsSoundRun plant t (unchanged p es)
  at_first = first_run plant t p es shaped run (subst (λ (x : Cell). IsNextMoment x t) ends moment) is_plant

  module _ (changes : List Change) (n : ℕ) (q : PlannedShop) (events : List Event) (up : IsMadeUpTo plant t (unchanged p es) changes n q events) (less : n < length changes) where
    -- the run so far goes on by the plan that is reached
    pub sound_up_to : IsSoundRun plant t (unchanged q events)
    sound_up_to = subst (IsSoundRun plant t) (up.anew less) (changes_sound plant t (unchanged p es) (take n changes) up.last at_first up.made)
