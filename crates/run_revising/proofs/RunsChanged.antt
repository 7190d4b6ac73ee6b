-- What changes make of a run, where it is known what they make of its plan.
use Rattle.std.proofs.Common.{◌≡◌, ℕ, zero, suc, ◌+◌, ◌-◌, List, [], ◌∷◌, ◌++◌, take, length, Some, false, refl, sym, ap, ◌∙◌, subst, arith, length-append}
use Rattle.std.specs.Prelude.{slice_get}
use Rattle.std.proofs.lemmas.List.{length-set}
use Rattle.shop_base.specs.Plan.{PlannedShop, jobs}
use Rattle.shop_base.specs.Run.{ends_in}
use Rattle.plan_revise.specs.declared.change.Change.{Change}
use Rattle.plan_revise.specs.declared.change.Change.TheVariants.{Until, Add, Scrap, Down, Route, Release, Budget, Hold}
use Rattle.plan_revise.specs.declared.change.ChangeFault.{ChangeFault}
use Rattle.plan_revise.specs.Promises.{no_promise}
use Rattle.plan_revise.specs.Placed.{with_new_job, added}
use Rattle.plan_revise.specs.Settings.{RevisionSetting}
use Rattle.plan_revise.specs.Changes.{IsHeld}
use Rattle.plan_revise.specs.Held.{held}
use Rattle.plan_revise.specs.Revised.{AreMade, IsFirstRefused}
use Rattle.run_revising.specs.Holding.{hold_events}
use Rattle.run_revising.specs.RunChanges.{ChangingRun, unchanged, judged_by, behind, AreRunChanges, IsFirstNotMade}
use Rattle.run_revising.specs.Parts.{HoldsLast}
use Rattle.run_revising.specs.Holding.{is_hold, HoldNone}

-- ---- changes of a plan

-- one after another
pub made_join : (s : RevisionSetting) (p : PlannedShop) (xs ys : List Change) (mid q : PlannedShop) → AreMade s p xs mid → AreMade s mid ys q → AreMade s p (xs ++ ys) q
made_join s p [] ys mid q same more = subst (λ (p : PlannedShop). AreMade s p ys q) same more
made_join s p (change ∷ xs) ys mid q (next, one, rest) more = (next, one, made_join s next xs ys mid q rest more)

pub made_split : (s : RevisionSetting) (p : PlannedShop) (xs ys : List Change) (q : PlannedShop) → AreMade s p (xs ++ ys) q → (mid : PlannedShop) × AreMade s p xs mid × AreMade s mid ys q
made_split s p [] ys q made = (p, refl, made)
made_split s p (change ∷ xs) ys q (next, one, rest) = (let found = made_split s next xs ys q rest in (found.0, (next, one, found.1), found.2))

-- one job more
pub held_jobs : (s : RevisionSetting) (p : PlannedShop) (machine time : ℕ) → jobs (held s p machine time) ≡ jobs p + 1
held_jobs s p machine time =
    length-set (added p [] s.present no_promise).shop.routes (jobs p) _ ∙ length-set (with_new_job p).shop.routes (jobs p) [] ∙ length-append p.shop.routes ([] ∷ [])

-- a place in the front of a list
pub front_there : (n k : ℕ) (xs : List Change) (found : Change) → slice_get (take n xs) k ≡ Some found → (slice_get xs k ≡ Some found) × (take k (take n xs) ≡ take k xs)
front_there zero k xs found there = absurd (cc)
front_there (suc n) k [] found there = absurd (cc)
front_there (suc n) zero (x ∷ xs) found there = (there, refl)
front_there (suc n) (suc k) (x ∷ xs) found there = (let further = front_there n k xs found there in (further.0, ap (λ (cs : List Change). x ∷ cs) further.1))

-- ---- changes of a run

module _ (plant t : ℕ) where
  -- a change that holds no machine changes the plan alone
  pub plan_alone : (r : ChangingRun) (change : Change) (next : PlannedShop) → is_hold change ≡ false → behind plant t r change next ≡ record r { reached = next }
  plan_alone r (Until machine to) next none = refl
  plan_alone r (Add words first last) next none = refl
  plan_alone r (Scrap j) next none = refl
  plan_alone r (Down machine) next none = refl
  plan_alone r (Route j words) next none = refl
  plan_alone r (Release j moment) next none = refl
  plan_alone r (Budget j moment) next none = refl
  plan_alone r (Hold machine to) next none = absurd (cc)

  -- and so do several
  pub none_changes : (r : ChangingRun) (changes : List Change) (q : PlannedShop) → HoldNone changes → AreMade (judged_by plant t r) r.reached changes q → AreRunChanges plant t r changes (record r { reached = q })
  none_changes r [] q none same = ap (λ (q : PlannedShop). record r { reached = q }) same
  none_changes r (change ∷ changes) q (first, others) (next, one, rest) = (
    next,
    one,
    subst (λ (x : ChangingRun). AreRunChanges plant t x changes (record r { reached = q })) (sym (plan_alone r change next first))
        (none_changes (record r { reached = next }) changes q others rest),
  )

  -- changes of a run, one after another
  pub changes_join : (r : ChangingRun) (xs ys : List Change) (mid last : ChangingRun) → AreRunChanges plant t r xs mid → AreRunChanges plant t mid ys last → AreRunChanges plant t r (xs ++ ys) last
  changes_join r [] ys mid last same more = subst (λ (x : ChangingRun). AreRunChanges plant t x ys last) same more
  changes_join r (change ∷ xs) ys mid last (next, one, rest) more = (next, one, changes_join (behind plant t r change next) xs ys mid last rest more)

  -- where the last of them holds a machine, the run goes on by the new plan
  pub hold_changes : (r : ChangingRun) (changes : List Change) (machine : ℕ) (q : PlannedShop) → HoldsLast changes machine → AreMade (judged_by plant t r) r.reached changes q
      → AreRunChanges plant t r changes (unchanged q (r.events ++ hold_events (ends_in r.given r.events) machine (jobs q - 1) t))
  hold_changes r changes machine q holds made =
      subst (λ (cs : List Change). AreRunChanges plant t r cs last) (sym holds.is)
      (changes_join r holds.front (Hold machine holds.to ∷ []) (record r { reached = found.0 }) last (none_changes r holds.front found.0 holds.none found.1) (q, one, there))
    where
      last : ChangingRun
      last = unchanged q (r.events ++ hold_events (ends_in r.given r.events) machine (jobs q - 1) t)

      found : (mid : PlannedShop) × AreMade (judged_by plant t r) r.reached holds.front mid × AreMade (judged_by plant t r) mid (Hold machine holds.to ∷ []) q
      found = made_split (judged_by plant t r) r.reached holds.front (Hold machine holds.to ∷ []) q (subst (λ (cs : List Change). AreMade (judged_by plant t r) r.reached cs q) holds.is made)

      one : IsHeld (judged_by plant t r) found.0 machine holds.to q
      one = subst (λ (x : PlannedShop). IsHeld (judged_by plant t r) found.0 machine holds.to x) (sym found.2.2) found.2.1

      before : jobs q - 1 ≡ jobs found.0
      before = omega (arith, ap jobs one.is, held_jobs (judged_by plant t r) found.0 machine (holds.to - t))

      there : last ≡ unchanged q (r.events ++ hold_events (ends_in r.given r.events) machine (jobs found.0) t)
      there = ap (λ n. unchanged q (r.events ++ hold_events (ends_in r.given r.events) machine n t)) before

  -- changes of a run none of which holds a machine are those of its plan
  pub changes_none : (r : ChangingRun) (changes : List Change) (last : ChangingRun) → HoldNone changes → AreRunChanges plant t r changes last → (last.events ≡ r.events) × AreMade (judged_by plant t r) r.reached changes last.reached
  changes_none r [] last none same = (ap (λ (x : ChangingRun). x.events) same, ap (λ (x : ChangingRun). x.reached) same)
  changes_none r (change ∷ changes) last (first, others) (next, one, rest) =
      let further = changes_none (record r { reached = next }) changes last others (subst (λ (x : ChangingRun). AreRunChanges plant t x changes last) (plan_alone r change next first) rest) in
      (further.0, (next, one, further.1))

  -- ---- a change that can't be

  pub none_refused : (r : ChangingRun) (changes : List Change) (n : ℕ) (fault : ChangeFault) → HoldNone (take n changes) → IsFirstRefused (judged_by plant t r) r.reached changes n fault → IsFirstNotMade plant t r changes n fault
  none_refused r changes n fault none f = record {
    last = record r { reached = f.reached };
    before = none_changes r (take n changes) f.reached none f.before;
    change = f.change;
    there = f.there;
    refused = f.refused;
  }

  pub refused_join : (r : ChangingRun) (xs ys : List Change) (mid : ChangingRun) (n k : ℕ) (fault : ChangeFault) → AreRunChanges plant t r xs mid → IsFirstNotMade plant t mid ys n fault → length xs + n ≡ k → IsFirstNotMade plant t r (xs ++ ys) k fault
  refused_join r [] ys mid n k fault same f place =
      let here : n ≡ k = omega (arith, place) in
      subst (λ (x : ChangingRun). IsFirstNotMade plant t x ys k fault) same (subst (λ k. IsFirstNotMade plant t mid ys k fault) here f)
  refused_join r (change ∷ xs) ys mid n zero fault made f place = absurd (omega (arith, place))
  refused_join r (change ∷ xs) ys mid n (suc k) fault (next, one, rest) f place =
      let further = refused_join (behind plant t r change next) xs ys mid n k fault rest f (omega (arith, place)) in
      record { last = further.last; before = (next, one, further.before); change = further.change; there = further.there; refused = further.refused }

  -- the first of some changes that can't be is the first of all
  pub refused_front : (r : ChangingRun) (changes : List Change) (n k : ℕ) (fault : ChangeFault) → IsFirstNotMade plant t r (take n changes) k fault → IsFirstNotMade plant t r changes k fault
  refused_front r changes n k fault f = (let front = front_there n k changes f.change f.there in record {
    last = f.last;
    before = subst (λ (cs : List Change). AreRunChanges plant t r cs f.last) front.1 f.before;
    change = f.change;
    there = front.0;
    refused = f.refused;
  })

-- before the last change there is none that holds a machine, where only the last may
pub take_none : (n : ℕ) (changes : List Change) → HoldNone changes → HoldNone (take n changes)
take_none zero changes none = tt
take_none (suc n) [] none = tt
take_none (suc n) (change ∷ changes) (first, others) = (first, take_none n changes others)

pub before_last : (front : List Change) (last found : Change) (n : ℕ) → HoldNone front → slice_get (front ++ last ∷ []) n ≡ Some found → HoldNone (take n (front ++ last ∷ []))
before_last front last found zero none there = tt
before_last [] last found (suc n) none there = absurd (cc)
before_last (change ∷ front) last found (suc n) (first, others) there = (first, before_last front last found n others there)
