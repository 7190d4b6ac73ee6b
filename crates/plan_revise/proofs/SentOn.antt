-- A job in the cell that is sent on step by step: the plan fits, the run so far is kept, and no cycle comes.
use Rattle.std.proofs.Common.{◌≡◌, ◌≢◌, ℕ, zero, suc, None, Some, take, drop, add-one, ◌+◌, ◌-◌, ◌<◌, ◌≤◌, ◌⊎◌, inl, inr, List, [], ◌∷◌, ◌++◌, length, Bool, refl, sym, ap, ◌∙◌, subst, arith, length-append, append_assoc}
use Rattle.std.specs.Prelude.{insert, slice_get}
use Rattle.std.proofs.lemmas.Option.{same_Some}
use Rattle.std.proofs.lemmas.Bool.{cases_eq}
use Rattle.std.proofs.lemmas.List.{append-nil, get_or-append-add}
use Rattle.std.proofs.lemmas.List.Edits.{insert-append_right}
use Rattle.std.proofs.Math.ListN.{get_or-append}
use Rattle.shop_base.specs.declared.shop.Step.{Step}
use Rattle.shop_base.specs.declared.limits.TheConstants.{MAX_NOMINAL}
use Rattle.shop_base.specs.Shop.{IsRoute, IsSoundStep, step_at, no_step}
use Rattle.shop_base.specs.Plan.{PlannedShop, jobs, machines, route, steps, order, IsWellShaped}
use Rattle.shop_base.specs.Cell.{entries}
use Rattle.shop_base.specs.Move.{IsPrefix}
use Rattle.plan_verifier.specs.Accepted.{HasNoCycle}
use Rattle.plan_revise.specs.Settings.{RevisionSetting, moves_made}
use Rattle.plan_revise.specs.AnotherWay.{with_visit_at, IsOpenPlace, IsFurthestBehind, AreFurthestBehind}
use Rattle.plan_revise.specs.Fits.{IsFit, IsKept, IsRevision}
use Rattle.plan_revise.specs.Answers.{IsSendable, HasPlace}
use Rattle.plan_revise.proofs.Fitting.{fits_shaped}
use Rattle.plan_revise.proofs.Inserted.{visit-jobs, visit-mine, visit-others, visit-order, visit-orders, visit-steps, visit-visits, visit-fit}
use Rattle.plan_revise.proofs.Keeping.{moves_given}

-- ---- routes

-- a route over some machines is one over more
more-machines : (few many : ℕ) (again : Bool) (r : List Step) → few ≤ many → IsRoute few again r → IsRoute many again r
more-machines few many again r le sound = record { visits_some = sound.visits_some; few_steps = sound.few_steps; steps = step }
  where
    step : (k : ℕ) → k < length r → IsSoundStep many again r k
    step k less =
        let one = sound.steps k less in
        record { in_range = omega (arith, le, one.in_range); elsewhere = one.elsewhere; first_visit = one.first_visit; nominal = one.nominal }

-- a route over the machines of the plant is one over those of the shop
pub wider-way : (s : RevisionSetting) (p : PlannedShop) (again : Bool) (r : List Step) → IsRevision s p → IsRoute s.plant again r → IsRoute (machines p) again r
wider-way s p again r revision sound = more-machines s.plant (machines p) again r (elim revision.plant [ inl same ↦ omega arith | inr more ↦ omega arith ]) sound

-- one sound step is a route
pub one-way : (count : ℕ) (again : Bool) (step : Step) → step.machine < count → step.nominal ≤ MAX_NOMINAL → IsRoute count again (step ∷ [])
one-way count again step less short = record { visits_some = omega arith; few_steps = omega arith; steps = sound }
  where
    sound : (k : ℕ) → k < length (step ∷ []) → IsSoundStep count again (step ∷ []) k
    sound zero within = record { in_range = less; elsewhere = λ (i, next, same). absurd (omega (arith, next)); first_visit = λ once i before same. absurd (omega arith); nominal = short }
    sound (suc k) within = absurd (omega arith)

-- the front of a route is one
pub front-way : (count : ℕ) (again : Bool) (xs ys : List Step) → 0 < length xs → IsRoute count again (xs ++ ys) → IsRoute count again xs
front-way count again xs ys some sound = record { visits_some = some; few_steps = omega (arith, sound.few_steps, length-append xs ys); steps = step }
  where
    at : (k : ℕ) → k < length xs → step_at (xs ++ ys) k ≡ step_at xs k
    at k less = get_or-append xs ys no_step k less

    step : (k : ℕ) → k < length xs → IsSoundStep count again xs k
    step k less =
        let one = sound.steps k (omega (arith, less, length-append xs ys)) in
        let here : (step_at (xs ++ ys) k).machine ≡ (step_at xs k).machine = ap (λ (s : Step). s.machine) (at k less) in
        record {
          in_range = omega (arith, one.in_range, here);
          elsewhere = λ (i, next, same). one.elsewhere (i, next, ap (λ (s : Step). s.machine) (at i (omega (arith, next, less))) ∙ same ∙ sym here);
          first_visit = λ once i before same. one.first_visit once i before (ap (λ (s : Step). s.machine) (at i (omega (arith, before, less))) ∙ same ∙ sym here);
          nominal = omega (arith, one.nominal, ap (λ (s : Step). s.nominal) (at k less));
        }

-- its last step is on a machine of the plant
pub last-machine : (count : ℕ) (again : Bool) (r : List Step) (step : Step) → IsRoute count again (r ++ step ∷ []) → step.machine < count
last-machine count again r step sound =
    let at : length r + 0 ≡ length r = omega arith in
    let last = sound.steps (length r) (omega (arith, length-append r (step ∷ []))) in
    omega (arith, last.in_range, ap (λ k. (step_at (r ++ step ∷ []) k).machine) at, ap (λ (s : Step). s.machine) (get_or-append-add r (step ∷ []) 0 no_step))

no_step_there : (step : Step) → None ≡ Some step → ⊥
no_step_there step same = cc

-- the steps that are left begin with the one at this place
next_step : (way : List Step) (n : ℕ) (step : Step) → slice_get way n ≡ Some step → drop n way ≡ step ∷ drop (suc n) way
next_step [] n step there = absurd (no_step_there step there)
next_step (x ∷ way) zero step there = ap (λ (y : Step). y ∷ way) (same_Some x step there)
next_step (x ∷ way) (suc n) step there = next_step way n step there

-- ---- one visit more

-- a revision, but that job j's route may have no step yet
pub record IsRevisionBut (s : RevisionSetting) (p : PlannedShop) (j : ℕ) : Type 0 where
  pub fit : IsFit p
  pub some_step : (i : ℕ) → i < jobs p → i ≢ j → 0 < steps p i
  pub kept : IsKept s p
  pub no_fewer : machines s.given ≤ machines p
  pub plant : (machines p ≡ s.plant) ⊎ (machines p ≡ s.plant + 1)

module _ (s : RevisionSetting) (p : PlannedShop) (j : ℕ) (step : Step) (a : ℕ) (but : IsRevisionBut s p j) (inside : j < jobs p) (here : moves_made s j ≤ steps p j) (sound : IsRoute s.plant p.shop.recirculates (route p j ++ step ∷ [])) (free : IsOpenPlace s p j step.machine a) where
  wider : IsRoute (machines p) p.shop.recirculates (route p j ++ step ∷ [])
  wider = more-machines s.plant (machines p) p.shop.recirculates (route p j ++ step ∷ []) (elim but.plant [ inl same ↦ omega arith | inr more ↦ omega arith ]) sound

  in_shop : step.machine < machines p
  in_shop = last-machine (machines p) p.shop.recirculates (route p j) step wider

  visit-kept : IsKept s (with_visit_at p j step a)
  visit-kept = record {
    jobs_there = omega (arith, but.kept.jobs_there, visit-jobs p j step a);
    entered = λ i k moved visits. visit-visits p j step a inside i k _ (but.kept.entered i k moved visits);
    left = λ i given gone. elim (cases_eq i j) [
      | inl same ↦ absurd (omega (arith, gone, but.kept.left i given gone, ap (steps p) same, here, ap (moves_made s) same, moves_given s i given))
      | inr other ↦ ap length (visit-others p j step a i other) ∙ but.kept.left i given gone
    ];
    begun = λ m given. elim (cases_eq m step.machine) [
      | inl same ↦ subst (λ m. IsPrefix (entries s.cell m) (order (with_visit_at p j step a) m)) (sym same) (first (subst (λ m. IsPrefix (entries s.cell m) (order p m)) same (but.kept.begun m given)))
      | inr other ↦ (let prefix = but.kept.begun m given in (prefix.0, visit-orders p j step a m other ∙ prefix.1))
    ];
    cleaned = but.kept.cleaned;
  }
    where
      first : IsPrefix (entries s.cell step.machine) (order p step.machine) → IsPrefix (entries s.cell step.machine) (order (with_visit_at p j step a) step.machine)
      first prefix = (
        insert prefix.0 (a - length (entries s.cell step.machine)) j,
        visit-order p j step a (omega (arith, in_shop, but.fit.counts.orders)) ∙ ap (λ (xs : List ℕ). insert xs a j) prefix.1
            ∙ insert-append_right (entries s.cell step.machine) prefix.0 (length (entries s.cell step.machine)) a j refl free.behind_entries,
      )

  pub longer-revision : IsRevision s (with_visit_at p j step a)
  longer-revision = record {
    fit = visit-fit p j step a inside but.fit in_shop free.within wider;
    some_step = λ i there. elim (cases_eq i j) [
      | inl same ↦ omega (arith, ap (steps (with_visit_at p j step a)) same, visit-steps p j step a inside)
      | inr other ↦ omega (arith, ap length (visit-others p j step a i other), but.some_step i (omega (arith, visit-jobs p j step a)) other)
    ];
    kept = visit-kept;
    no_fewer = but.no_fewer;
    plant = but.plant;
  }

pub visit-revision : (s : RevisionSetting) (p : PlannedShop) (j : ℕ) (step : Step) (a : ℕ) → IsRevision s p → j < jobs p → moves_made s j ≤ steps p j → IsRoute s.plant p.shop.recirculates (route p j ++ step ∷ []) → IsOpenPlace s p j step.machine a → IsRevision s (with_visit_at p j step a)
visit-revision s p j step a revision = longer-revision s p j step a (record { fit = revision.fit; some_step = λ i there other. revision.some_step i there; kept = revision.kept; no_fewer = revision.no_fewer; plant = revision.plant })

-- where a job can make a step, each open place is one of its order
pub open-place : (s : RevisionSetting) (p : PlannedShop) (j : ℕ) (step : Step) (a : ℕ) → IsSendable s p j step → IsOpenPlace s p j step.machine a → HasPlace p j step a
open-place s p j step a can free = record {
  inside = can.inside;
  in_shop = last-machine (machines p) p.shop.recirculates (route p j) step (wider-way s p p.shop.recirculates (route p j ++ step ∷ []) can.revision can.sound);
  rows = can.revision.fit.counts.orders;
  within = free.within;
}

-- and makes a plan that is well shaped
pub open-shaped : (s : RevisionSetting) (p : PlannedShop) (j : ℕ) (step : Step) (a : ℕ) → IsSendable s p j step → IsOpenPlace s p j step.machine a → IsWellShaped (with_visit_at p j step a)
open-shaped s p j step a can free =
    let next = visit-revision s p j step a can.revision can.inside can.here can.sound free in
    fits_shaped (with_visit_at p j step a) next.fit next.some_step

-- ---- one after another

-- what sending job j on by these steps leaves
pub record AreSentOn (s : RevisionSetting) (p : PlannedShop) (j : ℕ) (way : List Step) (q : PlannedShop) : Type 0 where
  pub revision : IsRevision s q
  pub jobs_same : jobs q ≡ jobs p
  pub mine : route q j ≡ route p j ++ way
  pub others : (i : ℕ) → i ≢ j → route q i ≡ route p i
  pub again : q.shop.recirculates ≡ p.shop.recirculates
  pub more_machines : machines p ≤ machines q

module _ (s : RevisionSetting) (j : ℕ) where
  pub one-sent : (p : PlannedShop) (step : Step) (q : PlannedShop) → IsRevision s p → j < jobs p → moves_made s j ≤ steps p j → IsRoute s.plant p.shop.recirculates (route p j ++ step ∷ []) → IsFurthestBehind s p j step q → AreSentOn s p j (step ∷ []) q
  one-sent p step q revision inside here sound one = subst (AreSentOn s p j (step ∷ [])) (sym one.is) (record {
    revision = visit-revision s p j step one.place revision inside here sound one.free;
    jobs_same = visit-jobs p j step one.place;
    mine = visit-mine p j step one.place inside;
    others = visit-others p j step one.place;
    again = refl;
    more_machines = omega arith;
  })

  -- the first of these steps is sound behind the others
  pub first-way : (p : PlannedShop) (step : Step) (way : List Step) → IsRoute s.plant p.shop.recirculates (route p j ++ step ∷ way) → IsRoute s.plant p.shop.recirculates (route p j ++ step ∷ [])
  first-way p step way sound = front-way s.plant p.shop.recirculates (route p j ++ step ∷ []) way (omega (arith, length-append (route p j) (step ∷ [])))
      (subst (IsRoute s.plant p.shop.recirculates) (sym (append_assoc (route p j) (step ∷ []) way)) sound)

  pub all-sent : (p : PlannedShop) (way : List Step) (q : PlannedShop) → IsRevision s p → j < jobs p → moves_made s j ≤ steps p j → IsRoute s.plant p.shop.recirculates (route p j ++ way) → AreFurthestBehind s p j way q → AreSentOn s p j way q
  all-sent p [] q revision inside here sound made = subst (AreSentOn s p j []) (sym made) (record { revision = revision; jobs_same = refl; mine = sym (append-nil (route p j)); others = λ i other. refl; again = refl; more_machines = omega arith })
  all-sent p (step ∷ way) q revision inside here sound (next, one, rest) =
      let first : AreSentOn s p j (step ∷ []) next = one-sent p step next revision inside here (first-way p step way sound) one in
      let longer : route next j ++ way ≡ route p j ++ step ∷ way = ap (λ (r : List Step). r ++ way) first.mine ∙ append_assoc (route p j) (step ∷ []) way in
      let last : AreSentOn s next j way q = all-sent next way q first.revision (omega (arith, first.jobs_same)) (omega (arith, here, ap length first.mine, length-append (route p j) (step ∷ [])))
      (subst (λ (again : Bool). IsRoute s.plant again (route next j ++ way)) (sym first.again) (subst (IsRoute s.plant p.shop.recirculates) (sym longer) sound)) rest in
      record {
        revision = last.revision;
        jobs_same = last.jobs_same ∙ first.jobs_same;
        mine = last.mine ∙ longer;
        others = λ i other. last.others i other ∙ first.others i other;
        again = last.again ∙ first.again;
        more_machines = omega (arith, last.more_machines, first.more_machines);
      }

  -- ---- step by step

  -- the first n of these steps are sent on, and the others can be
  pub record IsSentUpTo (p : PlannedShop) (way : List Step) (n : ℕ) (q : PlannedShop) : Type 0 where
    pub revision : IsRevision s q
    pub inside : j < jobs q
    pub here : moves_made s j ≤ steps q j
    pub sent : AreFurthestBehind s p j (take n way) q
    pub sound : IsRoute s.plant q.shop.recirculates (route q j ++ drop n way)

  furthest_more : (p : PlannedShop) (way : List Step) (n : ℕ) (q r : PlannedShop) (step : Step) → slice_get way n ≡ Some step → AreFurthestBehind s p j (take n way) q → IsFurthestBehind s q j step r → AreFurthestBehind s p j (take (suc n) way) r
  furthest_more p [] n q r step there made one = absurd (no_step_there step there)
  furthest_more p (x ∷ way) zero q r step there made one = (r, subst (λ (from : PlannedShop). IsFurthestBehind s from j x r) made (subst (λ (y : Step). IsFurthestBehind s q j y r) (sym (same_Some x step there)) one), refl)
  furthest_more p (x ∷ way) (suc n) q r step there (next, begun, rest) one = (next, begun, furthest_more next way n q r step there rest one)

  module _ (p : PlannedShop) (way : List Step) (n : ℕ) (q : PlannedShop) (step : Step) (upto : IsSentUpTo p way n q) (there : slice_get way n ≡ Some step) where
    -- the next one is sound
    upto_way : IsRoute s.plant q.shop.recirculates (route q j ++ step ∷ [])
    upto_way = first-way q step (drop (suc n) way) (subst (λ (ss : List Step). IsRoute s.plant q.shop.recirculates (route q j ++ ss)) (next_step way n step there) upto.sound)

    pub upto_can : IsSendable s q j step
    upto_can = record { revision = upto.revision; inside = upto.inside; here = upto.here; sound = upto_way }

    -- and is sent on
    pub upto_next : (r : PlannedShop) → IsFurthestBehind s q j step r → IsSentUpTo p way (n + 1) r
    upto_next r one =
        let on : AreSentOn s q j (step ∷ []) r = one-sent q step r upto.revision upto.inside upto.here upto_way one in
        let longer : route r j ++ drop (suc n) way ≡ route q j ++ drop n way =
        ap (λ (ss : List Step). ss ++ drop (suc n) way) on.mine ∙ append_assoc (route q j) (step ∷ []) (drop (suc n) way) ∙ sym (ap (λ (ss : List Step). route q j ++ ss) (next_step way n step there)) in
        record {
          revision = on.revision;
          inside = omega (arith, upto.inside, on.jobs_same);
          here = omega (arith, upto.here, ap length on.mine, length-append (route q j) (step ∷ []));
          sent = subst (λ k. AreFurthestBehind s p j (take k way) r) (sym (add-one n)) (furthest_more p way n q r step there upto.sent one);
          sound = subst (λ k. IsRoute s.plant r.shop.recirculates (route r j ++ drop k way)) (sym (add-one n))
              (subst (λ (again : Bool). IsRoute s.plant again (route r j ++ drop (suc n) way)) (sym on.again) (subst (IsRoute s.plant q.shop.recirculates) (sym longer) upto.sound));
        }

  pub all-no_cycle : (p : PlannedShop) (way : List Step) (q : PlannedShop) → AreFurthestBehind s p j way q → HasNoCycle p → HasNoCycle q
  all-no_cycle p [] q made acyclic = subst HasNoCycle (sym made) acyclic
  all-no_cycle p (step ∷ way) q (next, one, rest) acyclic = all-no_cycle next way q rest (subst HasNoCycle (sym one.is) one.acyclic)
