-- What is known of all plans of a case: they lead to one cell, are out at their jobs' bounds at the earliest, and what each value says.
use Rattle.std.proofs.Common.{◌≡◌, ℕ, max, ◌+◌, ◌<◌, ◌≤◌, ◌⊎◌, inl, inr, true, false, List, [], ◌∷◌, ◌++◌, length, arith, refl, sym, ap, subst, ◌∙◌, true≢false, Option, None, Some, if◌then◌else◌, lt-ltb, le-ltb}
use Rattle.std.proofs.lemmas.Bool.{cases_lt, leb-true, le-leb}
use Rattle.shop_base.specs.declared.node.Node.{Node}
use Rattle.shop_base.specs.Plan.{PlannedShop, jobs, steps, budget, clean, clean_in, IsWellShaped}
use Rattle.shop_base.specs.Cell.{Cell, job_in, made, since, cleaning, IsGone}
use Rattle.shop_base.specs.Movers.{due_of_job}
use Rattle.shop_base.specs.Sound.{IsSound}
use Rattle.shop_base.specs.Graph.{leaving, Arc}
use Rattle.shop_base.specs.Ahead.{next_node, PathAhead, onward}
use Rattle.cell_tables.specs.{Carried.{awaited, carried_cleaning, IsCarried}, Kept.KeepsSoFar, Rests.IsReached}
use Rattle.cell_tables.proofs.{Reaching.recast_reached, Reorders.reached_sound}
use Rattle.plan_verifier.specs.Accepted.{HasNoCycle}
use Rattle.plan_verifier.specs.Held.{later_than}
use Rattle.plan_verifier.proofs.Tables.{later_is}
use Rattle.plan_bounds.specs.Bounds.{ShopTimes, times_of, out_alone, job_bound}
use Rattle.plan_bounds.specs.Makespan.{IsLeastMakespan}
use Rattle.plan_bounds.specs.declared.makespan.LeastMakespan.{LeastMakespan}
use Rattle.plan_bounds.proofs.AlonePaths.{to_out}
use Rattle.plan_bounds.proofs.Bounded.{no_plan_is_sooner-holds}
use Rattle.plan_verifier.proofs.Rests.{next_path}
use Rattle.plan_seek.specs.Tasks.{with_order}
use Rattle.plan_decide.specs.declared.aim.Objective.{Objective}
use Rattle.plan_decide.specs.declared.aim.Objective.TheVariants.{Makespan, Leaving}
use Rattle.plan_decide.specs.Cases.{Past, nothing, run_to, Case, KeepsPast, IsOutWithin, IsGood, HasValue, IsPlanOf, IsAcceptedFromPast, is_waiting, bound_in, case_jobs, times_in}
use Rattle.plan_decide.specs.Objectives.{IsLeastValue}

-- what has happened has led to its cell by a plan with these times
pub record IsLed (t : ShopTimes) (base : PlannedShop) (c : Cell) : Type 0 where
  pub shaped : IsWellShaped base
  pub same : times_of base ≡ t
  pub reached : IsReached base c

abbrev pub IsRootedIn : ShopTimes → Past → Type 0
IsRootedIn t nothing = Unit {0}
IsRootedIn t (run_to base c present) = IsLed t base c

abbrev pub IsRooted : Case → Type 0
IsRooted t = IsRootedIn (times_in t) t.past

module _ (p q : PlannedShop) (c : Cell) (same : times_of q ≡ times_of p) (sound : IsSound p c) where
  same_clean : (m : ℕ) → clean q m ≡ clean p m
  same_clean m = ap (λ (t : ShopTimes). clean_in t.clean m) same

  -- a machine without a cleaning time isn't being cleaned
  uncleaned : (m : ℕ) (o : Option ℕ) → cleaning c m ≡ o → clean p m ≡ 0 → o ≡ None
  uncleaned m None is untimed = refl
  uncleaned m (Some s) is untimed = absurd (omega (arith, sound.cleaned_timed m s is, untimed))

  cleaning_kept : (m : ℕ) → cleaning c m ≡ carried_cleaning c q m
  cleaning_kept m = elim (cases_lt 0 (clean q m)) [
    | inl timed ↦ sym (ap (λ b. if b then cleaning c m else None) (lt-ltb 0 (clean q m) timed))
    | inr untimed ↦ uncleaned m (cleaning c m) refl (omega (arith, untimed, same_clean m)) ∙ sym (ap (λ b. if b then cleaning c m else None) (le-ltb 0 (clean q m) untimed))
  ]

  -- by a plan with the same times a cell is the same
  pub carried_same : IsCarried p c q c
  carried_same = record {
    job_count = sound.job_count ∙ sym (ap (λ (t : ShopTimes). length t.shop.routes) same);
    machine_count = sound.machine_count ∙ sym (ap (λ (t : ShopTimes). t.shop.machines) same);
    jobs_same = λ j inside. sym (ap (λ b. if b then job_in c j else awaited) (lt-ltb j (jobs p) (omega (arith, inside, ap (λ (t : ShopTimes). length t.shop.routes) same))));
    entries_same = λ m inside. refl;
    cleaning_is = λ m inside. cleaning_kept m;
    last_same = refl;
  }

-- a plan with the same times that what has happened keeps goes on from the cell: a run of it leads there too
pub led_on : (base q : PlannedShop) (c : Cell) → IsWellShaped base → IsWellShaped q → times_of q ≡ times_of base → IsReached base c → KeepsSoFar base c q → IsReached q c
led_on base q c shaped fits same reached keeps =
    recast_reached base c q c shaped fits reached (record { kept = keeps; carried = carried_same base q c same (reached_sound base c shaped reached) })

-- a job waits where it isn't gone
pub waiting_here : (p : PlannedShop) (base : PlannedShop) (c : Cell) (t j : ℕ) → is_waiting (times_of p) (run_to base c t) j ≡ true → IsGone p c j → ⊥
waiting_here p base c t j waits gone = (let le = leb-true (made c j) (steps p j) waits in omega (arith, le, gone))

pub here_waits : (p : PlannedShop) (base : PlannedShop) (c : Cell) (t j : ℕ) → (IsGone p c j → ⊥) → is_waiting (times_of p) (run_to base c t) j ≡ true
here_waits p base c t j here = elim (cases_lt (steps p j) (made c j)) [
  | inl gone ↦ absurd (here gone)
  | inr le ↦ le-leb (made c j) (steps p j) le
]

pub gone_unless : (p : PlannedShop) (base : PlannedShop) (c : Cell) (t j : ℕ) → is_waiting (times_of p) (run_to base c t) j ≡ false → IsGone p c j
gone_unless p base c t j not = elim (cases_lt (steps p j) (made c j)) [
  | inl gone ↦ gone
  | inr le ↦ absurd (true≢false (sym (le-leb (made c j) (steps p j) le) ∙ not))
]

-- ---- the bound of a job

module _ (p : PlannedShop) (c : Cell) (t : ℕ) where
  -- some path ahead to the node is at least n long
  record HasPathAhead (v : Node) (n : ℕ) : Type 0 where
    nodes : List Node
    size : ℕ
    path : PathAhead p c t nodes v size
    long : n ≤ size

  shorter : (v : Node) (n k : ℕ) → HasPathAhead v n → k ≤ n → HasPathAhead v k
  shorter v n k found less = record { nodes = found.nodes; size = found.size; path = found.path; long = omega (arith, found.long, less) }

  further : (u v : Node) (n d : ℕ) → HasPathAhead u n → Arc p u v d → HasPathAhead v (n + d)
  further u v n d found arc = record {
    nodes = found.nodes ++ v ∷ [];
    size = found.size + d;
    path = onward found.nodes u v found.size d found.path arc;
    long = omega (arith, found.long);
  }

  -- some path ahead to the leaving of a job that isn't gone is as long as its bound
  bound_path : (j : ℕ) → IsWellShaped p → IsSound p c → j < jobs p → made c j ≤ steps p j → HasPathAhead (leaving p j) (out_alone (times_of p) j (made c j) (later_than t (due_of_job p j (job_in c j))))
  bound_path j shaped sound inside here =
      let first = later_than t (due_of_job p j (job_in c j)) in
      let begun = next_path p c t shaped sound (next_node c j) first (record { job = inside; place = here }) refl (later_is t (due_of_job p j (job_in c j))) in
      to_out p HasPathAhead shorter further shaped j (made c j) first here (record { nodes = next_node c j ∷ []; size = first; path = begun; long = omega arith })

-- so no plan has the job out before
pub bound_le : (t : Case) (p : PlannedShop) (j n : ℕ) → IsRooted t → IsPlanOf t p → j < case_jobs t → is_waiting (times_in t) t.past j ≡ true → IsOutWithin t.past p j n → bound_in (times_in t) t.past j ≤ n
bound_le t p j n rooted plan inside waits out = go t.past rooted plan.keeps waits out
  where
    same_jobs : jobs p ≡ case_jobs t
    same_jobs = ap (λ (s : ShopTimes). length s.shop.routes) plan.same

    here : j < jobs p
    here = omega (arith, inside, same_jobs)

    go : (past : Past) → IsRootedIn (times_in t) past → KeepsPast past p → is_waiting (times_in t) past j ≡ true → IsOutWithin past p j n → bound_in (times_in t) past j ≤ n
    go nothing root keeps waiting is =
        let found = (no_plan_is_sooner-holds p plan.shaped).0 j here in
        let bound : job_bound (times_of p) j ≡ job_bound (times_in t) j = ap (λ (s : ShopTimes). job_bound s j) plan.same in
        omega (arith, bound, found.long, is found.nodes found.size found.path)
    go (run_to base c present) led keeps waiting is =
        let sound = reached_sound p c plan.shaped (led_on base p c led.shaped plan.shaped (plan.same ∙ sym led.same) led.reached keeps) in
        let there : is_waiting (times_of p) (run_to base c present) j ≡ true = ap (λ (s : ShopTimes). is_waiting s (run_to base c present) j) plan.same ∙ waiting in
        let le : made c j ≤ steps p j = leb-true (made c j) (steps p j) there in
        let found = bound_path p c present j plan.shaped sound here le in
        let bound : bound_in (times_of p) (run_to base c present) j ≡ bound_in (times_in t) (run_to base c present) j = ap (λ (s : ShopTimes). bound_in s (run_to base c present) j) plan.same in
        omega (arith, bound, found.long, is found.nodes found.size found.path)

-- ---- what a value says

pub makespan_out : (past : Past) (p : PlannedShop) (j n : ℕ) → j < jobs p → HasValue past Makespan p n → IsOutWithin past p j n
makespan_out nothing p j n inside is = λ nodes k path. is.bound j nodes k inside path
makespan_out (run_to base c present) p j n inside is = λ nodes k path. is.bound j nodes k inside path

pub leaving_out : (past : Past) (p : PlannedShop) (j n : ℕ) → is_waiting (times_of p) past j ≡ true → HasValue past (Leaving j) p n → IsOutWithin past p j n
leaving_out nothing p j n waits is = λ nodes k path. is.longest nodes k path
leaving_out (run_to base c present) p j n waits is = λ nodes k path. (is.ahead (waiting_here p base c present j waits)).longest nodes k path

-- of a plan to be accepted
pub good_acyclic : (past : Past) (p : PlannedShop) → IsGood past p → HasNoCycle p
good_acyclic nothing p good = good.acyclic
good_acyclic (run_to base c present) p good = λ nodes cycle. good.acyclic (nodes, cycle)

pub good_out : (past : Past) (p : PlannedShop) (j : ℕ) → IsGood past p → j < jobs p → is_waiting (times_of p) past j ≡ true → IsOutWithin past p j (budget p j)
good_out nothing p j good inside waits = λ nodes k path. good.budgets j inside nodes k path
good_out (run_to base c present) p j good inside waits = λ nodes k path. good.budgets j inside (waiting_here p base c present j waits) nodes k path

pub good_from : (past : Past) (p : PlannedShop) → HasNoCycle p → ((j : ℕ) → j < jobs p → is_waiting (times_of p) past j ≡ true → IsOutWithin past p j (budget p j)) → IsGood past p
good_from nothing p acyclic out = record { acyclic = acyclic; budgets = λ j inside nodes k path. out j inside refl nodes k path }
good_from (run_to base c present) p acyclic out = record {
  acyclic = λ cycle. acyclic cycle.0 cycle.1;
  budgets = λ j inside here nodes k path. out j inside (here_waits p base c present j here) nodes k path;
}

-- a plan that is accepted is one of the case
pub accepted_plan : (t : Case) (order : List (List ℕ)) → IsAcceptedFromPast t.past (with_order t.task order) → IsPlanOf t (with_order t.task order)
accepted_plan t order accepted = record { shaped = accepted.shaped; same = refl; keeps = accepted.keeps }

-- ---- the least values

-- no whole plan has a makespan below the greatest bound
pub least_makespan_least : (t : Case) (least : LeastMakespan) → t.past ≡ nothing → IsLeastMakespan (times_in t) least → IsLeastValue t Makespan least.at_least
least_makespan_least t least none is = λ order value accepted reached.
    let found = (no_plan_is_sooner-holds (with_order t.task order) accepted.shaped).1 least is in
    let out = subst (λ (past : Past). IsOutWithin past (with_order t.task order) found.0 value) none (makespan_out t.past (with_order t.task order) found.0 value found.1 reached) in
    omega (arith, found.2.long, out found.2.nodes found.2.size found.2.path)

-- none has a job that isn't gone out before its bound
pub bound_least : (t : Case) (objective : Objective) (j : ℕ) → IsRooted t → j < case_jobs t → is_waiting (times_in t) t.past j ≡ true → (objective ≡ Makespan) ⊎ (objective ≡ Leaving j) → IsLeastValue t objective (bound_in (times_in t) t.past j)
bound_least t objective j rooted inside waits which = λ order value accepted reached. bound_le t (with_order t.task order) j value rooted (accepted_plan t order accepted) inside waits (go (with_order t.task order) value inside waits reached which)
  where
    go : (p : PlannedShop) (value : ℕ) → j < jobs p → is_waiting (times_of p) t.past j ≡ true → HasValue t.past objective p value → (objective ≡ Makespan) ⊎ (objective ≡ Leaving j) → IsOutWithin t.past p j value
    go p value here waiting reached (inl is) = makespan_out t.past p j value here (subst (λ (o : Objective). HasValue t.past o p value) is reached)
    go p value here waiting reached (inr is) = leaving_out t.past p j value waiting (subst (λ (o : Objective). HasValue t.past o p value) is reached)

-- and one that is gone left when it did
pub gone_least : (t : Case) (base : PlannedShop) (c : Cell) (present : ℕ) (objective : Objective) (j : ℕ) → t.past ≡ run_to base c present → j < case_jobs t → is_waiting (times_in t) (run_to base c present) j ≡ false
    → (objective ≡ Makespan) ⊎ (objective ≡ Leaving j) → IsLeastValue t objective (since c j)
gone_least t base c present objective j past inside not which = λ order value accepted reached. go (with_order t.task order) value inside (gone_unless (with_order t.task order) base c present j not) (subst (λ (x : Past). HasValue x objective (with_order t.task order) value) past reached) which
  where
    go : (p : PlannedShop) (value : ℕ) → j < jobs p → IsGone p c j → HasValue (run_to base c present) objective p value → (objective ≡ Makespan) ⊎ (objective ≡ Leaving j) → since c j ≤ value
    go p value here gone reached (inl is) = (subst (λ (o : Objective). HasValue (run_to base c present) o p value) is reached).left j here gone
    go p value here gone reached (inr is) = (let at = (subst (λ (o : Objective). HasValue (run_to base c present) o p value) is reached).left gone in omega (arith, at))

-- the later of two moments below which none is
pub later_least : (t : Case) (objective : Objective) (m n k : ℕ) → k ≡ max m n → IsLeastValue t objective m → IsLeastValue t objective n → IsLeastValue t objective k
later_least t objective m n k is one other = λ order value accepted reached. omega (arith, is, one order value accepted reached, other order value accepted reached)

-- none is below 0
pub none_below : (t : Case) (objective : Objective) → IsLeastValue t objective 0
none_below t objective = λ order value accepted reached. omega arith
