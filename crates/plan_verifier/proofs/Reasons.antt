-- The leavings of an ordered graph: their greatest lengths, and what these say of every exact run.
use Rattle.std.proofs.Common.{◌≡◌, ℕ, ◌<◌, ◌≤◌, List, length, inl, inr, arith, sym, ap, subst}
use Rattle.shop_base.specs.{declared.node.Node.Node, Plan.{PlannedShop, jobs, IsWellShaped}}
use Rattle.shop_base.specs.{Graph.{leaving, MeetBudgets, Path}, Cell.since, KeptMoments.KeepsLeaving}
use Rattle.shop_base.specs.{ExactLaw.IsNeverGoneBefore, CycleLaw.{IsNeverDone, AreNeverMade}}
use Rattle.shop_base.proofs.StartAhead.{controlled-leavings_kept, just_in_time-holds, no_exact_run_is_faster-holds}
use Rattle.alt_graph.specs.{Evidence.node_count, Times.{NodeTimes, rank_of, earliest_of, AreOrdered}, Bounds.whole}
use Rattle.plan_verifier.specs.Accepted.{VerifiedPlan, kept_at, HasNoCycle, IsGreatest, IsAcceptable, IsVerified, IsMakespan, IsNeverGoneAfter, IsGoneJustAt, rank_in}
use Rattle.plan_verifier.specs.{FromBounds.IsFirstPastFrom, Leavings.{AreLeavings, IsLastLeaving, leaves_in}}
use Rattle.plan_verifier.specs.{Seen.judged, declared.verdict.Verdict.Verdict}
use Rattle.plan_verifier.specs.{declared.verdict.Verdict.TheVariants.{Accepted, Refused}, declared.verdict.Why.Why}
use Rattle.plan_verifier.specs.declared.verdict.Why.TheVariants.{Cycle, Late}
use Rattle.plan_verifier.specs.Verdicts.{IsFirstLate, IsReason, OnAccepted, OnRefused, OnCycle, OnLate, IsNeverInBudget}
use Rattle.alt_graph.proofs.{CycleParts.{cycle_simple, cycle_stops}, Paths.end_same, WholePlans.whole_ahead}
use Rattle.plan_verifier.proofs.Acceptable.{leaving_node, acyclic, within_budget}

module _ (p : PlannedShop) (t : NodeTimes) (ordered : AreOrdered p t) where
  -- the kept moments of the leavings are the greatest lengths
  pub leavings_greatest : AreLeavings p (leaves_in p t)
  leavings_greatest j inside = record {
    reached = ordered.lengths.reached (leaving p j) (leaving_node p j inside);
    longest = λ nodes k path. ordered.lengths.greatest nodes (leaving p j) k path;
  }

  no_cycle : HasNoCycle p
  no_cycle nodes cycle = acyclic p (rank_of t) ordered.times.schedule.ranks (nodes, cycle)

  pub acceptable : MeetBudgets p (earliest_of t) → IsAcceptable p
  acceptable meets = record { acyclic = no_cycle; budgets = λ j inside. within_budget p (Path p) (earliest_of t) ordered.lengths.greatest j (meets j inside) }

  -- the first job whose kept leaving is past its budget is late
  pub first_late : (j : ℕ) (nodes : List Node) → IsFirstPastFrom p (whole p) (earliest_of t) j → Path p nodes (leaving p j) (earliest_of t (leaving p j)) → length nodes ≤ node_count p
      → IsFirstLate p j (earliest_of t (leaving p j)) nodes
  first_late j nodes first path few = record {
    acyclic = no_cycle;
    job = first.inside;
    before = λ i lt. within_budget p (Path p) (earliest_of t) ordered.lengths.greatest i (first.before i lt (whole_ahead p ordered.times.schedule.shaped (leaving p i)));
    greatest = leavings_greatest j first.inside;
    past = first.past;
    path = path;
    evidence = record {
      few = few;
      path = (leaving p j, path);
      greatest = λ w n other. (let there = end_same p nodes (leaving p j) w (earliest_of t (leaving p j)) n path other in omega (arith, ordered.lengths.greatest nodes w n other, ap (earliest_of t) there));
    };
  }

pub refused_stops : (p : PlannedShop) (why : Why) → IsWellShaped p → IsReason p why → OnCycle (λ nodes. AreNeverMade p nodes × IsNeverDone p) (Refused p why)
refused_stops p (Cycle nodes) shaped cycle = cycle_stops p nodes.items shaped cycle
refused_stops p (Late job leaves chain times) shaped late = tt

pub refused_no_faster : (p : PlannedShop) (why : Why) → IsWellShaped p → IsReason p why → OnLate (λ job leaves. IsNeverGoneBefore p job leaves) (Refused p why)
refused_no_faster p (Cycle nodes) shaped cycle = tt
refused_no_faster p (Late job leaves chain times) shaped late = no_exact_run_is_faster-holds p job chain.items leaves shaped late.0.path

-- a job that is never gone is never out by its budget, nor is one that is never gone before a moment past it
pub refused_just : (p : PlannedShop) (why : Why) → IsWellShaped p → IsReason p why → IsNeverInBudget p
refused_just p (Cycle nodes) shaped cycle = λ es run exact. (let found = (cycle_stops p nodes.items shaped cycle).1 es run in (found.0, found.1, λ out. found.2 out.gone))
refused_just p (Late job leaves chain times) shaped late = λ es run exact.
    (job, late.0.job, λ out. omega (arith, no_exact_run_is_faster-holds p job chain.items leaves shaped late.0.path es run exact out.gone, out.by, late.0.past))

-- a reason for a refusal leaves no plan to be accepted
pub reason_refutes : (p : PlannedShop) (why : Why) → IsReason p why → IsAcceptable p → ⊥
reason_refutes p (Cycle nodes) is acceptable = acceptable.acyclic nodes.items (cycle_simple p nodes.items is)
reason_refutes p (Late job leaves chain times) is acceptable = (let within = acceptable.budgets job is.0.job _ leaves is.0.path in omega (arith, within, is.0.past))

-- the plan that is judged, and the evidence against it
pub judged_same : (p : PlannedShop) (verdict : Verdict) → OnAccepted (λ verified. (verified.planned ≡ p) × IsAcceptable p) verdict → OnRefused (λ back why. (back ≡ p) × IsReason p why) verdict → judged verdict ≡ p
judged_same p (Accepted verified) accepted reasoned = accepted.0
judged_same p (Refused back why) accepted reasoned = reasoned.0

pub evident : (p : PlannedShop) (verdict : Verdict) → OnRefused (λ back why. (back ≡ p) × IsReason p why) verdict → OnRefused IsReason verdict
evident p (Accepted verified) reasoned = tt
evident p (Refused back why) (same, reason) = subst (λ (q : PlannedShop). IsReason q why) (sym same) reason

-- there is one greatest length of the paths to a node
pub greatest_once : (p : PlannedShop) (v : Node) (m n : ℕ) → IsGreatest p v m → IsGreatest p v n → m ≡ n
greatest_once p v m n one other = omega (arith, other.longest one.reached.0 m one.reached.1, one.longest other.reached.0 n other.reached.1)

-- a plan has one makespan
pub makespan_le : (p : PlannedShop) (m n : ℕ) → IsMakespan p m → IsMakespan p n → m ≤ n
makespan_le p m n one other = other.bound one.reached.0 one.reached.2 m one.reached.1 one.reached.3

-- the earliest leaving of a job of an accepted plan
pub verified_greatest : (v : VerifiedPlan) → IsVerified v → AreLeavings v.planned (leaves_in v.planned v.times)
verified_greatest v sound = leavings_greatest v.planned v.times sound.ordered

-- where all reports are exact, no job of an accepted plan is gone since before the kept moment of its leaving
pub verified_never_before : (v : VerifiedPlan) → IsVerified v → (j : ℕ) → j < jobs v.planned → IsNeverGoneBefore v.planned j (kept_at v (leaving v.planned j))
verified_never_before v sound j inside =
    let path = (verified_greatest v sound j inside).reached in
    no_exact_run_is_faster-holds v.planned j path.0 (kept_at v (leaving v.planned j)) sound.schedule.shaped path.1

-- a job of an accepted plan that is gone is gone since at most the kept moment of its leaving, where all reports are punctual
pub verified_no_later : (v : VerifiedPlan) → IsVerified v → (j : ℕ) → j < jobs v.planned → IsNeverGoneAfter v.planned j (kept_at v (leaving v.planned j))
verified_no_later v sound j inside rs es end run punctual gone = go (controlled-leavings_kept v.planned (rank_in v) (kept_at v) rs es end sound.schedule run punctual j inside)
  where
    go : KeepsLeaving v.planned (kept_at v) end j → since end j ≤ kept_at v (leaving v.planned j)
    go (inl out) = out.by
    go (inr (inside, soon)) = absurd (inside gone)

-- and since exactly that moment, where all reports are exact
pub verified_just_in_time : (v : VerifiedPlan) → IsVerified v → (j : ℕ) → j < jobs v.planned → IsGoneJustAt v.planned j (kept_at v (leaving v.planned j))
verified_just_in_time v sound j inside rs es end run exact gone =
    let path = (verified_greatest v sound j inside).reached in
    just_in_time-holds v.planned (rank_in v) (kept_at v) rs es end sound.schedule run exact j path.0 path.1 gone

-- the last of the leavings is the makespan
module _ (p : PlannedShop) (leaves : ℕ → ℕ) (n : ℕ) (are : AreLeavings p leaves) where
  pub makespan_is : IsLastLeaving p leaves n → IsMakespan p n
  makespan_is last = record {
    bound = λ j nodes k inside path. omega (arith, (are j inside).longest nodes k path, last.bound j inside);
    reached = (let (j, inside, is) = last.reached in
        let (nodes, path) = (are j inside).reached in
        (j, inside, nodes, subst (Path p nodes (leaving p j)) is path));
  }

  pub makespan_last : IsMakespan p n → IsLastLeaving p leaves n
  makespan_last makespan = record { bound = none_later; reached = (let (j, inside, nodes, path) = makespan.reached in (j, inside, omega (arith, none_later j inside, (are j inside).longest nodes n path))) }
    where
      none_later : (j : ℕ) → j < jobs p → leaves j ≤ n
      none_later j inside = (let (nodes, path) = (are j inside).reached in makespan.bound j nodes (leaves j) inside path)
