-- The verdict on a rest: what is late, what is accepted, and what that says of the runs that go on.
use Rattle.std.proofs.Common.{◌↔◌, ℕ, ◌<◌, ◌≤◌, List, length, Result, Ok, Err, IfOk, arith}
use Rattle.shop_base.specs.{declared.node.Node.Node, Plan.{PlannedShop, jobs, budget, IsWellShaped}}
use Rattle.shop_base.specs.{Cell.{Cell, IsGone}, Graph.leaving, CycleLaw.AreNeverMade, Ahead.PathAhead}
use Rattle.alt_graph.specs.{Evidence.node_count, Times.{NodeTimes, rank_of, earliest_of, IsPathFromBy}}
use Rattle.alt_graph.proofs.{CycleParts.{cycle_simple, cycle_stops}, WholePlans.cycle_has}
use Rattle.plan_verifier.specs.{FromThere.{IsNeverInBudgetFrom, IsNeverDoneFrom}, Rest.AreOrderedAhead}
use Rattle.plan_verifier.specs.RestVerdicts.{IsAcceptableAhead, IsAcceptedAhead, IsFirstLateAhead, IsReasonAhead, IsRestAccepted, OnRestRefused, OnRestCycle, OnRestTimes}
use Rattle.plan_verifier.specs.{declared.verdict.Judged.Judged, declared.verdict.Judged.TheVariants.{Accepted, Refused}}
use Rattle.plan_verifier.specs.declared.verdict.Why.TheVariants.{Cycle, Late}
use Rattle.plan_verifier.proofs.Acceptable.{leaving_node, acyclic, within_budget}
use Rattle.plan_verifier.proofs.GoingOn.{leaving_ahead, never_gone_before, cycle_never_done}
use Rattle.plan_verifier.proofs.PathsAhead.{along_greatest}

module _ (p : PlannedShop) (c : Cell) (t : ℕ) (times : NodeTimes) (ordered : AreOrderedAhead p c t times) where
  abbrev kept : Node → ℕ
  kept = earliest_of times

  pub first_late : (j : ℕ) (nodes : List Node) → j < jobs p → (IsGone p c j → ⊥) → budget p j < kept (leaving p j)
      → ((i : ℕ) → i < j → (IsGone p c i → ⊥) → kept (leaving p i) ≤ budget p i) → IsPathFromBy times (leaving p j) nodes → length nodes ≤ node_count p
      → IsFirstLateAhead p c t j (kept (leaving p j)) nodes
  first_late j nodes inside here past before chain few =
      let (path, begins) = ordered.chains nodes (leaving p j) (leaving_node p j inside) (leaving_ahead p c j here) chain in
      record {
        acyclic = acyclic p (rank_of times) ordered.schedule.ranks;
        job = inside;
        here = here;
        before = λ i lt still. within_budget p (PathAhead p c t) kept ordered.greatest i (before i lt still);
        greatest = record { reached = (nodes, path); longest = λ others k other. ordered.greatest others (leaving p j) k other };
        past = past;
        path = path;
        begins = begins;
        evidence = record {
          few = few;
          path = (leaving p j, path);
          greatest = along_greatest p c t nodes (leaving p j) (kept (leaving p j)) path (λ k other. ordered.greatest nodes (leaving p j) k other);
        };
      }

-- a reason for a refusal leaves no rest to be accepted
pub reason_refutes : (p : PlannedShop) (c : Cell) (t : ℕ) (verdict : Judged) → IsReasonAhead p c t verdict → IsAcceptableAhead p c t → IsRestAccepted verdict
reason_refutes p c t (Accepted times) reason acceptable = tt
reason_refutes p c t (Refused (Cycle nodes)) reason acceptable = absurd (acceptable.acyclic (cycle_has p nodes.items reason))
reason_refutes p c t (Refused (Late job leaves chain times)) reason acceptable =
    absurd (let le = acceptable.budgets job reason.0.job reason.0.here chain.items leaves reason.0.path in omega (arith, le, reason.0.past))

-- a verdict accepts just the rests that are to be accepted
pub verdict_exact : (p : PlannedShop) (c : Cell) (t : ℕ) (verdict : Judged) → IsAcceptedAhead p c t verdict → IsReasonAhead p c t verdict → IsRestAccepted verdict ↔ IsAcceptableAhead p c t
verdict_exact p c t (Accepted times) accepted reason = (λ _. accepted.1, λ _. tt)
verdict_exact p c t (Refused why) accepted reason = (λ says. absurd says, λ is. reason_refutes p c t (Refused why) reason is)

-- it has earliest moments or a cycle
pub verdict_times : {E : Type 0} (p : PlannedShop) (c : Cell) (t : ℕ) (P : NodeTimes → Type 0) (judged : Result Judged E) → ((times : NodeTimes) → AreOrderedAhead p c t times → P times)
    → IfOk judged (IsAcceptedAhead p c t) → IfOk judged (IsReasonAhead p c t) → IfOk judged (OnRestTimes P)
verdict_times p c t P (Ok (Accepted times)) holds accepted reason = holds times accepted.0
verdict_times p c t P (Ok (Refused (Cycle nodes))) holds accepted reason = tt
verdict_times p c t P (Ok (Refused (Late job leaves chain times))) holds accepted reason = holds times reason.1
verdict_times p c t P (Err e) holds accepted reason = tt

pub verdict_stops : (p : PlannedShop) (c : Cell) (t : ℕ) (verdict : Judged) → IsWellShaped p → IsReasonAhead p c t verdict → OnRestCycle (λ nodes. AreNeverMade p nodes × IsNeverDoneFrom p c) verdict
verdict_stops p c t (Accepted times) shaped reason = tt
verdict_stops p c t (Refused (Cycle nodes)) shaped reason = ((cycle_stops p nodes.items shaped reason).0, cycle_never_done p c nodes.items shaped (cycle_simple p nodes.items reason))
verdict_stops p c t (Refused (Late job leaves chain times)) shaped reason = tt

-- a job that is never gone is never out by its budget, nor is one that is never gone before a moment past it
pub verdict_just : (p : PlannedShop) (c : Cell) (t : ℕ) (verdict : Judged) → IsWellShaped p → IsReasonAhead p c t verdict → OnRestRefused (IsNeverInBudgetFrom p c t) verdict
verdict_just p c t (Accepted times) shaped reason = tt
verdict_just p c t (Refused (Cycle nodes)) shaped reason = λ es fs run same more from late.
    (let (j, inside, here, not) = cycle_never_done p c nodes.items shaped (cycle_simple p nodes.items reason) es fs same more in (j, inside, here, λ out. not out.gone))
verdict_just p c t (Refused (Late job leaves chain times)) shaped (first, ordered, same) = λ es fs run ends more from late. (
  job,
  first.job,
  first.here,
  λ out. omega (arith, never_gone_before p c t times ordered job first.job first.here es fs run ends more from late out.gone, out.by, first.past, same),
)
