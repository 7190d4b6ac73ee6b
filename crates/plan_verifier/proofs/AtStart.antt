-- What is ahead of the start from moment 0 on is the whole plan: its greatest lengths, its leavings, its times and the verdict on it.
use Rattle.std.proofs.Common.{◌≡◌, ℕ, ◌<◌, ◌≤◌, List, [], ◌∷◌, None, inl, arith, sym, ap, subst, ◌∙◌}
use Rattle.shop_base.specs.{declared.node.Node.Node, Plan.{PlannedShop, jobs, IsWellShaped}}
use Rattle.shop_base.specs.{Cell.{MachineState, cleaning, start, IsGone}, Report.IsNextMoment, Graph.{leaving, Path}}
use Rattle.shop_base.specs.{Ahead.PathAhead, AheadLaw.TheStartIsACase}
use Rattle.shop_base.proofs.{InShop.start_unused, Keeping.start-made, StartAhead.the_start_is_a_case-holds}
use Rattle.alt_graph.specs.Times.{NodeTimes, rank_of, earliest_of, AreOrdered}
use Rattle.alt_graph.proofs.{Paths.{path_begins, path_some}, WholePlans.{times_ranks, path_by}}
use Rattle.plan_verifier.specs.{Accepted.{IsVerified, IsGreatest}, Held.BeginHeldUp}
use Rattle.plan_verifier.specs.{Leavings.{AreLeavings, AreLeavingsAhead}, Rest.{AreOrderedAhead, IsGreatestAhead}}
use Rattle.plan_verifier.specs.{RestVerdicts.{IsFirstLateAhead, IsAcceptedAhead, IsReasonAhead}, Seen.{judged, as_rest}}
use Rattle.plan_verifier.specs.Verdicts.{IsFirstLate, IsReason, OnAccepted, OnRefused}
use Rattle.plan_verifier.specs.declared.verdict.Verdict.{Verdict}
use Rattle.plan_verifier.specs.declared.verdict.Verdict.TheVariants.{Accepted, Refused}
use Rattle.plan_verifier.specs.declared.verdict.Why.TheVariants.{Cycle, Late}
use Rattle.plan_verifier.proofs.{Acceptable.acceptable_ahead, PathsAhead.along_greatest}

-- moment 0 can be the next moment of the start
pub at_once : (p : PlannedShop) → IsNextMoment (start p) 0
at_once p = record { in_order = omega arith; in_range = omega arith }

-- no machine is being cleaned at the start
pub start_clean : (p : PlannedShop) (m : ℕ) → cleaning (start p) m ≡ None
start_clean p m = ap (λ (x : MachineState). x.cleaning) (start_unused p m)

pub nobody_gone : (p : PlannedShop) (j : ℕ) → j < jobs p → IsGone p (start p) j → ⊥
nobody_gone p j inside gone = omega (arith, start-made p j inside, (let is : IsGone p (start p) j = gone in is))

module _ (p : PlannedShop) (shaped : IsWellShaped p) where
  pub case : TheStartIsACase p
  case = the_start_is_a_case-holds p shaped

  -- ---- greatest lengths

  pub greatest_to : (v : Node) (n : ℕ) → IsGreatestAhead p (start p) 0 v n → IsGreatest p v n
  greatest_to v n is =
      let (nodes, path) = is.reached in
      let (others, m, le, found) = case.no_longer nodes v n path in
      let same : m ≡ n = omega (arith, le, is.longest others m (case.path others v m found)) in
      record { reached = (others, subst (Path p others v) same found); longest = λ all k other. is.longest all k (case.path all v k other) }

  no_longer : (nodes : List Node) (v : Node) (n k : ℕ) → IsGreatest p v n → PathAhead p (start p) 0 nodes v k → k ≤ n
  no_longer nodes v n k is path = (let (others, m, le, found) = case.no_longer nodes v k path in omega (arith, le, is.longest others m found))

  pub greatest_from : (v : Node) (n : ℕ) → IsGreatest p v n → IsGreatestAhead p (start p) 0 v n
  greatest_from v n is = (let (nodes, path) = is.reached in
      record { reached = (nodes, case.path nodes v n path); longest = λ all k other. no_longer all v n k is other })

  pub leavings_to : (leaves : ℕ → ℕ) → AreLeavingsAhead p (start p) 0 leaves → AreLeavings p leaves
  leavings_to leaves are j inside = greatest_to (leaving p j) (leaves j) (are.ahead j inside (nobody_gone p j inside))

  pub leavings_from : (leaves : ℕ → ℕ) → AreLeavings p leaves → AreLeavingsAhead p (start p) 0 leaves
  leavings_from leaves are =
      record { left = λ j inside gone. absurd (nobody_gone p j inside gone); ahead = λ j inside here. greatest_from (leaving p j) (leaves j) (are j inside) }

  -- ---- evidence

  begin_held : (nodes : List Node) (v : Node) (n : ℕ) → Path p nodes v n → BeginHeldUp p (start p) nodes
  begin_held [] v n path = absurd (omega (arith, path_some p [] v n path))
  begin_held (u ∷ us) v n path = (let (first, inside) = path_begins p (u ∷ us) v n path in (record { job = inside; place = omega arith }, inl (start-made p u.job inside ∙ sym first)))

  late_ahead : (j n : ℕ) (chain : List Node) → IsFirstLate p j n chain → IsFirstLateAhead p (start p) 0 j n chain
  late_ahead j n chain late =
      let path : PathAhead p (start p) 0 chain (leaving p j) n = case.path chain (leaving p j) n late.path in
      record {
        acyclic = λ cycle. late.acyclic cycle.0 cycle.1;
        job = late.job;
        here = nobody_gone p j late.job;
        before = λ i lt here nodes k other. (let (others, m, le, found) = case.no_longer nodes (leaving p i) k other in omega (arith, le, late.before i lt others m found));
        greatest = greatest_from (leaving p j) n late.greatest;
        past = late.past;
        path = path;
        begins = begin_held chain (leaving p j) n late.path;
        evidence = record {
          few = late.evidence.few;
          path = (leaving p j, path);
          greatest = along_greatest p (start p) 0 chain (leaving p j) n path (λ k other. no_longer chain (leaving p j) n k late.greatest other);
        };
      }

-- ---- verdicts

module _ (p : PlannedShop) (t : NodeTimes) (ordered : AreOrdered p t) where
  shaped : IsWellShaped p
  shaped = ordered.times.schedule.shaped

  -- what is known of a plan's nodes is known of those ahead of the start
  pub ordered_ahead : AreOrderedAhead p (start p) 0 t
  ordered_ahead = record {
    ranks = times_ranks p t ordered.times;
    schedule = record { shaped = shaped; ranks = ordered.times.schedule.ranks; moments = ((case p shaped).moments (earliest_of t)).1 ordered.times.schedule.moments };
    reached = λ v is ahead. (let (nodes, path) = ordered.lengths.reached v is in (nodes, (case p shaped).path nodes v (earliest_of t v) path));
    greatest = λ nodes v n path. (let (others, m, le, found) = (case p shaped).no_longer nodes v n path in omega (arith, le, ordered.lengths.greatest others v m found));
    chains = λ nodes v is ahead chain.
        (let path = path_by t v nodes chain p ordered.times in ((case p shaped).path nodes v (earliest_of t v) path, begin_held p shaped nodes v (earliest_of t v) path));
    left = λ j inside gone. absurd (nobody_gone p j inside gone);
  }

  -- the moment of a late job's leaving is the greatest length
  late_leaves : (j n : ℕ) (chain : List Node) → IsFirstLate p j n chain → n ≡ earliest_of t (leaving p j)
  late_leaves j n chain late =
      let (nodes, path) = ordered.lengths.reached (leaving p j) (record { job = late.job; place = omega arith }) in
      omega (arith, late.greatest.longest nodes (earliest_of t (leaving p j)) path, ordered.lengths.greatest chain (leaving p j) n late.path)

-- what is known of a verdict on a plan is known of it as one on the rest from there
pub accepted_ahead : (verdict : Verdict) → OnAccepted IsVerified verdict → IsAcceptedAhead (judged verdict) (start (judged verdict)) 0 (as_rest verdict)
accepted_ahead (Accepted v) sound =
    let ordered = ordered_ahead v.planned v.times sound.ordered in
    let meets = λ (j : ℕ) (inside : j < jobs v.planned) (here : IsGone v.planned (start v.planned) j → ⊥). sound.budgets j inside in
    (ordered, acceptable_ahead v.planned (start v.planned) 0 (rank_of v.times) (earliest_of v.times) ordered.schedule.ranks ordered.greatest meets, meets)
accepted_ahead (Refused p why) sound = tt

pub reason_ahead : (verdict : Verdict) → OnRefused IsReason verdict → IsReasonAhead (judged verdict) (start (judged verdict)) 0 (as_rest verdict)
reason_ahead (Accepted v) reason = tt
reason_ahead (Refused p (Cycle nodes)) cycle = cycle
reason_ahead (Refused p (Late job leaves chain times)) (late, ordered) =
    (late_ahead p ordered.times.schedule.shaped job leaves chain.items late, ordered_ahead p times ordered, late_leaves p times ordered job leaves chain.items late)
