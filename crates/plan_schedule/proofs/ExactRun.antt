-- The moments of a schedule are those of the exact run: no move comes later than they allow, none earlier than a path allows, and so each job and each cleaning has begun as it is scheduled.
use Rattle.std.proofs.Common.{◌≡◌, ℕ, ◌+◌, ◌<◌, ◌≤◌, inl, inr, List, [], ◌∷◌, ◌++◌, length, Option, Some, None, refl, sym, ap, ◌∙◌, subst, arith, append_assoc}
use Rattle.std.proofs.lemmas.Bool.{cases_lt, cases_eq}
use Rattle.shop_base.specs.{declared.node.Node.Node, declared.job_state.JobState.JobState, declared.report.Report.Report}
use Rattle.shop_base.specs.Plan.{PlannedShop, jobs, nominal, release, clean, IsWellShaped}
use Rattle.shop_base.specs.Cell.{Cell, MachineState, made, since, entries, cleaning, start, IsOn}
use Rattle.shop_base.specs.{Activity.{Activity, Arrival, Operation, Cleaning, GoesOn}, Report.{ended, at, after_report}}
use Rattle.shop_base.specs.{Move.{CanMove, after_move}, Run.{Event, Reported, Moved, AreEvents, ends_in, IsRun}, Controlled.IsControlledRun}
use Rattle.shop_base.specs.Punctual.{IsPunctual, ArePunctualFrom, AreExact, AreNotEarly}
use Rattle.shop_base.specs.{Graph.{node, IsNode, Arc, job_arc, blocking_arc, Path, begins, follows, RanksRise, MomentsFit}, Sound.IsSound}
use Rattle.shop_base.specs.{Ahead.{next_node, IsScheduleAhead, GoesOnTo}, Within.AreMadeBy}
use Rattle.shop_base.proofs.{Visits.{steps_job, visits_job, visits_apart, visits-stands, on_or_not}, InShop.{ready_in_shop, start_unused}}
use Rattle.shop_base.proofs.{Cycles.source_node, Changes.{IsMoved, after_move-moved, moves_within}}
use Rattle.shop_base.proofs.Keeping.{IsLike, start-made, start-sound, after_report-like, after_report-sound, after_move-sound, target_free}
use Rattle.shop_base.proofs.{ControlledRuns.{after_all_join, controlled_to_run}, InTime.exact-punctual}
use Rattle.shop_base.proofs.Within.{each_move_is_in_time-holds, punctual_reports_are_within-holds, punctual-from}
use Rattle.shop_base.proofs.StartAhead.{the_start_is_a_case-holds, start-keeps_moments, from_start, no_exact_move_is_earlier-holds}
use Rattle.shop_base.proofs.SomeExact.{some_continuation_is_exact-holds}
use Rattle.plan_verifier.specs.Accepted.{IsGreatest}
use Rattle.plan_verifier.proofs.AtStart.{at_once, greatest_to}
use Rattle.plan_schedule.specs.{Scheduled.AreEarliest, OnTime.{IsLastVisit, EndsOnTime, AreOnTime}}
use Rattle.plan_schedule.specs.ScheduleLaw.{ScheduleIsTheExactRun, SomeRunIsExact}

-- an arc leads to a node of the shop
target_node : (p : PlannedShop) (u v : Node) (d : ℕ) → Arc p u v d → IsNode p v
target_node p _ _ _ (job_arc j k within) = record { job = steps_job p j k within; place = omega (arith, within) }
target_node p _ _ _ (blocking_arc m a i k j l one other) = record { job = visits_job p j l m other.visits; place = omega (arith, other.visits.within) }

-- reports that are neither early nor later than anything is due are exact
reports_exact : (p : PlannedShop) (c : Cell) (es : List Event) → ArePunctualFrom p 0 c es → AreNotEarly p c es → AreExact p c es
reports_exact p c [] punctual not_early = tt
reports_exact p c (Moved o ∷ es) punctual not_early = reports_exact p (after_move p c o.job o.at) es punctual not_early
reports_exact p c (Reported r ∷ es) punctual not_early = (
  record { punctual = soon; due = subst (GoesOn p c (ended r)) (omega (arith, not_early.0.later, soon (ended r) not_early.0.due not_early.0.going)) not_early.0.going },
  reports_exact p (after_report c r) es punctual.1 not_early.1,
)
  where
    soon : IsPunctual p c r
    soon a due going = elim (punctual.0 a due going) [ inl now ↦ omega arith | inr before ↦ before ]

-- the moment of each node is the greatest length of a path to it
abbrev AreGreatest : PlannedShop → (Node → ℕ) → Type 0
AreGreatest p moments = (v : Node) → IsNode p v → IsGreatest p v (moments v)

-- so it is with those ahead of the start
all_greatest : (p : PlannedShop) (moments : Node → ℕ) → IsWellShaped p → AreEarliest p (start p) 0 moments → AreGreatest p moments
all_greatest p moments shaped are v is = greatest_to p shaped v (moments v) (are v is (omega (arith, start-made p v.job is.job)))

module _ (p : PlannedShop) (rank moments : Node → ℕ) (shaped : IsWellShaped p) (ranks : RanksRise p rank) (earliest : AreGreatest p moments) where
  -- the earliest moments fit
  moments_fit : MomentsFit p moments
  moments_fit = record {
    releases = λ j inside. (earliest (node j 0) (record { job = inside; place = omega arith })).longest (node j 0 ∷ []) (release p j) (begins j inside);
    arcs = λ u v d arc.
        let (nodes, path) = (earliest u (source_node p u v d arc)).reached in
        (earliest v (target_node p u v d arc)).longest (nodes ++ v ∷ []) (moments u + d) (follows nodes u v (moments u) d path arc);
  }

  from_there : IsScheduleAhead p (start p) 0 rank moments
  from_there = record { shaped = shaped; ranks = ranks; moments = start-keeps_moments p rank moments (record { shaped = shaped; ranks = ranks; moments = moments_fit }) }

  -- no move of an exact controlled run comes later
  made_by : (rs : List Report) (es : List Event) (end : Cell) → IsControlledRun p rs es end → AreExact p (start p) es → AreMadeBy p moments (start p) es
  made_by rs es end run exact =
      let goes : GoesOnTo p (start p) 0 rs es end = from_start p rs es end run in
      let punctual : ArePunctualFrom p 0 (start p) es = punctual-from p 0 (start p) es (exact-punctual p (start p) es exact) in
      each_move_is_in_time-holds p rank moments [] 0 rs es end tt (at_once p) from_there goes
      (punctual_reports_are_within-holds p rank moments [] 0 rs es end tt (at_once p) from_there goes punctual)

  -- each job of the shop has made its last move, and each cleaning has begun, as it is scheduled
  record HasBegunOnTime (c : Cell) : Type 0 where
    jobs_moved : (j k : ℕ) → j < jobs p → made c j ≡ k + 1 → since c j ≡ moments (node j k)
    cleanings_begun : (m from : ℕ) → cleaning c m ≡ Some from → (j : ℕ) × (k : ℕ) × IsLastVisit p c j k m × (from ≡ moments (node j (k + 1)))

  start_on_time : HasBegunOnTime (start p)
  start_on_time = record {
    jobs_moved = λ j k inside is. absurd (omega (arith, start-made p j inside));
    cleanings_begun = λ m from is. absurd (none m from is);
  }
    where
      none : (m from : ℕ) → cleaning (start p) m ≡ Some from → ⊥
      none m from is = let idle : cleaning (start p) m ≡ None = ap (λ (x : MachineState). x.cleaning) (start_unused p m) in cc

  report_on_time : (c new : Cell) → IsLike p c new → HasBegunOnTime c → HasBegunOnTime new
  report_on_time c new like begun = record {
    jobs_moved = λ j k inside is. like.since_same j ∙ begun.jobs_moved j k inside (sym (like.made_same j) ∙ is);
    cleanings_begun = λ m from is.
        let (j, k, last, at) = begun.cleanings_begun m from (like.cleaned_before m from is) in
        (j, k, (last.0, ap length (like.entries_same m) ∙ last.1, last.2), at);
  }

  -- a move at just the moment of the node that it makes
  module _ (c new : Cell) (j t : ℕ) (sound : IsSound p c) (can : CanMove p c j t) (change : IsMoved p c j t new) (now : t ≡ moments (next_node c j)) where
    move_jobs : HasBegunOnTime c → (i k : ℕ) → i < jobs p → made new i ≡ k + 1 → since new i ≡ moments (node i k)
    move_jobs begun i k inside is = elim (cases_eq i j) [
      | inl same ↦ (let place : made c j ≡ k = omega (arith, change.made_mine, ap (made new) same) in
          ap (since new) same ∙ change.since_mine ∙ now ∙ ap moments (ap (node j) place ∙ ap (λ n. node n k) (sym same)))
      | inr other ↦ (let made_same : made new i ≡ made c i = ap (λ (s : JobState). s.made) (change.others i other) in
          ap (λ (s : JobState). s.since) (change.others i other) ∙ begun.jobs_moved i k inside (sym made_same ∙ is))
    ]

    -- of the machine that it leaves
    cleaning_left : (k m from : ℕ) → IsOn p c j k m → cleaning new m ≡ Some from → (i : ℕ) × (l : ℕ) × IsLastVisit p new i l m × (from ≡ moments (node i (l + 1)))
    cleaning_left k m from on is = elim (cases_lt 0 (clean p m)) [
      | inr untimed ↦ absurd (sound.cleaned_free m from (sym (change.cleaning_needless k m on (omega (arith, untimed))) ∙ is) j k on)
      | inl timed ↦ (let (a, stands) = visits-stands p j k m shaped on.visits in
          let count : length (entries new m) ≡ a + 1 = ap length (change.not_entered m (λ visits. visits_apart p j k (made c j) m shaped on.visits visits on.entered)) ∙ sound.newest m a j k stands on.entered in
          (j, k, (a, count, stands), begins_now (change.cleaning_begins k m on timed) ∙ ap (λ n. moments (node j n)) on.entered))
    ]
      where
        begins_now : cleaning new m ≡ Some t → from ≡ moments (next_node c j)
        begins_now begun = let same : from ≡ t = cc in same ∙ now

    move_cleanings : HasBegunOnTime c → (m from : ℕ) → cleaning new m ≡ Some from → (i : ℕ) × (l : ℕ) × IsLastVisit p new i l m × (from ≡ moments (node i (l + 1)))
    move_cleanings begun m from is = elim (on_or_not p c j m) [
      | inl (k, on) ↦ cleaning_left k m from on is
      | inr off ↦ (let before : cleaning c m ≡ Some from = sym (change.cleaning_elsewhere m off) ∙ is in
          let (i, l, last, at) = begun.cleanings_begun m from before in
          let same : entries new m ≡ entries c m = change.not_entered m (λ visits. let free : cleaning c m ≡ None = (target_free p c j t m can visits).1 in cc) in
          (i, l, (last.0, ap length same ∙ last.1, last.2), at))
    ]

    move_on_time : HasBegunOnTime c → HasBegunOnTime new
    move_on_time begun = record { jobs_moved = move_jobs begun; cleanings_begun = move_cleanings begun }

  module _ (due : Node → Option ℕ) where
    -- so what goes on then is due as it is scheduled
    ends_on_time : (c : Cell) (a : Activity) (t : ℕ) → HasBegunOnTime c → GoesOn p c a t → EndsOnTime p moments due c a t
    ends_on_time c (Arrival j) t begun awaited = awaited.is_due
    ends_on_time c (Operation j m) t begun (k, worked) =
        let moved = begun.jobs_moved j k (visits_job p j k m worked.on.visits) worked.on.entered in
        (k, worked.on, worked.is_due ∙ ap (λ n. n + nominal p j k) moved)
    ends_on_time c (Cleaning m) t begun (from, cleaned) =
        let (j, k, last, at) = begun.cleanings_begun m from cleaned.is_cleaned in
        (j, k, last, cleaned.is_due ∙ ap (λ n. n + clean p m) at)

    -- each event behind the first ones of an exact run
    behind_on_time : (front es : List Event) (c : Cell) → c ≡ ends_in p front → IsRun p (front ++ es) → AreExact p (start p) (front ++ es)
        → IsSound p c → AreEvents p c es → AreExact p c es → AreMadeBy p moments c es → HasBegunOnTime c → AreOnTime p moments due c es
    behind_on_time front [] c is run whole sound events exact by begun = tt
    behind_on_time front (Reported r ∷ es) c is run whole sound events exact by begun = (
      ends_on_time c (ended r) (at r) begun exact.0.due,
      behind_on_time (front ++ Reported r ∷ []) es (after_report c r) (ap (λ x. after_report x r) is ∙ sym (after_all_join p (start p) front (Reported r ∷ [])))
          (subst (IsRun p) (sym (append_assoc front (Reported r ∷ []) es)) run) (subst (AreExact p (start p)) (sym (append_assoc front (Reported r ∷ []) es)) whole)
          (after_report-sound p c r shaped sound events.0) events.1 exact.1 by (report_on_time c (after_report c r) (after_report-like p c r sound events.0) begun),
    )
    behind_on_time front (Moved o ∷ es) c is run whole sound events exact by begun = (
      record { leaves = λ k at. now ∙ ap (λ n. moments (node o.job n)) at; enters = λ more. now },
      behind_on_time (front ++ Moved o ∷ []) es (after_move p c o.job o.at) (ap (λ x. after_move p x o.job o.at) is ∙ sym (after_all_join p (start p) front (Moved o ∷ [])))
          (subst (IsRun p) (sym (append_assoc front (Moved o ∷ []) es)) run) (subst (AreExact p (start p)) (sym (append_assoc front (Moved o ∷ []) es)) whole)
          (after_move-sound p c o.job o.at shaped sound events.0.0.can events.0.1) events.1 exact by.1
          (move_on_time c (after_move p c o.job o.at) o.job o.at sound events.0.0.can (after_move-moved p c o.job o.at shaped sound events.0.0.can) now begun),
    )
      where
        next : IsNode p (next_node c o.job)
        next = record { job = ready_in_shop p c o.job sound events.0.0.can.is_ready; place = moves_within p c o.job o.at sound events.0.0.can }

        now : o.at ≡ moments (next_node c o.job)
        now =
            let (nodes, path) = (earliest (next_node c o.job) next).reached in
            let no_earlier : moments (next_node c o.job) ≤ o.at = no_exact_move_is_earlier-holds p front es o shaped run whole nodes (moments (next_node c o.job))
            (subst (λ (x : Cell). Path p nodes (node o.job (made x o.job)) (moments (next_node c o.job))) is path) in
            omega (arith, no_earlier, by.0)

pub schedule_is_exact_run : ScheduleIsTheExactRun
schedule_is_exact_run p rank moments due rs es end shaped ranks are run exact =
    let earliest = all_greatest p moments shaped are in
    let events : IsRun p es = (controlled_to_run p rs es end shaped run).0 in
    behind_on_time p rank moments shaped ranks earliest due [] es (start p) refl events exact (start-sound p shaped) events exact
    (made_by p rank moments shaped ranks earliest rs es end run exact) (start_on_time p rank moments shaped ranks earliest)

pub some_exact_run : SomeRunIsExact
some_exact_run p rank moments shaped ranks are =
    let earliest = all_greatest p moments shaped are in
    let (rs, es, end, goes, punctual, not_early, from, gone) = some_continuation_is_exact-holds p rank moments [] 0 tt (at_once p) (from_there p rank moments shaped ranks earliest) in
    (rs, es, end, ((the_start_is_a_case-holds p shaped).goes_on 0 rs es end).0 goes, reports_exact p (start p) es punctual not_early, gone)
