-- Where nothing takes more than s thousandths longer, each report comes within the moments that leave everything that much more time.
use Rattle.std.proofs.Common.{◌≡◌, ℕ, ◌+◌, ◌*◌, ◌/◌, ◌<◌, ◌≤◌, inl, inr, List, [], ◌∷◌, length, Some, None}
use Rattle.std.proofs.Common.{arith, sym, ap, ◌∙◌, le_refl}
use Rattle.std.proofs.lemmas.Bool.{cases_lt, cases_eq}
use Rattle.shop_base.specs.declared.node.Node.{Node}
use Rattle.shop_base.specs.declared.job_state.JobState.{JobState}
use Rattle.shop_base.specs.declared.report.Report.{Report}
use Rattle.shop_base.specs.Plan.{PlannedShop, jobs, nominal, clean, budget, Stands, IsWellShaped}
use Rattle.shop_base.specs.Cell.{Cell, MachineState, start, made, since, entries, cleaning, IsOn}
use Rattle.shop_base.specs.Activity.{Arrival, Operation, Cleaning}
use Rattle.shop_base.specs.Report.{at, after_report}
use Rattle.shop_base.specs.Move.{CanMove, after_move}
use Rattle.shop_base.specs.Run.{Event, IsAtRest}
use Rattle.shop_base.specs.Controlled.{AreMoves, after_moves, after_step, IsStep, Leads}
use Rattle.shop_base.specs.Graph.{RanksRise, node, leaving, job_arc, blocking_arc}
use Rattle.shop_base.specs.Sound.{IsSound}
use Rattle.shop_base.specs.Ahead.{next_node}
use Rattle.shop_base.specs.Within.{IsWithin, AreWithin, RiseAhead}
use Rattle.shop_base.proofs.Visits.{visits_job, visits_apart, visits-stands, on_or_not, visits_or_not}
use Rattle.shop_base.proofs.InShop.{ready_in_shop, outside_in_shop, start_unused}
use Rattle.shop_base.proofs.Changes.{IsMoved, after_move-moved, moves_within}
use Rattle.shop_base.proofs.Keeping.{IsLike, after_report-like, after_report-sound, after_move-sound, start-sound, start-made, target_free}
use Rattle.shop_base.proofs.ControlledRuns.{leads_induction, start_at_rest}
use Rattle.shop_base.proofs.Ahead.{IsLeftIn}
use Rattle.shop_base.proofs.InTime.{within-before, rise_left, reports_later, reports_sooner}
use Rattle.shop_base.proofs.Within.{IsNoneLate, none_late-after, moves_more, in_time_within-holds}
use Rattle.shop_base.proofs.StartAhead.{from_start}
use Rattle.plan_verifier.specs.Accepted.{VerifiedPlan, IsVerified, rank_in}
use Rattle.plan_margin.specs.Longer.{longer}
use Rattle.plan_margin.specs.Lengths.{IsLongerSchedule, HasLongerSchedule}
use Rattle.plan_margin.specs.WithinMargin.{IsWithinMargin, AreWithinMargin, IsInTimeWithin, IsInTimeAtTheEndWithin}

-- a number of thousandths is over a moment where it is over all its thousandths
over_moment : (t n : ℕ) → t * 1000 ≤ n → t ≤ n / 1000
over_moment t n over = omega arith

under_budget : (n b : ℕ) → n ≤ b * 1000 → n / 1000 ≤ b
under_budget n b under = omega arith

in_thousandths : (t n : ℕ) → t ≤ n / 1000 → t * 1000 ≤ n
in_thousandths t n over = omega arith

no_less : (n m : ℕ) → n ≤ m → n / 1000 ≤ m / 1000
no_less n m more = omega arith

module _ (p : PlannedShop) (rank kept : Node → ℕ) (s : ℕ) (shaped : IsWellShaped p) (ranks : RanksRise p rank) (schedule : IsLongerSchedule p s kept) where
  -- the last whole moment that is kept for the node
  abbrev moment : Node → ℕ
  moment v = kept v / 1000

  -- what goes on has all the time that it may take before the moments kept for what it holds up
  record IsSoon (c : Cell) : Type 0 where
    worked : (j k m : ℕ) → IsOn p c j k m → since c j * 1000 + longer s (nominal p j k) ≤ kept (node j (k + 1))
    cleaned : (m from : ℕ) (v : Node) → cleaning c m ≡ Some from → Stands p m (length (entries c m)) v.job v.place → from * 1000 + longer s (clean p m) ≤ kept v

  -- so a report at which nothing has lasted longer comes within them
  soon-within : (c : Cell) (r : Report) → IsSound p c → IsSoon c → IsWithinMargin p s c r → IsWithin p moment c r
  soon-within c r sound soon no_longer (Arrival j) due v going is =
      let inside : j < jobs p = outside_in_shop p c j sound going.outside in
      let first : v ≡ node j 0 = is ∙ ap (node j) going.outside in
      rw first (over_moment (at r) (kept (node j 0)) (omega (arith, no_longer (Arrival j) due going, schedule.releases j inside)))
  soon-within c r sound soon no_longer (Operation j m) due v going is =
      let (k, worked) = going in
      let next : v ≡ node j (k + 1) = is ∙ ap (node j) worked.on.entered in
      rw next (over_moment (at r) (kept (node j (k + 1))) (omega (arith, no_longer (Operation j m) due going k worked.on, soon.worked j k m worked.on)))
  soon-within c r sound soon no_longer (Cleaning m) due v going stands =
      let (from, cleaned) = going in
      over_moment (at r) (kept v) (omega (arith, no_longer (Cleaning m) due going from cleaned.is_cleaned, soon.cleaned m from v cleaned.is_cleaned stands))

  -- it is so at the start
  start-soon : IsSoon (start p)
  start-soon = record {
    worked = λ j k m on. absurd (omega (arith, start-made p j (visits_job p j k m on.visits), on.entered));
    cleaned = λ m from v cleaned stands. absurd (let none : cleaning (start p) m ≡ None = ap (λ (x : MachineState). x.cleaning) (start_unused p m) in cc);
  }

  -- after a report
  reported-soon : (c new : Cell) → IsLike p c new → IsSoon c → IsSoon new
  reported-soon c new like soon = record {
    worked = λ j k m on. omega (arith, like.since_same j, soon.worked j k m (record { entered = sym (like.made_same j) ∙ on.entered; visits = on.visits }));
    cleaned = λ m from v cleaned stands. soon.cleaned m from v (like.cleaned_before m from cleaned) (rw (like.entries_same m) at stands);
  }

  -- after a move that is made by the moment kept for its node
  moved-soon : (c : Cell) (j t : ℕ) (new : Cell) → IsSound p c → CanMove p c j t → IsMoved p c j t new → t * 1000 ≤ kept (next_node c j) → IsSoon c → IsSoon new
  moved-soon c j t new sound can change mine soon = record { worked = worked; cleaned = cleaned }
    where
      -- the operation that it begins
      begun : (k m : ℕ) → IsOn p new j k m → since new j * 1000 + longer s (nominal p j k) ≤ kept (node j (k + 1))
      begun k m on =
          let here : made c j ≡ k = omega (arith, on.entered, change.made_mine) in
          let arc : kept (node j k) + longer s (nominal p j k) ≤ kept (node j (k + 1)) = schedule.arcs _ _ _ (job_arc j k on.visits.within) in
          let from : t * 1000 ≤ kept (node j k) = rw here at mine in
          omega (arith, change.since_mine)

      worked : (i k m : ℕ) → IsOn p new i k m → since new i * 1000 + longer s (nominal p i k) ≤ kept (node i (k + 1))
      worked i k m on = elim (cases_eq i j) [
        | inl same ↦ rw same (begun k m (rw same at on))
        | inr other ↦ (let before = soon.worked i k m (record { entered = sym (ap (λ (x : JobState). x.made) (change.others i other)) ∙ on.entered; visits = on.visits }) in
            omega (arith, before, ap (λ (x : JobState). x.since) (change.others i other)))
      ]

      -- the cleaning that it begins
      departs : (m l from : ℕ) (v : Node) → IsOn p c j l m → 0 < clean p m → cleaning new m ≡ Some from → Stands p m (length (entries new m)) v.job v.place → from * 1000 + longer s (clean p m) ≤ kept v
      departs m l from v on timed cleaned stands =
          let begun_now : Some from ≡ Some t = sym cleaned ∙ change.cleaning_begins l m on timed in
          let at_once : from ≡ t = cc in
          let entries_same : entries new m ≡ entries c m = change.not_entered m (λ visits. visits_apart p j l (made c j) m shaped on.visits visits on.entered) in
          let (b, place) = visits-stands p j l m shaped on.visits in
          let count : length (entries c m) ≡ b + 1 = sound.newest m b j l place on.entered in
          let next : Stands p m (length (entries c m)) v.job v.place = rw entries_same at stands in
          let after : Stands p m (b + 1) v.job v.place = rw count at next in
          let here : made c j ≡ l + 1 = on.entered in
          let arc : kept (node j (l + 1)) + longer s (clean p m) ≤ kept v = schedule.arcs (node j (l + 1)) v (clean p m) (blocking_arc m b j l v.job v.place place after) in
          let by : t * 1000 ≤ kept (node j (l + 1)) = rw here at mine in
          omega arith

      -- a cleaning that went on before
      cleaned_still : (m from : ℕ) (v : Node) → cleaning c m ≡ Some from → Stands p m (length (entries new m)) v.job v.place → from * 1000 + longer s (clean p m) ≤ kept v
      cleaned_still m from v going stands = elim (visits_or_not p j (made c j) m) [
        | inl visits ↦ (let is_clean : cleaning c m ≡ None = (target_free p c j t m can visits).1 in absurd cc)
        | inr off ↦ soon.cleaned m from v going (rw (change.not_entered m off) at stands)
      ]

      cleaned : (m from : ℕ) (v : Node) → cleaning new m ≡ Some from → Stands p m (length (entries new m)) v.job v.place → from * 1000 + longer s (clean p m) ≤ kept v
      cleaned m from v going stands = elim (on_or_not p c j m) [
        | inl (l, on) ↦ elim (cases_lt 0 (clean p m)) [
          | inl timed ↦ departs m l from v on timed going stands
          | inr untimed ↦ cleaned_still m from v (sym (change.cleaning_needless l m on (omega arith)) ∙ going) stands
        ]
        | inr nowhere ↦ cleaned_still m from v (sym (change.cleaning_elsewhere m nowhere) ∙ going) stands
      ]

  -- after moves at a moment that isn't past that of any node ahead
  moves-soon : (c : Cell) (t : ℕ) (js : List ℕ) → IsSound p c → AreMoves p c t js → IsNoneLate p c t moment → IsSoon c → IsSoon (after_moves p c t js)
  moves-soon c t [] sound moves none soon = soon
  moves-soon c t (j ∷ js) sound (can, keeps, moves) none soon =
      let next : IsLeftIn p c (next_node c j) = record { ahead = le_refl (made c j); job = ready_in_shop p c j sound can.is_ready; place = moves_within p c j t sound can } in
      let by : t ≤ moment (next_node c j) = none (next_node c j) next in
      moves-soon (after_move p c j t) t js (after_move-sound p c j t shaped sound can keeps) moves
      (none_late-after p c (after_move p c j t) t moment (λ i. moves_more p c t (j ∷ []) i shaped sound (can, keeps, tt)) none)
      (moved-soon c j t (after_move p c j t) sound can (after_move-moved p c j t shaped sound can) (in_thousandths t (kept (next_node c j)) by) soon)

  rises : (c : Cell) → RiseAhead p c moment
  rises c u v d ahead arc = no_less (kept u) (kept v) (omega (arith, schedule.arcs u v d arc))

  -- after a step
  step-soon : (c : Cell) (r : Report) (js : List ℕ) → IsSound p c → IsAtRest p c → IsStep p c r js → IsWithin p moment c r → IsSoon c → IsSoon (after_step p c r js)
  step-soon c r js sound rest step within soon =
      moves-soon (after_report c r) (at r) js (after_report-sound p c r shaped sound step.can) step.moves
      (none_late-after p c (after_report c r) (at r) moment (λ i. omega (arith, (after_report-like p c r sound step.can).made_same i))
      (λ v left. rise_left p c (at r) moment v (rises c) (within-before p rank moment c r shaped ranks sound rest (rises c) within) left))
      (reported-soon c (after_report c r) (after_report-like p c r sound step.can) soon)

  -- so each report is within them
  leads-within : (c : Cell) (rs : List Report) (es : List Event) (end : Cell) → IsSound p c → IsAtRest p c → Leads p c rs es end → IsSoon c → AreWithinMargin p s c es → AreWithin p moment c es
  leads-within c rs es end sound rest leads =
      leads_induction p (λ c rs es end. IsSoon c → AreWithinMargin p s c es → AreWithin p moment c es) shaped
      (λ c sound rest soon no_longer. tt)
      (λ c r js rs es end sound rest step later soon no_longer.
      let within : IsWithin p moment c r = soon-within c r sound soon no_longer.0 in (
        within,
        reports_sooner p (IsWithin p moment) (after_report c r) (at r) js es
            (later (step-soon c r js sound rest step within soon) (reports_later p (IsWithinMargin p s) (after_report c r) (at r) js es no_longer.1)),
      ))
      (λ c r rs es end sound rest cannot later soon no_longer. later soon no_longer) c rs es end sound rest leads

  pub schedule-in_time : IsInTimeWithin p s
  schedule-in_time rs es end run no_longer j inside =
      (in_time_within-holds p rank moment [] 0 rs es end shaped ranks tt (record { in_order = omega arith; in_range = omega arith })
      (record { present = λ i is here. omega arith; rise = rises (start p) }) (from_start p rs es end run)
      (leads-within (start p) rs es end (start-sound p shaped) (start_at_rest p) run start-soon no_longer)
      j inside (λ gone. omega (arith, start-made p j inside))).1
      (λ i is here. under_budget (kept (leaving p i)) (budget p i) (schedule.budgets i is))

  pub schedule-out : IsInTimeAtTheEndWithin p s
  schedule-out rs es end run no_longer has_ended j inside = (schedule-in_time rs es end run no_longer j inside).1 (has_ended.gone j inside)

-- so it is where an accepted plan has such moments
pub in_time : (v : VerifiedPlan) (s : ℕ) → IsVerified v → HasLongerSchedule v.planned s → IsInTimeWithin v.planned s
in_time v s verified (kept, schedule) = schedule-in_time v.planned (rank_in v) kept s verified.schedule.shaped verified.schedule.ranks schedule

pub out : (v : VerifiedPlan) (s : ℕ) → IsVerified v → HasLongerSchedule v.planned s → IsInTimeAtTheEndWithin v.planned s
out v s verified (kept, schedule) = schedule-out v.planned (rank_in v) kept s verified.schedule.shaped verified.schedule.ranks schedule
