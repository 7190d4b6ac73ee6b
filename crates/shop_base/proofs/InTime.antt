-- Moments that fit what is ahead fit it after each report within them and after the moves behind it; and punctual reports are within them.
use Rattle.std.proofs.Common.{◌≡◌, ◌≢◌, ℕ, ◌+◌, ◌<◌, ◌≤◌, inl, inr, List, [], ◌∷◌, length, Some, None, refl, sym, ap, ◌∙◌, arith, le_refl, ◌++◌}
use Rattle.std.proofs.lemmas.Bool.{cases_lt, cases_eq}
use Rattle.shop_base.specs.declared.node.Node.{Node}
use Rattle.shop_base.specs.declared.job_state.JobState.{JobState}
use Rattle.shop_base.specs.declared.report.Report.{Report}
use Rattle.shop_base.specs.Plan.{PlannedShop, jobs, steps, nominal, clean, Stands, IsWellShaped, budget}
use Rattle.shop_base.specs.Cell.{Cell, made, since, entries, cleaning, IsOn, IsGone}
use Rattle.shop_base.specs.Activity.{Activity, Arrival, Operation, Cleaning, IsWorked, GoesOn}
use Rattle.shop_base.specs.Report.{ended, at, after_end, after_report}
use Rattle.shop_base.specs.Move.{CanMove, after_move}
use Rattle.shop_base.specs.Run.{Event, ends_in, IsAtRest, Reported, Moved}
use Rattle.shop_base.specs.Controlled.{AreMoves, after_moves, after_step, IsStep, Leads, moved, orders_for}
use Rattle.shop_base.specs.Punctual.{EachReport, IsPunctual, ArePunctual, AreExact}
use Rattle.shop_base.specs.Graph.{RanksRise, node, leaving, job_arc, blocking_arc}
use Rattle.shop_base.specs.Sound.{IsSound}
use Rattle.shop_base.specs.KeptMoments.{KeepsMoments, KeepsLeaving}
use Rattle.shop_base.specs.Ahead.{next_node, HoldsUp, MomentsFitAhead, PathAhead, now, held, onward, IsScheduleAhead, GoesOnTo, settled}
use Rattle.shop_base.specs.Within.{IsWithin, AreWithin, RiseAhead}
use Rattle.shop_base.specs.WithinLaw.{MomentsStillFit}
use Rattle.shop_base.proofs.Visits.{visits_apart, visits-stands, on_or_not, visits_or_not}
use Rattle.shop_base.proofs.Changes.{IsMoved, after_move-moved, moves_within}
use Rattle.shop_base.proofs.Keeping.{IsLike, after_report-like, after_report-sound, after_move-sound, run-sound, target_free}
use Rattle.shop_base.proofs.InShop.{ready_in_shop}
use Rattle.shop_base.proofs.ControlledRuns.{leads_induction, after_moves-sound}
use Rattle.shop_base.proofs.NeverStuck.{HasActivityBy, ahead_rises, rest-active}
use Rattle.shop_base.proofs.Ahead.{IsLeftIn, path_left}
use Rattle.shop_base.specs.Ends.{IsInTime, IsOutByBudget}

-- after a report the last moment is the report's
pub report_last : (c : Cell) (a : Activity) (t : ℕ) → (after_end c a t).last ≡ t
report_last c (Arrival j) t = refl
report_last c (Operation j m) t = refl
report_last c (Cleaning m) t = refl

-- no job makes its next move before moment t
abbrev IsNoneBefore : PlannedShop → Cell → ℕ → (Node → ℕ) → Type 0
IsNoneBefore p c t kept = (j : ℕ) → j < jobs p → made c j ≤ steps p j → t ≤ kept (next_node c j)

-- moments that fit from one moment on fit from another at which no job makes its next move too late
fit_from : (p : PlannedShop) (c : Cell) (t u : ℕ) (kept : Node → ℕ) → MomentsFitAhead p c t kept → IsNoneBefore p c u kept → MomentsFitAhead p c u kept
fit_from p c t u kept fit none = record { left = fit.left; present = none; activities = fit.activities; arcs = fit.arcs }

-- and they rise ahead
pub fit_rise : (p : PlannedShop) (c : Cell) (t : ℕ) (kept : Node → ℕ) → MomentsFitAhead p c t kept → RiseAhead p c kept
fit_rise p c t kept fit u v d ahead arc = omega (arith, fit.arcs u v d ahead arc)

-- where moments rise ahead, and no job makes its next move before a moment, it isn't past that of a node ahead
pub rise_left : (p : PlannedShop) (c : Cell) (t : ℕ) (kept : Node → ℕ) (v : Node) → RiseAhead p c kept → IsNoneBefore p c t kept → IsLeftIn p c v → t ≤ kept v
rise_left p c t kept v rise none left =
    let here : made c v.job ≤ v.place = left.ahead in
    let within : v.place ≤ steps p v.job = left.place in
    let first : t ≤ kept (next_node c v.job) = none v.job left.job (omega arith) in
    let along : kept (next_node c v.job) ≤ kept v = ahead_rises p c kept v.job (made c v.job) v.place rise (le_refl (made c v.job)) here within in
    omega arith

-- the present moment isn't past that of a node ahead
pub present_left : (p : PlannedShop) (c : Cell) (t : ℕ) (kept : Node → ℕ) (v : Node) → MomentsFitAhead p c t kept → IsLeftIn p c v → t ≤ kept v
present_left p c t kept v fit left = rise_left p c t kept v (fit_rise p c t kept fit) fit.present left

-- no path ahead is longer than moments that fit
pub path_kept : (p : PlannedShop) (c : Cell) (t : ℕ) (kept : Node → ℕ) (nodes : List Node) (v : Node) (n : ℕ) → IsSound p c → MomentsFitAhead p c t kept → PathAhead p c t nodes v n → n ≤ kept v
path_kept p c t kept _ _ _ sound fit (now v is ahead) = present_left p c t kept v fit (record { ahead = ahead; job = is.job; place = is.place })
path_kept p c t kept _ _ _ sound fit (held a due v going holds) = fit.activities a due v going holds
path_kept p c t kept _ _ _ sound fit (onward nodes u v n d path arc) =
    omega (arith, path_kept p c t kept nodes u n sound fit path, fit.arcs u v d (path_left p c t nodes u n sound path).ahead arc)

-- what goes on behind a report went on before it
pub report-went_on : (p : PlannedShop) (c new : Cell) → IsLike p c new → (a : Activity) (due : ℕ) → GoesOn p new a due → GoesOn p c a due
report-went_on p c new like (Arrival j) due awaited =
    record { outside = sym (like.made_same j) ∙ awaited.outside; not_ready = like.not_ready_before j awaited.not_ready; is_due = awaited.is_due }
report-went_on p c new like (Operation j m) due (k, worked) = (
  k,
  record {
    on = record { entered = sym (like.made_same j) ∙ worked.on.entered; visits = worked.on.visits };
    not_ready = like.not_ready_before j worked.not_ready;
    is_due = omega (arith, worked.is_due, like.since_same j);
  },
)
report-went_on p c new like (Cleaning m) due (s, cleaned) = (s, record { is_cleaned = like.cleaned_before m s cleaned.is_cleaned; is_due = cleaned.is_due })

-- a report at the present moment
reported-fits : (p : PlannedShop) (kept : Node → ℕ) (c new : Cell) (t : ℕ) → IsLike p c new → MomentsFitAhead p c t kept → MomentsFitAhead p new t kept
reported-fits p kept c new t like fit = record {
  left = λ j inside gone. omega (arith, like.since_same j, fit.left j inside (omega (arith, like.made_same j)));
  present = λ j inside left. rw (like.made_same j) (fit.present j inside (omega (arith, like.made_same j)));
  activities = λ a due v going holds. fit.activities a due v (report-went_on p c new like a due going) (held a v holds);
  arcs = λ u v d ahead arc. fit.arcs u v d (omega (arith, like.made_same u.job)) arc;
}
  where
    held : (a : Activity) (v : Node) → HoldsUp p new a v → HoldsUp p c a v
    held (Arrival j) v is = is ∙ ap (node j) (like.made_same j)
    held (Operation j m) v is = is ∙ ap (node j) (like.made_same j)
    held (Cleaning m) v stands = rw (like.entries_same m) at stands

-- a move at the present moment
moved-fits : (p : PlannedShop) (kept : Node → ℕ) (c : Cell) (j t : ℕ) (new : Cell) → IsWellShaped p → IsSound p c → IsSound p new → CanMove p c j t → IsMoved p c j t new → MomentsFitAhead p c t kept → MomentsFitAhead p new t kept
moved-fits p kept c j t new shaped sound sound_new can change fit = record {
  left = gone_left;
  present = λ i inside left. present_left p c t kept (next_node new i) fit (record { ahead = more i; job = inside; place = left });
  activities = still;
  arcs = λ u v d ahead arc. fit.arcs u v d (omega (arith, more u.job)) arc;
}
  where
    inside_j : j < jobs p
    inside_j = ready_in_shop p c j sound can.is_ready

    within : made c j ≤ steps p j
    within = moves_within p c j t sound can

    mine : t ≤ kept (next_node c j)
    mine = fit.present j inside_j within

    same_job : (i : ℕ) → i ≢ j → made new i ≡ made c i
    same_job i other = ap (λ (s : JobState). s.made) (change.others i other)

    more : (i : ℕ) → made c i ≤ made new i
    more i = elim (cases_eq i j) [
      | inl same ↦ rw same (omega (arith, change.made_mine))
      | inr other ↦ omega (arith, same_job i other)
    ]

    gone_left : (i : ℕ) → i < jobs p → IsGone p new i → since new i ≤ kept (leaving p i)
    gone_left i inside gone = elim (cases_eq i j) [
      | inl same ↦ rw same (last (rw same at gone))
      | inr other ↦ (let before : since c i ≤ kept (leaving p i) = fit.left i inside (omega (arith, same_job i other)) in
          omega (arith, ap (λ (s : JobState). s.since) (change.others i other)))
    ]
      where
        last : IsGone p new j → since new j ≤ kept (leaving p j)
        last gone_j =
            let at : steps p j ≡ made c j = omega (arith, change.made_mine, within) in
            rw (change.since_mine, at) mine

    -- the operation that the move begins
    begun : (k m due : ℕ) → IsWorked p new j k m due → due ≤ kept (next_node new j)
    begun k m due worked =
        let at : made c j ≡ k = omega (arith, worked.on.entered, change.made_mine) in
        let entered : made new j ≡ k + 1 = worked.on.entered in
        let ahead : made c j ≤ k = omega arith in
        let arc : kept (node j k) + nominal p j k ≤ kept (node j (k + 1)) = fit.arcs _ _ _ ahead (job_arc j k worked.on.visits.within) in
        let from : t ≤ kept (node j k) = rw at at mine in
        rw entered (omega (arith, worked.is_due, change.since_mine))

    -- the cleaning that it begins
    departs : (m l s due : ℕ) (v : Node) → IsOn p c j l m → 0 < clean p m → cleaning new m ≡ Some s → due ≡ s + clean p m → HoldsUp p new (Cleaning m) v → due ≤ kept v
    departs m l s due v on timed cleaned is_due stands =
        let begun_now : Some s ≡ Some t = sym cleaned ∙ change.cleaning_begins l m on timed in
        let from : s ≡ t = cc in
        let entries_same : entries new m ≡ entries c m = change.not_entered m (λ visits. visits_apart p j l (made c j) m shaped on.visits visits on.entered) in
        let (b, place) = visits-stands p j l m shaped on.visits in
        let count : length (entries c m) ≡ b + 1 = sound.newest m b j l place on.entered in
        let next : Stands p m (length (entries c m)) v.job v.place = rw entries_same at stands in
        let after : Stands p m (b + 1) v.job v.place = rw count at next in
        let at : made c j ≡ l + 1 = on.entered in
        let ahead : made c j ≤ l + 1 = omega arith in
        let arc : kept (node j (l + 1)) + clean p m ≤ kept v = fit.arcs (node j (l + 1)) v (clean p m) ahead (blocking_arc m b j l v.job v.place place after) in
        let soon : t ≤ kept (node j (l + 1)) = rw at at mine in
        omega arith

    -- a cleaning that went on before
    cleaned_still : (m s due : ℕ) (v : Node) → cleaning c m ≡ Some s → due ≡ s + clean p m → HoldsUp p new (Cleaning m) v → due ≤ kept v
    cleaned_still m s due v cleaned is_due stands = elim (visits_or_not p j (made c j) m) [
      | inl visits ↦ (let is_clean : cleaning c m ≡ None = (target_free p c j t m can visits).1 in absurd cc)
      | inr off ↦ fit.activities (Cleaning m) due v (s, record { is_cleaned = cleaned; is_due = is_due }) (rw (change.not_entered m off) at stands)
    ]

    still : (a : Activity) (due : ℕ) (v : Node) → GoesOn p new a due → HoldsUp p new a v → due ≤ kept v
    still (Arrival i) due v awaited is = elim (cases_eq i j) [
      | inl same ↦ (let none : made new j ≡ 0 = rw same at awaited.outside in absurd (omega (arith, change.made_mine)))
      | inr other ↦ fit.activities (Arrival i) due v
          (record {
            outside = sym (same_job i other) ∙ awaited.outside;
            not_ready = sym (ap (λ (s : JobState). s.ready) (change.others i other)) ∙ awaited.not_ready;
            is_due = awaited.is_due;
          })
          (is ∙ ap (node i) (same_job i other))
    ]
    still (Operation i m) due v (k, worked) is = elim (cases_eq i j) [
      | inl same ↦ rw is (rw same (begun k m due (rw same at worked)))
      | inr other ↦ fit.activities (Operation i m) due v (
        k,
        record {
          on = record { entered = sym (same_job i other) ∙ worked.on.entered; visits = worked.on.visits };
          not_ready = sym (ap (λ (s : JobState). s.ready) (change.others i other)) ∙ worked.not_ready;
          is_due = omega (arith, worked.is_due, ap (λ (s : JobState). s.since) (change.others i other));
        },
      )
          (is ∙ ap (node i) (same_job i other))
    ]
    still (Cleaning m) due v (s, cleaned) stands = elim (on_or_not p c j m) [
      | inl (l, on) ↦ elim (cases_lt 0 (clean p m)) [
        | inl timed ↦ departs m l s due v on timed cleaned.is_cleaned cleaned.is_due stands
        | inr untimed ↦ cleaned_still m s due v (sym (change.cleaning_needless l m on (omega arith)) ∙ cleaned.is_cleaned) cleaned.is_due stands
      ]
      | inr nowhere ↦ cleaned_still m s due v (sym (change.cleaning_elsewhere m nowhere) ∙ cleaned.is_cleaned) cleaned.is_due stands
    ]

-- moves at the present moment
pub moves-fit : (p : PlannedShop) (kept : Node → ℕ) (c : Cell) (t : ℕ) (js : List ℕ) → IsWellShaped p → IsSound p c → AreMoves p c t js → MomentsFitAhead p c t kept → MomentsFitAhead p (after_moves p c t js) t kept
moves-fit p kept c t [] shaped sound moves fit = fit
moves-fit p kept c t (j ∷ js) shaped sound (can, keeps, moves) fit =
    let sound_new : IsSound p (after_move p c j t) = after_move-sound p c j t shaped sound can keeps in
    moves-fit p kept (after_move p c j t) t js shaped sound_new moves
    (moved-fits p kept c j t (after_move p c j t) shaped sound sound_new can (after_move-moved p c j t shaped sound can) fit)

-- the last moment after moves at a moment from the last one on
pub moves_last : (p : PlannedShop) (c : Cell) (t : ℕ) (js : List ℕ) → c.last ≤ t → (after_moves p c t js).last ≤ t
moves_last p c t [] later = later
moves_last p c t (j ∷ js) later = moves_last p (after_move p c j t) t js (le_refl t)

-- moments that fit from a moment on that isn't before the last one fit from the last one on
fit_from_last : (p : PlannedShop) (kept : Node → ℕ) (c : Cell) (t : ℕ) → c.last ≤ t → MomentsFitAhead p c t kept → KeepsMoments p kept c
fit_from_last p kept c t later fit = fit_from p c t c.last kept fit (λ j inside here. omega (arith, fit.present j inside here))

-- at rest no job makes its next move before a report within moments that rise ahead
pub within-before : (p : PlannedShop) (rank kept : Node → ℕ) (c : Cell) (r : Report) → IsWellShaped p → RanksRise p rank → IsSound p c → IsAtRest p c → RiseAhead p c kept → IsWithin p kept c r → IsNoneBefore p c (at r) kept
within-before p rank kept c r shaped ranks sound rest rise within j inside left =
    let found : HasActivityBy p c (next_node c j) = rest-active p rank c j shaped ranks sound rest inside left in
    let soon : at r ≤ kept found.held = within found.activity found.due found.held found.going found.holds in
    let bound : kept found.held ≤ kept (next_node c j) = found.leads kept rise in
    omega arith

-- a punctual report is within moments that fit
pub punctual-within : (p : PlannedShop) (kept : Node → ℕ) (c : Cell) (t : ℕ) (r : Report) → MomentsFitAhead p c t kept → IsPunctual p c r → IsWithin p kept c r
punctual-within p kept c t r fit punctual a due v going holds = omega (arith, punctual a due going, fit.activities a due v going holds)

-- a step of the controlled run keeps the moments, where its report is within them
pub step-still_fits : (p : PlannedShop) (rank kept : Node → ℕ) (c : Cell) (r : Report) (js : List ℕ) → IsWellShaped p → RanksRise p rank → IsSound p c → IsAtRest p c → KeepsMoments p kept c → IsStep p c r js → IsWithin p kept c r → KeepsMoments p kept (after_step p c r js)
step-still_fits p rank kept c r js shaped ranks sound rest fit step within =
    let report_at : (after_report c r).last ≡ at r = report_last c (ended r) (at r) in
    fit_from_last p kept (after_step p c r js) (at r) (moves_last p (after_report c r) (at r) js (omega arith))
    (moves-fit p kept (after_report c r) (at r) js shaped (after_report-sound p c r shaped sound step.can) step.moves
    (reported-fits p kept c (after_report c r) (at r) (after_report-like p c r sound step.can)
    (fit_from p c c.last (at r) kept fit (within-before p rank kept c r shaped ranks sound rest (fit_rise p c c.last kept fit) within))))

-- and so where it is punctual
pub step-keeps_moments : (p : PlannedShop) (rank kept : Node → ℕ) (c : Cell) (r : Report) (js : List ℕ) → IsWellShaped p → RanksRise p rank → IsSound p c → IsAtRest p c → KeepsMoments p kept c → IsStep p c r js → IsPunctual p c r → KeepsMoments p kept (after_step p c r js)
step-keeps_moments p rank kept c r js shaped ranks sound rest fit step punctual =
    step-still_fits p rank kept c r js shaped ranks sound rest fit step (punctual-within p kept c c.last r fit punctual)

-- moves hold no report
pub reports_later : (p : PlannedShop) (P : Cell → Report → Type 0) (c : Cell) (t : ℕ) (js : List ℕ) (es : List Event) → EachReport p P c (moved (orders_for p c t js) ++ es) → EachReport p P (after_moves p c t js) es
reports_later p P c t [] es each = each
reports_later p P c t (j ∷ js) es each = reports_later p P (after_move p c j t) t js es each

pub reports_sooner : (p : PlannedShop) (P : Cell → Report → Type 0) (c : Cell) (t : ℕ) (js : List ℕ) (es : List Event) → EachReport p P (after_moves p c t js) es → EachReport p P c (moved (orders_for p c t js) ++ es)
reports_sooner p P c t [] es each = each
reports_sooner p P c t (j ∷ js) es each = reports_sooner p P (after_move p c j t) t js es each

-- a controlled run of reports within the moments keeps them
leads-still_fits : (p : PlannedShop) (rank kept : Node → ℕ) (c : Cell) (rs : List Report) (es : List Event) (end : Cell) → IsWellShaped p → RanksRise p rank → IsSound p c → IsAtRest p c → Leads p c rs es end → KeepsMoments p kept c → AreWithin p kept c es → KeepsMoments p kept end
leads-still_fits p rank kept c rs es end shaped ranks sound rest leads =
    leads_induction p (λ c rs es end. KeepsMoments p kept c → AreWithin p kept c es → KeepsMoments p kept end) shaped
    (λ c sound rest fit within. fit)
    (λ c r js rs es end sound rest step later fit within.
    later (step-still_fits p rank kept c r js shaped ranks sound rest fit step within.0) (reports_later p (IsWithin p kept) (after_report c r) (at r) js es within.1))
    (λ c r rs es end sound rest cannot later fit within. later fit within) c rs es end sound rest leads

-- where the moments fit, each job of the shop keeps to the moment of its leaving
pub leaving_kept : (p : PlannedShop) (kept : Node → ℕ) (c : Cell) (j : ℕ) → KeepsMoments p kept c → j < jobs p → KeepsLeaving p kept c j
leaving_kept p kept c j keeps_moments inside = elim (cases_lt (steps p j) (made c j)) [
  | inl gone ↦ inl (record { gone = gone; by = keeps_moments.left j inside gone })
  | inr left ↦ inr ((λ gone. omega arith), present_left p c c.last kept (leaving p j) keeps_moments (record { ahead = left; job = inside; place = le_refl (steps p j) }))
]

-- a job that keeps to the moment of its leaving is in time, where that is within its budget
pub leaving-in_time : (p : PlannedShop) (kept : Node → ℕ) (c : Cell) (j : ℕ) → kept (leaving p j) ≤ budget p j → KeepsLeaving p kept c j → IsInTime p c j
leaving-in_time p kept c j within (inl gone) = inl (record { gone = gone.gone; by = omega (arith, gone.by) })
leaving-in_time p kept c j within (inr (left, soon)) = inr (omega arith)

-- and it is out by its budget, once it is gone
pub leaving-out : (p : PlannedShop) (kept : Node → ℕ) (c : Cell) (j : ℕ) → kept (leaving p j) ≤ budget p j → KeepsLeaving p kept c j → IsGone p c j → IsOutByBudget p c j
leaving-out p kept c j within (inl gone) left = record { gone = gone.gone; by = omega (arith, gone.by) }
leaving-out p kept c j within (inr (still, soon)) left = absurd (still left)

-- once it has settled, the moments still fit
pub settled-fits : (p : PlannedShop) (rank kept : Node → ℕ) (c : Cell) (t : ℕ) (js : List ℕ) → IsSound p c → c.last ≤ t → IsScheduleAhead p c t rank kept → AreMoves p c t js → KeepsMoments p kept (after_moves p c t js)
settled-fits p rank kept c t js sound later schedule moves =
    fit_from_last p kept (after_moves p c t js) t (moves_last p c t js later) (moves-fit p kept c t js schedule.shaped sound moves schedule.moments)

goes_on-still_fits : (p : PlannedShop) (rank kept : Node → ℕ) (c : Cell) (t : ℕ) (rs : List Report) (fs : List Event) (end : Cell)
    → IsSound p c → c.last ≤ t → IsScheduleAhead p c t rank kept → GoesOnTo p c t rs fs end → AreWithin p kept c fs → KeepsMoments p kept end
goes_on-still_fits p rank kept c t _ _ _ sound later schedule (settled js rs es end settles leads) within =
    leads-still_fits p rank kept (after_moves p c t js) rs es end schedule.shaped schedule.ranks (after_moves-sound p c t js schedule.shaped sound settles.moves) settles.quiescent leads
    (settled-fits p rank kept c t js sound later schedule settles.moves) (reports_later p (IsWithin p kept) c t js es within)

pub moments_still_fit-holds : MomentsStillFit
moments_still_fit-holds p rank kept es t rs fs end run moment schedule goes within =
    goes_on-still_fits p rank kept (ends_in p es) t rs fs end (run-sound p es schedule.shaped run) moment.in_order schedule goes within

-- exact reports are punctual
pub exact-punctual : (p : PlannedShop) (c : Cell) (es : List Event) → AreExact p c es → ArePunctual p c es
exact-punctual p c [] exact = tt
exact-punctual p c (Reported r ∷ es) exact = (exact.0.punctual, exact-punctual p (after_report c r) es exact.1)
exact-punctual p c (Moved o ∷ es) exact = exact-punctual p (after_move p c o.job o.at) es exact
