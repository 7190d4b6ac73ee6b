-- In time within: while each report comes within moments that can be kept, a job that isn't gone isn't late for its leaving, at rest; so it isn't when it leaves, nor is any move. And the laws of punctual reports from it.
use Rattle.std.proofs.Common.{◌≡◌, ℕ, ◌+◌, ◌<◌, ◌≤◌, ◌⊎◌, inl, inr, List, [], ◌∷◌, ◌++◌, arith, le_refl}
use Rattle.std.proofs.lemmas.Bool.{cases_lt}
use Rattle.shop_base.specs.declared.node.Node.{Node}
use Rattle.shop_base.specs.declared.report.Report.{Report}
use Rattle.shop_base.specs.Plan.{PlannedShop, jobs, steps, IsWellShaped}
use Rattle.shop_base.specs.Cell.{Cell, made, IsGone, since}
use Rattle.shop_base.specs.Report.{ended, at, after_report}
use Rattle.shop_base.specs.Run.{Event, AreEvents, after_all, ends_in, IsAtRest, Reported, Moved}
use Rattle.shop_base.specs.Controlled.{AreMoves, after_moves, orders_for, after_step, IsStep, Leads, moved}
use Rattle.shop_base.specs.Ends.{IsGoneBy}
use Rattle.shop_base.specs.Graph.{RanksRise, leaving}
use Rattle.shop_base.specs.Sound.{IsSound}
use Rattle.shop_base.specs.KeptMoments.{KeepsLeaving, KeepsMoments}
use Rattle.shop_base.specs.Ahead.{next_node, MomentsFitAhead, GoesOnTo, settled, IsScheduleAhead}
use Rattle.shop_base.specs.AheadLaw.{InTimeFromThere, JustInTimeFromThere}
use Rattle.shop_base.specs.Within.{IsWithin, AreWithin, AreMadeBy, RiseAhead, CanBeKept}
use Rattle.shop_base.specs.WithinLaw.{InTimeWithin, EachMoveIsInTime, AReportInTimeIsPossible, PunctualReportsAreWithin}
use Rattle.shop_base.proofs.InShop.{ready_in_shop}
use Rattle.shop_base.proofs.Reports.{at-report_of}
use Rattle.shop_base.proofs.Changes.{moves_within}
use Rattle.shop_base.proofs.Keeping.{after_report-like, after_report-sound, after_move-sound, run-sound}
use Rattle.shop_base.proofs.ControlledRuns.{leads_induction, moves-events, after_all-moves, after_moves-sound}
use Rattle.shop_base.proofs.NeverStuck.{ahead_rises, sound-reportable}
use Rattle.shop_base.proofs.GoingOn.{goes_on_to_run}
use Rattle.shop_base.proofs.LowerBounds.{made_more, since_stays, made-no_earlier}
use Rattle.shop_base.proofs.InTime.{report_last, moves_last, fit_rise, rise_left, present_left, within-before, reports_later, reports_sooner, leaving-in_time, leaving-out, step-still_fits, settled-fits, moments_still_fit-holds}
use Rattle.shop_base.specs.Punctual.{ArePunctual, IsPunctualFrom, ArePunctualFrom}
use Rattle.shop_base.specs.Move.{after_move}
use Rattle.shop_base.proofs.Ahead.{IsLeftIn, held_left, path_left}

-- job j is gone since a moment at most n, or it isn't gone, and t is at most n
abbrev IsSoonEnough : PlannedShop → Cell → ℕ → ℕ → ℕ → Type 0
IsSoonEnough p c j t n = IsGoneBy p c j n ⊎ ((IsGone p c j → ⊥) × (t ≤ n))

-- a job that is gone stays gone, since the same moment
gone_stays : (p : PlannedShop) (c : Cell) (es : List Event) (j n : ℕ) → IsWellShaped p → IsSound p c → IsSound p (after_all p c es) → AreEvents p c es → j < jobs p
    → IsGoneBy p c j n → IsGoneBy p (after_all p c es) j n
gone_stays p c es j n shaped sound sound_end events inside gone =
    let more : made c j ≤ made (after_all p c es) j = made_more p c es j shaped sound events in
    let here : steps p j < made c j = gone.gone in
    let same : made (after_all p c es) j ≡ made c j = omega (arith, sound_end.few_moves j inside) in
    record { gone = omega arith; by = omega (arith, gone.by, since_stays p c es j shaped sound events same) }

-- after moves at a moment that is soon enough it still is
moves-soon : (p : PlannedShop) (c : Cell) (t : ℕ) (js : List ℕ) (j n : ℕ) → IsWellShaped p → IsSound p c → c.last ≤ t → AreMoves p c t js → j < jobs p
    → IsSoonEnough p c j t n → IsSoonEnough p (after_moves p c t js) j (after_moves p c t js).last n
moves-soon p c t js j n shaped sound later moves inside (inl gone) =
    inl (rw (after_all-moves p c t js) at (gone_stays p c (moved (orders_for p c t js)) j n shaped sound
    (rw (after_all-moves p c t js) (after_moves-sound p c t js shaped sound moves)) (moves-events p c t js moves) inside gone))
moves-soon p c t js j n shaped sound later moves inside (inr (left, soon)) =
    let last : (after_moves p c t js).last ≤ t = moves_last p c t js later in
    elim (cases_lt (steps p j) (made (after_moves p c t js) j)) [
      | inl gone ↦ inl (record { gone = gone; by = omega (arith, (after_moves-sound p c t js shaped sound moves).begun j) })
      | inr still ↦ inr ((λ gone. omega arith), omega arith)
    ]

-- a job makes no fewer moves in moves and in a step
pub moves_more : (p : PlannedShop) (c : Cell) (t : ℕ) (js : List ℕ) (j : ℕ) → IsWellShaped p → IsSound p c → AreMoves p c t js → made c j ≤ made (after_moves p c t js) j
moves_more p c t js j shaped sound moves = rw (after_all-moves p c t js) at (made_more p c (moved (orders_for p c t js)) j shaped sound (moves-events p c t js moves))

pub step_more : (p : PlannedShop) (c : Cell) (r : Report) (js : List ℕ) (j : ℕ) → IsWellShaped p → IsSound p c → IsStep p c r js → made c j ≤ made (after_step p c r js) j
step_more p c r js j shaped sound step =
    omega (arith, (after_report-like p c r sound step.can).made_same j, moves_more p (after_report c r) (at r) js j shaped (after_report-sound p c r shaped sound step.can) step.moves)

-- where moments rise ahead they do as long as no job makes fewer moves
rise_later : (p : PlannedShop) (c new : Cell) (kept : Node → ℕ) → ((j : ℕ) → made c j ≤ made new j) → RiseAhead p c kept → RiseAhead p new kept
rise_later p c new kept more rise u v d ahead arc = rise u v d (omega (arith, more u.job)) arc

-- a step whose report is within the moments
step-soon : (p : PlannedShop) (rank kept : Node → ℕ) (c : Cell) (r : Report) (js : List ℕ) (j : ℕ) → IsWellShaped p → RanksRise p rank → IsSound p c → IsAtRest p c → RiseAhead p c kept → IsStep p c r js → IsWithin p kept c r → j < jobs p
    → KeepsLeaving p kept c j → KeepsLeaving p kept (after_step p c r js) j
step-soon p rank kept c r js j shaped ranks sound rest rise step within inside keeps =
    moves-soon p (after_report c r) (at r) js j (kept (leaving p j)) shaped (after_report-sound p c r shaped sound step.can) (omega (arith, report_last c (ended r) (at r))) step.moves inside (reported keeps)
  where
    made_same : made (after_report c r) j ≡ made c j
    made_same = (after_report-like p c r sound step.can).made_same j

    reported : KeepsLeaving p kept c j → IsSoonEnough p (after_report c r) j (at r) (kept (leaving p j))
    reported (inl gone) = inl (record { gone = omega (arith, made_same, gone.gone); by = omega (arith, gone.by, (after_report-like p c r sound step.can).since_same j) })
    reported (inr (left, soon)) = elim (cases_lt (steps p j) (made c j)) [
      | inl gone ↦ absurd (left gone)
      | inr here ↦ (let next : at r ≤ kept (next_node c j) = within-before p rank kept c r shaped ranks sound rest rise within j inside here in
          let along : kept (next_node c j) ≤ kept (leaving p j) = ahead_rises p c kept j (made c j) (steps p j) rise (le_refl (made c j)) here (le_refl (steps p j)) in
          inr ((λ gone. omega (arith, made_same)), omega arith))
    ]

leads-soon : (p : PlannedShop) (rank kept : Node → ℕ) (c : Cell) (rs : List Report) (es : List Event) (end : Cell) (j : ℕ) → IsWellShaped p → RanksRise p rank → IsSound p c → IsAtRest p c → Leads p c rs es end → j < jobs p
    → RiseAhead p c kept → KeepsLeaving p kept c j → AreWithin p kept c es → KeepsLeaving p kept end j
leads-soon p rank kept c rs es end j shaped ranks sound rest leads inside =
    leads_induction p (λ c rs es end. RiseAhead p c kept → KeepsLeaving p kept c j → AreWithin p kept c es → KeepsLeaving p kept end j) shaped
    (λ c sound rest rise keeps within. keeps)
    (λ c r js rs es end sound rest step later rise keeps within.
    later (rise_later p c (after_step p c r js) kept (λ i. step_more p c r js i shaped sound step) rise)
    (step-soon p rank kept c r js j shaped ranks sound rest rise step within.0 inside keeps) (reports_later p (IsWithin p kept) (after_report c r) (at r) js es within.1))
    (λ c r rs es end sound rest cannot later rise keeps within. later rise keeps within) c rs es end sound rest leads

-- a job that isn't late for its leaving at the present moment isn't in any controlled run that goes on within moments that rise ahead
goes_on-soon : (p : PlannedShop) (rank kept : Node → ℕ) (c : Cell) (t : ℕ) (rs : List Report) (fs : List Event) (end : Cell) (j : ℕ) → IsWellShaped p → RanksRise p rank → IsSound p c → c.last ≤ t → GoesOnTo p c t rs fs end → j < jobs p
    → RiseAhead p c kept → IsSoonEnough p c j t (kept (leaving p j)) → AreWithin p kept c fs → KeepsLeaving p kept end j
goes_on-soon p rank kept c t _ _ _ j shaped ranks sound later (settled js rs es end settles leads) inside rise soon within =
    leads-soon p rank kept (after_moves p c t js) rs es end j shaped ranks (after_moves-sound p c t js shaped sound settles.moves) settles.quiescent leads inside
    (rise_later p c (after_moves p c t js) kept (λ i. moves_more p c t js i shaped sound settles.moves) rise)
    (moves-soon p c t js j (kept (leaving p j)) shaped sound later settles.moves inside soon)
    (reports_later p (IsWithin p kept) c t js es within)

pub in_time_within-holds : InTimeWithin
in_time_within-holds p rank kept es t rs fs end shaped ranks run moment can goes within j inside there =
    let sound : IsSound p (ends_in p es) = run-sound p es shaped run in
    let soon : IsSoonEnough p (ends_in p es) j t (kept (leaving p j)) = inr (there, can.present j inside (elim (cases_lt (steps p j) (made (ends_in p es) j)) [ inl gone ↦ absurd (there gone) | inr left ↦ left ])) in
    let keeps : KeepsLeaving p kept end j = goes_on-soon p rank kept (ends_in p es) t rs fs end j shaped ranks sound moment.in_order goes inside can.rise soon within in
    (keeps, λ budgets. (leaving-in_time p kept end j (budgets j inside there) keeps, leaving-out p kept end j (budgets j inside there) keeps))

-- moments that fit can be kept
pub fit-can_be_kept : (p : PlannedShop) (c : Cell) (t : ℕ) (kept : Node → ℕ) → MomentsFitAhead p c t kept → CanBeKept p c t kept
fit-can_be_kept p c t kept fit = record {
  present = λ j inside left. present_left p c t kept (leaving p j) fit (record { ahead = left; job = inside; place = le_refl (steps p j) });
  rise = fit_rise p c t kept fit;
}

-- the present moment isn't past that of any node ahead
abbrev pub IsNoneLate : PlannedShop → Cell → ℕ → (Node → ℕ) → Type 0
IsNoneLate p c t kept = (v : Node) → IsLeftIn p c v → t ≤ kept v

pub none_late-after : (p : PlannedShop) (c new : Cell) (t : ℕ) (kept : Node → ℕ) → ((j : ℕ) → made c j ≤ made new j) → IsNoneLate p c t kept → IsNoneLate p new t kept
none_late-after p c new t kept more none v left = none v (record { ahead = omega (arith, more v.job, left.ahead); job = left.job; place = left.place })

-- moves at a moment that isn't past that of any node ahead are made by the moments of theirs
moves-made_by : (p : PlannedShop) (kept : Node → ℕ) (c : Cell) (t : ℕ) (js : List ℕ) (es : List Event) → IsWellShaped p → IsSound p c → AreMoves p c t js → IsNoneLate p c t kept
    → AreMadeBy p kept (after_moves p c t js) es → AreMadeBy p kept c (moved (orders_for p c t js) ++ es)
moves-made_by p kept c t [] es shaped sound moves none made_by = made_by
moves-made_by p kept c t (j ∷ js) es shaped sound (can, keeps, moves) none made_by = (
  none (next_node c j) (record { ahead = le_refl (made c j); job = ready_in_shop p c j sound can.is_ready; place = moves_within p c j t sound can }),
  moves-made_by p kept (after_move p c j t) t js es shaped (after_move-sound p c j t shaped sound can keeps) moves
      (none_late-after p c (after_move p c j t) t kept (λ i. moves_more p c t (j ∷ []) i shaped sound (can, keeps, tt)) none) made_by,
)

leads-made_by : (p : PlannedShop) (rank kept : Node → ℕ) (c : Cell) (rs : List Report) (es : List Event) (end : Cell) → IsWellShaped p → RanksRise p rank → IsSound p c → IsAtRest p c → Leads p c rs es end
    → RiseAhead p c kept → AreWithin p kept c es → AreMadeBy p kept c es
leads-made_by p rank kept c rs es end shaped ranks sound rest leads =
    leads_induction p (λ c rs es end. RiseAhead p c kept → AreWithin p kept c es → AreMadeBy p kept c es) shaped
    (λ c sound rest rise within. tt)
    (λ c r js rs es end sound rest step later rise within.
    moves-made_by p kept (after_report c r) (at r) js es shaped (after_report-sound p c r shaped sound step.can) step.moves
    (none_late-after p c (after_report c r) (at r) kept (λ i. omega (arith, (after_report-like p c r sound step.can).made_same i))
    (λ v left. rise_left p c (at r) kept v rise (within-before p rank kept c r shaped ranks sound rest rise within.0) left))
    (later (rise_later p c (after_step p c r js) kept (λ i. step_more p c r js i shaped sound step) rise) (reports_later p (IsWithin p kept) (after_report c r) (at r) js es within.1)))
    (λ c r rs es end sound rest cannot later rise within. later rise within) c rs es end sound rest leads

-- where the present moment isn't past that of any node ahead, and the moments rise ahead, each move is made by the moment of its node
pub goes_on-made_by : (p : PlannedShop) (rank kept : Node → ℕ) (c : Cell) (t : ℕ) (rs : List Report) (fs : List Event) (end : Cell) → IsWellShaped p → RanksRise p rank → IsSound p c → GoesOnTo p c t rs fs end
    → ((v : Node) → IsLeftIn p c v → t ≤ kept v) → RiseAhead p c kept → AreWithin p kept c fs → AreMadeBy p kept c fs
goes_on-made_by p rank kept c t _ _ _ shaped ranks sound (settled js rs es end settles leads) none rise within =
    moves-made_by p kept c t js es shaped sound settles.moves none
    (leads-made_by p rank kept (after_moves p c t js) rs es end shaped ranks (after_moves-sound p c t js shaped sound settles.moves) settles.quiescent leads
    (rise_later p c (after_moves p c t js) kept (λ i. moves_more p c t js i shaped sound settles.moves) rise) (reports_later p (IsWithin p kept) c t js es within))

pub each_move_is_in_time-holds : EachMoveIsInTime
each_move_is_in_time-holds p rank kept es t rs fs end run moment schedule goes within =
    goes_on-made_by p rank kept (ends_in p es) t rs fs end schedule.shaped schedule.ranks (run-sound p es schedule.shaped run) goes
    (λ v left. present_left p (ends_in p es) t kept v schedule.moments left) (fit_rise p (ends_in p es) t kept schedule.moments) within

pub a_report_in_time_is_possible-holds : AReportInTimeIsPossible
a_report_in_time_is_possible-holds p rank kept es t rs fs end run moment schedule goes within a due going =
    let (events, ends, sound, rest) = goes_on_to_run p (ends_in p es) t rs fs end schedule.shaped (run-sound p es schedule.shaped run) goes in
    let fit : KeepsMoments p kept end = moments_still_fit-holds p rank kept es t rs fs end run moment schedule goes within in
    (sound-reportable p end sound a due going, λ other is_due v goes_on holds. omega (arith, at-report_of a end.last, present_left p end end.last kept v fit (held_left p end other is_due v sound goes_on holds)))

-- a report no later than that moment, or than what goes on is due, is within moments that fit
pub from-within : (p : PlannedShop) (kept : Node → ℕ) (c : Cell) (t u : ℕ) (r : Report) → IsSound p c → MomentsFitAhead p c u kept → IsNoneLate p c t kept → IsPunctualFrom p t c r → IsWithin p kept c r
from-within p kept c t u r sound fit none punctual a due v going holds = elim (punctual a due going) [
  | inl soon ↦ omega (arith, none v (held_left p c a due v sound going holds))
  | inr soon ↦ omega (arith, fit.activities a due v going holds)
]

leads-within : (p : PlannedShop) (rank kept : Node → ℕ) (c : Cell) (t : ℕ) (rs : List Report) (es : List Event) (end : Cell) → IsWellShaped p → RanksRise p rank → IsSound p c → IsAtRest p c → Leads p c rs es end
    → KeepsMoments p kept c → IsNoneLate p c t kept → ArePunctualFrom p t c es → AreWithin p kept c es
leads-within p rank kept c t rs es end shaped ranks sound rest leads =
    leads_induction p (λ c rs es end. KeepsMoments p kept c → IsNoneLate p c t kept → ArePunctualFrom p t c es → AreWithin p kept c es) shaped
    (λ c sound rest fit none punctual. tt)
    (λ c r js rs es end sound rest step later fit none punctual.
    let within : IsWithin p kept c r = from-within p kept c t c.last r sound fit none punctual.0 in (
      within,
      reports_sooner p (IsWithin p kept) (after_report c r) (at r) js es
          (later (step-still_fits p rank kept c r js shaped ranks sound rest fit step within)
          (none_late-after p c (after_step p c r js) t kept (λ i. step_more p c r js i shaped sound step) none)
          (reports_later p (IsPunctualFrom p t) (after_report c r) (at r) js es punctual.1)),
    ))
    (λ c r rs es end sound rest cannot later fit none punctual. later fit none punctual) c rs es end sound rest leads

goes_on-within : (p : PlannedShop) (rank kept : Node → ℕ) (c : Cell) (t : ℕ) (rs : List Report) (fs : List Event) (end : Cell)
    → IsSound p c → c.last ≤ t → IsScheduleAhead p c t rank kept → GoesOnTo p c t rs fs end → ArePunctualFrom p t c fs → AreWithin p kept c fs
goes_on-within p rank kept c t _ _ _ sound later schedule (settled js rs es end settles leads) punctual =
    reports_sooner p (IsWithin p kept) c t js es
    (leads-within p rank kept (after_moves p c t js) t rs es end schedule.shaped schedule.ranks (after_moves-sound p c t js schedule.shaped sound settles.moves) settles.quiescent leads
    (settled-fits p rank kept c t js sound later schedule settles.moves)
    (none_late-after p c (after_moves p c t js) t kept (λ i. moves_more p c t js i schedule.shaped sound settles.moves) (λ v left. present_left p c t kept v schedule.moments left))
    (reports_later p (IsPunctualFrom p t) c t js es punctual))

pub punctual_reports_are_within-holds : PunctualReportsAreWithin
punctual_reports_are_within-holds p rank kept es t rs fs end run moment schedule goes punctual =
    goes_on-within p rank kept (ends_in p es) t rs fs end (run-sound p es schedule.shaped run) moment.in_order schedule goes punctual

-- so the laws of punctual reports are cases of it
pub in_time_from_there-holds : InTimeFromThere
in_time_from_there-holds p rank kept es t rs fs end run moment schedule goes punctual j inside = elim (cases_lt (steps p j) (made (ends_in p es) j)) [
  | inr left ↦ (let there : IsGone p (ends_in p es) j → ⊥ = λ gone. omega arith in
      let (keeps, in_time) = in_time_within-holds p rank kept es t rs fs end schedule.shaped schedule.ranks run moment
      (fit-can_be_kept p (ends_in p es) t kept schedule.moments) goes (punctual_reports_are_within-holds p rank kept es t rs fs end run moment schedule goes punctual) j inside there in
      (keeps, λ budgets other. in_time budgets))
  | inl gone ↦ (let sound : IsSound p (ends_in p es) = run-sound p es schedule.shaped run in
      let (events, ends, sound_end, rest) = goes_on_to_run p (ends_in p es) t rs fs end schedule.shaped sound goes in
      let stays : IsGoneBy p (after_all p (ends_in p es) fs) j (kept (leaving p j)) =
      gone_stays p (ends_in p es) fs j (kept (leaving p j)) schedule.shaped sound (rw ends at sound_end) events inside (record { gone = gone; by = schedule.moments.left j inside gone }) in
      (inl (rw ends stays), λ budgets there. absurd (there gone)))
]

-- a job that is gone keeps to the moment of its leaving by being gone by it
gone_by : (p : PlannedShop) (kept : Node → ℕ) (c : Cell) (j : ℕ) → KeepsLeaving p kept c j → IsGone p c j → since c j ≤ kept (leaving p j)
gone_by p kept c j (inl left) gone = left.by
gone_by p kept c j (inr (left, soon)) gone = absurd (left gone)

pub just_in_time_from_there-holds : JustInTimeFromThere
just_in_time_from_there-holds p rank kept es t rs fs end run moment schedule goes punctual not_early from j nodes path gone =
    let sound : IsSound p (ends_in p es) = run-sound p es schedule.shaped run in
    let (events, ends, sound_end, rest) = goes_on_to_run p (ends_in p es) t rs fs end schedule.shaped sound goes in
    let inside : j < jobs p = (path_left p (ends_in p es) t nodes (leaving p j) (kept (leaving p j)) sound path).job in
    let last : made end j ≡ steps p j + 1 = omega (arith, sound_end.few_moves j inside) in
    let no_later : since end j ≤ kept (leaving p j) = gone_by p kept end j (in_time_from_there-holds p rank kept es t rs fs end run moment schedule goes punctual j inside).0 gone in
    let no_sooner : kept (leaving p j) ≤ since end j =
    rw ends (made-no_earlier p (ends_in p es) t fs nodes (leaving p j) (kept (leaving p j)) schedule.shaped sound path events from not_early (rw ends at last)) in
    omega arith

-- punctual reports are punctual from any moment on
pub punctual-from : (p : PlannedShop) (t : ℕ) (c : Cell) (es : List Event) → ArePunctual p c es → ArePunctualFrom p t c es
punctual-from p t c [] punctual = tt
punctual-from p t c (Reported r ∷ es) punctual = ((λ a due going. inr (punctual.0 a due going)), punctual-from p t (after_report c r) es punctual.1)
punctual-from p t c (Moved o ∷ es) punctual = punctual-from p t (after_move p c o.job o.at) es punctual
