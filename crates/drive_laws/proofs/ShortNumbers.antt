-- In every run the numbers that are printed of a cell are short.
use Rattle.std.proofs.Common.{◌≡◌, ℕ, zero, suc, ◌+◌, ◌-◌, ◌<◌, ◌≤◌, nat_lt, if◌then◌else◌, length, Bool, true, false, cond, Option, Some, None, inl, inr, ltb-true, refl, sym, ap, subst, arith}
use Rattle.std.proofs.lemmas.{Bool.cases_lt, List.{length-append, length-map}}
use Rattle.shop_base.specs.declared.{limits.TheConstants.MAX_MOMENT, report.Report.TheVariants.{Arrive, Finish, Clean}}
use Rattle.shop_base.specs.Plan.{PlannedShop, IsWellShaped, jobs, machines, steps, machine_of, order, job_at}
use Rattle.shop_base.specs.{Cell.{Cell, made, ready, since, entries, cleaning}, Move.target, Sound.IsSound}
use Rattle.shop_base.specs.Report.{ended, at}
use Rattle.shop_base.proofs.{Keeping.run-sound, Visits.{stop_at, stop_past, visits_job}}
use Rattle.text_lines.{specs.Lines.lines_of, proofs.NextLines.lines_of-le}
use Rattle.byte_streams.specs.Lines.{within_limit}
use Rattle.cell_tables.proofs.CleanedSteps.{latest_on_few}
use Rattle.cell_tables.specs.{declared.claim.Claim.{Claim, TheVariants.{Report, FinishStep, CleanAfter, CleanAfterStep}}, Claims.claimed}
use Rattle.cell_tables.specs.{declared.standing.Standing.TheVariants.Gone, Events.events_of}
use Rattle.cell_tables.specs.Standings.{outside_standing, inside_standing, standing_after, job_standing, cleaning_standing, machine_standing, shown_visit, latest_on}
use Rattle.cell_control.specs.{declared.report_fault.ReportFault.ReportFault, Reports.IsOfShop}
use Rattle.cell_control.specs.declared.report_fault.ReportFault.TheVariants.{WrongKind, WrongMachine, JobOutOfRange, MachineOutOfRange, StepOutOfRange, MomentTooLarge, Backwards, NotExpected}
use Rattle.event_lines.specs.declared.details.Detail.{Detail, TheVariants.Nothing}
use Rattle.cell_drive.specs.{declared.{protocol.Protocol.Protocol, refusals.Refusal.Refusal}, OneRun.cell_after}
use Rattle.cell_drive.specs.{declared.refusals.Refusal.TheVariants.{Reason, Leap}, States.overdue_in}
use Rattle.cell_control.specs.Claims.{IsClaimReason}
use Rattle.cell_drive.specs.Refusals.{IsRefusal, standing_of, reason_detail, printed_detail}
use Rattle.cell_drive.proofs.Overdues.{AreFew, overdue_few}
use Rattle.cell_drive.proofs.Refusing.{refused_of_shop, refused_reason, reported_of_shop}
use Rattle.drive_laws.specs.ShortLinesLaw.{IsShort, IsMoment, IsShortSpot, IsShortStep, IsShortVisit, IsShortStanding, IsShortDetail, StandingsAreShort, DetailsAreShort, OverdueIsShort, LineNumbersAreShort}
use Rattle.drive_laws.proofs.BegunByLast.{AreBegunByLast, begun_in_run}
use Rattle.shop_base.specs.declared.report.Report as reports

-- ---- a cell

module _ (p : PlannedShop) (c : Cell) (shaped : IsWellShaped p) (sound : IsSound p c) (begun : AreBegunByLast c) where
  short_job : (j : ℕ) → j < jobs p → IsShort j
  short_job j below = omega (arith, below, shaped.shop.counts.few_jobs)

  short_machine : (m : ℕ) → m < machines p → IsShort m
  short_machine m below = omega (arith, below, shaped.shop.counts.few_machines)

  -- a machine of a route
  short_stop : (j k : ℕ) → j < jobs p → k < steps p j → IsShort (machine_of p j k)
  short_stop j k below within = short_machine (machine_of p j k) ((shaped.shop.routes j below).steps k within).in_range

  target_short : (j : ℕ) → j < jobs p → IsShortSpot (target p c j)
  target_short j below = elim (cases_lt (made c j) (steps p j)) [
    | inl within ↦ subst IsShortSpot (sym (stop_at p j (made c j) (machine_of p j (made c j)) (record { within = within; here = refl }))) (short_stop j (made c j) below within)
    | inr past ↦ subst IsShortSpot (sym (stop_past p j (made c j) past)) tt
  ]

  since_short : (j : ℕ) → IsMoment (since c j)
  since_short j = omega (arith, sound.begun j, sound.last_in_range)

  -- a step that tells a visit, or none
  shown_short : (again : Bool) (k : ℕ) → k < 1000 → IsShortStep (if again then Some k else None)
  shown_short true k below = below
  shown_short false k below = tt

  few_steps : (j : ℕ) → j < jobs p → steps p j < 1000
  few_steps j below = omega (arith, (shaped.shop.routes j below).few_steps)

  visit_short : (j k : ℕ) → j < jobs p → k < 1000 → IsShortVisit (shown_visit p j k)
  visit_short j k below few = (short_job j below, shown_short p.shop.recirculates k few)

  outside_short : (j : ℕ) (is_ready : Bool) → j < jobs p → IsShortStanding (outside_standing p c j is_ready)
  outside_short j true below = (short_job j below, target_short j below)
  outside_short j false below = (short_job j below, omega (arith, shaped.limits.releases j below))

  inside_short : (j k : ℕ) (is_ready : Bool) → j < jobs p → k < steps p j → IsShortStanding (inside_standing p c j k is_ready)
  inside_short j k true below within = (visit_short j k below (omega (arith, within, few_steps j below)), short_stop j k below within, target_short j below)
  inside_short j k false below within =
      (visit_short j k below (omega (arith, within, few_steps j below)), short_stop j k below within, since_short j, omega (arith, sound.begun j, sound.last_in_range, ((shaped.shop.routes j below).steps k within).nominal))

  entered_short : (j k : ℕ) (is : Bool) → j < jobs p → nat_lt k (steps p j) ≡ is → IsShortStanding (cond is (inside_standing p c j k (ready c j)) (Gone j (since c j)))
  entered_short j k true below is = inside_short j k (ready c j) below (ltb-true k (steps p j) is)
  entered_short j k false below is = (short_job j below, since_short j)

  after_short : (j n : ℕ) → j < jobs p → IsShortStanding (standing_after p c j n)
  after_short j zero below = outside_short j (ready c j) below
  after_short j (suc k) below = entered_short j k (nat_lt k (steps p j)) below refl

  jobs_short : (j : ℕ) → j < jobs p → IsShortStanding (job_standing p c j)
  jobs_short j below = after_short j (made c j) below

  -- the job that entered a machine last
  last_job : (m : ℕ) → m < machines p → 0 < length (entries c m) → job_at p m (length (entries c m) - 1) < jobs p
  last_job m below some =
      let front = sound.in_order m in
      let within : length (entries c m) - 1 < length (order p m) = omega (arith, some, ap length front.1, length-append (entries c m) front.0) in
      let visit = (shaped.orders m below).on_route (length (entries c m) - 1) within in
      visits_job p (job_at p m (length (entries c m) - 1)) visit.0 m visit.1.visits

  cleaning_short : (m : ℕ) (found : Option ℕ) → m < machines p → cleaning c m ≡ found → IsShortStanding (cleaning_standing p c m found)
  cleaning_short m None below is = short_machine m below
  cleaning_short m (Some from) below is =
      let early = begun m from is in
      let j = job_at p m (length (entries c m) - 1) in
      let of_shop = last_job m below (sound.cleaned_entered m from is) in
      (short_machine m below, visit_short j (latest_on p j m (made c j)) of_shop (omega (arith, latest_on_few p j m (made c j), few_steps j of_shop)), omega (arith, early, sound.last_in_range), omega (arith, early, sound.last_in_range, shaped.limits.cleanings m below))

  machines_short : (m : ℕ) → m < machines p → IsShortStanding (machine_standing p c m)
  machines_short m below = cleaning_short m (cleaning c m) below refl

  own_standing_short : (report : reports.Report) → IsOfShop p (ended report) → IsShortStanding (standing_of p c report)
  own_standing_short (Arrive job at) of = jobs_short job of
  own_standing_short (Finish job machine at) of = jobs_short job of
  own_standing_short (Clean machine at) of = machines_short machine of

  overdue_short : (report : reports.Report) → IsOfShop p (ended report) → AreFew (at report) IsShortStanding (jobs p + machines p) (overdue_in p c (standing_of p c report) (at report))
  overdue_short report of =
      overdue_few (at report) IsShortStanding p c (standing_of p c report) (λ j below is. jobs_short j below) (λ m below is. machines_short m below) (λ is. own_standing_short report of)

  -- ---- a refusal

  backwards_last : (claim : Claim) (last : ℕ) → IsClaimReason p c claim (Backwards last) → last ≡ c.last
  backwards_last (Report report) last is = is.3
  backwards_last (FinishStep job step at) last is = is.3
  backwards_last (CleanAfter machine job at) last is = is.3
  backwards_last (CleanAfterStep machine job step at) last is = is.3

  module _ (protocol : Protocol) (claim : Claim) where
    reason_short : (reason : ReportFault) → IsRefusal protocol p c claim (Reason reason) → IsShortDetail (reason_detail p c (claimed p claim) reason)
    reason_short JobOutOfRange is = tt
    reason_short MachineOutOfRange is = tt
    reason_short StepOutOfRange is = tt
    reason_short MomentTooLarge is = tt
    reason_short (Backwards last) is = omega (arith, backwards_last claim last (refused_reason p c protocol claim (Backwards last) is), sound.last_in_range)
    reason_short NotExpected is = own_standing_short (claimed p claim) (refused_of_shop p c protocol claim NotExpected is refl)
    reason_short WrongKind is = own_standing_short (claimed p claim) (refused_of_shop p c protocol claim WrongKind is refl)
    reason_short (WrongMachine actual) is = own_standing_short (claimed p claim) (refused_of_shop p c protocol claim (WrongMachine actual) is refl)

    base_short : (is : Bool) → protocol.from ≤ MAX_MOMENT → IsMoment (cond is protocol.from c.last)
    base_short true from = omega (arith, from)
    base_short false from = omega (arith, sound.last_in_range)

    refusal_short : (refusal : Refusal) → protocol.from ≤ MAX_MOMENT → IsRefusal protocol p c claim refusal → IsShortDetail (printed_detail protocol p c (claimed p claim) refusal)
    refusal_short (Reason reason) from is = reason_short reason is
    refusal_short Leap from is = base_short (nat_lt c.last protocol.from) from

    detail_short : (version_2 : Bool) (detail : Detail) → IsShortDetail detail → IsShortDetail (cond version_2 detail Nothing)
    detail_short true detail is = is
    detail_short false detail is = tt

-- ---- runs

pub standings_are_short : StandingsAreShort
standings_are_short p es shaped run =
    let c = cell_after p es in
    let sound = run-sound p (events_of es) shaped run in
    let begun = begun_in_run p shaped (events_of es) run in
    (jobs_short p c shaped sound begun, machines_short p c shaped sound begun)

pub details_are_short : DetailsAreShort
details_are_short p protocol es claim refusal shaped run from is =
    let c = cell_after p es in
    let sound = run-sound p (events_of es) shaped run in
    let begun = begun_in_run p shaped (events_of es) run in
    detail_short p c shaped sound begun protocol claim protocol.version_2 (printed_detail protocol p c (claimed p claim) refusal) (refusal_short p c shaped sound begun protocol claim refusal from is)

pub overdue_is_short : OverdueIsShort
overdue_is_short p es report overdue shaped run can same =
    let c = cell_after p es in
    let sound = run-sound p (events_of es) shaped run in
    let begun = begun_in_run p shaped (events_of es) run in
    let few = overdue_short p c shaped sound begun report (reported_of_shop p c report shaped sound can) in
    let found : AreFew (at report) IsShortStanding (jobs p + machines p) (Some overdue) = subst (AreFew (at report) IsShortStanding (jobs p + machines p)) same few in
    (omega (arith, can.moment.in_range), found.1, omega (arith, found.2, shaped.shop.counts.few_jobs, shaped.shop.counts.few_machines))

-- ---- an input

pub line_numbers_are_short : LineNumbersAreShort
line_numbers_are_short input within = omega (arith, within, length-map (lines_of input) within_limit, lines_of-le input)
