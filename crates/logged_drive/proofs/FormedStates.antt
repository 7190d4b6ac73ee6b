-- What a cell that is driven by a protocol answers, as a log gets it.
use Rattle.std.proofs.Common.{◌≡◌, ℕ, zero, suc, ◌+◌, ◌-◌, ◌^◌, ◌<◌, ◌≤◌, ◌==◌, nat_lt, if◌then◌else◌, List, [], ◌∷◌, ◌++◌, length, codes, Option, None, Some, Bool, true, false, cond, inl, inr, refl, sym, ap, ◌∙◌, subst, arith}
use Rattle.std.proofs.lemmas.{Bool.{cases_lt, le-ltb, lt-ltb, ltb-true}, List.get_or_past}
use Rattle.shop_base.specs.declared.report.Report.{Report, TheVariants.{Arrive, Finish, Clean as CleanReport}}
use Rattle.shop_base.specs.{declared.limits.TheConstants.MAX_MOMENT, Sound.IsSound, Controlled.step_orders, Report.at}
use Rattle.shop_base.specs.Plan.{nominal, clean, PlannedShop, IsWellShaped, jobs, machines, steps, machine_of, order, job_at, release}
use Rattle.shop_base.specs.{ReportsLeft.reports_left, Cell.{Cell, made, ready, since, entries, cleaning}}
use Rattle.shop_base.proofs.Visits.{visits_job, visits_machine}
use Rattle.cell_tables.proofs.CleanedSteps.{latest_on_few}
use Rattle.cell_tables.specs.{Claims.claimed, declared.entry.Entry.{Entry, TheVariants.Report as ReportEntry}}
use Rattle.cell_tables.specs.declared.standing.Standing.{Standing, TheVariants.Gone}
use Rattle.cell_tables.specs.Standings.{job_standing, machine_standing, is_overdue, outside_standing, inside_standing, standing_after, cleaning_standing, latest_on}
use Rattle.event_lines.specs.StandingLines.{since_words, shown_word, standing_words, others_words, unfinished_standing_line, refused_detail_line}
use Rattle.event_lines.specs.declared.requests.Request.{Request, TheVariants.{Claim as ClaimRequest, Status}}
use Rattle.event_lines.specs.{EventLines.{report_line, order_lines}, AnswerLines.{done_line, unfinished_line}}
use Rattle.event_lines.specs.{declared.details.Overdue.Overdue, Words.Word, LogLines.IsEntryOf}
use Rattle.cell_drive.specs.{declared.protocol.Protocol.Protocol, AnswerText.DrivenCell, LineAnswers.closing_line}
use Rattle.cell_drive.specs.States.{is_over, standing_part, texts_from, jobs_text, machines_text, state_text, overdue_in}
use Rattle.cell_drive.specs.ProtocolText.{RequestAnswer, ProtocolAnswers, lateness_part, end_part, printed_overdue, prints_end}
use Rattle.cell_drive.specs.Refusals.{refusal_word, refusal_detail, standing_of}
use Rattle.cell_drive.proofs.{ProtocolParses.word_spaceless, Overdues.{AreFew, overdue_few}, ShopEntries.report_of_shop}
use Rattle.cell_drive.proofs.Replied.{no_prefix}
use Rattle.run_journal.specs.TornEnds.{IsNarrow, AreNarrow}
use Rattle.run_journal.proofs.Formed.{IsFormed, formed-none, formed-both}
use Rattle.run_journal.proofs.FormedLines.{formed-late, formed-late_overdue, formed-refused, formed-refused_detail, formed-done, formed-unfinished, formed-standing}
use Rattle.logged_drive.proofs.FormedAnswers.{moment_fits, late_fits, job_fits, machine_fits, step_formed, report_formed}

-- ---- the state

texts_formed : (text : ℕ → List ℕ) (k n : ℕ) → ((i : ℕ) → IsFormed (text i)) → IsFormed (texts_from text k n)
texts_formed text k zero each = formed-none
texts_formed text k (suc n) each = formed-both (text k) (texts_from text (suc k) n) (each k) (texts_formed text (suc k) n each)

standing_formed : (standing : Standing) → IsFormed (standing_part [] standing)
standing_formed standing = formed (is_over standing)
  where
    formed : (over : Bool) → IsFormed (cond over [] (unfinished_standing_line standing))
    formed true = formed-none
    formed false = formed-standing standing

closing_line_formed : (p : PlannedShop) (c : Cell) → IsFormed (closing_line p c)
closing_line_formed p c = formed (reports_left p c == 0)
  where
    formed : (ended : Bool) → IsFormed (cond ended (done_line c.last) (unfinished_line (reports_left p c)))
    formed true = formed-done c.last
    formed false = formed-unfinished (reports_left p c)

state_formed : (p : PlannedShop) (c : Cell) → IsFormed (state_text [] p c)
state_formed p c =
    formed-both (jobs_text [] p c ++ machines_text [] p c) (closing_line p c)
    (formed-both (jobs_text [] p c) (machines_text [] p c) (texts_formed (λ j. standing_part [] (job_standing p c j)) 0 (jobs p) (λ j. standing_formed (job_standing p c j)))
    (texts_formed (λ m. standing_part [] (machine_standing p c m)) 0 (machines p) (λ m. standing_formed (machine_standing p c m))))
    (closing_line_formed p c)

-- ---- what is overdue

-- words that fit, where what they are of is overdue
abbrev FitsAt : ℕ → Standing → Type 0
FitsAt at standing = is_overdue standing at ≡ true → AreNarrow (standing_words standing)

-- what is overdue fits its line, and there are so many at most
abbrev FewFit : ℕ → ℕ → Option Overdue → Type 0
FewFit at = AreFew at (λ standing. AreNarrow (standing_words standing))

module _ (p : PlannedShop) (shaped : IsWellShaped p) (c : Cell) (at : ℕ) (in_range : at ≤ MAX_MOMENT) where
  before_at : (due : ℕ) → nat_lt due at ≡ true → due ≤ MAX_MOMENT
  before_at due is = omega (arith, ltb-true due at is, in_range)

  outside_fits : (j : ℕ) (is_ready : Bool) → j < jobs p → FitsAt at (outside_standing p c j is_ready)
  outside_fits j true within is = absurd (cc is)
  outside_fits j false within is = (refl, (job_fits p shaped j within, (refl, (moment_fits (release p j) (before_at (release p j) is), tt))))

  since_fits : (from time : ℕ) → from + time ≤ MAX_MOMENT → AreNarrow (since_words from (from + time))
  since_fits from time in_time = (refl, (moment_fits from (omega (arith, in_time)), (refl, (moment_fits (from + time) in_time, tt))))

  -- a visit by its job alone, or by its step too
  shown_fits : (again : Bool) (j k : ℕ) → j < jobs p → k < 1000 → IsNarrow (shown_word j (if again then Some k else None))
  shown_fits true j k within few = ((omega (arith, within, shaped.shop.counts.few_jobs), omega (arith, few)), omega (arith, within, shaped.shop.counts.few_jobs), omega (arith, few))
  shown_fits false j k within few = job_fits p shaped j within

  few_steps : (j : ℕ) → j < jobs p → steps p j < 1000
  few_steps j within = omega (arith, (shaped.shop.routes j within).few_steps)

  inside_fits : (j k : ℕ) (is_ready : Bool) → j < jobs p → k < steps p j → FitsAt at (inside_standing p c j k is_ready)
  inside_fits j k true within on is = absurd (cc is)
  inside_fits j k false within on is =
      let due_range : since c j + nominal p j k ≤ MAX_MOMENT = before_at (since c j + nominal p j k) is in
      let machine = machine_fits p shaped (machine_of p j k) (visits_machine p j k (machine_of p j k) shaped (record { within = on; here = refl })) in
      let visit = shown_fits p.shop.recirculates j k within (omega (arith, on, few_steps j within)) in
      (refl, (visit, (refl, (refl, (machine, since_fits (since c j) (nominal p j k) due_range)))))

  after_fits : (j n : ℕ) → j < jobs p → FitsAt at (standing_after p c j n)
  after_fits j zero within = outside_fits j (ready c j) within
  after_fits j (suc k) within = elim (cases_lt k (steps p j)) [
    | inl on ↦ subst (FitsAt at) (sym (entered on)) (inside_fits j k (ready c j) within on)
    | inr past ↦ subst (FitsAt at) (sym (left past)) (λ is. absurd (cc is))
  ]
    where
      entered : k < steps p j → standing_after p c j (suc k) ≡ inside_standing p c j k (ready c j)
      entered on = rw (lt-ltb k (steps p j) on) refl

      left : steps p j ≤ k → standing_after p c j (suc k) ≡ Gone j (since c j)
      left past = rw (le-ltb k (steps p j) past) refl

  job_in_order : (m a : ℕ) → m < machines p → job_at p m a < jobs p
  job_in_order m a within = elim (cases_lt a (length (order p m))) [
    | inl on ↦ let (k, stands) = (shaped.orders m within).on_route a on in visits_job p (job_at p m a) k m stands.visits
    | inr past ↦ let none : job_at p m a ≡ 0 = get_or_past (order p m) a 0 past in omega (arith, none, shaped.shop.counts.some_job)
  ]

  cleaning_fits : (m : ℕ) (cleaned : Option ℕ) → m < machines p → FitsAt at (cleaning_standing p c m cleaned)
  cleaning_fits m None within is = absurd (cc is)
  cleaning_fits m (Some from) within is =
      let j = job_at p m (length (entries c m) - 1) in
      let job = job_in_order m (length (entries c m) - 1) within in
      let visit = shown_fits p.shop.recirculates j (latest_on p j m (made c j)) job (omega (arith, latest_on_few p j m (made c j), few_steps j job)) in
      (refl, (machine_fits p shaped m within, (refl, (refl, (refl, (visit, since_fits from (clean p m) (before_at (from + clean p m) is)))))))

  -- of a report's own job or machine
  own_fits : (report : Report) → IsEntryOf p (ReportEntry report) → FitsAt at (standing_of p c report)
  own_fits (Arrive job t) of_shop = after_fits job (made c job) of_shop.0
  own_fits (Finish job machine t) of_shop = after_fits job (made c job) of_shop.0.0
  own_fits (CleanReport machine t) of_shop = cleaning_fits machine (cleaning c machine) of_shop.0

both_fit : (one other : List Word) → AreNarrow one → AreNarrow other → AreNarrow (one ++ other)
both_fit [] other first second = second
both_fit (word ∷ one) other first second = (first.0, both_fit one other first.1 second)

others_fit : (others : ℕ) → others < 10 ^ 3 → AreNarrow (others_words others)
others_fit zero few = tt
others_fit (suc k) few = (refl, (((omega arith, omega (arith, few), omega (arith, few)), inr few), (refl, tt)))

module _ (p : PlannedShop) (shaped : IsWellShaped p) (protocol : Protocol) where
  -- ---- what is accepted

  lateness_formed : (at : ℕ) (late : Bool) (overdue : Option Overdue) → at ≤ MAX_MOMENT → FewFit at (jobs p + machines p) overdue → IsFormed (lateness_part [] at late overdue)
  lateness_formed at false overdue in_range few = formed-none
  lateness_formed at true None in_range few = formed-late at (late_fits at in_range)
  lateness_formed at true (Some overdue) in_range few =
      let counts = shaped.shop.counts in
      formed-late_overdue at overdue few.0
      (refl, (moment_fits at in_range, both_fit (standing_words overdue.first) (others_words overdue.others) few.1 (others_fit overdue.others (omega (arith, few.2, counts.few_jobs, counts.few_machines)))))

  end_formed : (at : ℕ) (ended : Bool) → IsFormed (end_part [] at ended)
  end_formed at true = formed-done at
  end_formed at false = formed-none

  printed_few : (c : Cell) (report : Report) → at report ≤ MAX_MOMENT → IsEntryOf p (ReportEntry report) → FewFit (at report) (jobs p + machines p) (printed_overdue protocol p c report)
  printed_few c report in_range of_shop = either_version protocol.version_2
    where
      either_version : (version_2 : Bool) → FewFit (at report) (jobs p + machines p) (cond version_2 (overdue_in p c (standing_of p c report) (at report)) None)
      either_version true =
          overdue_few (at report) (λ standing. AreNarrow (standing_words standing)) p c (standing_of p c report) (λ j within. after_fits p shaped c (at report) in_range j (made c j) within)
          (λ m within. cleaning_fits p shaped c (at report) in_range m (cleaning c m) within) (own_fits p shaped c (at report) in_range report of_shop)
      either_version false = tt

  request_formed : (before : DrivenCell) (number : ℕ) (request : Request) (text : List ℕ) (end : DrivenCell) (more : List Entry) → IsSound p before.cell
      → RequestAnswer p protocol [] before.cell number request text more end.cell → IsFormed text
  request_formed before number (ClaimRequest claim) text end more sound (inl is) =
      let refused = refused_detail_line number (refusal_word is.refusal) (refusal_detail protocol p before.cell (claimed p claim) is.refusal) in
      subst IsFormed (sym (is.text_is ∙ ap (λ (prefix : List ℕ). prefix ++ refused) (no_prefix protocol)))
      (formed-refused_detail number (refusal_word is.refusal) (refusal_detail protocol p before.cell (claimed p claim) is.refusal) (word_spaceless is.refusal))
  request_formed before number (ClaimRequest claim) text end more sound (inr is) =
      let report = claimed p claim in
      let c = before.cell in
      let moment = at report in
      let in_range = is.step.can.moment.in_range in
      let overdue = printed_overdue protocol p c report in
      let lateness = lateness_part [] moment is.late overdue in
      let orders = order_lines (step_orders p c report is.movers) in
      let ending = end_part [] moment (prints_end protocol p end.cell) in
      subst IsFormed (sym is.text_is)
      (formed-both (report_line report) (lateness ++ (orders ++ ending)) (report_formed p shaped c report is.movers sound is.step)
      (formed-both lateness (orders ++ ending) (lateness_formed moment is.late overdue in_range (printed_few c report in_range (report_of_shop p c report shaped sound is.step.can)))
      (formed-both orders ending (step_formed p shaped c report is.movers sound is.step) (end_formed moment (prints_end protocol p end.cell)))))
  request_formed before number Status text end more sound is = subst IsFormed (sym is.text_is) (state_formed p before.cell)

  pub protocol_formed : (before : DrivenCell) (number : ℕ) (line : Option (List ℕ)) (text : List ℕ) (end : DrivenCell) → IsSound p before.cell → ProtocolAnswers p protocol before number line text end → IsFormed text
  protocol_formed before number None text end sound is = subst IsFormed (sym is.text_is) (formed-refused number (codes "LongLine") refl)
  protocol_formed before number (Some []) text end sound is = subst IsFormed (sym is.text_is) formed-none
  protocol_formed before number (Some (b ∷ line)) text end sound (inl is) = subst IsFormed (sym is.1.text_is) (formed-refused number (codes "BadLine") refl)
  protocol_formed before number (Some (b ∷ line)) text end sound (inr is) = request_formed before number is.what text end is.answer.more sound is.answer.answer
