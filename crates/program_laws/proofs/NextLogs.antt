-- No beginning of the log that `revise` prints is driven or told anew, and without what is over the run goes on from it.
use Rattle.std.proofs.Common.{◌≡◌, ◌≢◌, ◌⊎◌, ℕ, List, [], ◌∷◌, Bool, Option, Result, inl, inr, sym, ap, ◌∙◌, subst}
use Rattle.std.specs.List.{All}
use Rattle.std.proofs.lemmas.List.Elements.{All-nil, All-cons}
use Rattle.shop_base.specs.Plan.{PlannedShop, machines, IsWellShaped}
use Rattle.shop_base.specs.declared.move_order.MoveOrder.{MoveOrder}
use Rattle.shop_base.specs.Cell.{Cell, start}
use Rattle.shop_base.specs.Run.{Event, Reported, Moved, IsRun, AreEvents, after, ends_in}
use Rattle.shop_base.specs.Sound.{IsSound}
use Rattle.shop_base.proofs.Keeping.{start-sound, after-sound}
use Rattle.text_lines.specs.Lines.{lines_of, ended_lines}
use Rattle.cell_tables.specs.{declared.entry.Entry.Entry, Events.events_of}
use Rattle.cell_tables.specs.declared.entry.Entry.TheVariants.{Report as ReportEntry, Order as OrderEntry}
use Rattle.event_lines.specs.{LastPlan.IsLastPlan, LogLines.IsEntryOf}
use Rattle.run_log.specs.Digits.{digits_of}
use Rattle.run_log.proofs.SixteenDigits.{digits_are}
use Rattle.cell_drive.proofs.ShopEntries.{report_of_shop, order_of_shop}
use Rattle.log_chapters.specs.Chapters.{no_digits}
use Rattle.log_chapters.specs.declared.parts.Origin.{Origin}
use Rattle.log_chapters.specs.ChapterLaw.{IsWholeOrNone, RecordsEvents, ChaptersAreWholeOrNone, ChaptersRecordTheirEvents}
use Rattle.run_pruning.specs.{Pruned.pruned, PruningLaw.pruned_run, PruningLaw.left_cell, Spare.narrowed_cell, Spare.without_spare, SpareLaw.IsLeftWithRest, SpareLaw.WhatIsLeftNeedsNoSpare}
use Rattle.run_revising.specs.declared.next.NextRun.{NextRun}
use Rattle.run_revising.specs.{RunChanges.ChangingRun, NextRuns.IsRunWithoutThose}
use Rattle.people_names.specs.NameBooks.{NameBook}
use Rattle.run_journal.specs.WholeLines.{whole_lines}
use Rattle.run_journal.proofs.{LogRuns.last_run, NamedLogs.whole_again, ByLines.{by_lines, lines_ended, ended_whole}}
use Rattle.command_words.specs.declared.words.log_start.LogStart.TheVariants.{Continue, HandOver}
use Rattle.command_words.specs.Choice.{start_chosen, rows_found, found_in}
use Rattle.command_answers.specs.declared.command_fault.CommandFault.{CommandFault}
use Rattle.command_answers.specs.declared.answer.Answer.{Answer}
use Rattle.command_answers.specs.Chapters.{IsForPlan, IsRunChapter, origins_of, printed_names}
use Rattle.program_laws.specs.NextLogLaw.{IsBegunChapter, NoBeginningDrives, NoBeginningIsRevised, IsNextLog, TheNextLogGoesOn}
use Rattle.program_laws.proofs.NamedPlans.{no_plan_with_other_digits, no_plan_without_lines}

-- ---- no beginning is driven, or told anew

-- the lines up to the last line feed are the ended ones
whole_are_ended : (bytes : List ℕ) → lines_of (whole_lines bytes) ≡ ended_lines bytes
whole_are_ended bytes = lines_ended (whole_lines bytes) (by_lines (whole_lines bytes)) (whole_again bytes) ∙ ended_whole bytes

module _ (whole_or_none : ChaptersAreWholeOrNone) where
  -- it has no line, or its last line of a plan is the one of zeros
  begun_lines : (bytes : List ℕ) → IsBegunChapter bytes → (ended_lines bytes ≡ []) ⊎ IsLastPlan (ended_lines bytes) no_digits
  begun_lines bytes begun =
      subst (λ (bs : List ℕ). (ended_lines bs ≡ []) ⊎ IsLastPlan (ended_lines bs) no_digits) (sym begun.begins.is)
      ((whole_or_none begun.file begun.plan begun.names begun.origins begun.entries begun.digits begun.are_digits).beginning begun.begins.count begun.begins.behind begun.begins.short begun.begins.unended)

  pub no_beginning_drives : {W : Type 0} (gives : W → List ℕ → Result (List ℕ) CommandFault → W → Type 0) → NoBeginningDrives gives
  no_beginning_drives gives words before after status logs path bytes p events run there kept has begun asked other runs = by_lines_there (begun_lines bytes begun) asked
    where
      unnamed : lines_of (whole_lines bytes) ≡ [] → start_chosen (rows_found (found_in words)) ≡ Continue → ⊥
      unnamed empty continues = no_plan_without_lines gives words before after status logs path bytes p events run there kept has empty continues runs

      named : IsLastPlan (ended_lines bytes) no_digits → start_chosen (rows_found (found_in words)) ≢ HandOver → ⊥
      named last asks =
          no_plan_with_other_digits gives words before after status logs path bytes no_digits p events run there kept has
          (subst (λ (ls : List (List ℕ)). IsLastPlan ls no_digits) (sym (whole_are_ended bytes)) last) asks other runs

      by_lines_there : (ended_lines bytes ≡ []) ⊎ IsLastPlan (ended_lines bytes) no_digits
          → (start_chosen (rows_found (found_in words)) ≡ Continue) ⊎ ((ended_lines bytes ≢ []) × (start_chosen (rows_found (found_in words)) ≢ HandOver)) → ⊥
      by_lines_there (inl empty) (inl continues) = unnamed (whole_are_ended bytes ∙ empty) continues
      by_lines_there (inl empty) (inr (some, asks)) = some empty
      by_lines_there (inr last) (inl continues) = named last (λ hands. absurd (cc (sym continues ∙ hands)))
      by_lines_there (inr last) (inr (some, asks)) = named last asks

  pub no_beginning_is_revised : NoBeginningIsRevised
  no_beginning_is_revised p bytes begun some other (run, parses, is_for) = by_lines_there (begun_lines bytes begun)
    where
      by_lines_there : (ended_lines bytes ≡ []) ⊎ IsLastPlan (ended_lines bytes) no_digits → ⊥
      by_lines_there (inl empty) = some empty
      by_lines_there (inr last) = other (sym (subst (IsForPlan (digits_of p.shop p.plan)) (last_run (ended_lines bytes) run no_digits parses last) is_for))

-- ---- without what is over the run goes on

module _ (p : PlannedShop) (shaped : IsWellShaped p) where
  -- the entries of a run are of its shop
  entries_of_shop : (c : Cell) (entries : List Entry) → IsSound p c → AreEvents p c (events_of entries) → All (IsEntryOf p) entries
  entries_of_shop c [] sound events = All-nil (IsEntryOf p)
  entries_of_shop c (ReportEntry report ∷ entries) sound (can, events) =
      All-cons (IsEntryOf p) (ReportEntry report) entries (report_of_shop p c report shaped sound can) (entries_of_shop (after p c (Reported report)) entries (after-sound p c (Reported report) shaped sound can) events)
  entries_of_shop c (OrderEntry order ∷ entries) sound (can, events) =
      All-cons (IsEntryOf p) (OrderEntry order) entries
      (subst (λ (o : MoveOrder). IsEntryOf p (OrderEntry o)) (sym can.0.is_move) (order_of_shop p c order.job order.at shaped sound can.0.can))
      (entries_of_shop (after p c (Moved order)) entries (after-sound p c (Moved order) shaped sound can) events)

-- the next run, without what is over and with no change
module _ (p : PlannedShop) (es : List Event) (t plant : ℕ) (next : NextRun) (shaped : IsWellShaped p) (run : IsRun p es) (is_next : IsRunWithoutThose plant p (ends_in p es) t es [] next) where
  abbrev q : PlannedShop
  q = next.shaped

  abbrev entries : List Entry
  entries = next.entries.items

  events_left : events_of entries ≡ pruned_run is_next.kept p es
  events_left = is_next.revised.events ∙ ap (λ (r : ChangingRun). r.events) is_next.revised.made

  shop_left : q ≡ without_spare (pruned is_next.kept p) plant
  shop_left = is_next.revised.left ∙ ap (λ (r : ChangingRun). without_spare r.reached plant) is_next.revised.made

  rest_left : WhatIsLeftNeedsNoSpare → IsLeftWithRest (λ c. narrowed_cell (machines q) (left_cell is_next.kept c)) is_next.kept p es q
  rest_left needs_no_spare =
      subst (λ (r : PlannedShop). IsLeftWithRest (λ c. narrowed_cell (machines r) (left_cell is_next.kept c)) is_next.kept p es r) (sym shop_left)
      (needs_no_spare p es is_next.kept plant shaped run (record { count = is_next.ahead.count; over = λ j inside gone. (is_next.ahead.exact j inside).0 gone }))

  of_shop : IsWellShaped q → IsRun q (pruned_run is_next.kept p es) → All (IsEntryOf q) entries
  of_shop shaped_left run_left = entries_of_shop q shaped_left (start q) entries (start-sound q shaped_left) (subst (IsRun q) (sym events_left) run_left)

  log_left : WhatIsLeftNeedsNoSpare → ChaptersRecordTheirEvents → ChaptersAreWholeOrNone → (description : List ℕ) (book : NameBook) (named : Bool) (answer : Answer)
      → IsRunChapter description [] book named next answer → IsNextLog p es next answer.text.items
  log_left needs_no_spare record_events whole_or_none description book named answer is =
      let rest = rest_left needs_no_spare in
      let file : List ℕ = is.file.text.items in
      let plan : List ℕ = is.plan.text.items in
      let names : Option (List ℕ) = printed_names book named in
      let origins : List Origin = origins_of [] next in
      let digits = digits_of q.shop q.plan in
      record {
        marks = is_next.kept;
        dropped = is_next.ahead;
        numbers = is_next.were;
        events = events_left;
        rest = rest;
        recorded = subst (RecordsEvents q entries) (sym is.text) (record_events q file plan names origins entries digits rest.left.shaped (of_shop rest.left.shaped rest.left.run) (digits_are q.shop q.plan));
        whole = subst (IsWholeOrNone digits) (sym is.text) (whole_or_none file plan names origins entries digits (digits_are q.shop q.plan));
      }

pub the_next_log_goes_on : WhatIsLeftNeedsNoSpare → ChaptersRecordTheirEvents → ChaptersAreWholeOrNone → TheNextLogGoesOn
the_next_log_goes_on needs_no_spare record_events whole_or_none p es t next description book named answer shaped run (plant, is_plant, is_next) is_chapter =
    log_left p es t plant next shaped run is_next needs_no_spare record_events whole_or_none description book named answer is_chapter
