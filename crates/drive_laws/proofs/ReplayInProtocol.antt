-- What is written again of a log is what was answered, in version 1 of the lines and by any protocol.
use Rattle.std.proofs.Common.{◌≡◌, ◌==◌, ◌&&◌, ◌⊎◌, ℕ, ◌+◌, ◌-◌, Bool, true, false, List, [], ◌∷◌, ◌++◌, Option, length, take, drop, inl, inr, refl, sym, ap, ◌∙◌, subst, arith, append-nil}
use Rattle.std.proofs.lemmas.Bool.{cases_Bool, eqb-true}
use Rattle.shop_base.specs.{declared.report.Report.Report, Plan.{PlannedShop, jobs, machines, IsWellShaped}}
use Rattle.shop_base.specs.{Shop.operations_of, Cell.{Cell, start}, Report.{at, CanReport, after_report}, Sound.IsSound}
use Rattle.shop_base.specs.{Run.{Event, AreEvents, after}, Ends.{cleanings_of, sum_below}, ReportsLeft.reports_left}
use Rattle.shop_base.specs.Controlled.{moved, IsStep, after_step, step_orders, Leads, done, accepted, refused}
use Rattle.shop_base.proofs.ControlledRuns.{events_join, moves-events, after_all-moves, after_step-sound}
use Rattle.shop_base.proofs.{Keeping.start-sound, ReportsLeft.{after_report-reports_left, start-reports_left}}
use Rattle.cell_tables.specs.declared.entry.Entry.{Entry, TheVariants.{Report as ReportEntry, Order as OrderEntry}}
use Rattle.cell_tables.specs.Events.{event_of, events_of}
use Rattle.cell_tables.specs.declared.claim.Claim.TheVariants.{Report as ReportClaim}
use Rattle.event_lines.specs.EventLines.{entry_lines}
use Rattle.cell_drive.specs.{declared.protocol.Protocol.Protocol, AnswerText.undriven, CutLogs.{IsOwnRun, reported}}
use Rattle.cell_drive.specs.{Protocols.plain_from, OneRun.cell_after, Resuming.driven_so_far, Replay.replay_lines}
use Rattle.cell_drive.specs.{ProtocolText.{AreProtocolAnswers, prints_end, end_part}, PlainLines.plain_lines}
use Rattle.cell_drive.proofs.ReplayLines.{plain_replay}
use Rattle.drive_laws.specs.AnswerLaw.{AreReportLines, AreClaimLines, ReplayAsAnswered, ReplayInProtocol, end_behind_log}
use Rattle.drive_laws.proofs.{AnsweredAgain.{end_behind, answered_again}, Plainly.plainly_as_ever}

-- ---- by any protocol

-- the end isn't printed where reports are left
not_ended : (version_2 : Bool) (left n : ℕ) → left ≡ n + 1 → version_2 && (left == 0) ≡ false
not_ended version_2 left n some = go version_2 (cases_Bool (left == 0))
  where
    go : (t : Bool) → ((left == 0) ≡ true) ⊎ ((left == 0) ≡ false) → t && (left == 0) ≡ false
    go false _ = refl
    go true (inl none) = absurd (omega (arith, eqb-true left 0 none, some))
    go true (inr not_none) = not_none

module _ (p : PlannedShop) (protocol : Protocol) (shaped : IsWellShaped p) where
  keeps : (c : Cell) (r : Report) (js : List ℕ) → IsSound p c → IsStep p c r js → IsSound p (after_step p c r js)
  keeps c r js sound step = after_step-sound p c r js shaped sound step

  goes : (c : Cell) (r : Report) → IsSound p c → CanReport p c r → prints_end protocol p c ≡ false
  goes c r sound can = not_ended protocol.version_2 (reports_left p c) (reports_left p (after_report c r)) (sym (after_report-reports_left p c r sound can))

  some_left : (n : ℕ) × (reports_left p (start p) ≡ n + 1)
  some_left =
      let is : reports_left p (start p) ≡ jobs p + operations_of p.shop + sum_below (cleanings_of p) (machines p) = start-reports_left p in
      (reports_left p (start p) - 1, omega (arith, is, shaped.shop.counts.some_job))

  end_is : (entries : List Entry) → end_behind p protocol entries (cell_after p entries) ≡ end_behind_log p protocol entries
  end_is [] = ap (end_part [] (start p).last) (sym (not_ended protocol.version_2 (reports_left p (start p)) some_left.0 some_left.1))
  end_is (e ∷ entries) = refl

pub replay_in_protocol : ReplayInProtocol
replay_in_protocol p protocol log entries late lines shaped cut are says =
    subst (λ (t : List ℕ). AreProtocolAnswers p protocol lines (replay_lines p protocol (start p) (take (length late) entries) late ++ (entry_lines (drop (length late) entries) ++ t)) (driven_so_far p entries)) (end_is p protocol shaped entries)
    (answered_again p protocol (IsSound p) (keeps p protocol shaped) (goes p protocol shaped) log entries late lines (start-sound p shaped) cut are says)

-- ---- in version 1

abbrev plain : Protocol
plain = plain_from 0

module _ (p : PlannedShop) where
  leads_happen : (c end : Cell) (rs : List Report) (es : List Event) → Leads p c rs es end → AreEvents p c es
  leads_happen _ _ _ _ (done c) = tt
  leads_happen _ end _ _ (refused c r rs es last cannot leads) = leads_happen c end rs es leads
  leads_happen _ end _ _ (accepted c r js rs es last step leads) =
      let next = after_report c r in
      let moves = moved (step_orders p c r js) in
      (step.can, events_join p next moves es (moves-events p next (at r) js step.moves) (subst (λ (d : Cell). AreEvents p d es) (sym (after_all-moves p next (at r) js)) (leads_happen (after_step p c r js) end rs es leads)))

  -- the lines of reports claim them
  claims_of : (c : Cell) (entries : List Entry) (lines : List (Option (List ℕ))) → AreEvents p c (events_of entries) → AreReportLines lines entries → AreClaimLines p plain c lines entries
  claims_of c [] lines events say = say
  claims_of c (ReportEntry report ∷ entries) lines events (line, rest, is_line, say, whole) =
      (line, ReportClaim report, rest, is_line, refl, (events.0, refl), claims_of (after p c (event_of (ReportEntry report))) entries rest events.1 say, whole)
  claims_of c (OrderEntry order ∷ entries) lines events say = claims_of (after p c (event_of (OrderEntry order))) entries lines events.1 say

  no_end : (entries : List Entry) (end : Cell) → end_behind p plain entries end ≡ []
  no_end [] end = refl
  no_end (e ∷ entries) end = refl

pub replay_as_answered : ReplayAsAnswered
replay_as_answered p log entries late lines cut are says =
    let recorded = take (length late) entries in
    let due = entry_lines (drop (length late) entries) in
    let replayed_part = replay_lines p plain (start p) recorded late in
    let run : IsOwnRun p entries = subst (IsOwnRun p) (sym cut.whole) cut.log.run in
    let events = leads_happen p (start p) (cell_after p entries) (reported (events_of entries)) (events_of entries) run in
    let stated = answered_again p plain (λ c. Unit {0}) (λ c r js on step. tt) (λ c r on can. refl) log entries late lines tt cut are (claims_of p (start p) entries lines events says) in
    let text : replayed_part ++ (due ++ end_behind p plain entries (cell_after p entries)) ≡ plain_lines recorded late ++ due =
    ap (λ (t : List ℕ). replayed_part ++ (due ++ t)) (no_end p entries (cell_after p entries)) ∙ ap (λ (t : List ℕ). replayed_part ++ t) (append-nil due)
    ∙ ap (λ (t : List ℕ). t ++ due) (plain_replay p plain (start p) recorded late refl) in
    plainly_as_ever p 0 1 lines (plain_lines recorded late ++ due) (undriven p) (driven_so_far p entries) (subst (λ (t : List ℕ). AreProtocolAnswers p plain lines t (driven_so_far p entries)) text stated)
