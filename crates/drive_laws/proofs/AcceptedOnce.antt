-- What was claimed to have ended, and accepted, isn't accepted again; nor are copies of it, but where they may be.
use Rattle.std.proofs.Common.{◌≡◌, ◌⊎◌, ℕ, List, [], ◌∷◌, ◌++◌, Option, map, sym, ap, ◌∙◌, subst, inl, inr, append_assoc}
use Rattle.shop_base.specs.Cell.{Cell, start}
use Rattle.shop_base.specs.{Plan.{PlannedShop, IsWellShaped}, Report.{at, after_report}}
use Rattle.shop_base.specs.{Run.{Event, Reported, AreEvents, after_all, IsRun, ends_in}, Controlled.{moved, step_orders}}
use Rattle.shop_base.proofs.ControlledRuns.{events_join, after_all_join, moves-events, after_all-moves}
use Rattle.cell_tables.specs.{declared.claim.Claim.Claim, Claims.claimed, Events.events_of}
use Rattle.cell_tables.specs.declared.entry.Entry.{Entry, TheVariants.{Report as ReportEntry, Order as OrderEntry}}
use Rattle.cell_control.{specs.{Claims.CanClaim, OnceLaw.{NamedEnd, Names, copy_at, MayBeCopied}}, proofs.Once.{claimed_once, copy_refused}}
use Rattle.run_log.proofs.Audits.{events-join}
use Rattle.byte_streams.specs.Answering.{AnswerAll}
use Rattle.event_lines.specs.declared.requests.Request.TheVariants.{Claim as ClaimRequest}
use Rattle.cell_drive.specs.{declared.protocol.Protocol.Protocol, Refusals.IsAdmissible}
use Rattle.cell_drive.specs.{AnswerText.{DrivenCell, undriven}, ProtocolLaw.NothingIsAcceptedTwice}
use Rattle.cell_drive.specs.ProtocolText.{ProtocolAnswers, IsClaimRefused, IsClaimAccepted, refusal_prefix}
use Rattle.cell_drive.proofs.OneText.{IsOnCourse, request_keeps, start_on_course, protocol_lines_keep}
use Rattle.cell_drive.proofs.{ReadBack.{AreParsed, all_parsed}, Refusing.refused_or_admissible, Parts.events-orders}
use Rattle.cell_drive.proofs.ProtocolParses.{protocol_line_parses}
use Rattle.drive_laws.specs.CopiesLaw.{ADrivenCellRefusesCopies}

module _ (p : PlannedShop) (protocol : Protocol) (shaped : IsWellShaped p) where
  abbrev answers : DrivenCell → ℕ → Option (List ℕ) → List ℕ → DrivenCell → Type 0
  answers = ProtocolAnswers p protocol

  pub answers_parsed : (lines : List (Option (List ℕ))) (before end : DrivenCell) (number : ℕ) (text : List ℕ) → IsOnCourse p before.cell → AnswerAll answers before number lines text end → AreParsed p shaped before text end
  answers_parsed lines before end number text on all = all_parsed p shaped answers (protocol_lines_keep p protocol) (protocol_line_parses p shaped protocol) lines before end number text on all

  -- a claim that was accepted, between what was answered before and behind it
  module _ (before after end : DrivenCell) (claim : Claim) (texts text others : List ℕ) where
    is_accepted : (number : ℕ) (events : List Entry) → IsOnCourse p before.cell → IsAdmissible protocol p before.cell claim
        → IsClaimRefused p protocol (refusal_prefix protocol []) before.cell number claim text events after.cell ⊎ IsClaimAccepted p protocol [] before.cell claim text events after.cell → IsClaimAccepted p protocol [] before.cell claim text events after.cell
    is_accepted number events on can (inl is) = absurd (refused_or_admissible p before.cell shaped on.sound protocol claim is.refusal is.first can)
    is_accepted number events on can (inr is) = is

    module _ (first : AreParsed p shaped (undriven p) texts before) (events : List Entry) (is : IsClaimAccepted p protocol [] before.cell claim text events after.cell) (further : AreParsed p shaped after others end) where
      -- the events since
      abbrev since : List Event
      since = moved (step_orders p before.cell (claimed p claim) is.movers) ++ events_of further.more

      -- all of them are a run, which leads to the end
      abbrev whole : List Event
      whole = events_of first.more ++ Reported (claimed p claim) ∷ since

      whole_run : IsRun p whole × (end.cell ≡ ends_in p whole)
      whole_run =
          let c = before.cell in
          let r = claimed p claim in
          let es = events_of first.more in
          let own = Reported r ∷ moved (step_orders p c r is.movers) in
          let gs = events_of further.more in
          let own_events : AreEvents p c own = (is.step.can, moves-events p (after_report c r) (at r) is.movers is.step.moves) in
          let to_after : after.cell ≡ after_all p c own = is.next_is ∙ sym (after_all-moves p (after_report c r) (at r) is.movers) in
          let from_before : AreEvents p c (own ++ gs) = events_join p c own gs own_events (subst (λ (x : Cell). AreEvents p x gs) to_after further.events) in
          let run : IsRun p (es ++ (own ++ gs)) = events_join p (start p) es (own ++ gs) first.events (subst (λ (x : Cell). AreEvents p x (own ++ gs)) first.cell from_before) in
          let to_end : end.cell ≡ ends_in p (es ++ (own ++ gs)) =
          further.cell ∙ ap (λ (x : Cell). after_all p x gs) to_after ∙ sym (after_all_join p c own gs) ∙ ap (λ (x : Cell). after_all p x (own ++ gs)) first.cell ∙ sym (after_all_join p (start p) es (own ++ gs)) in
          (run, to_end)

      was_possible : CanClaim p (ends_in p (events_of first.more)) claim
      was_possible = subst (λ (x : Cell). CanClaim p x claim) first.cell is.accepted.0

      is_possible : (again : Claim) → CanClaim p end.cell again → CanClaim p (ends_in p whole) again
      is_possible again can = subst (λ (x : Cell). CanClaim p x again) whole_run.1 can

      accepted_once : (again : Claim) (ended : NamedEnd) → Names p claim ended → Names p again ended → CanClaim p end.cell again → ⊥
      accepted_once again ended names names_again can = claimed_once p (events_of first.more) since claim again ended shaped whole_run.0 was_possible names names_again (is_possible again can)

      copied : (t : ℕ) → CanClaim p end.cell (copy_at claim t) → MayBeCopied p claim since
      copied t can = copy_refused p (events_of first.more) since claim t shaped whole_run.0 was_possible (is_possible (copy_at claim t) can)

lines_on_course : (p : PlannedShop) (protocol : Protocol) (lines : List (Option (List ℕ))) (before end : DrivenCell) (number : ℕ) (text : List ℕ) → IsOnCourse p before.cell
    → AnswerAll (ProtocolAnswers p protocol) before number lines text end → IsOnCourse p end.cell
lines_on_course p protocol [] before end number text on all = subst (λ (d : DrivenCell). IsOnCourse p d.cell) (sym all.1) on
lines_on_course p protocol (line ∷ lines) before end number text on all =
    lines_on_course p protocol lines all.2 end _ all.1 (protocol_lines_keep p protocol before number line all.0 all.2 on all.3) all.4

pub nothing_is_accepted_twice : NothingIsAcceptedTwice
nothing_is_accepted_twice p protocol lines later before after end number next texts text others claim again ended shaped answered admissible requested further names names_again can =
    let on = start_on_course p shaped in
    let on_before = lines_on_course p protocol lines (undriven p) before 1 texts on answered in
    let on_after = request_keeps p protocol [] before.cell number on_before (ClaimRequest claim) text requested.more after.cell requested.answer in
    let first = answers_parsed p protocol shaped lines (undriven p) before 1 texts on answered in
    let is = is_accepted p protocol shaped before after end claim texts text others number requested.more on_before admissible requested.answer in
    accepted_once p protocol shaped before after end claim texts text others first requested.more is (answers_parsed p protocol shaped later after end next others on_after further) again ended names names_again can

pub a_driven_cell_refuses_copies : ADrivenCellRefusesCopies
a_driven_cell_refuses_copies p protocol lines later before after end number next texts text others claim t shaped answered admissible requested further can =
    let on = start_on_course p shaped in
    let on_before = lines_on_course p protocol lines (undriven p) before 1 texts on answered in
    let on_after = request_keeps p protocol [] before.cell number on_before (ClaimRequest claim) text requested.more after.cell requested.answer in
    let first = answers_parsed p protocol shaped lines (undriven p) before 1 texts on answered in
    let is = is_accepted p protocol shaped before after end claim texts text others number requested.more on_before admissible requested.answer in
    let more = answers_parsed p protocol shaped later after end next others on_after further in
    let orders = step_orders p before.cell (claimed p claim) is.movers in
    let behind : events_of (map OrderEntry orders ++ more.more) ≡ moved orders ++ events_of more.more =
    events-join (map OrderEntry orders) more.more ∙ ap (λ (es : List Event). es ++ events_of more.more) (events-orders orders) in (
      map OrderEntry orders ++ more.more,
      more.entries ∙ ap (λ (es : List Entry). es ++ more.more) (requested.entries ∙ ap (λ (es : List Entry). before.entries ++ es) is.events_are) ∙ append_assoc before.entries (ReportEntry (claimed p claim) ∷ map OrderEntry orders) more.more,
      subst (MayBeCopied p claim) (sym behind) (copied p protocol shaped before after end claim texts text others first requested.more is more t can),
    )
