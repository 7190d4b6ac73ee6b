-- Lines that claim what has ended lead to reports that say it.
use Rattle.std.proofs.Common.{◌≡◌, ℕ, ◌+◌, List, [], ◌∷◌, ◌++◌, Option, Some, None, inl, inr, refl, sym, ap, ◌∙◌, subst, append_assoc, append-nil}
use Rattle.shop_base.specs.{declared.move_order.MoveOrder.MoveOrder, Plan.{PlannedShop, IsWellShaped}}
use Rattle.shop_base.specs.{Cell.{Cell, start}, Report.{at, after_report}, Controlled.{moved, step_orders}}
use Rattle.shop_base.specs.Run.{Event, Reported, Moved, AreEvents, after, after_all}
use Rattle.shop_base.specs.Sound.{IsSound}
use Rattle.shop_base.proofs.ControlledRuns.{events_join, after_all_join, moves-events, after_all-moves}
use Rattle.shop_base.proofs.Keeping.{start-sound, run-sound, after_all-sound}
use Rattle.cell_tables.specs.{declared.claim.Claim.Claim, Claims.claimed, declared.entry.Entry.Entry, Events.events_of}
use Rattle.cell_control.proofs.Once.{claim_reports}
use Rattle.run_log.proofs.Audits.{events-join}
use Rattle.byte_streams.specs.Answering.{AnswerAll}
use Rattle.event_lines.specs.{declared.requests.Request.{Request, TheVariants.{Claim as ClaimRequest, Status}}, SentLines.cell_prefix}
use Rattle.cell_drive.specs.{declared.protocol.Protocol.Protocol, AnswerText.{DrivenCell, undriven}, OneRun.cell_after}
use Rattle.cell_drive.specs.{Resuming.driven_so_far, ProtocolCells.AsksCell}
use Rattle.cell_drive.specs.ProtocolText.{AsksFor, RequestAnswer, ProtocolAnswers, IsClaimAccepted}
use Rattle.cell_drive.specs.ProtocolCellsLaw.{SeesLines, none_left, asked, passed_over}
use Rattle.cell_drive.proofs.Parts.{events-orders}
use Rattle.drive_laws.specs.FloorLaw.{Floor, HasEndedBy, AreTrue, AreRight, IsTruthful, SayTruth, SaysTruth, ADrivenCellOrdersRightly, ARunThatGoesOnOrdersRightly, EachCellOrdersRightly}
use Rattle.drive_laws.proofs.{ClaimMoments.claimed_at, OrderedRightly.nothing_is_ordered_wrongly}

module _ (floor : Floor) (p : PlannedShop) where
  -- events that lead from one cell to another, and whose reports say what has ended
  record GoTruly (c : Cell) (es : List Event) (end : Cell) : Type 0 where
    happen : AreEvents p c es
    are_true : AreTrue floor p c es
    leads : end ≡ after_all p c es

  join_true : (c : Cell) (es fs : List Event) → AreTrue floor p c es → AreTrue floor p (after_all p c es) fs → AreTrue floor p c (es ++ fs)
  join_true c [] fs front back = back
  join_true c (Reported r ∷ es) fs front back = (front.0, join_true (after p c (Reported r)) es fs front.1 back)
  join_true c (Moved o ∷ es) fs front back = join_true (after p c (Moved o)) es fs front back

  moves_are_true : (c : Cell) (os : List MoveOrder) → AreTrue floor p c (moved os)
  moves_are_true c [] = tt
  moves_are_true c (o ∷ os) = moves_are_true (after p c (Moved o)) os

  nothing_goes : (c end : Cell) (events : List Entry) → events ≡ [] → end ≡ c → GoTruly c (events_of events) end
  nothing_goes c end events none same = subst (λ (es : List Entry). GoTruly c (events_of es) end) (sym none) (record { happen = tt; are_true = tt; leads = same })

  go_join : (c next end : Cell) (events more : List Entry) → GoTruly c (events_of events) next → GoTruly next (events_of more) end → GoTruly c (events_of (events ++ more)) end
  go_join c next end events more first then_go =
      let es = events_of events in
      let fs = events_of more in
      let happen : AreEvents p (after_all p c es) fs = subst (λ (d : Cell). AreEvents p d fs) first.leads then_go.happen in
      let are_true : AreTrue floor p (after_all p c es) fs = subst (λ (d : Cell). AreTrue floor p d fs) first.leads then_go.are_true in
      subst (λ (all : List Event). GoTruly c all end) (sym (events-join events more)) (record {
        happen = events_join p c es fs first.happen happen;
        are_true = join_true c es fs first.are_true are_true;
        leads = then_go.leads ∙ ap (λ (d : Cell). after_all p d fs) first.leads ∙ sym (after_all_join p c es fs);
      })

  -- which keep to what holds of each cell in a run
  sound_behind : (c end : Cell) (es : List Event) → IsWellShaped p → IsSound p c → GoTruly c es end → IsSound p end
  sound_behind c end es shaped sound go = subst (IsSound p) (sym go.leads) (after_all-sound p c es shaped sound go.happen)

  module _ (shaped : IsWellShaped p) (protocol : Protocol) where
    claim_goes : (prefix : List ℕ) (c next : Cell) (claim : Claim) (text : List ℕ) (events : List Entry) → IsSound p c → IsClaimAccepted p protocol prefix c claim text events next → IsTruthful floor p claim
        → GoTruly c (events_of events) next
    claim_goes prefix c next claim text events sound is truthful =
        let r = claimed p claim in
        let os = step_orders p c r is.movers in
        let whole : events_of events ≡ Reported r ∷ moved os = ap events_of is.events_are ∙ ap (λ (es : List Event). Reported r ∷ es) (events-orders os) in
        subst (λ (es : List Event). GoTruly c es next) (sym whole) (record {
          happen = (is.step.can, moves-events p (after_report c r) (at r) is.movers is.step.moves);
          are_true = ((truthful.0, claim_reports p c claim truthful.0 shaped sound truthful.1 is.accepted.0, subst (HasEndedBy floor truthful.0) (sym (claimed_at p claim)) truthful.2), moves_are_true (after p c (Reported r)) os);
          leads = is.next_is ∙ sym (after_all-moves p (after_report c r) (at r) is.movers);
        })

    request_goes : (prefix : List ℕ) (c next : Cell) (number : ℕ) (request : Request) (text : List ℕ) (events : List Entry) → IsSound p c → RequestAnswer p protocol prefix c number request text events next
        → ((claim : Claim) → request ≡ ClaimRequest claim → IsTruthful floor p claim) → GoTruly c (events_of events) next
    request_goes prefix c next number (ClaimRequest claim) text events sound (inl is) truthful = nothing_goes c next events is.events_are is.next_is
    request_goes prefix c next number (ClaimRequest claim) text events sound (inr is) truthful = claim_goes prefix c next claim text events sound is (truthful claim refl)
    request_goes prefix c next number Status text events sound is truthful = nothing_goes c next events is.events_are is.next_is

    -- ---- the lines of one cell

    record GoesTruly (before end : DrivenCell) : Type 0 where
      more : List Entry
      go : GoTruly before.cell (events_of more) end.cell
      entries : end.entries ≡ before.entries ++ more

    stays : (before end : DrivenCell) → end ≡ before → GoesTruly before end
    stays before end same = record {
      more = [];
      go = nothing_goes before.cell end.cell [] refl (ap (λ (d : DrivenCell). d.cell) same);
      entries = ap (λ (d : DrivenCell). d.entries) same ∙ sym (append-nil before.entries);
    }

    line_goes : (before end : DrivenCell) (number : ℕ) (line : Option (List ℕ)) (text : List ℕ) → IsSound p before.cell → ProtocolAnswers p protocol before number line text end → SaysTruth floor p (AsksFor protocol.version_2) line → GoesTruly before end
    line_goes before end number None text sound is says = stays before end is.end_is
    line_goes before end number (Some []) text sound is says = stays before end is.end_is
    line_goes before end number (Some (b ∷ line)) text sound (inl is) says = stays before end is.1.end_is
    line_goes before end number (Some (b ∷ line)) text sound (inr is) says = record {
      more = is.answer.more;
      go = request_goes [] before.cell end.cell number is.what text is.answer.more sound is.answer.answer
          (λ claim same. says (b ∷ line) claim refl (subst (AsksFor protocol.version_2 (b ∷ line)) same is.asked));
      entries = is.answer.entries;
    }

    lines_go : (lines : List (Option (List ℕ))) (before end : DrivenCell) (number : ℕ) (text : List ℕ) → IsSound p before.cell → AnswerAll (ProtocolAnswers p protocol) before number lines text end → SayTruth floor p (AsksFor protocol.version_2) lines
        → GoesTruly before end
    lines_go [] before end number text sound all say = stays before end all.1
    lines_go (line ∷ lines) before end number text sound all say =
        let first = line_goes before all.2 number line all.0 sound all.3 say.0 in
        let others = lines_go lines all.2 end (number + 1) all.1 (sound_behind before.cell all.2.cell (events_of first.more) shaped sound first.go) all.4 say.1 in
        record {
          more = first.more ++ others.more;
          go = go_join before.cell all.2.cell end.cell first.more others.more first.go others.go;
          entries = others.entries ∙ ap (λ (es : List Entry). es ++ others.more) first.entries ∙ append_assoc before.entries first.more others.more;
        }

    -- ---- those that a cell of several sees

    sees_go : (cell number : ℕ) (c : Cell) (lines : List (Option (List ℕ))) (events : List Entry) (end : Cell) → IsSound p c → SeesLines p protocol cell number c lines events end
        → SayTruth floor p (λ words. AsksCell protocol.version_2 words cell) lines → GoTruly c (events_of events) end
    sees_go cell _ c _ _ _ sound (none_left number same) say = nothing_goes c c [] refl refl
    sees_go cell _ _ _ _ end sound (asked number words lines c next last request text events more asks answer rest) say =
        let first = request_goes (cell_prefix cell) c next number request text events sound answer (λ claim same. say.0 words claim refl (subst (AsksCell protocol.version_2 words cell) same asks)) in
        go_join c next end events more first (sees_go cell (number + 1) next lines more end (sound_behind c next (events_of events) shaped sound first) rest say.1)
    sees_go cell _ _ _ events end sound (passed_over number line lines c last more not_of rest) say = sees_go cell (number + 1) c lines events end sound rest say.1

  right : (events : List Entry) (end : Cell) → IsWellShaped p → GoTruly (start p) (events_of events) end → AreRight floor p (events_of events)
  right events end shaped go = nothing_is_ordered_wrongly floor p (events_of events) shaped go.happen go.are_true

pub a_driven_cell_orders_rightly : ADrivenCellOrdersRightly
a_driven_cell_orders_rightly floor p protocol lines text end shaped answered say =
    let goes = lines_go floor p shaped protocol lines (undriven p) end 1 text (start-sound p shaped) answered say in
    subst (λ (es : List Entry). AreRight floor p (events_of es)) (sym goes.entries) (right floor p goes.more end.cell shaped goes.go)

pub a_run_that_goes_on_orders_rightly : ARunThatGoesOnOrdersRightly
a_run_that_goes_on_orders_rightly floor p protocol entries lines number text end shaped run truth answered say =
    let so_far : GoTruly floor p (start p) (events_of entries) (cell_after p entries) = record { happen = run; are_true = truth; leads = refl } in
    let goes = lines_go floor p shaped protocol lines (driven_so_far p entries) end number text (run-sound p (events_of entries) shaped run) answered say in
    subst (λ (es : List Entry). AreRight floor p (events_of es)) (sym goes.entries)
    (right floor p (entries ++ goes.more) end.cell shaped (go_join floor p (start p) (cell_after p entries) end.cell entries goes.more so_far goes.go))

pub each_cell_orders_rightly : EachCellOrdersRightly
each_cell_orders_rightly floor p protocol cell number lines events end shaped sees say =
    right floor p events end shaped (sees_go floor p shaped protocol cell number (start p) lines events end (start-sound p shaped) sees say)
