-- An audit keeps what a driven cell wrote.
use Rattle.std.proofs.Common.{◌≡◌, ℕ, List, ◌++◌, Option, Some, Bool, true, false, Result, Ok, Err, ◌↔◌, refl, sym, ap}
use Rattle.std.proofs.{Common.{◌∙◌, arith, subst}, lemmas.{Bool.false≢true, List.append_cancel_left}}
use Rattle.std.specs.{Prelude.{IsTrue, IfOk, IfErr, MatchResult}, Io.KnownBytes.Appends}
use Rattle.shop_base.specs.{Plan.PlannedShop, Cell.Cell, Run.IsRun, Ends.{HasEnded, moves_in, reports_in}}
use Rattle.text_lines.specs.Lines.{lines_of}
use Rattle.cell_tables.specs.{declared.entry.Entry.Entry, Events.events_of}
use Rattle.run_log.specs.declared.{audit_result.Audit.Audit, audit_fault.AuditFault.{AuditFault, TheVariants.Memory}}
use Rattle.run_log.specs.{Log.Noted, Audits.{IsAudit, ParseAsRun}}
use Rattle.event_lines.{specs.LogLines.LinesParse, proofs.Readings.one_reading}
use Rattle.byte_streams.specs.Lent.{Streams}
use Rattle.cell_drive.specs.{OneRun.{cell_after, IsSoFar}, Session.seen, AuditLaw.{IsLogOf, IsFoundAgain}}
use Rattle.cell_drive.specs.ProtocolLaw.{AnAuditKeepsWhatWasDriven}
use Rattle.cell_drive.proofs.{Sessions.driven_text, ProtocolParses.an_answer_text_is_a_log}

same_answer : {A : Type 0} (x y : Bool) → ((x ≡ true) ↔ A) → (IsTrue y ↔ A) → x ≡ y
same_answer true true one other = refl
same_answer false false one other = refl
same_answer true false one other = absurd (false≢true (other.1 (one.0 refl)))
same_answer false true one other = absurd (false≢true (one.1 (other.0 refl)))

-- the lines record one list of entries
found_again : (p : PlannedShop) (entries : List Entry) (done : Bool) (last left : ℕ) (text : List ℕ) (audit : Audit)
    → LinesParse p (lines_of text) entries → IsSoFar p entries done last left → IsAudit p (lines_of text) audit
    → IsFoundAgain p entries done last left audit
found_again p entries done last left text audit parses so_far is_audit =
    let recorded : audit.entries.items ≡ entries = one_reading p (lines_of text) audit.entries.items entries is_audit.parses parses in
    let counted : audit.reports ≡ reports_in (events_of entries) = is_audit.reports ∙ ap (λ (es : List Entry). reports_in (events_of es)) recorded in
    let ended : (audit.complete ≡ true) ↔ HasEnded p (cell_after p entries) =
    subst (λ (es : List Entry). (audit.complete ≡ true) ↔ HasEnded p (cell_after p es)) recorded is_audit.complete in
    record {
      recorded = recorded;
      reports = omega (arith, counted, so_far.rest);
      orders = is_audit.orders ∙ ap (λ (es : List Entry). moves_in (events_of es)) recorded;
      moment = is_audit.last ∙ ap (λ (es : List Entry). (cell_after p es).last) recorded ∙ sym so_far.moment;
      complete = same_answer audit.complete done ended so_far.ended;
    }

pub found_where : (p : PlannedShop) (entries : List Entry) (done : Bool) (last left : ℕ) (text : List ℕ) (outcome : Result Audit AuditFault)
    → LinesParse p (lines_of text) entries → IsSoFar p entries done last left
    → IfOk outcome (IsAudit p (lines_of text)) → IfErr outcome (λ fault. fault ≡ Memory)
    → MatchResult outcome (IsFoundAgain p entries done last left) (λ fault. fault ≡ Memory)
found_where p entries done last left text (Ok audit) parses so_far kept only = found_again p entries done last left text audit parses so_far kept
found_where p entries done last left text (Err fault) parses so_far kept only = only

-- what was appended to bytes that are known
pub appended : (before after : Option (List ℕ)) (start text out : List ℕ) → before ≡ Some start → after ≡ Some (start ++ text) → Appends before after out → start ++ text ≡ start ++ out
appended before after start text out from to wrote = subst (λ o. Appends o (Some (start ++ text)) out) from (subst (λ o. Appends before o out) to wrote)

-- what was written is a log of the cell that came to this
pub found_of : (p : PlannedShop) (entries noted : List Entry) (cell : Cell) (done : Bool) (last left : ℕ) (before after : Streams) (start text whole : List ℕ) (outcome : Result Audit AuditFault)
    → Appends before.output.written after.output.written whole → IsLogOf p whole (record { cell = cell; entries = noted }) → noted ≡ entries → IsSoFar p entries done last left
    → before.output.written ≡ Some start → after.output.written ≡ Some (start ++ text)
    → IfOk outcome (IsAudit p (lines_of text)) → (ParseAsRun p (lines_of text) → IfErr outcome (λ fault. fault ≡ Memory))
    → MatchResult outcome (IsFoundAgain p entries done last left) (λ fault. fault ≡ Memory)
found_of p entries noted cell done last left before after start text whole outcome written log same_entries so_far from to kept only =
    let same : whole ≡ text = append_cancel_left start whole text (sym (appended before.output.written after.output.written start text whole from to written)) in
    let is_log : IsLogOf p text (record { cell = cell; entries = noted }) = subst (λ (t : List ℕ). IsLogOf p t (record { cell = cell; entries = noted })) same log in
    let parses : LinesParse p (lines_of text) entries = subst (LinesParse p (lines_of text)) same_entries is_log.parses in
    let run : IsRun p (events_of entries) = subst (λ (es : List Entry). IsRun p (events_of es)) same_entries is_log.run in
    found_where p entries done last left text outcome parses so_far kept (only (entries, parses, run))

pub an_audit_keeps_what_was_driven : AnAuditKeepsWhatWasDriven
an_audit_keeps_what_was_driven v protocol end before after start text outcome shaped is from to kept only =
    let all = is.streamed.comes_to in
    let came_to = is.came_to in
    found_of v.planned end.log.entries is.end.log.entries is.end.control.cell end.done end.last end.left before after start text (all.text ++ all.closing) outcome all.written
    (an_answer_text_is_a_log v.planned protocol is.streamed.input (all.text ++ all.closing) (seen is.end) shaped (driven_text v protocol end before after is))
    (ap (λ (l : Noted). l.entries) (sym came_to.log)) came_to.so_far from to kept only
