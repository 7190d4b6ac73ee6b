use Rattle.std.proofs.Common.{◌≤◌, ◌∙◌, List, ℕ, length, ap, sym, subst, arith, refl}
use Rattle.std.proofs.KnownBytes.{Appends-nil}
use Rattle.byte_streams.specs.Lent.{sink_state}
use Rattle.event_lines.specs.SentLines.{cell_prefix}
use Rattle.cell_drive.specs.{ProtocolCells.{AsksOf, CellsReply}, Numbers.planned_cells}
use Rattle.cell_drive.specs.Tickets.{AnsweredByHub, contents}
use Rattle.cell_drive.proofs.LineAnswers.{was_answered, of_texts, bad_line, no_bytes, some_bytes, empty_line}
use Rattle.cell_drive.proofs.Hubs.{asked_of, none_there, answers_none, unchanged}
use Rattle.cell_drive.proofs.SeatedCells.{as_many, has_there}
use Rattle.cell_drive.proofs.SeatedReplies.{replied_at, seated_at}
use Rattle.cell_drive.proofs.hub.answer_line.Goals as goal

pub returns-then-is_empty-clause-answered : goal.returns-then-is_empty-clause-answered
returns-then-is_empty-clause-answered g c =
    let protocol = c.args.protocol in
    let cells = planned_cells (contents c.args.hub.now c.args.tickets.now) in
    was_answered _ _ _ (sink_state g.W.Sink c.args.writer.now) (sink_state g.W.Sink c.args.writer.now)
    (unchanged protocol cells c.args.number _ _ (empty_line (AsksOf protocol.version_2) (CellsReply protocol) cells c.args.number _ (no_bytes _ _ c.is_empty.ensures c.if-is_empty.true))) (Appends-nil _) refl

pub returns-in_default-clause-answered : goal.returns-in_default-clause-answered
returns-in_default-clause-answered g c =
    let protocol = c.args.protocol in
    let cells = planned_cells (contents c.args.hub.now c.args.tickets.now) in
    was_answered _ _ _ (sink_state g.W.Sink c.args.writer.now) (sink_state g.W.Sink c.put_refused.new.writer)
    (unchanged protocol cells c.args.number _ _ (bad_line (AsksOf protocol.version_2) (CellsReply protocol) cells c.args.number _ (some_bytes _ _ c.is_empty.ensures c.if-is_empty.false) (λ asked is. c.in_default.ensures asked.cell asked.request is))) c.put_refused.ensures.wrote c.put_refused.ensures.unfailed

pub returns-then-place-tickets-clause-answered : goal.returns-then-place-tickets-clause-answered
returns-then-place-tickets-clause-answered g c =
    let controls = contents c.args.hub.now c.args.tickets.now in
    let k = c.in-Some.cell in
    let request = c.in-Some.request in
    let many = as_many c.args.hub.now 0 c.args.tickets.now c.requires.seated in
    was_answered _ _ _ (sink_state g.W.Sink c.args.writer.now) (sink_state g.W.Sink c.put_refused-then-place-tickets.new.writer)
    (asked_of c.args.protocol controls controls c.args.number _ _ k request (some_bytes _ _ c.is_empty.ensures c.if-is_empty.false) c.in-Some.ensures
    (answers_none c.args.protocol controls c.args.number k request (none_there controls k (λ below. (let past = c.if-place-tickets.true in omega (arith, past, below, many))))))
    c.put_refused-then-place-tickets.ensures.wrote c.put_refused-then-place-tickets.ensures.unfailed

pub reply_in-requires-clause-prefix : goal.reply_in-requires-clause-prefix
reply_in-requires-clause-prefix g c = subst (λ (text : List ℕ). length text ≤ 21) (sym c.bytes.ensures) c.cell_prefix-prefix.ensures.length

pub reply_in-requires-clause-there : goal.reply_in-requires-clause-there
reply_in-requires-clause-there g c =
    has_there c.args.hub.now c.args.tickets.now c.in-Some.cell _ c.requires.seated (let past = c.if-place-tickets.false in omega (arith, past))

pub returns-clause-in_run : goal.returns-clause-in_run
returns-clause-in_run g c =
    seated_at c.args.protocol c.args.hub.now c.reply_in.new.hub c.args.tickets.now c.in-Some.cell c.args.number c.in-Some.request c.reply_in.ensures.text c.bytes.result.now c.requires (let past = c.if-place-tickets.false in omega (arith, past))
    (c.bytes.ensures ∙ c.cell_prefix-prefix.ensures.prefix ∙ ap cell_prefix c.from.ensures) _ c.reply_in.ensures.is_text

pub returns-clause-answered : goal.returns-clause-answered
returns-clause-answered g c =
    let k = c.in-Some.cell in
    let old = c.args.hub.now in
    let new = c.reply_in.new.hub in
    let ts = c.args.tickets.now in
    of_texts _ (AnsweredByHub c.args.protocol old ts c.args.number c.args.line.now new) c.reply_in.result (sink_state g.W.Sink c.args.writer.now) (sink_state g.W.Sink c.reply_in.new.writer)
    (λ text so. asked_of c.args.protocol (contents old ts) (contents new ts) c.args.number _ text k c.in-Some.request (some_bytes _ _ c.is_empty.ensures c.if-is_empty.false) c.in-Some.ensures
    (replied_at c.args.protocol old new ts k c.args.number c.in-Some.request text c.bytes.result.now c.requires (let past = c.if-place-tickets.false in omega (arith, past))
    (c.bytes.ensures ∙ c.cell_prefix-prefix.ensures.prefix ∙ ap cell_prefix c.from.ensures) _ so))
    c.reply_in.ensures
