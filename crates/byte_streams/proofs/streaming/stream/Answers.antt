use Rattle.std.proofs.Common.{◌≡◌, ℕ, ◌+◌, ◌-◌, List, ap, length, refl, take, arith, rules, subst, inl}
use Rattle.std.proofs.lemmas.List.{length-take, take_all}
use Rattle.std.proofs.lemmas.Result.{err_from_is_err_and}
use Rattle.byte_streams.specs.declared.drive_fault.DriveFault.TheVariants.{Write}
use Rattle.byte_streams.specs.Lent.{input_of, output_of, output_sink, streams_of}
use Rattle.byte_streams.specs.Holding.{ended}
use Rattle.byte_streams.specs.Answering.{AreCutOff}
use Rattle.byte_streams.specs.Reading.{IsPieceAnswered, reached}
use Rattle.byte_streams.proofs.Drains.{Draining-first, Draining-lines, Draining-unread, Draining-shown, Draining-ended, Draining-more, Draining-failed, all_answered, past_limit, shown_past, within_limit}
use Rattle.byte_streams.proofs.Streamed.{stream_drained, stream_done, stream_failed}
use Rattle.byte_streams.proofs.streaming.stream.Goals as goal

pub reads-init : goal.reads-init
reads-init g c = record {
  so_far = Draining-first g.H.LineHandler.answers _ _ _ (streams_of g.R.Source g.W.Sink g.W.BufferedSink.pending c.args.reader.now c.args.writer.now) refl c.new.ensures;
  room = c.requires;
}

pub returns-in_err-count : goal.returns-in_err-count
returns-in_err-count g c =
    let p = err_from_is_err_and c.from_residual.result c.from_residual.ensures.1 in
    let after = streams_of g.R.Source g.W.Sink g.W.BufferedSink.pending c.read_on.new.reader c.read_on.new.writer in
    rw (p.1, p.2) (stream_drained {T = ℕ} _ _ _ _ _ _ _
    (Draining-unread _ _ _ _ _ _ c.reads.invariant.so_far ℕ _ after c.in_err-count.ensures.given c.in_err-count.ensures.written c.in_err-count.ensures.failed) c.in_err-count.ensures.shown)

pub finish-requires : goal.finish-requires
finish-requires g c = let below = Draining-lines _ _ _ _ _ _ c.reads.invariant.so_far in omega (arith, below)

pub returns-in-Ok : goal.returns-in-Ok
returns-in-Ok g c =
    let none : c.in_ok-count.count ≡ 0 = search rules in
    let zero : ℕ = 0 in
    let room : length c.read_on.new.room ≡ length c.reads.room = c.read_on.auto.room in
    let full = c.reads.invariant.room in
    let failed = c.in_ok-count.ensures.failed in
    let so_far = Draining-shown _ _ _ _ _ _ c.reads.invariant.so_far (output_of g.W.Sink g.W.BufferedSink.pending c.read_on.new.writer) c.in_ok-count.ensures.written failed.1 in
    let drained = Draining-ended _ _ _ _ _ _ so_far (input_of g.R.Source c.read_on.new.reader) _ c.in_ok-count.ensures.given.0 failed.0 zero (ap (λ (n : ℕ). take n c.read_on.new.room) none)
    (c.in_ok-count.ensures.given.1 none (omega (arith, room, full))) in
    stream_done _ _ _ _ _ _ _ _ (output_of g.W.Sink g.W.BufferedSink.pending c.finish.new.writer) drained _ c.in-Ok.ensures.finished c.in-Ok.ensures.shown

pub returns-in-Err : goal.returns-in-Err
returns-in-Err g c =
    let none : c.in_ok-count.count ≡ 0 = search rules in
    let zero : ℕ = 0 in
    let room : length c.read_on.new.room ≡ length c.reads.room = c.read_on.auto.room in
    let full = c.reads.invariant.room in
    let failed = c.in_ok-count.ensures.failed in
    let so_far = Draining-shown _ _ _ _ _ _ c.reads.invariant.so_far (output_of g.W.Sink g.W.BufferedSink.pending c.read_on.new.writer) c.in_ok-count.ensures.written failed.1 in
    let drained = Draining-ended _ _ _ _ _ _ so_far (input_of g.R.Source c.read_on.new.reader) _ c.in_ok-count.ensures.given.0 failed.0 zero (ap (λ (n : ℕ). take n c.read_on.new.room) none)
    (c.in_ok-count.ensures.given.1 none (omega (arith, room, full))) in
    stream_failed _ _ _ _ _ _ _ _ (output_of g.W.Sink g.W.BufferedSink.pending c.finish.new.writer) drained c.in-Err.ensures.finished

pub take_piece-requires : goal.take_piece-requires
take_piece-requires g c =
    let below = Draining-lines _ _ _ _ _ _ c.reads.invariant.so_far in
    let within = c.min-within.ensures in
    let read = length-take c.min-within.result (take c.in_ok-count.count c.read_on.new.room) in
    omega (arith, below, within, read)

pub returns-in-Err-take_piece : goal.returns-in-Err-take_piece
returns-in-Err-take_piece g c =
    let failed = c.in_ok-count.ensures.failed in
    let so_far = Draining-shown _ _ _ _ _ _ c.reads.invariant.so_far (output_of g.W.Sink g.W.BufferedSink.pending c.read_on.new.writer) c.in_ok-count.ensures.written failed.1 in
    let room : length c.read_on.new.room ≡ length c.reads.room = c.read_on.auto.room in
    let as_at_first : length c.reads.room ≡ length c.args.room.now = c.reads.auto.room in
    let piece = take c.in_ok-count.count c.read_on.new.room in
    let few = length-take c.in_ok-count.count c.read_on.new.room in
    let now = reached c.reads.handler c.reads.input in
    let cut = within_limit piece c.reads.left c.min-within.result (omega (arith, c.min-within.ensures)) (λ less. omega (arith, less, c.min-within.ensures)) in
    let short = subst (λ (l : List ℕ). AreCutOff g.H.LineHandler.answers now.state (now.lines + 1) (ended now.held l) c.take_piece.new.handler (g.W.Sink.written c.read_on.new.writer) (g.W.Sink.written c.take_piece.new.writer))
    cut c.in-Err-take_piece.ensures.answered.1 in
    stream_drained {T = ℕ} _ _ _ _ _ _ _ (Draining-failed _ _ _ _ _ _ so_far (input_of g.R.Source c.read_on.new.reader) piece c.in_ok-count.ensures.given.0 failed.0 _ Write (reached c.take_piece.new.handler c.take_piece.new.input)
    (output_of g.W.Sink g.W.BufferedSink.pending c.take_piece.new.writer) (c.in-Err-take_piece.ensures.answered.0, inl short) (omega (arith, room, as_at_first, few))) tt

pub returns-then-within-piece : goal.returns-then-within-piece
returns-then-within-piece g c =
    let failed = c.in_ok-count.ensures.failed in
    let so_far = Draining-shown _ _ _ _ _ _ c.reads.invariant.so_far (output_of g.W.Sink g.W.BufferedSink.pending c.read_on.new.writer) c.in_ok-count.ensures.written failed.1 in
    let room : length c.read_on.new.room ≡ length c.reads.room = c.read_on.auto.room in
    let as_at_first : length c.reads.room ≡ length c.args.room.now = c.reads.auto.room in
    let piece = take c.in_ok-count.count c.read_on.new.room in
    let few = length-take c.in_ok-count.count c.read_on.new.room in
    let now = reached c.reads.handler c.reads.input in
    let next = reached c.take_piece.new.handler c.take_piece.new.input in
    let output = output_of g.W.Sink g.W.BufferedSink.pending c.take_piece.new.writer in
    let shown = output_of g.W.Sink g.W.BufferedSink.pending c.past_limit.new.writer in
    let less = c.if-within-piece.true in
    let cut = within_limit piece c.reads.left c.min-within.result (omega (arith, c.min-within.ensures)) (λ below. omega (arith, below, c.min-within.ensures)) in
    let answered = subst (λ (l : List ℕ). IsPieceAnswered g.H.LineHandler.answers now l next (output_sink (output_of g.W.Sink g.W.BufferedSink.pending c.read_on.new.writer)) (output_sink output)) cut
    (all_answered g.H.LineHandler.answers now next (take c.min-within.result piece) _ _ c.in-Ok-take_piece.ensures.answered c.in-Ok-take_piece.ensures.held c.in-Ok-take_piece.ensures.lines) in
    stream_drained {T = ℕ} _ _ _ _ _ _ _ (Draining-failed _ _ _ _ _ _ so_far (input_of g.R.Source c.read_on.new.reader) piece c.in_ok-count.ensures.given.0 failed.0 _ c.past_limit.result next shown
    (past_limit _ _ _ _ _ _ so_far (input_of g.R.Source c.read_on.new.reader) piece c.in_ok-count.ensures.given.0 failed.0 c.past_limit.result next output shown (omega (arith, less, c.min-within.ensures)) answered
    c.past_limit.ensures.written c.past_limit.ensures.fault) (omega (arith, room, as_at_first, few))) (shown_past c.past_limit.result output shown c.past_limit.ensures.fault)

pub reads-preserved : goal.reads-preserved
reads-preserved g c =
    let failed = c.in_ok-count.ensures.failed in
    let so_far = Draining-shown _ _ _ _ _ _ c.reads.invariant.so_far (output_of g.W.Sink g.W.BufferedSink.pending c.read_on.new.writer) c.in_ok-count.ensures.written failed.1 in
    let room : length c.read_on.new.room ≡ length c.reads.room = c.read_on.auto.room in
    let full = c.reads.invariant.room in
    let piece = take c.in_ok-count.count c.read_on.new.room in
    let now = reached c.reads.handler c.reads.input in
    let next = reached c.take_piece.new.handler c.take_piece.new.input in
    let output = output_of g.W.Sink g.W.BufferedSink.pending c.take_piece.new.writer in
    let not_less = c.if-within-piece.false in
    let whole = take_all c.min-within.result piece (omega (arith, not_less)) in
    let answered = subst (λ (l : List ℕ). IsPieceAnswered g.H.LineHandler.answers now l next (output_sink (output_of g.W.Sink g.W.BufferedSink.pending c.read_on.new.writer)) (output_sink output)) whole
    (all_answered g.H.LineHandler.answers now next (take c.min-within.result piece) _ _ c.in-Ok-take_piece.ensures.answered c.in-Ok-take_piece.ensures.held c.in-Ok-take_piece.ensures.lines) in
    record {
      so_far = Draining-more _ _ _ _ _ _ so_far (input_of g.R.Source c.read_on.new.reader) piece c.in_ok-count.ensures.given.0 failed.0 (c.reads.left - c.min-within.result) next output
          (omega (arith, not_less, c.min-within.ensures), answered);
      room = omega (arith, room, full);
    }
