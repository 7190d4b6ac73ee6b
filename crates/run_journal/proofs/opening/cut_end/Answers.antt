use Rattle.std.proofs.Common.{ℕ, length, take, Some, ap, sym, ◌∙◌, arith}
use Rattle.run_journal.specs.{TornEnds.is_torn, WholeLines.{whole_lines, torn_end}}
use Rattle.run_journal.proofs.{Fronts.{if_some-map, if_some-both, on_ok-any}, TornAgain.torn_again}
use Rattle.run_journal.proofs.Whole.{whole-length, take_whole, left_whole, uncut}
use Rattle.run_journal.proofs.opening.cut_end.Goals as goal

pub cut-requires-clause-within : goal.cut-requires-clause-within
cut-requires-clause-within g c =
    if_some-map (g.D.LogFile.seen c.args.log.now) (λ file is. omega (arith, ap length c.lines.ensures, ap (λ l. length (whole_lines l)) is, whole-length file)) c.requires.read

pub returns-in_err-cut-clause-crash : goal.returns-in_err-cut-clause-crash
returns-in_err-cut-clause-crash g c = if_some-both (g.D.LogFile.seen c.args.log.now)
    (λ file is leaves left leave. left_whole file left _ (omega (arith, ap length c.lines.ensures, ap (λ l. length (whole_lines l)) is)) (leaves left leave))
    c.requires.read c.cut.ensures.crash

pub returns-clause-crash : goal.returns-clause-crash
returns-clause-crash g c = if_some-both (g.D.LogFile.seen c.args.log.now)
    (λ file is leaves left leave. left_whole file left _ (omega (arith, ap length c.lines.ensures, ap (λ l. length (whole_lines l)) is)) (leaves left (c.sync.ensures.crash left leave)))
    c.requires.read c.cut.ensures.crash

pub returns-in_err-cut-clause-torn_again : goal.returns-in_err-cut-clause-torn_again
returns-in_err-cut-clause-torn_again g c = if_some-both (g.D.LogFile.seen c.args.log.now)
    (λ file is leaves torn left leave. torn_again file left _ (omega (arith, ap length c.lines.ensures, ap (λ l. length (whole_lines l)) is)) (leaves left leave) torn)
    c.requires.read c.cut.ensures.crash

pub returns-clause-torn_again : goal.returns-clause-torn_again
returns-clause-torn_again g c = if_some-both (g.D.LogFile.seen c.args.log.now)
    (λ file is leaves torn left leave. torn_again file left _ (omega (arith, ap length c.lines.ensures, ap (λ l. length (whole_lines l)) is)) (leaves left (c.sync.ensures.crash left leave)) torn)
    c.requires.read c.cut.ensures.crash

pub returns-clause-cut : goal.returns-clause-cut
returns-clause-cut g c = on_ok-any c.sync.result (if_some-both (g.D.LogFile.seen c.args.log.now)
    (λ file is cut. c.sync.ensures.seen ∙ cut ∙ ap Some (ap (λ (k : ℕ). take k file) (ap length (c.lines.ensures ∙ ap whole_lines is)) ∙ take_whole file))
    c.requires.read c.in_ok-cut.ensures.cut)

pub returns-then-is_empty-clause-crash : goal.returns-then-is_empty-clause-crash
returns-then-is_empty-clause-crash g c = if_some-map (g.D.LogFile.seen c.args.log.now) (λ file durable left leave. ap whole_lines (durable left leave)) c.requires.durable

pub returns-then-is_empty-clause-torn_again : goal.returns-then-is_empty-clause-torn_again
returns-then-is_empty-clause-torn_again g c = if_some-map (g.D.LogFile.seen c.args.log.now) (λ file durable torn left leave. ap (λ l. is_torn (torn_end l)) (durable left leave) ∙ torn) c.requires.durable

pub returns-then-is_empty-clause-cut : goal.returns-then-is_empty-clause-cut
returns-then-is_empty-clause-cut g c = uncut (g.D.LogFile.seen c.args.log.now) c.args.text.now c.end.result.now c.end.ensures (sym c.is_empty.ensures ∙ c.if-is_empty.true) c.requires.read
