use Rattle.std.proofs.Common.{◌≡◌, ℕ, List, ◌++◌, length, Some, IfSome, true, false, inl, inr, refl, sym, ap, ◌∙◌, subst}
use Rattle.text_lines.specs.Lines.{lines_of}
use Rattle.event_lines.specs.LastPlan.{IsLastPlan}
use Rattle.run_journal.specs.{declared.log_run.LogRun.TheVariants.Named, LogFiles.Leaves}
use Rattle.run_journal.specs.{TornEnds.is_torn, WholeLines.{whole_lines, torn_end}}
use Rattle.run_journal.proofs.{Fronts.{if_some-map, on_ok-map}, LogRuns.unnamed_last}
use Rattle.run_journal.proofs.NamedLogs.{named_crash, no_end, torn_crash, whole_again}
use Rattle.run_journal.proofs.opening.name_plan.Goals as goal

pub returns-then-names-clause-crash : goal.returns-then-names-clause-crash
returns-then-names-clause-crash g c = if_some-map (g.D.LogFile.seen c.args.log.now)
    (λ file durable is left leave. inl (ap whole_lines (durable left leave) ∙ ap whole_lines is ∙ whole_again c.args.text.now ∙ sym is)) c.requires.durable

pub returns-then-names-clause-torn : goal.returns-then-names-clause-torn
returns-then-names-clause-torn g c = if_some-map (g.D.LogFile.seen c.args.log.now)
    (λ file durable is left leave. ap (λ (l : List ℕ). is_torn (torn_end l)) (durable left leave) ∙ ap is_torn (no_end file (ap whole_lines is ∙ whole_again c.args.text.now ∙ sym is)))
    c.requires.durable

pub returns-clause-named : goal.returns-clause-named
returns-clause-named g c =
    let text = c.args.text.now in
    let digits = c.args.digits.now in
    let bytes = c.bytes.ensures ∙ c.plan_line.ensures in
    let other : c.run.result ≡ Named digits → ⊥ = λ same. (let both : true ≡ false = sym (c.names.ensures.1 same) ∙ c.if-names.false in absurd (cc both)) in
    let none = unnamed_last (lines_of (whole_lines text)) c.run.result digits c.run.ensures other in
    on_ok-map c.keep.result (λ kept. if_some-map (g.D.LogFile.seen c.args.log.now)
    (λ file has is. (_, inr ((λ last. none (subst (λ (f : List ℕ). IsLastPlan (lines_of f) digits) is last)), refl), has ∙ ap (λ (b : List ℕ). Some (file ++ b)) bytes)) kept) c.keep.ensures.kept

pub returns-clause-crash : goal.returns-clause-crash
returns-clause-crash g c =
    let text = c.args.text.now in
    let digits = c.args.digits.now in
    let seen = g.D.LogFile.seen c.args.log.now in
    let other : c.run.result ≡ Named digits → ⊥ = λ same. (let both : true ≡ false = sym (c.names.ensures.1 same) ∙ c.if-names.false in absurd (cc both)) in
    let none = unnamed_last (lines_of (whole_lines text)) c.run.result digits c.run.ensures other in
    let crash = subst (λ (b : List ℕ). IfSome seen (λ file. Leaves (g.D.LogFile.crash_states c.keep.new.log) (length file) (file ++ b))) (c.bytes.ensures ∙ c.plan_line.ensures) c.keep.ensures.crash in
    if_some-map seen (λ file leaves is left leave. named_crash digits c.requires.digits file left (ap whole_lines is ∙ whole_again text ∙ sym is) (leaves left leave)
    (λ last. none (subst (λ (f : List ℕ). IsLastPlan (lines_of f) digits) is last))) crash

pub returns-clause-torn : goal.returns-clause-torn
returns-clause-torn g c =
    let seen = g.D.LogFile.seen c.args.log.now in
    let crash = subst (λ (b : List ℕ). IfSome seen (λ file. Leaves (g.D.LogFile.crash_states c.keep.new.log) (length file) (file ++ b))) (c.bytes.ensures ∙ c.plan_line.ensures) c.keep.ensures.crash in
    if_some-map seen (λ file leaves is left leave. torn_crash c.args.digits.now c.requires.digits file left (ap whole_lines is ∙ whole_again c.args.text.now ∙ sym is) (leaves left leave)) crash
