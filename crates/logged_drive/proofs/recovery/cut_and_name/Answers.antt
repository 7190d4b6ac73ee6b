use Rattle.std.proofs.Common.{◌≡◌, ℕ, List, Some, true, inl}
use Rattle.run_journal.specs.{LogRuns.{IsNamedFor, IsNamedOrNot}, TornEnds.is_torn, WholeLines.{whole_lines, torn_end}}
use Rattle.run_journal.proofs.Fronts.{if_some-map, on_ok-map}
use Rattle.logged_drive.proofs.Takings.{of_lines}
use Rattle.logged_drive.proofs.recovery.cut_and_name.Goals as goal

pub returns-in_err-cut_end-clause-crash : goal.returns-in_err-cut_end-clause-crash
returns-in_err-cut_end-clause-crash g c = if_some-map (g.D.LogFile.seen c.args.log.now) (λ file is left leave. inl (is left leave)) c.cut_end.ensures.crash

pub returns-clause-named : goal.returns-clause-named
returns-clause-named g c = on_ok-map c.name_plan.result (λ named. of_lines (g.D.LogFile.seen c.args.log.now) _ c.args.text.now
    (λ lines. (base : List ℕ) × IsNamedFor c.args.digits.now lines base × (g.D.LogFile.seen c.name_plan.new.log ≡ Some base)) c.requires.read c.in_ok-cut_end.ensures.cut named) c.name_plan.ensures.named

pub returns-clause-crash : goal.returns-clause-crash
returns-clause-crash g c = of_lines (g.D.LogFile.seen c.args.log.now) _ c.args.text.now
    (λ lines. (left : List ℕ) → g.D.LogFile.crash_states c.name_plan.new.log left → IsNamedOrNot c.args.digits.now lines (whole_lines left)) c.requires.read c.in_ok-cut_end.ensures.cut c.name_plan.ensures.crash

pub returns-clause-torn_again : goal.returns-clause-torn_again
returns-clause-torn_again g c = if_some-map (g.D.LogFile.seen c.args.log.now) (λ file is was. is) (of_lines (g.D.LogFile.seen c.args.log.now) _ c.args.text.now
    (λ lines. (left : List ℕ) → g.D.LogFile.crash_states c.name_plan.new.log left → is_torn (torn_end left) ≡ true) c.requires.read c.in_ok-cut_end.ensures.cut c.name_plan.ensures.torn)
