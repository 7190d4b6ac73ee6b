use Rattle.run_journal.proofs.Fronts.{if_some-map}
use Rattle.command_run.proofs.logs.drive_ready.Goals as goal

pub drive_with-requires-clause-ready : goal.drive_with-requires-clause-ready
drive_with-requires-clause-ready g c = rw c.in-Begin.is at c.requires.ready

pub drive_with-requires-clause-before : goal.drive_with-requires-clause-before
drive_with-requires-clause-before g c = if_some-map g.B.InitialState.before (λ t is. (is.0, is.2)) (rw c.in-Begin.is at c.requires.before)

pub drive_with-requires-clause-line : goal.drive_with-requires-clause-line
drive_with-requires-clause-line g c = if_some-map g.B.InitialState.before (λ t is. is.1) (rw c.in-Begin.is at c.requires.before)

pub returns-in-Begin : goal.returns-in-Begin
returns-in-Begin g c = record { drove = rw c.in-Begin.is c.drive_with.ensures.drove }

pub replay_and_continue-requires-clause-ready : goal.replay_and_continue-requires-clause-ready
replay_and_continue-requires-clause-ready g c = rw c.in-Continue.is at c.requires.ready

pub replay_and_continue-requires-clause-seen : goal.replay_and_continue-requires-clause-seen
replay_and_continue-requires-clause-seen g c = if_some-map g.B.InitialState.before (λ t is. is.0) (rw c.in-Continue.is at c.requires.before)

pub replay_and_continue-requires-clause-recoverable : goal.replay_and_continue-requires-clause-recoverable
replay_and_continue-requires-clause-recoverable g c = if_some-map g.B.InitialState.before (λ t is. is.1) (rw c.in-Continue.is at c.requires.before)

pub replay_and_continue-requires-clause-output : goal.replay_and_continue-requires-clause-output
replay_and_continue-requires-clause-output g c = if_some-map g.B.InitialState.before (λ t is. is.2) (rw c.in-Continue.is at c.requires.before)

pub returns-in-Continue : goal.returns-in-Continue
returns-in-Continue g c = record { drove = rw c.in-Continue.is c.replay_and_continue.ensures.went_on }
