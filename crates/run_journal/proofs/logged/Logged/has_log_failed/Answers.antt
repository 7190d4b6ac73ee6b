use Rattle.std.proofs.Common.{ap}
use Rattle.run_journal.specs.Logged.{Held}
use Rattle.run_journal.proofs.logged.Logged.has_log_failed.Goals as goal

pub returns : goal.returns
returns g c = ap (λ (v : Held). v.log_failed) c.self.view_is
