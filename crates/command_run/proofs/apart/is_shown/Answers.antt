use Rattle.std.proofs.Common.{List, ℕ, Option, subst}
use Rattle.command_run.specs.Program.{IsOutputLog}
use Rattle.command_run.proofs.apart.is_shown.Goals as goal

pub returns-in-Some : goal.returns-in-Some
returns-in-Some g c = subst (λ (log : Option (List ℕ)). IsOutputLog log (g.L.Logs.folder c.args.logs.now) c.is_shown_in.result) c.in-Some.ensures c.is_shown_in.ensures
