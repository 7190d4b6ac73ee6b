use Rattle.std.proofs.lemmas.Result.{IfOk-weaker, IfOk-at_ok}
use Rattle.command_words.specs.CommandLine.{Describes}
use Rattle.command_words.proofs.words.Described.{one_more}
use Rattle.command_words.proofs.words.command_line.with_arg.Goals as goal

pub returns-in-Ok : goal.returns-in-Ok
returns-in-Ok c = λ a r described same local.
    IfOk-weaker c.arg.result _ _ (λ new added. one_more a r c.in-Ok.command c.args.arg new
    (IfOk-at_ok (Describes a) c.in-Ok.is described) same local added) c.arg.ensures
