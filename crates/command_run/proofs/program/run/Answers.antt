use Rattle.std.proofs.Common.{map}
use Rattle.command_run.proofs.Choosing.{history_of_chosen}
use Rattle.command_run.proofs.program.run.Goals as goal

pub follow-requires-clause-known : goal.follow-requires-clause-known
follow-requires-clause-known g c = history_of_chosen g.T.Texts.gives (map (λ word. word.now) c.args.words.now) c.in-Ok.chosen c.args.devices g.B.InitialState.before c.in-Ok.ensures.chosen c.requires.known
