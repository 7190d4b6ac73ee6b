use Rattle.std.proofs.Common.{refl}
use Rattle.command_words.proofs.words.Reasons.{names_reason}
use Rattle.command_words.proofs.words.misfit.Goals as goal

pub returns-in-Ok : goal.returns-in-Ok
returns-in-Ok c = names_reason c.args.kind _ c.from.result refl c.from.ensures
