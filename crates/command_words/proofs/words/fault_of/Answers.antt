use Rattle.command_words.proofs.words.Reasons.{names_reason}
use Rattle.command_words.proofs.words.fault_of.Goals as goal

pub returns-in-Ok : goal.returns-in-Ok
returns-in-Ok c = names_reason c.kind-kind.result _ c.from.result c.kind-kind.ensures c.from.ensures
