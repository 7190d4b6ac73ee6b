use Rattle.std.proofs.Common.{sym, ◌∙◌, append_assoc}
use Rattle.std.specs.List.{each_same}
use Rattle.cellplan_c.proofs.faults.refusal.Goals as goal

pub returns-clause-text : goal.returns-clause-text
returns-clause-text c = (c.as_bytes.result.now, each_same _ _ c.in_ok-text.ensures.ok ∙ sym (append_assoc c.args.what.now _ _))
