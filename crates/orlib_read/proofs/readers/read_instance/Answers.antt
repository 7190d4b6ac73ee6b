use Rattle.orlib_read.proofs.Agreement.{instance_agrees, found, only, fault, first}
use Rattle.orlib_read.proofs.readers.read_instance.Goals as goal

pub returns-clause-found : goal.returns-clause-found
returns-clause-found c = found (instance_agrees c.args.text.now) c.named.result (c.named.ensures _ c.instance_draft.ensures)

pub returns-clause-only : goal.returns-clause-only
returns-clause-only c = only (instance_agrees c.args.text.now) c.named.result (c.named.ensures _ c.instance_draft.ensures)

pub returns-clause-fault : goal.returns-clause-fault
returns-clause-fault c = fault (instance_agrees c.args.text.now) c.named.result (c.named.ensures _ c.instance_draft.ensures)

pub returns-clause-first : goal.returns-clause-first
returns-clause-first c = first (instance_agrees c.args.text.now) c.named.result (c.named.ensures _ c.instance_draft.ensures)
