use Rattle.orlib_read.proofs.Agreement.{section_agrees, found, only, fault, first}
use Rattle.orlib_read.proofs.readers.read_from_collection.Goals as goal

pub returns-clause-found : goal.returns-clause-found
returns-clause-found c = found (section_agrees c.args.text.now c.args.name.now) c.named.result (c.named.ensures _ c.section_draft.ensures)

pub returns-clause-only : goal.returns-clause-only
returns-clause-only c = only (section_agrees c.args.text.now c.args.name.now) c.named.result (c.named.ensures _ c.section_draft.ensures)

pub returns-clause-fault : goal.returns-clause-fault
returns-clause-fault c = fault (section_agrees c.args.text.now c.args.name.now) c.named.result (c.named.ensures _ c.section_draft.ensures)

pub returns-clause-first : goal.returns-clause-first
returns-clause-first c = first (section_agrees c.args.text.now c.args.name.now) c.named.result (c.named.ensures _ c.section_draft.ensures)
