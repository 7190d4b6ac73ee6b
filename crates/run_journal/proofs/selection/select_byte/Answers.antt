use Rattle.run_journal.proofs.Selected.{byte_ends, byte_stays}
use Rattle.run_journal.proofs.selection.select_byte.Goals as goal

pub returns-then-byte-eq10-clause-gets : goal.returns-then-byte-eq10-clause-gets
returns-then-byte-eq10-clause-gets c = byte_ends c.args.front.now.items c.append_byte.new.front.items c.clear.new.self.items _ _ c.args.byte c.if-byte-eq10.true c.clear.ensures.items c.append_byte.ensures.gets

pub returns-else-byte-eq10-clause-gets : goal.returns-else-byte-eq10-clause-gets
returns-else-byte-eq10-clause-gets c = byte_stays c.args.front.now.items c.append_byte.new.front.items _ _ c.args.byte c.if-byte-eq10.false c.append_byte.ensures.gets
