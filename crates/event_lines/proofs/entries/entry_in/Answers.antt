use Rattle.std.proofs.Common.{subst}
use Rattle.event_lines.specs.LogLines.{IsEntryOf}
use Rattle.event_lines.proofs.Ends.{parsed-not_passed}
use Rattle.event_lines.proofs.Readings.{one_entry}
use Rattle.event_lines.proofs.entries.entry_in.Goals as goal

pub returns-then-is_entry_of : goal.returns-then-is_entry_of
returns-then-is_entry_of c =
    (parsed-not_passed c.args.line.now c.in_ok-entry.entry c.in_ok-entry.ensures, c.in_ok-entry.ensures, c.is_entry_of.ensures.0 c.if-is_entry_of.true)

pub returns-else-is_entry_of : goal.returns-else-is_entry_of
returns-else-is_entry_of c = λ entry found of_shop.
    let same = one_entry c.args.line.now c.in_ok-entry.entry entry c.in_ok-entry.ensures found in
    let is = c.is_entry_of.ensures.1 (subst (IsEntryOf c.args.shaped.now) same of_shop) in absurd (cc)
