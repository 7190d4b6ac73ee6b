use Rattle.std.proofs.Common.{arith}
use Rattle.run_log.proofs.entry_check.check_end.Goals as goal

pub returns-then-at-last-clause-fault : goal.returns-then-at-last-clause-fault
returns-then-at-last-clause-fault g c =
    (c.is_going_on.ensures.0 c.if-not-is_going_on.false, omega (arith, c.if-at-last.true, c.at.ensures, c.last.ensures))

pub returns-clause-possible : goal.returns-clause-possible
returns-clause-possible g c = record {
  going = c.is_going_on.ensures.0 c.if-not-is_going_on.false;
  moment = record {
    in_order = omega (arith, c.if-at-last.false, c.at.ensures, c.last.ensures);
    in_range = c.requires.of_shop.1;
  };
}
