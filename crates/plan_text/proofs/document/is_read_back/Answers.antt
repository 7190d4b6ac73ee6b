use Rattle.std.proofs.Common.{rules}
use Rattle.plan_text.proofs.document.is_read_back.Goals as goal

pub returns-in_default : goal.returns-in_default
returns-in_default c = record {
  decided = λ h. c.in_default.not-Memory (c.in-Err.ensures.only c.args.plan.now h);
  memory = tt;
}

pub returns-in-Memory-clause-decided : goal.returns-in-Memory-clause-decided
returns-in-Memory-clause-decided c = tt

pub returns-in-Ok-clause-decided : goal.returns-in-Ok-clause-decided
returns-in-Ok-clause-decided c = search rules depth 2
