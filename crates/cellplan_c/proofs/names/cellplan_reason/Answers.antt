use Rattle.std.proofs.Common.{refl, inl, inr, arith}
use Rattle.cellplan_c.proofs.names.cellplan_reason.Goals as goal

pub returns-in-Some-clause-none : goal.returns-in-Some-clause-none
returns-in-Some-clause-none c = (
  λ seven fault is. elim c.put_text.ensures [ inl put ↦ omega (arith, seven, put.0) | inr beyond ↦ omega (arith, seven, beyond.0) ],
  λ no. absurd (no c.in-Some.fault c.in-Some.ensures),
)

pub returns-in-None-clause-each : goal.returns-in-None-clause-each
returns-in-None-clause-each c = λ fault is. absurd (c.in-None.ensures fault is)

pub returns-in-None-clause-none : goal.returns-in-None-clause-none
returns-in-None-clause-none c = (λ seven. c.in-None.ensures, λ no. refl)
