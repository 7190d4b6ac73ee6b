use Rattle.plan_verifier.proofs.Answers.{ok_each}
use Rattle.plan_decide.specs.Decisions.{IsDecided}
use Rattle.plan_decide.proofs.Deciders.{of_start}
use Rattle.plan_decide.proofs.deciding.decide.Goals as goal

pub returns-in-Ok-clause-decided : goal.returns-in-Ok-clause-decided
returns-in-Ok-clause-decided g c =
    ok_each c.decide_from-decided.result (λ decided held. of_start c.args.shaped.now (λ t. IsDecided t c.args.aim decided) held) (rw c.in-Ok.ensures.start at c.decide_from-decided.ensures.decided)

pub returns-in-Ok-clause-given : goal.returns-in-Ok-clause-given
returns-in-Ok-clause-given g c = rw c.in-Ok.ensures.start at c.decide_from-decided.ensures.given
