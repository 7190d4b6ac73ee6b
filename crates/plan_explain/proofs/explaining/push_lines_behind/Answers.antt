use Rattle.std.proofs.Common.{◌≡◌, Some, None, arith}
use Rattle.shop_base.specs.Graph.{leaving}
use Rattle.plan_explain.specs.Explained.{IsChosen, IsChainToLast}
use Rattle.plan_explain.proofs.{ChainTexts.{some_chain, moment_lines_of}, Texts.on_ok_each}
use Rattle.plan_explain.proofs.explaining.push_lines_behind.Goals as goal

pub push_moment_lines-requires-clause-chain : goal.push_moment_lines-requires-clause-chain
push_moment_lines-requires-clause-chain g c =
    let known = rw c.in-Accepted.is at c.requires.judged in
    rw c.deref.ensures.value c.in_ok-chain-in-Accepted.ensures.fit

pub push_moment_lines-requires-in-Some-clause-chain : goal.push_moment_lines-requires-in-Some-clause-chain
push_moment_lines-requires-in-Some-clause-chain g c =
    let known = rw (c.in-Refused.is, c.in-Late.is) at c.requires.judged in
    let (late, ordered, same) = known.refused in
    rw c.deref-in-Some.ensures.value c.in_ok-asked-in-Some.ensures.fit

pub push_moment_lines-requires-in-None-clause-chain : goal.push_moment_lines-requires-in-None-clause-chain
push_moment_lines-requires-in-None-clause-chain g c =
    let known = rw (c.in-Refused.is, c.in-Late.is) at c.requires.judged in
    let (late, ordered, same) = known.refused in
    rw c.deref-in-None.ensures.value
    (some_chain c.args.rest.now.plan c.args.rest.now.cell c.args.rest.now.present c.in-Late.chain.items (record {
      last = leaving c.args.rest.now.plan c.in-Late.job;
      size = c.in-Late.leaves;
      is = record { path = late.path; begins = late.begins; greatest = late.evidence.greatest };
      small = omega arith;
    }))

pub returns-in_ok-chain-in-Accepted : goal.returns-in_ok-chain-in-Accepted
returns-in_ok-chain-in-Accepted g c =
    let p = c.args.rest.now.plan in
    let here = c.args.rest.now.cell in
    let t = c.args.rest.now.present in
    let known = rw c.in-Accepted.is at c.requires.judged in
    rw c.in-Accepted.is
    (on_ok_each c.push_moment_lines.result _ _
    (moment_lines_of c.args.names.now p here t c.in-Accepted.times c.deref.result.now (IsChosen p here t c.args.job (IsChainToLast p here t)) known.accepted.0
    (rw c.deref.ensures.value c.in_ok-chain-in-Accepted.ensures.is))
    c.push_moment_lines.ensures)

pub returns-in_ok-asked-in-Some : goal.returns-in_ok-asked-in-Some
returns-in_ok-asked-in-Some g c =
    let p = c.args.rest.now.plan in
    let here = c.args.rest.now.cell in
    let t = c.args.rest.now.present in
    let known = rw (c.in-Refused.is, c.in-Late.is) at c.requires.judged in
    let (late, ordered, same) = known.refused in
    rw (c.in-Refused.is, c.in-Late.is, c.in-Some.is)
    (on_ok_each c.push_moment_lines-in-Some.result _ _
    (moment_lines_of c.args.names.now p here t c.in-Late.times c.deref-in-Some.result.now
    (IsChosen p here t (Some c.in-Some.job) (λ moments nodes. nodes ≡ c.in-Late.chain.items)) ordered
    (rw c.deref-in-Some.ensures.value c.in_ok-asked-in-Some.ensures.is))
    c.push_moment_lines-in-Some.ensures)

pub returns-in-None : goal.returns-in-None
returns-in-None g c =
    let p = c.args.rest.now.plan in
    let here = c.args.rest.now.cell in
    let t = c.args.rest.now.present in
    let known = rw (c.in-Refused.is, c.in-Late.is) at c.requires.judged in
    let (late, ordered, same) = known.refused in
    rw (c.in-Refused.is, c.in-Late.is, c.in-None.is)
    (on_ok_each c.push_moment_lines-in-None.result _ _
    (moment_lines_of c.args.names.now p here t c.in-Late.times c.deref-in-None.result.now
    (IsChosen p here t None (λ moments nodes. nodes ≡ c.in-Late.chain.items)) ordered c.deref-in-None.ensures.value)
    c.push_moment_lines-in-None.ensures)
