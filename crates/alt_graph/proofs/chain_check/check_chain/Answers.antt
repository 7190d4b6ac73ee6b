use Rattle.alt_graph.proofs.WholePlans.{exact_chain, answer_no_faster}
use Rattle.alt_graph.proofs.chain_check.check_chain.Goals as goal

pub returns-clause-exact : goal.returns-clause-exact
returns-clause-exact c = exact_chain c.args.shaped.now c.check_chain_from.ensures.sound c.args.nodes.now c.check_chain_from.result c.check_chain_from.ensures.exact

pub returns-clause-no_faster : goal.returns-clause-no_faster
returns-clause-no_faster c = answer_no_faster c.args.shaped.now c.check_chain_from.ensures.sound c.args.nodes.now c.check_chain_from.result c.check_chain_from.ensures.exact
