use Rattle.std.proofs.Common.{arith, ◌≡◌, ◌-◌, take}
use Rattle.std.proofs.lemmas.List.{take_all}
use Rattle.shop_base.specs.Graph.{node}
use Rattle.shop_base.proofs.Bounds.{operations_of-le}
use Rattle.alt_graph.specs.Places.{node_at}
use Rattle.alt_graph.proofs.ArcKinds.{arc_short}
use Rattle.alt_graph.proofs.PathsFrom.{path_begins, start_path, path_more, arc_missing, no_chain, chain_length}
use Rattle.alt_graph.proofs.chain_check.check_chain_from.Goals as goal

pub returns-in_err-length-clause-exact : goal.returns-in_err-length-clause-exact
returns-in_err-length-clause-exact g c = no_chain c.args.shaped.now (g.B.Bounds.bounds c.args.bounds.now) c.args.nodes.now c.from_residual-in_err-length.result c.from_residual-in_err-length.ensures
    (λ n chain. let (v, path) = chain.path in
    let is : c.in_ok-first.field-0.now ≡ node_at c.args.nodes.now 0 = c.in_ok-first.ensures.item.3.1 (node 0 0) in
    let (m, bound) = path_begins c.args.shaped.now (g.B.Bounds.bounds c.args.bounds.now) c.args.nodes.now v n path in
    c.in_err-length.ensures.exact m (rw is bound))

pub loop-place-init : goal.loop-place-init
loop-place-init g c = (omega arith, start_path c.args.shaped.now (g.B.Bounds.bounds c.args.bounds.now) c.args.nodes.now c.in_ok-first.field-0.now c.in_ok-length.length c.in_ok-first.ensures.item.3.0 (c.in_ok-first.ensures.item.3.1 (node 0 0)) c.in_ok-length.ensures.exact, omega (arith, c.in_ok-length.ensures.early))

pub returns-in_err-length-2-clause-exact : goal.returns-in_err-length-2-clause-exact
returns-in_err-length-2-clause-exact g c =
    let (some, path, short) = c.loop-place.invariant in
    no_chain c.args.shaped.now (g.B.Bounds.bounds c.args.bounds.now) c.args.nodes.now c.from_residual-in_err-length-2.result c.from_residual-in_err-length-2.ensures
    (arc_missing c.args.shaped.now (g.B.Bounds.bounds c.args.bounds.now) c.args.nodes.now c.loop-place.place some (omega arith) c.in_err-length-2.ensures)

pub overflow_add-length : goal.overflow_add-length
overflow_add-length g c =
    let (some, path, short) = c.loop-place.invariant in
    let shaped = c.count_nodes-most.ensures.sound in
    omega (arith, short, arc_short _ _ _ _ shaped c.in_ok-length-2.ensures.1.arc, c.count_nodes-most.ensures.count, operations_of-le _ shaped.shop, shaped.shop.counts.few_jobs)

pub loop-place-preserved : goal.loop-place-preserved
loop-place-preserved g c =
    let (some, path, short) = c.loop-place.invariant in (
      omega arith,
      path_more c.args.shaped.now (g.B.Bounds.bounds c.args.bounds.now) c.args.nodes.now c.loop-place.place c.loop-place.length c.in_ok-length-2.field-0 some (omega arith) path c.in_ok-length-2.ensures.0 c.in_ok-length-2.ensures.1,
      omega (arith, short, arc_short _ _ _ _ c.count_nodes-most.ensures.sound c.in_ok-length-2.ensures.1.arc),
    )

pub returns-clause-exact : goal.returns-clause-exact
returns-clause-exact g c =
    let (some, path, short) = c.loop-place.invariant in
    let all : take c.loop-place.place c.args.nodes.now ≡ c.args.nodes.now = take_all c.loop-place.place c.args.nodes.now (omega arith) in
    chain_length c.args.shaped.now (g.B.Bounds.bounds c.args.bounds.now) c.args.nodes.now (node_at c.args.nodes.now (c.loop-place.place - 1)) c.loop-place.length (omega (arith, c.count_nodes-most.ensures.count)) (rw all at path)
