use Rattle.std.proofs.Common.{◌<◌, length, arith, inl, inr}
use Rattle.std.proofs.lemmas.Bool.{cases_eq}
use Rattle.shop_base.specs.Graph.{node, IsNode}
use Rattle.alt_graph.specs.Times.{rank_of}
use Rattle.alt_graph.proofs.Latests.{ranked_new, ranked_still, ranked_more}
use Rattle.alt_graph.proofs.latest.note_ranks.Goals as goal

pub unreachable-requires : goal.unreachable-requires
unreachable-requires c =
    let is : IsNode c.args.shaped.now (node c.args.job c.loop-place.place) = record { job = c.requires.job; place = omega (arith, c.loop-place-test.true, c.step_count-place-end.ensures.count) } in
    c.in-None.ensures ((c.requires.ranks.nodes (node c.args.job c.loop-place.place)).0 is)

pub loop-place-preserved : goal.loop-place-preserved
loop-place-preserved c =
    let p = c.args.shaped.now in
    let t = c.args.times.now in
    let nodes = c.loop-place.nodes in
    let u = node c.args.job c.loop-place.place in
    let is : IsNode p u = record { job = c.requires.job; place = omega (arith, c.loop-place-test.true, c.step_count-place-end.ensures.count) } in
    let inside : rank_of t u < length nodes = omega (arith, c.requires.ranks.few u is, c.requires.size, c.loop-place.auto.nodes) in
    rw c.in-Some.ensures.1 (record {
      ranked = ranked_more p t c.requires.ranks nodes u is inside c.loop-place.invariant.ranked;
      noted = λ k lt. elim (cases_eq k c.loop-place.place) [
        | inl same ↦ rw same (ranked_new p t c.requires.ranks nodes u is inside)
        | inr other ↦ ranked_still p t c.requires.ranks nodes u is inside (node c.args.job k)
            (record { job = c.requires.job; place = omega (arith, c.loop-place-test.true, c.step_count-place-end.ensures.count, lt) })
            (c.loop-place.invariant.noted k (omega (arith, lt, other)))
      ];
      still = λ v other ranked. ranked_still p t c.requires.ranks nodes u is inside v other (c.loop-place.invariant.still v other ranked);
    })
