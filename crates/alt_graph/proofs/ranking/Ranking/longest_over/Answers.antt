use Rattle.std.proofs.Common.{◌≡◌, arith, ap, ◌∙◌, refl}
use Rattle.alt_graph.specs.declared.times.NodeTime.{NodeTime}
use Rattle.alt_graph.specs.Times.{rank_of, earliest_of}
use Rattle.alt_graph.specs.Ranking.{IsRanked}
use Rattle.alt_graph.proofs.ranking.Ranking.longest_over.Goals as goal

pub overflow_add-result : goal.overflow_add-result
overflow_add-result g c =
    let r = c.args.self.now in
    let u = c.args.source.node in
    let earliest : c.row_of-row.result.earliest ≡ earliest_of r.times u = ap (λ (row : NodeTime). row.earliest) c.row_of-row.ensures.row in
    let rank : c.row_of-row.result.rank ≡ rank_of r.times u = ap (λ (row : NodeTime). row.rank) c.row_of-row.ensures.row in
    let sound = c.row_of-row.ensures.sound in
    let ranked : IsRanked r.times u = λ free. c.if-row.false (rank ∙ free) in
    omega (arith, earliest, sound.few, sound.within u c.requires.node ranked, (sound.placed u c.requires.node ranked).bounded, c.requires.short)

pub returns : goal.returns
returns g c =
    let r = c.args.self.now in
    let u = c.args.source.node in
    let earliest : c.row_of-row.result.earliest ≡ earliest_of r.times u = ap (λ (row : NodeTime). row.earliest) c.row_of-row.ensures.row in
    let rank : c.row_of-row.result.rank ≡ rank_of r.times u = ap (λ (row : NodeTime). row.rank) c.row_of-row.ensures.row in
    let sound = c.row_of-row.ensures.sound in
    let ranked : IsRanked r.times u = λ free. c.if-row.false (rank ∙ free) in
    record {
      ranked = ranked;
      bounded = omega (arith, earliest, sound.within u c.requires.node ranked, (sound.placed u c.requires.node ranked).bounded, c.requires.short);
      length = omega (arith, earliest);
      before = refl;
    }
