use Rattle.std.proofs.Common.{◌≡◌, ℕ, ◌<◌, length, get_or, replicate, arith, rules, sym, ◌∙◌, ap, subst}
use Rattle.std.proofs.lemmas.List.{get_or_read}
use Rattle.alt_graph.specs.declared.times.TheConstants.{UNRANKED}
use Rattle.shop_base.specs.Graph.{HasArc}
use Rattle.alt_graph.specs.Layout.{number_of}
use Rattle.alt_graph.specs.Ranking.{PlanRanking, IsUnranked, ranking_of}
use Rattle.alt_graph.specs.Trails.{IsTrail}
use Rattle.alt_graph.proofs.Walks.{walk_none, walk_more, walk_shorter, walk_trail, inside}
use Rattle.alt_graph.proofs.ranking.Ranking.follow.Goals as goal

pub back-init : goal.back-init
back-init g c =
    let rows : c.len.result ≡ length c.self.inside.rows.items = omega (arith, c.len.ensures, c.self.inside.rows.ok.0) in
    let seen : c.in_ok-seen.seen.items ≡ replicate (length c.self.inside.rows.items) UNRANKED = c.in_ok-seen.ensures.items_if_clones_equal (search rules) ∙ ap (λ (n : ℕ). replicate n UNRANKED) rows in
    let free : IsUnranked (ranking_of c.self.inside.graph (g.B.Bounds.bounds c.self.inside.bounds) c.self.inside.done.items c.self.inside.rows.items) c.args.node = subst (λ (r : PlanRanking). IsUnranked r c.args.node) (sym c.self.view_is) c.requires.node in
    record {
      walk = rw (seen, c.in_ok-nodes.ensures.items) (walk_none _ c.self.inside.graph.firsts c.self.invariant.sound.firsts c.self.inside.rows.items c.self.invariant.size c.args.node free.node free.free);
      room = omega (arith, rows, c.in_ok-nodes.ensures.capacity, c.len-2.ensures);
      at = c.number-at.ensures.number;
    }

pub index-requires : goal.index-requires
index-requires g c = omega (arith, c.back.invariant.at, inside _ c.self.inside.graph.firsts c.self.invariant.sound.firsts c.self.inside.rows.items c.self.invariant.size c.back.nodes.items c.back.seen.items c.back.next c.back.invariant.walk, c.back.seen.ok.0)

pub index_mut-requires : goal.index_mut-requires
index_mut-requires g c = omega (arith, c.back.invariant.at, inside _ c.self.inside.graph.firsts c.self.invariant.sound.firsts c.self.inside.rows.items c.self.invariant.size c.back.nodes.items c.back.seen.items c.back.next c.back.invariant.walk, c.back.seen.ok.0)

pub index-requires-2 : goal.index-requires-2
index-requires-2 g c = omega (arith, c.back.invariant.at, inside _ c.self.inside.graph.firsts c.self.invariant.sound.firsts c.self.inside.rows.items c.self.invariant.size c.back.nodes.items c.back.seen.items c.back.next c.back.invariant.walk, c.back.seen.ok.0)

pub push_reserved-requires : goal.push_reserved-requires
push_reserved-requires g c =
    let firsts = c.self.inside.graph.firsts in
    let rows = c.self.inside.rows.items in
    let seen = c.back.seen.items in
    let within : c.back.at < length seen = omega (arith, c.back.invariant.at, inside _ firsts c.self.invariant.sound.firsts rows c.self.invariant.size c.back.nodes.items seen c.back.next c.back.invariant.walk) in
    let read : c.index.result.now ≡ get_or seen c.back.at 0 = get_or_read seen c.back.at c.index.result.now within c.index.ensures 0 in
    let free : get_or seen (number_of firsts c.back.next) 0 ≡ UNRANKED = ap (λ (i : ℕ). get_or seen i 0) (sym c.back.invariant.at) ∙ sym read ∙ c.back-test.true in
    omega (
      arith,
      c.back.invariant.room,
      c.back.nodes.ok.0,
      c.back.invariant.walk.count,
      c.back.invariant.walk.size,
      walk_shorter _ firsts c.self.invariant.sound.firsts rows c.self.invariant.size c.back.nodes.items seen c.back.next c.back.invariant.walk free,
    )

pub back-smaller : goal.back-smaller
back-smaller g c =
    let firsts = c.self.inside.graph.firsts in
    let rows = c.self.inside.rows.items in
    let seen = c.back.seen.items in
    let within : c.back.at < length seen = omega (arith, c.back.invariant.at, inside _ firsts c.self.invariant.sound.firsts rows c.self.invariant.size c.back.nodes.items seen c.back.next c.back.invariant.walk) in
    let read : c.index.result.now ≡ get_or seen c.back.at 0 = get_or_read seen c.back.at c.index.result.now within c.index.ensures 0 in
    let free : get_or seen (number_of firsts c.back.next) 0 ≡ UNRANKED = ap (λ (i : ℕ). get_or seen i 0) (sym c.back.invariant.at) ∙ sym read ∙ c.back-test.true in
    let place : c.len-in-back.result ≡ length c.back.nodes.items = omega (arith, c.len-in-back.ensures, c.back.nodes.ok.0) in
    rw (place, c.back.invariant.at) (walk_shorter _ firsts c.self.invariant.sound.firsts rows c.self.invariant.size c.back.nodes.items seen c.back.next c.back.invariant.walk free)

pub back-preserved : goal.back-preserved
back-preserved g c =
    let firsts = c.self.inside.graph.firsts in
    let rows = c.self.inside.rows.items in
    let seen = c.back.seen.items in
    let within : c.back.at < length seen = omega (arith, c.back.invariant.at, inside _ firsts c.self.invariant.sound.firsts rows c.self.invariant.size c.back.nodes.items seen c.back.next c.back.invariant.walk) in
    let read : c.index.result.now ≡ get_or seen c.back.at 0 = get_or_read seen c.back.at c.index.result.now within c.index.ensures 0 in
    let free : get_or seen (number_of firsts c.back.next) 0 ≡ UNRANKED = ap (λ (i : ℕ). get_or seen i 0) (sym c.back.invariant.at) ∙ sym read ∙ c.back-test.true in
    let place : c.len-in-back.result ≡ length c.back.nodes.items = omega (arith, c.len-in-back.ensures, c.back.nodes.ok.0) in
    let source = c.free_source-next.result in
    let free_source : IsUnranked (ranking_of c.self.inside.graph (g.B.Bounds.bounds c.self.inside.bounds) c.self.inside.done.items c.self.inside.rows.items) source = subst (λ (r : PlanRanking). IsUnranked r source) (sym c.self.view_is) c.free_source-next.ensures.node in
    let arc : HasArc c.self.inside.graph.plan source c.back.next = subst (λ (r : PlanRanking). HasArc r.plan source c.back.next) (sym c.self.view_is) c.free_source-next.ensures.arc in
    record {
      walk = rw (c.push_reserved.ensures.items, place, c.back.invariant.at) (walk_more _ firsts c.self.invariant.sound.firsts rows c.self.invariant.size c.back.nodes.items seen c.back.next c.back.invariant.walk free
          source free_source.node free_source.free arc);
      room = omega (arith, c.push_reserved.ensures.capacity, c.back.invariant.room);
      at = c.number-at-in-back.ensures.number;
    }

pub returns : goal.returns
returns g c =
    let firsts = c.self.inside.graph.firsts in
    let rows = c.self.inside.rows.items in
    let seen = c.back.seen.items in
    let within : c.back.at < length seen = omega (arith, c.back.invariant.at, inside _ firsts c.self.invariant.sound.firsts rows c.self.invariant.size c.back.nodes.items seen c.back.next c.back.invariant.walk) in
    let at : get_or seen c.back.at 0 ≡ get_or seen (number_of firsts c.back.next) 0 = ap (λ (i : ℕ). get_or seen i 0) c.back.invariant.at in
    let tested : c.index.result.now ≡ get_or seen c.back.at 0 = get_or_read seen c.back.at c.index.result.now within c.index.ensures 0 in
    let read : c.index-2.result.now ≡ get_or seen c.back.at 0 = get_or_read seen c.back.at c.index-2.result.now within c.index-2.ensures 0 in
    subst (λ (r : PlanRanking). IsTrail r.plan (record { nodes = c.back.nodes; start = c.index-2.result.now })) c.self.view_is
    (walk_trail _ firsts c.self.invariant.sound.firsts rows c.self.invariant.size (record { nodes = c.back.nodes; start = c.index-2.result.now }) seen c.back.next c.back.invariant.walk
    (λ same. c.back-test.false (tested ∙ at ∙ same)) (read ∙ at))
