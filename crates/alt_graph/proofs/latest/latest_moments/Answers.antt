use Rattle.std.proofs.Common.{◌≡◌, ℕ, ◌-◌, ◌+◌, ◌<◌, length, get_or, None, Some, arith, sym, ap, ◌∙◌, inl, inr}
use Rattle.std.proofs.lemmas.Bool.{cases_eq}
use Rattle.std.proofs.lemmas.List.{get_or_read}
use Rattle.std.proofs.lemmas.Result.{err_from_is_err_and}
use Rattle.alt_graph.specs.Times.{rank_of}
use Rattle.alt_graph.specs.Evidence.{node_count}
use Rattle.alt_graph.specs.LatestRows.{HasRows}
use Rattle.alt_graph.proofs.NodeNumbers.{numbers_count}
use Rattle.alt_graph.proofs.Latests.{latest_more, rows_more, row_inside, start_deadlines, are_inside}
use Rattle.alt_graph.proofs.latest.latest_moments.Goals as goal

pub returns-in_err-graph : goal.returns-in_err-graph
returns-in_err-graph c =
    let p = err_from_is_err_and c.from_residual.result c.from_residual.ensures.1 in
    rw p.1 (record { nodes = tt; latest = tt; deadlines = λ _ _. tt })

pub returns-in_err-order : goal.returns-in_err-order
returns-in_err-order c =
    let p = err_from_is_err_and c.from_residual-in_err-order.result c.from_residual-in_err-order.ensures.1 in
    rw p.1 (record { nodes = tt; latest = tt; deadlines = λ _ _. tt })

pub returns-in_err-moments : goal.returns-in_err-moments
returns-in_err-moments c =
    let p = err_from_is_err_and c.from_residual-in_err-moments.result c.from_residual-in_err-moments.ensures.1 in
    rw p.1 (record { nodes = tt; latest = tt; deadlines = λ _ _. tt })

pub by_rank-requires-clause-count : goal.by_rank-requires-clause-count
by_rank-requires-clause-count c = c.node_count.ensures.count ∙ numbers_count _ _ c.node_count.ensures.sound.firsts ∙ ap node_count c.in_ok-graph.ensures.graph.plan

pub back-init : goal.back-init
back-init c =
    let graph = c.in_ok-graph.graph in
    let rows : HasRows graph.plan graph.firsts c.in_ok-moments.moments.items = record {
      numbers = c.node_count.ensures.sound.firsts;
      size = omega (arith, c.in_ok-moments.ensures.len, c.in_ok-moments.moments.ok.0, c.len.ensures, c.in_ok-order.order.ok.0, c.in_ok-order.ensures.size, c.node_count.ensures.count);
    } in
    let all : c.node_count.result ≡ node_count c.args.shaped.now = c.node_count.ensures.count ∙ numbers_count _ _ c.node_count.ensures.sound.firsts ∙ ap node_count c.in_ok-graph.ensures.graph.plan in
    record {
      rows = rw c.in_ok-graph.ensures.graph.plan at rows;
      latest = λ v is le. absurd (omega (arith, c.requires.few v is, le, all, c.len-left.ensures, c.in_ok-order.order.ok.0, c.in_ok-order.ensures.size));
      within = omega (arith, c.len-left.ensures, c.in_ok-order.order.ok.0);
    }

pub number-at-requires : goal.number-at-requires
number-at-requires c =
    let nodes = c.in_ok-order.order.items in
    let within : c.back.left - 1 < length nodes = omega (arith, c.back-test.true, c.back.invariant.within) in
    let at : get_or nodes (c.back.left - 1) None ≡ Some c.in-Some.node = sym (get_or_read nodes (c.back.left - 1) c.index.result.now within c.index.ensures None) ∙ c.in-Some.is in
    rw c.in_ok-graph.ensures.graph.plan (c.in_ok-order.ensures.ranked (c.back.left - 1) c.in-Some.node at).0

pub index_mut-requires : goal.index_mut-requires
index_mut-requires c =
    let nodes = c.in_ok-order.order.items in
    let within : c.back.left - 1 < length nodes = omega (arith, c.back-test.true, c.back.invariant.within) in
    let at : get_or nodes (c.back.left - 1) None ≡ Some c.in-Some.node = sym (get_or_read nodes (c.back.left - 1) c.index.result.now within c.index.ensures None) ∙ c.in-Some.is in
    let is = (c.in_ok-order.ensures.ranked (c.back.left - 1) c.in-Some.node at).0 in
    omega (arith, c.number-at.ensures.number, row_inside _ _ _ _ c.back.invariant.rows is, c.back.moments.ok.0)

pub latest_of-requires-clause-node : goal.latest_of-requires-clause-node
latest_of-requires-clause-node c =
    let nodes = c.in_ok-order.order.items in
    let within : c.back.left - 1 < length nodes = omega (arith, c.back-test.true, c.back.invariant.within) in
    let at : get_or nodes (c.back.left - 1) None ≡ Some c.in-Some.node = sym (get_or_read nodes (c.back.left - 1) c.index.result.now within c.index.ensures None) ∙ c.in-Some.is in
    rw c.in_ok-graph.ensures.graph.plan (c.in_ok-order.ensures.ranked (c.back.left - 1) c.in-Some.node at).0

pub latest_of-requires-clause-rows : goal.latest_of-requires-clause-rows
latest_of-requires-clause-rows c = rw (c.in_ok-graph.ensures.graph.plan, c.deref.ensures.value) c.back.invariant.rows

pub back-smaller-in-Some : goal.back-smaller-in-Some
back-smaller-in-Some c = omega (arith, c.back-test.true)

pub back-smaller : goal.back-smaller
back-smaller c = omega (arith, c.back-test.true)

pub back-preserved : goal.back-preserved
back-preserved c =
    let t = c.args.times.now in
    let nodes = c.in_ok-order.order.items in
    let last = c.back.left - 1 in
    let within : last < length nodes = omega (arith, c.back-test.true, c.back.invariant.within) in
    let none : get_or nodes last None ≡ None = sym (get_or_read nodes last c.index.result.now within c.index.ensures None) ∙ c.in_default.is in
    record {
      rows = c.back.invariant.rows;
      latest = λ v is le. elim (cases_eq (rank_of t v) last) [
        | inl same ↦ absurd (let found = sym (c.in_ok-order.ensures.all v is) ∙ ap (λ (i : ℕ). get_or nodes i None) same ∙ none in cc)
        | inr other ↦ c.back.invariant.latest v is (omega (arith, other, le))
      ];
      within = omega (arith, within);
    }

pub back-preserved-in-Some : goal.back-preserved-in-Some
back-preserved-in-Some c =
    let p = c.args.shaped.now in
    let t = c.args.times.now in
    let nodes = c.in_ok-order.order.items in
    let within : c.back.left - 1 < length nodes = omega (arith, c.back-test.true, c.back.invariant.within) in
    let at : get_or nodes (c.back.left - 1) None ≡ Some c.in-Some.node = sym (get_or_read nodes (c.back.left - 1) c.index.result.now within c.index.ensures None) ∙ c.in-Some.is in
    let ranked = c.in_ok-order.ensures.ranked (c.back.left - 1) c.in-Some.node at in
    let above : (c.back.left - 1) + 1 ≡ c.back.left = omega (arith, c.back-test.true) in
    let latest = rw (c.in_ok-graph.ensures.graph.plan, c.deref.ensures.value) at c.latest_of.ensures in
    rw c.number-at.ensures.number (record {
      rows = rows_more p t c.requires _ _ c.back.invariant.rows c.in-Some.node ranked.0 c.latest_of.result;
      latest = latest_more p t c.requires _ _ c.back.invariant.rows c.in-Some.node ranked.0 c.latest_of.result (c.back.left - 1) (sym ranked.1) latest (rw above c.back.invariant.latest);
      within = omega (arith, within);
    })

pub invariant_of-result : goal.invariant_of-result
invariant_of-result c = rw c.into_firsts-firsts.ensures (are_inside _ _ _ c.back.invariant.rows)

pub returns-clause-deadlines : goal.returns-clause-deadlines
returns-clause-deadlines c = rw c.into_firsts-firsts.ensures (λ ordered meets. start_deadlines _ _ _ ordered.times meets (λ v is. c.back.invariant.latest v is (omega (arith, c.back-test.false))))
