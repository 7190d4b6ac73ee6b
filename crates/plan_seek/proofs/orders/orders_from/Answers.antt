use Rattle.std.proofs.Common.{◌≡◌, ◌-◌, ℕ, List, [], length, ap, sym, ◌∙◌, subst, arith}
use Rattle.std.specs.List.{range_with_len}
use Rattle.std.proofs.lemmas.List.FromFn.{length-map-range_with_len}
use Rattle.shop_base.specs.Vectors.{lists_of}
use Rattle.plan_seek.specs.Orders.{visitors}
use Rattle.plan_seek.specs.Growing.{IsGrown}
use Rattle.plan_seek.proofs.Rows.{length_lists, orders_whole}
use Rattle.plan_seek.proofs.orders.orders_from.Goals as goal

pub add_jobs-requires-clause-count : goal.add_jobs-requires-clause-count
add_jobs-requires-clause-count c =
    sym (length_lists c.in_ok-orders.orders.items) ∙ ap length c.in_ok-orders.ensures ∙ length-map-range_with_len (visitors c.args.shop.now []) 0 c.args.shop.now.machines

pub add_jobs-requires-2-clause-count : goal.add_jobs-requires-2-clause-count
add_jobs-requires-2-clause-count c =
    sym (length_lists c.add_jobs.new.orders.items) ∙ c.in_ok-add_jobs.ensures.count ∙ ap length c.in_ok-orders.ensures ∙ length-map-range_with_len (visitors c.args.shop.now []) 0 c.args.shop.now.machines

pub returns : goal.returns
returns c =
    let from_first : c.jobs.result - c.args.first ≡ length c.args.shop.now.routes - c.args.first = omega (arith, c.jobs.ensures.count) in
    let from_0 : c.args.first - 0 ≡ c.args.first = omega arith in
    let behind : List ℕ = range_with_len c.args.first (length c.args.shop.now.routes - c.args.first) in
    let before : List ℕ = range_with_len 0 c.args.first in
    orders_whole c.args.shop.now (lists_of c.in_ok-orders.orders.items) (lists_of c.add_jobs.new.orders.items) (lists_of c.add_jobs-2.new.orders.items) behind before
    c.in_ok-orders.ensures
    (subst (λ n. IsGrown (lists_of c.in_ok-orders.orders.items) (lists_of c.add_jobs.new.orders.items) (visitors c.args.shop.now (range_with_len c.args.first n))) from_first c.in_ok-add_jobs.ensures)
    (subst (λ n. IsGrown (lists_of c.add_jobs.new.orders.items) (lists_of c.add_jobs-2.new.orders.items) (visitors c.args.shop.now (range_with_len 0 n))) from_0 c.in_ok-add_jobs-2.ensures)
