use Rattle.std.proofs.Common.{◌≡◌, ◌<◌, ◌-◌, ◌∙◌, ℕ, Option, OnOk, length, drop, position, eqb, ap, sym, subst, arith}
use Rattle.shop_base.specs.declared.shop.Step.{Step}
use Rattle.shop_base.specs.Plan.{PlannedShop, route}
use Rattle.plan_revise.specs.Stopped.{way_to, stopped_at}
use Rattle.plan_revise.specs.Answers.{IsNoRoom, IsNoRoomFor}
use Rattle.plan_revise.proofs.Written.{row_read, length_lists, reason_more}
use Rattle.plan_revise.proofs.Ways.{way_visits, way_none, stop_way}
use Rattle.plan_revise.proofs.Revisions.{moves_few}
use Rattle.plan_revise.proofs.draft.Draft.stop_at.Goals as goal
use Rattle.plan_revise.proofs.draft.Draft.stop_at.Goals.{After-place_of}

pub index-requires : goal.index-requires
index-requires g c = omega (arith, c.requires.job, ap (λ (q : PlannedShop). length q.shop.routes) c.self.view_is, length_lists c.self.inside.routes.items)

pub rest_of-rest-requires : goal.rest_of-rest-requires
rest_of-rest-requires g c =
    let within : c.args.job < length c.self.inside.routes.items = omega (arith, c.requires.job, ap (λ (q : PlannedShop). length q.shop.routes) c.self.view_is, length_lists c.self.inside.routes.items) in
    let read : c.deref.result.now ≡ route c.args.self.now c.args.job = c.deref.ensures.value ∙ row_read c.self.inside.routes.items c.args.job c.index.result.now within c.index.ensures ∙ ap (λ (q : PlannedShop). route q c.args.job) c.self.view_is in
    omega (arith, c.saturating_sub-present.ensures, c.moves_made-made.ensures.count, ap length read, moves_few c.args.run.now c.args.self.now c.args.job c.moves_made-made.ensures.sound c.requires.revision)

-- where the machine is among the steps ahead, which are read
way : (g : _) (c : After-place_of g) → way_to c.args.run.now c.args.self.now c.args.job c.args.machine ≡ c.place_of.result
way g c =
    let within : c.args.job < length c.self.inside.routes.items = omega (arith, c.requires.job, ap (λ (q : PlannedShop). length q.shop.routes) c.self.view_is, length_lists c.self.inside.routes.items) in
    let read : c.deref.result.now ≡ route c.args.self.now c.args.job = c.deref.ensures.value ∙ row_read c.self.inside.routes.items c.args.job c.index.result.now within c.index.ensures ∙ ap (λ (q : PlannedShop). route q c.args.job) c.self.view_is in
    let left : c.rest_of-rest.result.now ≡ drop (c.moves_made-made.result - 1) (route c.args.self.now c.args.job) = c.rest_of-rest.ensures ∙ ap (drop c.saturating_sub-present.result) read ∙ ap (λ n. drop n (route c.args.self.now c.args.job)) c.saturating_sub-present.ensures in
    sym (c.place_of.ensures.place ∙ ap (position (λ (step : Step). eqb step.machine c.args.machine)) (left ∙ ap (λ n. drop (n - 1) (route c.args.self.now c.args.job)) c.moves_made-made.ensures.count))

pub returns-in_default-clause-done : goal.returns-in_default-clause-done
returns-in_default-clause-done g c = sym (ap (λ (found : Option ℕ). stopped_at c.args.run.now c.args.self.now c.args.job found) (way g (goal.at.returns-in_default-clause-done g c).After-place_of ∙ c.in_default.is))

pub returns-in_default-clause-room : goal.returns-in_default-clause-room
returns-in_default-clause-room g c = λ k outside visits. absurd (way_none c.args.run.now c.args.self.now c.args.machine c.args.job (way g (goal.at.returns-in_default-clause-room g c).After-place_of ∙ c.in_default.is) k (omega (arith, outside)) visits)

pub returns-clause-done : goal.returns-clause-done
returns-clause-done g c =
    subst (λ (q : PlannedShop). OnOk c.stop.result (c.stop.new.self ≡ q))
    (stop_way c.args.run.now c.args.self.now c.args.job c.args.machine c.moves_made-made.result c.in-Some.further c.max-count.result (way g (goal.at.returns-clause-done g c).After-place_of ∙ c.in-Some.is) c.moves_made-made.ensures.count (omega (arith, c.max-count.ensures, c.saturating_sub-present.ensures)))
    c.stop.ensures.done

pub returns-clause-refused : goal.returns-clause-refused
returns-clause-refused g c =
    reason_more (IsNoRoom c.args.run.now c.args.self.now c.args.job) (IsNoRoomFor c.args.run.now c.args.self.now c.args.job c.args.machine)
    (λ fault why. (why, _, way_visits c.args.run.now c.args.self.now c.args.machine c.args.job c.in-Some.further (way g (goal.at.returns-clause-refused g c).After-place_of ∙ c.in-Some.is))) c.stop.result c.stop.ensures.refused
