use Rattle.std.proofs.Common.{◌≡◌, false, true, refl, sym, ◌∙◌}
use Rattle.plan_revise.proofs.SentOn.{open-place, open-shaped}
use Rattle.plan_revise.proofs.SentBehind.{first-within, place-open, none-further, locks-all}
use Rattle.plan_revise.proofs.draft.Draft.send_on.Goals as goal

differ : false ≡ true → ⊥
differ e = cc

pub furthest_place-requires-clause-within : goal.furthest_place-requires-clause-within
furthest_place-requires-clause-within g c = first-within c.args.run.now c.args.self.now c.args.job c.args.step c.requires c.plant-plant.ensures.sound c.first_open-first.result c.first_open-first.ensures.exact

pub is_free_at-requires-clause-place : goal.is_free_at-requires-clause-place
is_free_at-requires-clause-place g c = open-place c.args.run.now c.args.self.now c.args.job c.args.step c.in_ok-place.place c.requires
    (place-open c.args.run.now c.args.self.now c.args.job c.args.step c.requires c.first_open-first.result c.in_ok-place.place c.first_open-first.ensures.exact c.in_ok-place.ensures)

pub is_free_at-requires-clause-shaped : goal.is_free_at-requires-clause-shaped
is_free_at-requires-clause-shaped g c = open-shaped c.args.run.now c.args.self.now c.args.job c.args.step c.in_ok-place.place c.requires
    (place-open c.args.run.now c.args.self.now c.args.job c.args.step c.requires c.first_open-first.result c.in_ok-place.place c.first_open-first.ensures.exact c.in_ok-place.ensures)

pub visit_at-requires : goal.visit_at-requires
visit_at-requires g c = open-place c.args.run.now c.args.self.now c.args.job c.args.step c.in_ok-place.place c.requires
    (place-open c.args.run.now c.args.self.now c.args.job c.args.step c.requires c.first_open-first.result c.in_ok-place.place c.first_open-first.ensures.exact c.in_ok-place.ensures)

pub returns-then-branch-clause-sent : goal.returns-then-branch-clause-sent
returns-then-branch-clause-sent g c = record {
  place = c.in_ok-place.place;
  free = place-open c.args.run.now c.args.self.now c.args.job c.args.step c.requires c.first_open-first.result c.in_ok-place.place c.first_open-first.ensures.exact c.in_ok-place.ensures;
  acyclic = c.in_ok-is_free_at.ensures.0 c.if-branch.true;
  furthest = none-further c.args.run.now c.args.self.now c.args.job c.args.step c.requires c.first_open-first.result c.in_ok-place.place c.first_open-first.ensures.exact c.in_ok-place.ensures;
  is = c.in_ok-visit_at.ensures;
}

pub returns-clause-refused : goal.returns-clause-refused
returns-clause-refused g c = (
  refl,
  locks-all c.args.run.now c.args.self.now c.args.job c.args.step c.requires c.first_open-first.result c.in_ok-place.place c.first_open-first.ensures.exact c.in_ok-place.ensures
      (λ acyclic. differ (sym c.if-branch.false ∙ c.in_ok-is_free_at.ensures.1 acyclic)),
)
