-- Changes by what they may do to others: they make nobody later, or ask for no more.
use Rattle.std.specs.Prelude.{◌≡◌, ◌≢◌, ℕ, ◌≤◌, List, [], ◌∷◌}
use Rattle.shop_base.specs.Plan.{PlannedShop, release, budget}
use Rattle.plan_revise.specs.declared.change.Change.{Change}
use Rattle.plan_revise.specs.declared.change.Change.TheVariants.{Until, Add, Scrap, Down, Route, Release, Budget, Hold}
use Rattle.plan_revise.specs.Settings.{RevisionSetting, moves_made}
use Rattle.plan_revise.specs.Changes.{IsChangedTo}

-- each of the changes is such a one of what those before it made
abbrev pub AreAll : (PlannedShop → Change → Type 0) → RevisionSetting → PlannedShop → List Change → Type 0
AreAll Is s p [] = Unit {0}
AreAll Is s p (change ∷ changes) = Is p change × ((next : PlannedShop) → IsChangedTo s p change next → AreAll Is s next changes)

-- the change makes job i no later: it lets no operation last longer and no job come later, holds no machine, and sends another way only a job that is outside, and isn't job i
abbrev pub SparesJob : RevisionSetting → ℕ → PlannedShop → Change → Type 0
SparesJob s i p (Until machine to) = ⊥
SparesJob s i p (Add words first last) = Unit {0}
SparesJob s i p (Scrap j) = Unit {0}
SparesJob s i p (Down machine) = Unit {0}
SparesJob s i p (Route j words) = (moves_made s j ≡ 0) × (i ≢ j)
SparesJob s i p (Release j moment) = moment ≤ release p j
SparesJob s i p (Budget j moment) = Unit {0}
SparesJob s i p (Hold machine to) = ⊥

-- the change asks for no more: a job is scrapped, a machine is down, a job comes no later, or its promise is no sooner
abbrev pub AsksNoMore : PlannedShop → Change → Type 0
AsksNoMore p (Until machine to) = ⊥
AsksNoMore p (Add words first last) = ⊥
AsksNoMore p (Scrap j) = Unit {0}
AsksNoMore p (Down machine) = Unit {0}
AsksNoMore p (Route j words) = ⊥
AsksNoMore p (Release j moment) = moment ≤ release p j
AsksNoMore p (Budget j moment) = budget p j ≤ moment
AsksNoMore p (Hold machine to) = ⊥
