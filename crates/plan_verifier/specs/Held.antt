-- What holds up a node ahead besides the nodes before it, and its bound: the greatest, and of equal ones the one whose turn is first.
use Rattle.std.specs.Prelude.{◌≡◌, ℕ, ◌<◌, ◌≤◌, ◌⊎◌, List, [], ◌∷◌, length, Option, None, Some, max, nat_lt, if◌then◌else◌, true}
use Rattle.shop_base.specs.declared.node.Node.{Node}
use Rattle.shop_base.specs.Plan.{PlannedShop, nominal, clean, Stands}
use Rattle.shop_base.specs.declared.limits.TheConstants.{MAX_MOMENT}
use Rattle.shop_base.specs.Cell.{Cell, made, ready, since, entries, cleaning, IsOutside, IsOn}
use Rattle.shop_base.specs.Activity.{Cleaning, GoesOn, IsAwaited, IsWorked, IsCleaned}
use Rattle.shop_base.specs.Graph.{IsNode}
use Rattle.shop_base.specs.Ahead.{next_node, HoldsUp}
use Rattle.plan_verifier.specs.declared.node_bound.Hold.{Hold}
use Rattle.plan_verifier.specs.declared.node_bound.Hold.TheVariants.{Awaited, Arrived, Worked, Done, Cleaned}
use Rattle.plan_verifier.specs.declared.node_bound.NodeBound.{NodeBound}

-- what holds up the node, and when it is due: the arrival or the operation of its job, or, not due at any moment, the job itself that waits for its next move; or the cleaning of the machine that it enters as the next
pub data IsHeldBy (p : PlannedShop) (c : Cell) : Hold → Option ℕ → Node → Type 0 where
  awaited : (j due : ℕ) → IsAwaited p c j due → IsHeldBy p c (Awaited j) (Some due) (next_node c j)
  arrived : (j : ℕ) → IsOutside c j → ready c j ≡ true → IsHeldBy p c (Arrived j) None (next_node c j)
  worked : (j k m due : ℕ) → IsWorked p c j k m due → IsHeldBy p c (Worked j m (since c j) (nominal p j k)) (Some due) (next_node c j)
  done : (j k m : ℕ) → IsOn p c j k m → ready c j ≡ true → IsHeldBy p c (Done j m) None (next_node c j)
  cleaned : (m from due : ℕ) (v : Node) → IsCleaned p c m from due → Stands p m (length (entries c m)) v.job v.place → IsHeldBy p c (Cleaned m from (clean p m)) (Some due) v

-- the node is its job's next, or a cleaning holds it up
abbrev pub IsHeldUp : PlannedShop → Cell → Node → Type 0
IsHeldUp p c v = (made c v.job ≡ v.place) ⊎ ((m due : ℕ) × GoesOn p c (Cleaning m) due × HoldsUp p c (Cleaning m) v)

-- the first of the nodes is one of the shop that is held up
abbrev pub BeginHeldUp : PlannedShop → Cell → List Node → Type 0
BeginHeldUp p c [] = ⊥
BeginHeldUp p c (u ∷ us) = IsNode p u × IsHeldUp p c u

-- the later of a moment and of another, if there is one
abbrev pub later_than : ℕ → Option ℕ → ℕ
later_than n None = n
later_than n (Some m) = max n m

-- what was due before the present moment t is overdue since then
abbrev pub overdue_at : ℕ → Option ℕ → Option ℕ
overdue_at t None = None
overdue_at t (Some due) = if nat_lt due t then Some due else None

-- whose words go first where bounds are equal: what goes on with the job, the cleaning, the job that waits
abbrev pub turn : Hold → ℕ
turn (Awaited j) = 0
turn (Worked j m from n) = 0
turn (Cleaned m from n) = 1
turn (Arrived j) = 2
turn (Done j m) = 2

-- the bound is given by something that holds up v: at the present moment t, or later when that is due
pub record IsHoldBound (p : PlannedShop) (c : Cell) (t : ℕ) (v : Node) (b : NodeBound) : Type 0 where
  pub due : Option ℕ
  pub holds : IsHeldBy p c b.holds due v
  pub moment : b.moment ≡ later_than t due
  pub overdue : b.overdue ≡ overdue_at t due

-- the bound goes before the other
abbrev pub GoesBefore : NodeBound → NodeBound → Type 0
GoesBefore one other = (other.moment < one.moment) ⊎ ((one.moment ≡ other.moment) × (turn one.holds ≤ turn other.holds))

-- of all bounds of v the one that goes before the others
pub record IsBoundOf (p : PlannedShop) (c : Cell) (t : ℕ) (v : Node) (b : NodeBound) : Type 0 where
  pub by_hold : IsHoldBound p c t v b
  pub first : (other : NodeBound) → IsHoldBound p c t v other → GoesBefore b other

-- each cleaning that goes on began at a moment within the limit
abbrev pub AreBegun : Cell → Type 0
AreBegun c = (m s : ℕ) → cleaning c m ≡ Some s → s ≤ MAX_MOMENT
