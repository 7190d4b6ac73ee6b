-- What `solve` answers: ranks and greatest lengths where the graph has no cycle, and else a cycle.
use Rattle.std.specs.Prelude.{List}
use Rattle.shop_base.specs.declared.node.Node.{Node}
use Rattle.shop_base.specs.Plan.{PlannedShop}
use Rattle.shop_base.specs.Graph.{IsSimpleCycle}
use Rattle.alt_graph.specs.Evidence.{IsCycle}
use Rattle.alt_graph.specs.Bounds.{NodeBounds}
use Rattle.alt_graph.specs.Times.{AreOrdered, AreOrderedFrom}
use Rattle.alt_graph.specs.declared.solving.Solved.{Solved}
use Rattle.alt_graph.specs.declared.solving.Solved.TheVariants.{Ordered, Cyclic}

-- where the graph has no cycle: ranks and greatest lengths
abbrev pub OnOrdered : PlannedShop → Solved → Type 0
OnOrdered p (Ordered times) = AreOrdered p times
OnOrdered p (Cyclic nodes) = Unit {0}

-- the same from any bounds
abbrev pub OnOrderedFrom : PlannedShop → NodeBounds → Solved → Type 0
OnOrderedFrom p b (Ordered times) = AreOrderedFrom p b times
OnOrderedFrom p b (Cyclic nodes) = Unit {0}

-- where it has one: a cycle, its least node first
abbrev pub OnCyclic : PlannedShop → Solved → Type 0
OnCyclic p (Ordered times) = Unit {0}
OnCyclic p (Cyclic nodes) = IsCycle p nodes.items

-- a cycle is given
abbrev pub IsCyclic : Solved → Type 0
IsCyclic (Ordered times) = ⊥
IsCyclic (Cyclic nodes) = Unit {0}

-- the graph has a cycle
abbrev pub HasCycle : PlannedShop → Type 0
HasCycle p = (nodes : List Node) × IsSimpleCycle p nodes
