-- How a node is written.
use Rattle.std.specs.Prelude.{ℕ, List, ◌∷◌, ◌++◌}
use Rattle.std.specs.Fmt.{decimal}
use Rattle.shop_base.specs.declared.node.Node.{Node}

-- a node as it is written: its job, a dot (46), its place
abbrev pub node_text : Node → List ℕ
node_text v = decimal v.job ++ 46 ∷ decimal v.place
