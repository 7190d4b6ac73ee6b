-- Nodes by their places in a list.
use Rattle.std.specs.Prelude.{◌≢◌, ℕ, ◌<◌, List, slice_index_or}
use Rattle.shop_base.specs.declared.node.Node.{Node}
use Rattle.shop_base.specs.Graph.{node}

-- the node at a place of a list
abbrev pub node_at : List Node → ℕ → Node
node_at nodes i = slice_index_or nodes i (node 0 0)

-- the node at this place stands at no earlier place
abbrev pub IsNewAt : List Node → ℕ → Type 0
IsNewAt nodes i = (k : ℕ) → k < i → node_at nodes k ≢ node_at nodes i
