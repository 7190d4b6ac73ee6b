use Rattle.std.proofs.Common.{◌+◌, ◌-◌, ◌*◌, ◌<◌, ◌≤◌, take}
use Rattle.shop_base.specs.declared.limits.TheConstants.{MAX_NOMINAL}
use Rattle.alt_graph.specs.Bounds.{MAX_BOUND}
use Rattle.alt_graph.specs.Places.{node_at}
use Rattle.alt_graph.proofs.PathsFrom.{IsLongestAlong}
use Rattle.alt_graph.proofs.chain_check.check_chain_from.Given as goal

-- the nodes looked at are a path, of this length at the longest
abbrev pub invariant-loop-place : goal.invariant-loop-place
invariant-loop-place g l = (0 < l.place)
    × IsLongestAlong l.shaped (g.B.Bounds.bounds l.bounds) (take l.place l.nodes) (node_at l.nodes (l.place - 1)) l.length
    × (l.length ≤ MAX_BOUND + MAX_NOMINAL * (l.place - 1))
