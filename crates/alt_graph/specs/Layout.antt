-- How the rows of the nodes lie one behind another: job after job, and within a job by place.
use Rattle.std.specs.Prelude.{ℕ, ◌+◌, ◌-◌, ◌<◌, ◌≤◌, List, [], ◌∷◌, length, take, drop, slice_index, Option, None, Some}
use Rattle.shop_base.specs.declared.node.Node.{Node}
use Rattle.alt_graph.specs.declared.times.NodeTime.{NodeTime}
use Rattle.alt_graph.specs.Times.{NodeTimes, rank_of, before_of, IsTimed}

-- the number of a node, counted job after job; the firsts are the numbers of the jobs' first nodes, and last the count of all
abbrev pub number_of : List ℕ → Node → ℕ
number_of firsts v = slice_index firsts v.job + v.place

-- the node is one of those that are counted
pub record IsCounted (firsts : List ℕ) (v : Node) : Type 0 where
  pub job : v.job + 1 < length firsts
  pub place : number_of firsts v < slice_index firsts (v.job + 1)

-- rows that lie node after node, by job and place
unfoldable pub by_job : List ℕ → List NodeTime → NodeTimes
by_job [] rows = []
by_job (first ∷ []) rows = []
by_job (first ∷ next ∷ firsts) rows = take (next - first) (drop first rows) ∷ by_job (next ∷ firsts) rows

-- the node before v, if there is one, is known and has a lower rank
abbrev pub LeadsBack : NodeTimes → Node → Option Node → Type 0
LeadsBack t v None = Unit {0}
LeadsBack t v (Some u) = IsTimed t u × (rank_of t u < rank_of t v)

-- each job's rows lie within all of them, and each leads back to the rows of the nodes before it
pub record AreLinked (firsts : List ℕ) (rows : List NodeTime) : Type 0 where
  pub rises : (j : ℕ) → j + 1 < length firsts → slice_index firsts j ≤ slice_index firsts (j + 1)
  pub within : (j : ℕ) → j + 1 < length firsts → slice_index firsts (j + 1) ≤ length rows
  pub back : (v : Node) → IsTimed (by_job firsts rows) v → LeadsBack (by_job firsts rows) v (before_of (by_job firsts rows) v)
