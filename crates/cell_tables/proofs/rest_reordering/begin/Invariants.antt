use Rattle.std.proofs.Common.{ℕ, ◌<◌, []}
use Rattle.std.specs.Prelude.{slice_index_or}
use Rattle.shop_base.specs.{Cell.entries, Move.IsPrefix, Vectors.lists_of}
use Rattle.cell_tables.proofs.rest_reordering.begin.Given as goal

-- the new orders looked at begin so
abbrev pub invariant-loop-machine : goal.invariant-loop-machine
invariant-loop-machine l = (m : ℕ) → m < l.machine → IsPrefix (entries l.cell.cell m) (slice_index_or (lists_of l.new) m [])
