-- The moments kept for the nodes of a plan, and the cells that keep to them.
use Rattle.std.specs.Prelude.{ℕ, ◌≤◌, ◌⊎◌}
use Rattle.shop_base.specs.declared.node.Node.{Node}
use Rattle.shop_base.specs.Plan.{PlannedShop}
use Rattle.shop_base.specs.Cell.{Cell, IsGone}
use Rattle.shop_base.specs.Ends.{IsGoneBy}
use Rattle.shop_base.specs.Graph.{leaving}
use Rattle.shop_base.specs.Ahead.{MomentsFitAhead}

-- what holds of the cell while no report was late: the moments fit what is ahead from its last moment on
abbrev pub KeepsMoments : PlannedShop → (Node → ℕ) → Cell → Type 0
KeepsMoments p kept c = MomentsFitAhead p c c.last kept

-- job j is gone since a moment at most the one kept for its leaving, or it isn't gone, and that moment isn't past yet
abbrev pub KeepsLeaving : PlannedShop → (Node → ℕ) → Cell → ℕ → Type 0
KeepsLeaving p kept c j = IsGoneBy p c j (kept (leaving p j)) ⊎ ((IsGone p c j → ⊥) × (c.last ≤ kept (leaving p j)))
