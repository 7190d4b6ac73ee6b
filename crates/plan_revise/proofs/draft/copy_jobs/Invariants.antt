use Rattle.std.proofs.Common.{◌≡◌, take}
use Rattle.shop_base.specs.Vectors.{lists_of}
use Rattle.plan_revise.proofs.draft.copy_jobs.Given as goal

-- the rows before this one are copied
abbrev pub invariant-loop-place : goal.invariant-loop-place
invariant-loop-place l = lists_of l.copies.items ≡ take l.place (lists_of l.rows)
