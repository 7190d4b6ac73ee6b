use Rattle.std.proofs.Common.{take}
use Rattle.plan_revise.specs.Revised.{AreMade}
use Rattle.plan_revise.specs.Fits.{IsRevision}
use Rattle.plan_revise.proofs.draft.Draft.make_all.Given as goal

-- the changes before this one are made
abbrev pub invariant-loop-place : goal.invariant-loop-place
invariant-loop-place g l = record {
  made : AreMade l.run l.initial.self (take l.place l.changes) l.self;
  revision : IsRevision l.run l.self;
}
