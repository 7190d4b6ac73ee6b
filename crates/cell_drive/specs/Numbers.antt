-- The controllers of several cells, in the order of their numbers. No public clause cites this module.
use Rattle.std.specs.Prelude.{ℕ, suc, List, [], ◌∷◌, ◌++◌, map, Some}
use Rattle.shop_base.specs.{Run.IsAtRest, Sound.IsSound}
use Rattle.plan_verifier.specs.Accepted.{IsVerified}
use Rattle.cell_control.specs.Control.{Control, verified_in}
use Rattle.event_lines.specs.SentLines.{cell_prefix}
use Rattle.cell_drive.specs.{declared.protocol.Protocol.Protocol, LineAnswers.closing_line, ManyCells.HubCell}
use Rattle.cell_drive.specs.ProtocolCells.{HubAnswer, hub_of}

-- a controller's cell
abbrev pub planned_cell : Control → HubCell
planned_cell v = record { plan = verified_in v; cell = v.cell }

-- those of several
abbrev pub planned_cells : List Control → List HubCell
planned_cells controls = map planned_cell controls

-- a cell by an accepted plan, as it can be in a run, and at rest
pub record IsInRun (c : HubCell) : Type 0 where
  pub verified : IsVerified c.plan
  pub sound : IsSound c.plan.planned c.cell
  pub rest : IsAtRest c.plan.planned c.cell

-- each of these is such a cell
abbrev pub AreInRun : List HubCell → Type 0
AreInRun [] = Unit {0}
AreInRun (c ∷ cells) = IsInRun c × AreInRun cells

-- the texts that answer a line of this number that isn't too long, by these controllers before and after it
abbrev pub AnsweredByCells : Protocol → List Control → ℕ → List ℕ → List Control → List ℕ → Type 0
AnsweredByCells protocol controls number line controls_then text = HubAnswer (hub_of protocol (planned_cells controls)) number (Some line) text (hub_of protocol (planned_cells controls_then))

-- the closing line of the cell of a number
abbrev pub closing_of : ℕ → HubCell → List ℕ
closing_of number c = cell_prefix number ++ closing_line c.plan.planned c.cell

-- the closing lines of these cells, from a number on
abbrev pub closing_text : ℕ → List HubCell → List ℕ
closing_text number [] = []
closing_text number (c ∷ cells) = closing_of number c ++ closing_text (suc number) cells
