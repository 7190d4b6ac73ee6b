-- The names of the reasons for which a hub refuses a call.
use Rattle.std.specs.Prelude.{ℕ, List, codes}
use Rattle.cell_control.specs.ReasonNames.{reason_name}
use Rattle.cell_hub.specs.declared.hub_fault.HubFault.{HubFault}
use Rattle.cell_hub.specs.declared.hub_fault.HubFault.TheVariants.{NoSuchCell, SerialsSpent, Memory, Cell}

-- the name of the reason for which a call is refused, as it stands in a line
abbrev pub refusal_name : HubFault → List ℕ
refusal_name NoSuchCell = codes "NoSuchCell"
refusal_name SerialsSpent = codes "SerialsSpent"
refusal_name Memory = codes "Memory"
refusal_name (Cell reason) = reason_name reason
