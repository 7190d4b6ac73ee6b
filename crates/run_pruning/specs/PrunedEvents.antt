-- Whose each event of a run is, and the events without those of the jobs that don't stay.
use Rattle.std.specs.Prelude.{ℕ, List, [], ◌∷◌, Bool, Option, Some, slice_index, slice_set, if◌then◌else◌}
use Rattle.shop_base.specs.declared.report.Report.{Report, TheVariants.{Arrive, Finish, Clean}}
use Rattle.shop_base.specs.declared.move_order.Spot.{Spot, TheVariants.{Out, At}}
use Rattle.shop_base.specs.Run.{Event, Reported, Moved}
use Rattle.run_pruning.specs.Staying.{stays, new_number}

-- the job whose event it is, where a list says which job left each machine last: a cleaning is that job's
abbrev pub owner : List ℕ → Event → ℕ
owner left (Reported (Arrive job moment)) = job
owner left (Reported (Finish job machine moment)) = job
owner left (Reported (Clean machine moment)) = slice_index left machine
owner left (Moved o) = o.job

-- which job left each machine last, once the job has left a spot
abbrev pub left_spot : List ℕ → ℕ → Spot → List ℕ
left_spot left job Out = left
left_spot left job (At machine) = slice_set left machine job

-- and after an event
abbrev pub left_after : List ℕ → Event → List ℕ
left_after left (Reported r) = left
left_after left (Moved o) = left_spot left o.job o.source

-- the job whose the last event is, where `found` is that of the events before, if there are any
abbrev pub last_owner : Option ℕ → List ℕ → List Event → Option ℕ
last_owner found left [] = found
last_owner found left (e ∷ es) = last_owner (Some (owner left e)) (left_after left e) es

-- a report by the new number of its job
abbrev pub renamed_report : List Bool → Report → Report
renamed_report marks (Arrive job moment) = Arrive (new_number marks job) moment
renamed_report marks (Finish job machine moment) = Finish (new_number marks job) machine moment
renamed_report marks (Clean machine moment) = Clean machine moment

-- an event by the new number of its job
abbrev pub renamed : List Bool → Event → Event
renamed marks (Reported r) = Reported (renamed_report marks r)
renamed marks (Moved o) = Moved (record o { job = new_number marks o.job })

-- the events of the jobs that stay, by their new numbers
abbrev pub pruned_events : List Bool → List ℕ → List Event → List Event
pruned_events marks left [] = []
pruned_events marks left (e ∷ es) =
    if stays marks (owner left e) then renamed marks e ∷ pruned_events marks (left_after left e) es else pruned_events marks (left_after left e) es
