-- The worked examples: shops, plans and runs.
use Rattle.std.specs.Prelude.{ℕ, true, false, List, [], ◌∷◌, ◌++◌, length, replicate, take, slice_index, slice_index_or, Option, None, Some}
use Rattle.shop_base.specs.declared.shop.Step.{Step}
use Rattle.shop_base.specs.declared.node.Node.{Node}
use Rattle.shop_base.specs.declared.report.Report.{Report}
use Rattle.shop_base.specs.Shop.{JobShop}
use Rattle.shop_base.specs.Plan.{PlannedShop}
use Rattle.shop_base.specs.Cell.{Cell}
use Rattle.shop_base.specs.declared.move_order.MoveOrder.{MoveOrder}
use Rattle.shop_base.specs.declared.move_order.Spot.{Spot}
use Rattle.shop_base.specs.declared.move_order.Spot.TheVariants.{Out, At}
use Rattle.shop_base.specs.Graph.{node}
use Rattle.shop_base.specs.Run.{Event, Reported, Moved, ends_in}
use Rattle.shop_base.specs.declared.report.Report.TheVariants.{Arrive, Finish, Clean}

-- a step on a machine, with its nominal time
abbrev pub on_for : ℕ → ℕ → Step
on_for m time = record { machine = m; nominal = time }

-- a plan with all releases 0
abbrev pub planned : JobShop → List ℕ → List (List ℕ) → Option (List ℕ) → PlannedShop
planned shop budget order clean = record {
  shop = shop;
  plan = record { release = replicate (length shop.routes) 0; budget = budget; order = order; clean = clean };
}

-- two jobs that visit two machines, in opposite directions
abbrev pub two_jobs : JobShop
two_jobs = record {
  machines = 2;
  recirculates = false;
  routes = (on_for 0 3 ∷ on_for 1 2 ∷ [])
      ∷ (on_for 1 4 ∷ on_for 0 1 ∷ [])
      ∷ [];
}

-- job 0 goes first on both machines
abbrev pub in_series : PlannedShop
in_series = planned two_jobs (5 ∷ 10 ∷ []) ((0 ∷ 1 ∷ []) ∷ (0 ∷ 1 ∷ []) ∷ []) None

-- the same, with 2 for the cleaning of machine 1
abbrev pub with_cleaning : PlannedShop
with_cleaning = planned two_jobs (5 ∷ 12 ∷ []) ((0 ∷ 1 ∷ []) ∷ (0 ∷ 1 ∷ []) ∷ []) (Some (0 ∷ 2 ∷ []))

-- the same, with more room in the budgets
abbrev pub with_room : PlannedShop
with_room = planned two_jobs (9 ∷ 20 ∷ []) ((0 ∷ 1 ∷ []) ∷ (0 ∷ 1 ∷ []) ∷ []) (Some (0 ∷ 2 ∷ []))

-- the plan in series without cleaning, where job 0 arrives at 3 at the latest, and job 1 at 1
abbrev pub with_releases : PlannedShop
with_releases = record {
  shop = two_jobs;
  plan = record { release = 3 ∷ 1 ∷ []; budget = 8 ∷ 13 ∷ []; order = (0 ∷ 1 ∷ []) ∷ (0 ∷ 1 ∷ []) ∷ []; clean = None };
}

-- each job goes first on the machine that it visits first
abbrev pub crossed : PlannedShop
crossed = planned two_jobs (100 ∷ 100 ∷ []) ((0 ∷ 1 ∷ []) ∷ (1 ∷ 0 ∷ []) ∷ []) None

-- three jobs that visit three machines in the same direction, one behind the other
abbrev pub in_flow : PlannedShop
in_flow = planned
    (record {
      machines = 3;
      recirculates = false;
      routes = (on_for 0 1 ∷ on_for 1 1 ∷ on_for 2 5 ∷ [])
          ∷ (on_for 0 1 ∷ on_for 1 1 ∷ on_for 2 1 ∷ [])
          ∷ (on_for 0 1 ∷ on_for 1 1 ∷ on_for 2 1 ∷ [])
          ∷ [];
    })
    (7 ∷ 8 ∷ 9 ∷ []) ((0 ∷ 1 ∷ 2 ∷ []) ∷ (0 ∷ 1 ∷ 2 ∷ []) ∷ (0 ∷ 1 ∷ 2 ∷ []) ∷ []) None

-- three jobs, each of which goes on to the machine that the next one visits first
abbrev pub in_ring : PlannedShop
in_ring = planned
    (record {
      machines = 3;
      recirculates = false;
      routes = (on_for 0 1 ∷ on_for 1 1 ∷ [])
          ∷ (on_for 1 1 ∷ on_for 2 1 ∷ [])
          ∷ (on_for 2 1 ∷ on_for 0 1 ∷ [])
          ∷ [];
    })
    (100 ∷ 100 ∷ 100 ∷ []) ((0 ∷ 2 ∷ []) ∷ (1 ∷ 0 ∷ []) ∷ (2 ∷ 1 ∷ []) ∷ []) None

-- job 0 is rinsed, goes on to a bath, and is rinsed again in the tank, which has to be cleaned for 6; job 1 is rinsed once
abbrev pub rinsing : PlannedShop
rinsing = planned
    (record { machines = 2; recirculates = true; routes = (on_for 0 3 ∷ on_for 1 2 ∷ on_for 0 3 ∷ []) ∷ (on_for 0 3 ∷ []) ∷ [] })
    (12 ∷ 21 ∷ []) ((0 ∷ 0 ∷ 1 ∷ []) ∷ (0 ∷ []) ∷ []) (Some (6 ∷ 0 ∷ []))

-- one job with one step, whose nominal time is 0
abbrev pub instant : PlannedShop
instant = planned (record { machines = 1; recirculates = false; routes = (on_for 0 0 ∷ []) ∷ [] }) (0 ∷ []) ((0 ∷ []) ∷ []) None

-- at moment t job j has arrived
abbrev pub arrive : ℕ → ℕ → Report
arrive t j = Arrive j t

-- at moment t the operation of job j on machine m has ended
abbrev pub finish : ℕ → ℕ → ℕ → Report
finish t j m = Finish j m t

-- at moment t machine m is clean
abbrev pub tidy : ℕ → ℕ → Report
tidy t m = Clean m t

-- the order that job j go from one place to another at moment t
abbrev pub go : ℕ → ℕ → Spot → Spot → MoveOrder
go t j from to = record { job = j; source = from; target = to; at = t }

-- the number of a node, from rows with one number per place of each job
abbrev pub number_in : List (List ℕ) → Node → ℕ
number_in rows v = slice_index (slice_index_or rows v.job []) v.place

-- the greatest length of a path to each node of the plan in series
abbrev pub series_moments : Node → ℕ
series_moments = number_in ((0 ∷ 3 ∷ 5 ∷ []) ∷ (5 ∷ 9 ∷ 10 ∷ []) ∷ [])

-- the same, with the cleaning of machine 1
abbrev pub cleaned_moments : Node → ℕ
cleaned_moments = number_in ((0 ∷ 3 ∷ 5 ∷ []) ∷ (7 ∷ 11 ∷ 12 ∷ []) ∷ [])

-- the deadlines of that plan with more room in the budgets
abbrev pub room_moments : Node → ℕ
room_moments = number_in ((4 ∷ 7 ∷ 9 ∷ []) ∷ (15 ∷ 19 ∷ 20 ∷ []) ∷ [])

-- the greatest lengths of the plan with the rinse tank: job 0 waits in the bath for the cleaning after its own visit
abbrev pub rinsing_moments : Node → ℕ
rinsing_moments = number_in ((0 ∷ 3 ∷ 9 ∷ 12 ∷ []) ∷ (18 ∷ 21 ∷ []) ∷ [])

-- the nodes of that plan, numbered along its arcs
abbrev pub rinsing_ranks : Node → ℕ
rinsing_ranks = number_in ((0 ∷ 1 ∷ 2 ∷ 3 ∷ []) ∷ (4 ∷ 5 ∷ []) ∷ [])

-- the greatest lengths without cleaning, with the releases
abbrev pub released_moments : Node → ℕ
released_moments = number_in ((3 ∷ 6 ∷ 8 ∷ []) ∷ (8 ∷ 12 ∷ 13 ∷ []) ∷ [])

-- the nodes of the plan in series, numbered along its arcs
abbrev pub series_ranks : Node → ℕ
series_ranks = number_in ((0 ∷ 1 ∷ 2 ∷ []) ∷ (3 ∷ 4 ∷ 5 ∷ []) ∷ [])

-- moments that fit the crossed plan, though it has a cycle
abbrev pub crossed_moments : Node → ℕ
crossed_moments = number_in ((0 ∷ 4 ∷ 6 ∷ []) ∷ (0 ∷ 4 ∷ 5 ∷ []) ∷ [])

-- the first operation ends at 2, before its nominal time
abbrev pub series_reports : List Report
series_reports = arrive 0 0 ∷ arrive 0 1 ∷ finish 2 0 0 ∷ finish 4 0 1 ∷ finish 8 1 1 ∷ finish 9 1 0 ∷ []

-- the controlled run of these reports, with the plan in series
abbrev pub series_log : List Event
series_log = Reported (arrive 0 0) ∷ Moved (go 0 0 Out (At 0))
    ∷ Reported (arrive 0 1)
    ∷ Reported (finish 2 0 0) ∷ Moved (go 2 0 (At 0) (At 1))
    ∷ Reported (finish 4 0 1) ∷ Moved (go 4 0 (At 1) Out) ∷ Moved (go 4 1 Out (At 1))
    ∷ Reported (finish 8 1 1) ∷ Moved (go 8 1 (At 1) (At 0))
    ∷ Reported (finish 9 1 0) ∷ Moved (go 9 1 (At 0) Out)
    ∷ []

-- the cell after the first n events of that run
abbrev pub series_after : ℕ → Cell
series_after n = ends_in in_series (take n series_log)

-- the cell at the end of that run
abbrev pub series_end : Cell
series_end = ends_in in_series series_log

-- the first operation ends at 4, past its due moment
abbrev pub late_reports : List Report
late_reports = arrive 0 0 ∷ arrive 0 1 ∷ finish 4 0 0 ∷ finish 6 0 1 ∷ finish 10 1 1 ∷ finish 11 1 0 ∷ []

-- the controlled run of these reports, with the same plan
abbrev pub late_log : List Event
late_log = Reported (arrive 0 0) ∷ Moved (go 0 0 Out (At 0))
    ∷ Reported (arrive 0 1)
    ∷ Reported (finish 4 0 0) ∷ Moved (go 4 0 (At 0) (At 1))
    ∷ Reported (finish 6 0 1) ∷ Moved (go 6 0 (At 1) Out) ∷ Moved (go 6 1 Out (At 1))
    ∷ Reported (finish 10 1 1) ∷ Moved (go 10 1 (At 1) (At 0))
    ∷ Reported (finish 11 1 0) ∷ Moved (go 11 1 (At 0) Out)
    ∷ []

-- the cell after the first n events of that run
abbrev pub late_after : ℕ → Cell
late_after n = ends_in in_series (take n late_log)

-- the cell at the end of that run
abbrev pub late_end : Cell
late_end = ends_in in_series late_log

-- the reports of a run in which job 1 is left waiting for a moment
abbrev pub waiting_reports : List Report
waiting_reports = arrive 0 0 ∷ arrive 0 1 ∷ finish 2 0 0 ∷ finish 4 0 1 ∷ finish 9 1 1 ∷ finish 10 1 0 ∷ []

-- the same plan, but job 1 enters machine 1 at 5, which is free since 4
abbrev pub waiting_log : List Event
waiting_log = take 7 series_log
    ++ Moved (go 5 1 Out (At 1))
    ∷ Reported (finish 9 1 1) ∷ Moved (go 9 1 (At 1) (At 0))
    ∷ Reported (finish 10 1 0) ∷ Moved (go 10 1 (At 0) Out)
    ∷ []

-- the cell after the first n events of that run
abbrev pub waiting_after : ℕ → Cell
waiting_after n = ends_in in_series (take n waiting_log)

-- the cell at the end of that run
abbrev pub waiting_end : Cell
waiting_end = ends_in in_series waiting_log

-- both jobs arrive, and end their first operations when they are due
abbrev pub crossed_reports : List Report
crossed_reports = arrive 0 0 ∷ arrive 0 1 ∷ finish 3 0 0 ∷ finish 4 1 1 ∷ []

-- with the crossed plan each job ends its first operation on the machine that the other visits next
abbrev pub crossed_log : List Event
crossed_log = Reported (arrive 0 0) ∷ Moved (go 0 0 Out (At 0))
    ∷ Reported (arrive 0 1) ∷ Moved (go 0 1 Out (At 1))
    ∷ Reported (finish 3 0 0)
    ∷ Reported (finish 4 1 1)
    ∷ []

-- the cell at the end of that run
abbrev pub crossed_end : Cell
crossed_end = ends_in crossed crossed_log

-- the two jobs exchange their machines
abbrev pub exchange : List Event
exchange = Moved (go 4 0 (At 0) (At 1)) ∷ Moved (go 4 1 (At 1) (At 0)) ∷ []

-- each activity ends when it is due: the first and the last operation of job 0 are both on the tank
abbrev pub rinsing_reports : List Report
rinsing_reports = arrive 0 0 ∷ arrive 0 1
    ∷ finish 3 0 0 ∷ finish 5 0 1 ∷ tidy 9 0
    ∷ finish 12 0 0 ∷ tidy 18 0
    ∷ finish 21 1 0 ∷ tidy 27 0 ∷ []

-- the controlled run of these reports, with that plan
abbrev pub rinsing_log : List Event
rinsing_log = Reported (arrive 0 0) ∷ Moved (go 0 0 Out (At 0))
    ∷ Reported (arrive 0 1)
    ∷ Reported (finish 3 0 0) ∷ Moved (go 3 0 (At 0) (At 1))
    ∷ Reported (finish 5 0 1)
    ∷ Reported (tidy 9 0) ∷ Moved (go 9 0 (At 1) (At 0))
    ∷ Reported (finish 12 0 0) ∷ Moved (go 12 0 (At 0) Out)
    ∷ Reported (tidy 18 0) ∷ Moved (go 18 1 Out (At 0))
    ∷ Reported (finish 21 1 0) ∷ Moved (go 21 1 (At 0) Out)
    ∷ Reported (tidy 27 0) ∷ []

-- the cell after the first n events of that run
abbrev pub rinsing_after : ℕ → Cell
rinsing_after n = ends_in rinsing (take n rinsing_log)

-- the cell at the end of that run
abbrev pub rinsing_end : Cell
rinsing_end = ends_in rinsing rinsing_log

-- each activity ends when it is due
abbrev pub flow_reports : List Report
flow_reports = arrive 0 0 ∷ arrive 0 1 ∷ arrive 0 2
    ∷ finish 1 0 0 ∷ finish 2 0 1 ∷ finish 2 1 0
    ∷ finish 3 1 1 ∷ finish 3 2 0 ∷ finish 7 0 2
    ∷ finish 8 1 2 ∷ finish 8 2 1 ∷ finish 9 2 2 ∷ []

-- the controlled run of these reports, with that plan
abbrev pub flow_log : List Event
flow_log = Reported (arrive 0 0) ∷ Moved (go 0 0 Out (At 0))
    ∷ Reported (arrive 0 1)
    ∷ Reported (arrive 0 2)
    ∷ Reported (finish 1 0 0) ∷ Moved (go 1 0 (At 0) (At 1)) ∷ Moved (go 1 1 Out (At 0))
    ∷ Reported (finish 2 0 1) ∷ Moved (go 2 0 (At 1) (At 2))
    ∷ Reported (finish 2 1 0) ∷ Moved (go 2 1 (At 0) (At 1)) ∷ Moved (go 2 2 Out (At 0))
    ∷ Reported (finish 3 1 1)
    ∷ Reported (finish 3 2 0)
    ∷ Reported (finish 7 0 2) ∷ Moved (go 7 0 (At 2) Out) ∷ Moved (go 7 1 (At 1) (At 2)) ∷ Moved (go 7 2 (At 0) (At 1))
    ∷ Reported (finish 8 1 2) ∷ Moved (go 8 1 (At 2) Out)
    ∷ Reported (finish 8 2 1) ∷ Moved (go 8 2 (At 1) (At 2))
    ∷ Reported (finish 9 2 2) ∷ Moved (go 9 2 (At 2) Out)
    ∷ []

-- the cell after the first n events of that run
abbrev pub flow_after : ℕ → Cell
flow_after n = ends_in in_flow (take n flow_log)

-- the cell at the end of that run
abbrev pub flow_end : Cell
flow_end = ends_in in_flow flow_log

-- a path of that plan: the first job up to its leaving, and then each other job from the last machine on
abbrev pub flow_path : List Node
flow_path = node 0 0 ∷ node 0 1 ∷ node 0 2 ∷ node 0 3 ∷ node 1 2 ∷ node 1 3 ∷ node 2 2 ∷ node 2 3 ∷ []

-- each activity ends when it is due, the cleanings too
abbrev pub cleaned_reports : List Report
cleaned_reports = arrive 0 0 ∷ arrive 0 1 ∷ finish 3 0 0 ∷ finish 5 0 1 ∷ tidy 7 1 ∷ finish 11 1 1 ∷ finish 12 1 0 ∷ tidy 13 1 ∷ []

-- the controlled run of these reports, with the plan in series and the cleaning of machine 1
abbrev pub cleaned_log : List Event
cleaned_log = Reported (arrive 0 0) ∷ Moved (go 0 0 Out (At 0))
    ∷ Reported (arrive 0 1)
    ∷ Reported (finish 3 0 0) ∷ Moved (go 3 0 (At 0) (At 1))
    ∷ Reported (finish 5 0 1) ∷ Moved (go 5 0 (At 1) Out)
    ∷ Reported (tidy 7 1) ∷ Moved (go 7 1 Out (At 1))
    ∷ Reported (finish 11 1 1) ∷ Moved (go 11 1 (At 1) (At 0))
    ∷ Reported (finish 12 1 0) ∷ Moved (go 12 1 (At 0) Out)
    ∷ Reported (tidy 13 1)
    ∷ []

-- the cell after the first n events of that run
abbrev pub cleaned_after : ℕ → Cell
cleaned_after n = ends_in with_cleaning (take n cleaned_log)

-- the cell at the end of that run
abbrev pub cleaned_end : Cell
cleaned_end = ends_in with_cleaning cleaned_log

-- most activities end past their due moments, each by its deadline, and the last cleaning, for which no job waits, at 100
abbrev pub slow_reports : List Report
slow_reports = arrive 0 0 ∷ arrive 0 1 ∷ finish 7 0 0 ∷ finish 9 0 1 ∷ tidy 15 1 ∷ finish 19 1 1 ∷ finish 20 1 0 ∷ tidy 100 1 ∷ []

-- the controlled run of these reports, with the plan with more room
abbrev pub slow_log : List Event
slow_log = Reported (arrive 0 0) ∷ Moved (go 0 0 Out (At 0))
    ∷ Reported (arrive 0 1)
    ∷ Reported (finish 7 0 0) ∷ Moved (go 7 0 (At 0) (At 1))
    ∷ Reported (finish 9 0 1) ∷ Moved (go 9 0 (At 1) Out)
    ∷ Reported (tidy 15 1) ∷ Moved (go 15 1 Out (At 1))
    ∷ Reported (finish 19 1 1) ∷ Moved (go 19 1 (At 1) (At 0))
    ∷ Reported (finish 20 1 0) ∷ Moved (go 20 1 (At 0) Out)
    ∷ Reported (tidy 100 1)
    ∷ []

-- the cell after the first n events of that run
abbrev pub slow_after : ℕ → Cell
slow_after n = ends_in with_room (take n slow_log)

-- the cell at the end of that run
abbrev pub slow_end : Cell
slow_end = ends_in with_room slow_log

-- moments that fit what is ahead after its first five events, at moment 8
abbrev pub slow_moments : Node → ℕ
slow_moments = number_in ((0 ∷ 7 ∷ 9 ∷ []) ∷ (11 ∷ 15 ∷ 16 ∷ []) ∷ [])

-- the first operation ends at 8, past its deadline, and the second at 9, before it is due
abbrev pub hasty_reports : List Report
hasty_reports = arrive 0 0 ∷ arrive 0 1 ∷ finish 8 0 0 ∷ finish 9 0 1 ∷ []

-- the controlled run of these reports, with the same plan
abbrev pub hasty_log : List Event
hasty_log = Reported (arrive 0 0) ∷ Moved (go 0 0 Out (At 0))
    ∷ Reported (arrive 0 1)
    ∷ Reported (finish 8 0 0) ∷ Moved (go 8 0 (At 0) (At 1))
    ∷ Reported (finish 9 0 1) ∷ Moved (go 9 0 (At 1) Out)
    ∷ []

-- the cell at the end of that run
abbrev pub hasty_end : Cell
hasty_end = ends_in with_room hasty_log

-- each activity ends when it is due, the arrivals too
abbrev pub released_reports : List Report
released_reports = arrive 1 1 ∷ arrive 3 0 ∷ finish 6 0 0 ∷ finish 8 0 1 ∷ finish 12 1 1 ∷ finish 13 1 0 ∷ []

-- the controlled run of these reports, with the plan in series and the releases
abbrev pub released_log : List Event
released_log = Reported (arrive 1 1)
    ∷ Reported (arrive 3 0) ∷ Moved (go 3 0 Out (At 0))
    ∷ Reported (finish 6 0 0) ∷ Moved (go 6 0 (At 0) (At 1))
    ∷ Reported (finish 8 0 1) ∷ Moved (go 8 0 (At 1) Out) ∷ Moved (go 8 1 Out (At 1))
    ∷ Reported (finish 12 1 1) ∷ Moved (go 12 1 (At 1) (At 0))
    ∷ Reported (finish 13 1 0) ∷ Moved (go 13 1 (At 0) Out)
    ∷ []

-- the cell at the end of that run
abbrev pub released_end : Cell
released_end = ends_in with_releases released_log

-- among them are reports of a machine that isn't being cleaned, of no machine of the shop, and of a moment past
abbrev pub refused_reports : List Report
refused_reports = arrive 0 0 ∷ arrive 0 1 ∷ finish 3 0 0 ∷ finish 5 0 1 ∷ tidy 5 0 ∷ tidy 5 2 ∷ tidy 4 1 ∷ tidy 8 1 ∷ []

-- their controlled run, with the same plan: the last report alone of the cleanings is possible, and it is late
abbrev pub refused_log : List Event
refused_log = take 7 cleaned_log ++ Reported (tidy 8 1) ∷ Moved (go 8 1 Out (At 1)) ∷ []

-- the cell after the first n events of that run
abbrev pub refused_after : ℕ → Cell
refused_after n = ends_in with_cleaning (take n refused_log)

-- the cell at the end of that run
abbrev pub refused_end : Cell
refused_end = ends_in with_cleaning refused_log

-- the job arrives, and its operation ends at once
abbrev pub instant_reports : List Report
instant_reports = arrive 0 0 ∷ finish 0 0 0 ∷ []

-- the controlled run of these reports
abbrev pub instant_log : List Event
instant_log = Reported (arrive 0 0) ∷ Moved (go 0 0 Out (At 0)) ∷ Reported (finish 0 0 0) ∷ Moved (go 0 0 (At 0) Out) ∷ []

-- the cell after the first n events of that run
abbrev pub instant_after : ℕ → Cell
instant_after n = ends_in instant (take n instant_log)

-- the cell at the end of that run
abbrev pub instant_end : Cell
instant_end = ends_in instant instant_log
