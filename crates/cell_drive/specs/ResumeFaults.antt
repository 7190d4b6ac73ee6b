-- Why a run isn't recovered from its log.
use Rattle.std.specs.Prelude.{◌≡◌, ℕ, ◌≤◌, List, [], Option, unwrap_or}
use Rattle.shop_base.specs.{Plan.PlannedShop, Run.IsRun}
use Rattle.alt_graph.specs.Evidence.{IsCycle}
use Rattle.plan_verifier.specs.{declared.verdict.Why.Why, Verdicts.IsReason}
use Rattle.plan_verifier.specs.declared.verdict.Why.TheVariants.{Cycle, Late}
use Rattle.cell_tables.specs.{declared.entry.Entry.Entry, Events.events_of}
use Rattle.event_lines.specs.LogLines.{LinesParse}
use Rattle.run_log.specs.{declared.audit_fault.AuditFault.AuditFault, Audits.IsFirstBad, Present.IsRunFault}
use Rattle.run_log.specs.declared.present_run.RunFault.TheVariants.{Log}
use Rattle.cell_control.specs.declared.rest_fault.RestFault.{RestFault}
use Rattle.cell_control.specs.declared.rest_fault.RestFault.TheVariants.{Cycle as CycleOfRest, Memory as MemoryOfRest}
use Rattle.cell_drive.specs.{OneRun.cell_after, declared.resume_fault.ResumeFault.ResumeFault}
use Rattle.cell_drive.specs.declared.resume_fault.ResumeFault.TheVariants.{Run, Refused, Memory}

-- the fault of a rest of this plan that isn't driven
abbrev pub undriven_fault : RestFault → PlannedShop → ResumeFault
undriven_fault (CycleOfRest nodes) p = Refused p (Cycle nodes)
undriven_fault MemoryOfRest p = Memory

-- by this reason a plan is refused: a cycle always, a late job where its run only starts
abbrev pub IsRefusedFor : PlannedShop → Type 0 → Why → Type 0
IsRefusedFor p Starts (Cycle nodes) = IsCycle p nodes.items
IsRefusedFor p Starts (Late job leaves chain times) = Starts × IsReason p (Late job leaves chain times)

-- out of memory, or the plan is refused, and comes back
abbrev pub IsStartRefusal : PlannedShop → Type 0 → ResumeFault → Type 0
IsStartRefusal p Starts (Run fault) = ⊥
IsStartRefusal p Starts (Refused back why) = (back ≡ p) × IsRefusedFor p Starts why
IsStartRefusal p Starts Memory = Unit {0}

-- the plan is refused where its run goes on behind these events, at a moment that isn't before their last one
abbrev pub IsRunRefusal : PlannedShop → List Entry → Option ℕ → ResumeFault → Type 0
IsRunRefusal p recorded at fault = ((cell_after p recorded).last ≤ unwrap_or at (cell_after p recorded).last) × IsStartRefusal p (recorded ≡ []) fault

-- out of memory; or there is no run up to the present moment; or the lines record one, and the plan is refused
abbrev pub IsResumeFault : PlannedShop → List (List ℕ) → Option ℕ → ResumeFault → Type 0
IsResumeFault p lines at Memory = Unit {0}
IsResumeFault p lines at (Run fault) = IsRunFault lines at p fault
IsResumeFault p lines at (Refused back why) = (recorded : List Entry) × LinesParse p lines recorded × IsRun p (events_of recorded) × IsRunRefusal p recorded at (Refused back why)

-- where this is the fault of the log, no other is the first of its lines
abbrev pub IsOnlyLogFault : PlannedShop → List (List ℕ) → ResumeFault → Type 0
IsOnlyLogFault p lines (Run (Log fault)) = (other : AuditFault) → IsFirstBad p lines other → other ≡ fault
IsOnlyLogFault p lines fault = Unit {0}
