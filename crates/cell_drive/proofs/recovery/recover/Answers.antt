use Rattle.std.proofs.Common.{◌≡◌, []}
use Rattle.std.proofs.lemmas.Result.{IfErr-weaker}
use Rattle.text_lines.specs.Lines.{ended_lines}
use Rattle.cell_drive.specs.ResumeFaults.{IsStartRefusal}
use Rattle.cell_drive.specs.declared.resume_fault.ResumeFault.TheVariants.{Run, Memory}
use Rattle.cell_drive.proofs.{OneFault.only_run_fault, Recovering.{refused_by_lines, only_memory}}
use Rattle.cell_drive.proofs.recovery.recover.Goals as goal

pub returns-in-Ok-Ok-clause-only : goal.returns-in-Ok-Ok-clause-only
returns-in-Ok-Ok-clause-only c low can =
    let p = c.args.shaped in
    let lines = ended_lines c.args.text.now in
    let run = c.in-Ok-Ok.run' in
    let plan = rw c.in-Ok-Ok.field-0-is at c.in-Ok-Ok.ensures.plan in
    let at_present = rw c.in-Ok-Ok.field-0-is at c.in-Ok-Ok.ensures.run in
    let fault = rw plan at c.recover_run.ensures.fault in
    IfErr-weaker c.recover_run.result (IsStartRefusal p (run.entries.items ≡ [])) (λ fault. fault ≡ Memory)
    (λ fault is. only_memory p lines c.args.at fault low (refused_by_lines p lines c.args.at run.rest.cell run.entries.items run.rest.present at_present fault is) can) fault

pub returns-in-Ok-Err-clause-only_fault : goal.returns-in-Ok-Err-clause-only_fault
returns-in-Ok-Err-clause-only_fault c = only_run_fault c.args.shaped (ended_lines c.args.text.now) c.args.at c.in-Ok-Err.fault (rw c.in-Ok-Err.field-0-is at c.in-Ok-Err.ensures.fault)

pub returns-in-Ok-Err-clause-only : goal.returns-in-Ok-Err-clause-only
returns-in-Ok-Err-clause-only c low can = only_memory c.args.shaped (ended_lines c.args.text.now) c.args.at (Run c.in-Ok-Err.fault) low (rw c.in-Ok-Err.field-0-is at c.in-Ok-Err.ensures.fault) can
