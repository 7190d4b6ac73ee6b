use Rattle.std.proofs.Common.{None, Result, Ok, Err, sym, subst, refl}
use Rattle.shop_base.specs.declared.shape_fault.ShapeFault.{ShapeFault}
use Rattle.shop_base.specs.Plan.{PlannedShop}
use Rattle.command_answers.specs.Commands.{Shapes}
use Rattle.command_run.specs.Logs.{DrivesShaped, step_of}
use Rattle.command_run.proofs.HeldLogs.{none_held}
use Rattle.command_run.proofs.Readied.{readied_as}
use Rattle.command_run.proofs.readiness.ready_run.Goals as goal

pub returns-in-Ok-Ok : goal.returns-in-Ok-Ok
returns-in-Ok-Ok g c =
    let asked = c.args.asked in
    let came = c.in-Ok-Ok.field-0 in
    let mid = c.shape_files.new.texts in
    readied_as _ _ _ _ _ _ _ _ c.ready_shaped.result c.ready_shaped.ensures
    (λ step is. record {
      shaped = Ok came;
      shapes = c.in-Ok-Ok.ensures;
      drives = subst (λ (s : Result PlannedShop ShapeFault). DrivesShaped (g.L.Logs.folder c.args.logs.now) (g.L.Logs.folder c.ready_shaped.new.logs) asked.path.now asked.start asked.protocol asked.at (Ok s) step)
          (sym c.in-Ok-Ok.field-0-is) is;
    })
    (λ output known had. had c.in-Ok-Ok.shaped mid (subst (λ (s : Result PlannedShop ShapeFault). Shapes g.T.Texts.gives c.args.inputs.now c.args.texts.now (Ok s) mid) c.in-Ok-Ok.field-0-is c.in-Ok-Ok.ensures))

pub returns-in-Ok-Err : goal.returns-in-Ok-Err
returns-in-Ok-Err g c =
    let folder = g.L.Logs.folder c.args.logs.now in
    let asked = c.args.asked in
    record {
      ready = tt;
      undriven = λ known before had. none_held _ _ _ _ _ _ _ _ (
        refl,
        record {
          shaped = Ok c.in-Ok-Err.field-0;
          shapes = c.in-Ok-Err.ensures;
          drives = subst (λ (s : Result PlannedShop ShapeFault). DrivesShaped folder folder asked.path.now asked.start asked.protocol asked.at (Ok s) (step_of before c.line_answer.result before None)) (sym c.in-Ok-Err.field-0-is)
              (c.line_answer.ensures, record { same = refl; is = refl }, refl);
        },
      );
    }

pub returns-in-Err : goal.returns-in-Err
returns-in-Err g c = record {
  ready = tt;
  undriven = λ known before had. none_held _ _ _ _ _ _ _ _ (
    refl,
    record { shaped = Err c.in-Err.fault; shapes = c.in-Err.ensures; drives = (refl, record { same = refl; is = refl }, refl) },
  );
}
