use Rattle.command_answers.specs.Commands.{Itself}
use Rattle.command_answers.proofs.ShapedPlans.{failed, followed, line_of_first, refused}
use Rattle.command_answers.proofs.states.state_answer.Goals as goal

pub returns-in_err-shaped : goal.returns-in_err-shaped
returns-in_err-shaped g c =
    failed g.T.Texts.gives Itself _ _ c.args.texts.now c.shape_files.new.texts c.shape_files.result c.shape_files.ensures c.in_err-shaped.field-0.0 c.from_residual.result c.in_err-shaped.was c.from_residual.ensures.1

pub returns-in-Ok : goal.returns-in-Ok
returns-in-Ok g c =
    followed g.T.Texts.gives Itself _ _ c.args.texts.now c.shape_files.new.texts c.shape_files.result c.shape_files.ensures c.in_ok-shaped.field-0 c.in-Ok.shaped c.shaped_state.result c.shaped_state.new.texts c.in_ok-shaped.was c.in-Ok.is
    c.shaped_state.ensures

pub returns-in-Err : goal.returns-in-Err
returns-in-Err g c =
    refused g.T.Texts.gives Itself _ _ c.args.texts.now c.shape_files.new.texts c.shape_files.result c.shape_files.ensures c.in_ok-shaped.field-0 c.in-Err.fault c.unshaped_answer.result c.in_ok-shaped.was c.in-Err.is
    (λ q first. line_of_first q c.in-Err.fault c.unshaped_answer.result first c.unshaped_answer.ensures)
