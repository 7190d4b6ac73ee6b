use Rattle.std.proofs.Common.{true, refl, sym}
use Rattle.command_run.proofs.Choosing.{refused_status, shown_as}
use Rattle.command_run.proofs.program.end_shown.Goals as goal

pub returns : goal.returns
returns g c =
    rw (← c.devices.view_is) (record {
      outcome = _;
      mid = _;
      runs = record { shown = true; known = shown_as _ true _ _ (sym c.devices.view_is) c.requires.shown; by = (refl, refl, refl, (refl, refl)) };
      input = c.end_chosen-status.ensures.input;
      own = c.end_chosen-status.result;
      ends = c.end_chosen-status.ensures.ends;
      status_is = refused_status _ c.end_chosen-status.result;
    })
