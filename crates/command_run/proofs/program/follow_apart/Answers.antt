use Rattle.std.proofs.Common.{List, ℕ, None, Option, false, ap, sym, refl}
use Rattle.command_run.specs.Program.{status_by}
use Rattle.command_run.proofs.Choosing.{shown_as, unlogged}
use Rattle.command_run.proofs.HeldLogs.{none_held}
use Rattle.command_run.proofs.program.follow_apart.Goals as goal

pub returns-in-None : goal.returns-in-None
returns-in-None g c =
    rw (← c.devices.view_is) (record {
      runs = none_held _ _ _ _ _ _ _ _ (record {
        outcome = c.command-outcome.result;
        mid = _;
        runs = record {
          shown = false;
          known = shown_as _ false _ _ (sym c.devices.view_is) c.requires.apart;
          by = unlogged g.T.Texts.gives c.args.chosen.now _ _ c.command-outcome.result _ (sym c.in-None.ensures) c.command-outcome.ensures (refl, refl);
        };
        input = c.end_chosen-status.ensures.input;
        own = c.end_chosen-status.result;
        ends = c.end_chosen-status.ensures.ends;
        status_is = ap (λ (k : Option (List ℕ)). status_by k None c.command-outcome.result c.end_chosen-status.result) c.in-None.ensures;
      });
    })
