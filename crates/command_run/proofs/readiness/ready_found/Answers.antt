use Rattle.std.proofs.Common.{None, Some, option_map, subst, refl}
use Rattle.event_lines.specs.declared.run_digits.RunDigits.{RunDigits}
use Rattle.run_journal.proofs.Fronts.{if_some-map}
use Rattle.command_run.specs.declared.misfits.Misfit.{Misfit}
use Rattle.command_run.specs.Misfits.{IsMisfit}
use Rattle.command_run.specs.Logs.{Found}
use Rattle.command_run.proofs.HeldLogs.{found_held, undriven_found}
use Rattle.command_run.proofs.Readied.{readied_as}
use Rattle.command_run.proofs.readiness.ready_found.Goals as goal

pub returns-in-Some : goal.returns-in-Some
returns-in-Some g c =
    let there = option_map (λ t. t.1) c.args.found in
    rw c.log_found.ensures (record {
      ready = tt;
      undriven = λ known before had. record {
        end = option_map Found there;
        is = (
          undriven_found there,
          record {
            run = c.run_found.result;
            parses = c.run_found.ensures;
            misfit = Some c.in-Some.misfit;
            is_misfit = subst (λ (d : RunDigits). IsMisfit c.args.asked.start c.run_found.result d c.in-Some.misfit) c.requires.digits c.in-Some.ensures;
            drives = (c.misfit_answer.ensures, record { same = refl; is = refl }, refl);
          },
        );
        held = found_held _ _ _ _ (g.L.Logs.folder c.args.logs.now) known _ _ c.args.found c.requires.found (if_some-map known (λ t is. (is.logs, is.in_folder)) had);
      };
    })

pub returns-in-None : goal.returns-in-None
returns-in-None g c = readied_as _ _ _ _ _ _ _ _ c.ready_fitting.result c.ready_fitting.ensures
    (λ step is. record {
      run = c.run_found.result;
      parses = c.run_found.ensures;
      misfit = None;
      is_misfit = subst (λ (d : RunDigits). (m : Misfit) → IsMisfit c.args.asked.start c.run_found.result d m → ⊥) c.requires.digits c.in-None.ensures;
      drives = is;
    })
    (λ output known had. had)
