use Rattle.std.proofs.Common.{Ok, Err, ap, option_map, refl}
use Rattle.command_run.proofs.HeldLogs.{unopened_held}
use Rattle.command_run.proofs.KnownLogs.{found_in_folder, opened_found, path_known}
use Rattle.command_run.proofs.Readied.{readied_as}
use Rattle.command_run.proofs.readiness.ready_opened.Goals as goal

pub ready_found-requires-clause-found : goal.ready_found-requires-clause-found
ready_found-requires-clause-found g c =
    let had = c.in-Ok.ensures in
    opened_found g.L.Log.LogFile.seen g.L.Log.LogFile.crash_states g.L.Log.LogFile.fault g.L.Log.LogFile.written _ _ c.in-Ok.found had.opened had.text had.within had.durable had.unfailed had.unwritten had.known

pub returns-in-Ok : goal.returns-in-Ok
returns-in-Ok g c =
    let opened = c.in-Ok.ensures in
    readied_as _ _ _ _ _ _ _ _ c.ready_found.result c.ready_found.ensures
    (λ step is. record {
      opened = Ok (option_map (λ there. there.1) c.in-Ok.found);
      found = opened.found;
      drives = found_in_folder _ _ _ _ _ _ _ _ step c.in-Ok.found opened.opened is;
    })
    (λ output known had. path_known _ _ _ _ _ _ output c.in-Ok.found opened.opened opened.found known had)

pub returns-in-Err : goal.returns-in-Err
returns-in-Err g c = record {
  ready = tt;
  undriven = λ known before had. (
      let back = unopened_held g.L.Log.LogFile.seen g.L.Log.LogFile.crash_states g.L.Log.LogFile.fault g.L.Log.LogFile.written (g.L.Logs.folder c.args.logs.now) _ known _ _ c.in-Err.back.fault c.args.asked.path.now c.in-Err.back.log c.in-Err.ensures.unopened c.in-Err.ensures.unread in
      record {
        end = back.end;
        is = (back.driven, record { opened = Err c.in-Err.back.fault; found = tt; drives = (ap Err c.from.ensures, refl, back.why_is) });
        held = back.held;
      });
}
