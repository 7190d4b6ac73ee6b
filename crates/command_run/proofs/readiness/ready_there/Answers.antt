use Rattle.std.proofs.Common.{◌≡◌, ◌∙◌, [], true, false, Some, sym, refl}
use Rattle.run_journal.proofs.Fronts.{if_some-at}
use Rattle.command_run.proofs.KnownLogs.{bytes_written, empty_begins, empty_found, new_known, old_known}
use Rattle.command_run.proofs.Readied.{readied_as}
use Rattle.command_run.proofs.readiness.ready_there.Goals as goal

pub ready_new-requires-clause-empty : goal.ready_new-requires-clause-empty
ready_new-requires-clause-empty g c = empty_found _ _ _ _ _ c.args.text (c.is_empty.ensures.0 c.if-is_empty.true) c.requires.found

pub returns-then-is_empty : goal.returns-then-is_empty
returns-then-is_empty g c =
    let empty = c.is_empty.ensures.0 c.if-is_empty.true in
    readied_as _ _ _ _ _ _ _ _ c.ready_new.result c.ready_new.ensures
    (λ step is. empty_begins _ _ _ _ _ _ step c.args.text empty is)
    (λ output known had. new_known _ _ _ _ output known c.args.text empty had.is)

pub returns : goal.returns
returns g c =
    let bytes : c.args.text ≡ [] → ⊥ = λ empty. (let both : true ≡ false = sym (c.is_empty.ensures.1 empty) ∙ c.if-is_empty.false in absurd (cc both)) in
    readied_as _ _ _ _ _ _ _ _ c.ready_recovered.result c.ready_recovered.ensures
    (λ step is. bytes_written _ _ _ _ _ _ step c.args.text bytes is refl)
    (λ output known had. (
      if_some-at (g.L.Logs.folder c.args.logs.now).logs had.logs (λ _. g.L.Log.LogFile.seen c.args.log ≡ Some c.args.text) had.in_folder c.requires.found.known,
      old_known _ _ _ _ output known c.args.text bytes had.is,
    ))
