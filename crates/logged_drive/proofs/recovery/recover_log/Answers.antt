use Rattle.std.proofs.{Common.{◌∙◌, refl}, lemmas.Result.err_from_is_err_and}
use Rattle.logged_drive.proofs.Takings.{unfailed_by_text}
use Rattle.logged_drive.proofs.recovery.recover_log.Goals as goal

pub returns-in_err-recovered-clause-untouched : goal.returns-in_err-recovered-clause-untouched
returns-in_err-recovered-clause-untouched g c = let p = err_from_is_err_and c.from_residual.result c.from_residual.ensures.1 in rw p.1 (λ of_text. refl)

pub returns-in_err-recovered-clause-known : goal.returns-in_err-recovered-clause-known
returns-in_err-recovered-clause-known g c =
    let p = err_from_is_err_and c.from_residual.result c.from_residual.ensures.1 in
    rw p.1 (c.requires.unfailed ∙ unfailed_by_text _ _ p.2 c.in_err-recovered.ensures.of_text)

pub returns-in_err-recovered-2-clause-untouched : goal.returns-in_err-recovered-2-clause-untouched
returns-in_err-recovered-2-clause-untouched g c =
    let p = err_from_is_err_and c.from_residual-in_err-recovered-2.result c.from_residual-in_err-recovered-2.ensures.1 in
    rw p.1 (λ of_text. refl)

pub returns-in_err-recovered-2-clause-known : goal.returns-in_err-recovered-2-clause-known
returns-in_err-recovered-2-clause-known g c =
    let p = err_from_is_err_and c.from_residual-in_err-recovered-2.result c.from_residual-in_err-recovered-2.ensures.1 in
    rw p.1 (c.requires.unfailed ∙ unfailed_by_text _ _ (p.2 ∙ c.in_err-recovered-2.ensures.memory) tt)
