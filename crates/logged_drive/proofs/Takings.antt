-- A log whose torn end is cut off, and which gets the line of a plan.
use Rattle.std.proofs.Common.{◌≡◌, ℕ, List, Option, None, Some, IfSome, refl, sym, ap, ◌∙◌, subst}
use Rattle.run_journal.specs.WholeLines.{whole_lines}
use Rattle.logged_drive.specs.declared.recovered_log.RecoverFault.{RecoverFault, TheVariants.{Resume, NoTornEnd, File}}
use Rattle.logged_drive.specs.RecoveredLogs.{IsOfText, file_fault}

-- what is so of the lines to which it was cut
pub of_lines : (seen mid : Option (List ℕ)) (text : List ℕ) (P : List ℕ → Type 0) → IfSome seen (λ file. text ≡ file) → IfSome seen (λ file. mid ≡ Some (whole_lines file))
    → IfSome mid (λ file. file ≡ whole_lines text → P file) → IfSome seen (λ file. P (whole_lines file))
of_lines None mid text P read cut is = tt
of_lines (Some file) mid text P read cut is = (subst (λ (s : Option (List ℕ)). IfSome s (λ f. f ≡ whole_lines text → P f)) cut is) (sym (ap whole_lines read))

-- where the text is at fault, no call of the log has failed
of_text : (fault : RecoverFault) → IsOfText fault → None ≡ file_fault fault
of_text (Resume fault) is = refl
of_text (NoTornEnd lines) is = refl
of_text (File fault) is = absurd is

pub unfailed_by_text : (fault cause : RecoverFault) → fault ≡ cause → IsOfText cause → None ≡ file_fault fault
unfailed_by_text fault cause same is = of_text cause is ∙ sym (ap file_fault same)
