-- A command that is given no names.
use Rattle.std.proofs.Common.{◌≡◌, ℕ, List, None, Result, Ok, Err, subst}
use Rattle.shop_base.specs.Plan.{PlannedShop}
use Rattle.people_names.specs.NameBooks.{NameBook, no_names}
use Rattle.command_answers.specs.declared.command_fault.CommandFault.{CommandFault}
use Rattle.command_answers.specs.Steps.{AndThen, Then}
use Rattle.command_answers.specs.Naming.{ReadsNames}

module _ {W B : Type 0} (next : NameBook → W → Result B CommandFault → W → Type 0) (before after : W) (outcome : Result B CommandFault) where
  goes_on : (came : Result NameBook CommandFault) (mid : W) → came ≡ Ok no_names → mid ≡ before → AndThen next came mid outcome after → next no_names before outcome after
  goes_on (Ok book) mid none same on =
      let is_none : book ≡ no_names = cc none in
      subst (λ (b : NameBook). next b before outcome after) is_none (subst (λ (w : W). next book w outcome after) same on)
  goes_on (Err fault) mid none same on = absurd (cc none)

  -- what follows where no file of names is given
  pub unnamed : (gives : W → List ℕ → Result (List ℕ) CommandFault → W → Type 0) (p : PlannedShop) → Then (ReadsNames gives None p) next before outcome after → next no_names before outcome after
  unnamed gives p run = goes_on run.came run.mid run.is.0 run.is.1 run.goes_on
