-- What is said where a reason to refuse the matches is found, and where it isn't.
use Rattle.std.proofs.Common.{◌≡◌, Bool, true, false, [], ◌∷◌, Result, IfOk, IfErr, subst, sym}
use Rattle.std.proofs.lemmas.Bool.{cond-true, cond-false}
use Rattle.clap.specs.Words.{Kinds}
use Rattle.clap.specs.declared.error.kind.ErrorKind.{ErrorKind}
use Rattle.command_words.specs.Choice.{NamesOneOf, refused_if}
use Rattle.command_words.specs.declared.words.WordsFault.{WordsFault}

module _ (is : Bool) (kind : ErrorKind) (others : Kinds) where
  pub found_so : is ≡ true → refused_if is kind others ≡ kind ∷ []
  found_so so = cond-true is (kind ∷ []) others so

  pub found_not : is ≡ false → refused_if is kind others ≡ others
  found_not isnt = cond-false is (kind ∷ []) others isnt

  pub fits_apart : {A : Type 0} (read : Result A WordsFault) → is ≡ false → IfOk read (λ _. others ≡ []) → IfOk read (λ _. refused_if is kind others ≡ [])
  fits_apart read isnt fits = subst (λ (kinds : Kinds). IfOk read (λ _. kinds ≡ [])) (sym (found_not isnt)) fits

  pub refused_apart : {A : Type 0} (read : Result A WordsFault) → is ≡ false → IfErr read (NamesOneOf others) → IfErr read (NamesOneOf (refused_if is kind others))
  refused_apart read isnt refused = subst (λ (kinds : Kinds). IfErr read (NamesOneOf kinds)) (sym (found_not isnt)) refused
