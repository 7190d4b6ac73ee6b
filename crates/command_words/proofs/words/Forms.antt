-- What some options ask for, one after another, and why one of their values is refused.
use Rattle.std.proofs.Common.{◌≡◌, ◌∙◌, ◌+◌, ◌<◌, ◌≤◌, ◌++◌, ℕ, List, [], ◌∷◌, add-one, ap, append-nil, append_assoc, drop, get_or, length, subst, sym}
use Rattle.std.proofs.Math.Seq.{drop-cons}
use Rattle.std.proofs.lemmas.List.{drop_all}
use Rattle.clap.specs.Kinds.{or_else}
use Rattle.clap.specs.Words.{Kinds, Row}
use Rattle.command_words.specs.Changes.{Seen, asked_by, asked_of, form_misfit, misfit_by}
use Rattle.command_words.specs.Choice.{NamesOneOf}
use Rattle.command_words.specs.declared.words.WordsFault.{WordsFault}
use Rattle.command_words.specs.declared.words.changes.ChangeForm.{ChangeForm}
use Rattle.command_words.specs.declared.words.called.NameOwner.{NameOwner}
use Rattle.command_words.proofs.words.Reasons.{names_first}

-- ---- one option more, and the last one

from_form : (forms : List ChangeForm) (i : ℕ) (d : ChangeForm) → i < length forms → drop i forms ≡ get_or forms i d ∷ drop (i + 1) forms
from_form forms i d inside = rw add-one (drop-cons forms i d inside)

module _ (released promised : List ℕ) (called : List NameOwner) (rows : List Row) (forms : List ChangeForm) (i : ℕ) where
  pub next_asked : (d : ChangeForm) (old new all : List Seen) → i < length forms → new ≡ old ++ asked_by released promised called rows (get_or forms i d)
      → old ++ asked_of released promised called rows (drop i forms) ≡ all → new ++ asked_of released promised called rows (drop (i + 1) forms) ≡ all
  next_asked d old new all inside added so_far =
      let rest = asked_of released promised called rows (drop (i + 1) forms) in
      ap (λ (asked : List Seen). asked ++ rest) added
      ∙ append_assoc old (asked_by released promised called rows (get_or forms i d)) rest
      ∙ ap (λ (left : List ChangeForm). old ++ asked_of released promised called rows left) (sym (from_form forms i d inside))
      ∙ so_far

  pub last_asked : (old all : List Seen) → length forms ≤ i → old ++ asked_of released promised called rows (drop i forms) ≡ all → old ≡ all
  last_asked old all outside so_far =
      sym (append-nil old) ∙ ap (λ (left : List ChangeForm). old ++ asked_of released promised called rows left) (sym (drop_all i forms outside)) ∙ so_far

module _ (rows : List Row) (forms : List ChangeForm) (i : ℕ) where
  pub next_fits : (d : ChangeForm) → i < length forms → form_misfit rows (get_or forms i d) ≡ []
      → misfit_by rows (drop i forms) ≡ misfit_by rows forms → misfit_by rows (drop (i + 1) forms) ≡ misfit_by rows forms
  next_fits d inside fits so_far =
      sym (ap (λ (kinds : Kinds). or_else kinds (misfit_by rows (drop (i + 1) forms))) fits)
      ∙ ap (misfit_by rows) (sym (from_form forms i d inside))
      ∙ so_far

  pub last_fits : length forms ≤ i → misfit_by rows (drop i forms) ≡ misfit_by rows forms → misfit_by rows forms ≡ []
  last_fits outside so_far = sym so_far ∙ ap (misfit_by rows) (drop_all i forms outside)

  pub form_refused : (d : ChangeForm) (fault : WordsFault) → i < length forms → misfit_by rows (drop i forms) ≡ misfit_by rows forms
      → NamesOneOf (form_misfit rows (get_or forms i d)) fault → NamesOneOf (misfit_by rows forms) fault
  form_refused d fault inside so_far refused =
      subst (λ (kinds : Kinds). NamesOneOf kinds fault) (sym (ap (misfit_by rows) (from_form forms i d inside)) ∙ so_far)
      (names_first _ (misfit_by rows (drop (i + 1) forms)) fault refused)
