-- The log that `revise` prints, by the parts of its text.
use Rattle.std.proofs.Common.{◌≡◌, ◌∙◌, ℕ, List, Option, None, Some, Bor, is_some, ap, refl}
use Rattle.std.specs.Option.{option_copied}
use Rattle.event_lines.specs.declared.run_digits.RunDigits.{RunDigits}
use Rattle.cell_tables.specs.declared.entry.Entry.{Entry}
use Rattle.run_log.specs.Digits.{digits_of}
use Rattle.log_chapters.specs.declared.parts.Origin.{Origin}
use Rattle.log_chapters.specs.Chapters.{chapter_text}
use Rattle.plan_revise.specs.declared.change.Change.{Change}
use Rattle.run_revising.specs.declared.next.NextRun.{NextRun}
use Rattle.command_answers.specs.Chapters.{origins_of, run_chapter}

-- a text that is lent is there as it is
pub still_there : (text : Option (Bor (List ℕ))) → is_some text ≡ is_some (option_copied text)
still_there None = refl
still_there (Some text) = refl

module _ (changes : List Change) (next : NextRun) where
  -- by what jobs were, the entries and the digits
  pub chapter_of : (text file plan : List ℕ) (names : Option (List ℕ)) (origins : List Origin) (entries : List Entry) (digits : RunDigits) → text ≡ chapter_text file plan names origins entries digits
      → origins ≡ origins_of changes next → entries ≡ next.entries.items → digits ≡ digits_of next.shaped.shop next.shaped.plan → text ≡ run_chapter file plan names changes next
  chapter_of text file plan names origins entries digits is one two three =
      is ∙ ap (λ (os : List Origin). chapter_text file plan names os entries digits) one ∙ ap (λ (es : List Entry). chapter_text file plan names (origins_of changes next) es digits) two
      ∙ ap (λ (d : RunDigits). chapter_text file plan names (origins_of changes next) next.entries.items d) three

  -- and by the texts
  pub chapter_by : (text file plan own_file own_plan : List ℕ) (names own_names : Option (List ℕ)) → text ≡ run_chapter file plan names changes next → file ≡ own_file → plan ≡ own_plan → names ≡ own_names
      → text ≡ run_chapter own_file own_plan own_names changes next
  chapter_by text file plan own_file own_plan names own_names is one two three = rw (← one, ← two, ← three) is
