-- A command is known by its word.
use Rattle.std.proofs.Common.{◌≡◌, ◌∙◌, if◌then◌else◌, ℕ, Option, None, Some, ap, codes, refl, subst, sym}
use Rattle.std.specs.Prelude.{bytes_eq}
use Rattle.clap.specs.Words.{Text}
use Rattle.command_words.specs.Choice.{TakesFiles, command_word_of}
use Rattle.command_words.specs.declared.words.CommandName.{CommandName}
use Rattle.command_words.specs.declared.words.CommandName.TheVariants.{Input, Facts, Shape, Check, Explain, Schedule, Bounds, Margin, Plan, Improve, Decide, Revise, Drive, Resume, Hub, Digest, Audit, State, Gantt}

abbrev command_of : Option Text → CommandName
command_of None = Input
command_of (Some word) = if bytes_eq word (codes "facts") then Facts
    else if bytes_eq word (codes "shape") then Shape
    else if bytes_eq word (codes "check") then Check
    else if bytes_eq word (codes "explain") then Explain
    else if bytes_eq word (codes "schedule") then Schedule
    else if bytes_eq word (codes "bounds") then Bounds
    else if bytes_eq word (codes "margin") then Margin
    else if bytes_eq word (codes "plan") then Plan
    else if bytes_eq word (codes "improve") then Improve
    else if bytes_eq word (codes "decide") then Decide
    else if bytes_eq word (codes "revise") then Revise
    else if bytes_eq word (codes "drive") then Drive
    else if bytes_eq word (codes "resume") then Resume
    else if bytes_eq word (codes "hub") then Hub
    else if bytes_eq word (codes "digest") then Digest
    else if bytes_eq word (codes "audit") then Audit
    else if bytes_eq word (codes "state") then State
    else Gantt

is_command_of : (name : CommandName) → command_of (command_word_of name) ≡ name
is_command_of Input = refl
is_command_of Facts = refl
is_command_of Shape = refl
is_command_of Check = refl
is_command_of Explain = refl
is_command_of Schedule = refl
is_command_of Bounds = refl
is_command_of Margin = refl
is_command_of Plan = refl
is_command_of Improve = refl
is_command_of Decide = refl
is_command_of Revise = refl
is_command_of Drive = refl
is_command_of Resume = refl
is_command_of Hub = refl
is_command_of Digest = refl
is_command_of Audit = refl
is_command_of State = refl
is_command_of Gantt = refl

-- what one takes the other takes, where they have one word
pub takes_same : (named name : CommandName) (word : Text) (many files : ℕ) → command_word_of named ≡ Some word → command_word_of name ≡ Some word → files ≡ many
    → TakesFiles named many → TakesFiles name files
takes_same named name word many files is same e takes =
    subst (λ (one : CommandName). TakesFiles one files) (sym (is_command_of named) ∙ ap command_of (is ∙ sym same) ∙ is_command_of name)
    (subst (TakesFiles named) (sym e) takes)
