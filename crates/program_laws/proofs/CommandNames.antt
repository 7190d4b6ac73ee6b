-- Two commands that have one word are one.
use Rattle.std.proofs.Common.{◌≡◌, ◌∙◌, if◌then◌else◌, ℕ, List, Option, None, Some, ap, codes, refl, sym}
use Rattle.std.specs.Prelude.{bytes_eq}
use Rattle.command_words.specs.Choice.{command_word_of}
use Rattle.command_words.specs.declared.words.CommandName.{CommandName}
use Rattle.command_words.specs.declared.words.CommandName.TheVariants.{Input, Facts, Shape, Check, Explain, Schedule, Bounds, Margin, Plan, Improve, Decide, Revise, Drive, Resume, Hub, Digest, Audit, State, Gantt}

-- the command of a word
abbrev command_of : Option (List ℕ) → CommandName
command_of None = Input
command_of (Some word) = if bytes_eq word (codes "facts") then Facts
    else if bytes_eq word (codes "shape") then Shape
    else if bytes_eq word (codes "check") then Check
    else if bytes_eq word (codes "explain") then Explain
    else if bytes_eq word (codes "schedule") then Schedule
    else if bytes_eq word (codes "bounds") then Bounds
    else if bytes_eq word (codes "margin") then Margin
    else if bytes_eq word (codes "plan") then Plan
    else if bytes_eq word (codes "improve") then Improve
    else if bytes_eq word (codes "decide") then Decide
    else if bytes_eq word (codes "revise") then Revise
    else if bytes_eq word (codes "drive") then Drive
    else if bytes_eq word (codes "resume") then Resume
    else if bytes_eq word (codes "hub") then Hub
    else if bytes_eq word (codes "digest") then Digest
    else if bytes_eq word (codes "audit") then Audit
    else if bytes_eq word (codes "state") then State
    else Gantt

-- each command is that of its word
is_command_of : (name : CommandName) → command_of (command_word_of name) ≡ name
is_command_of Input = refl
is_command_of Facts = refl
is_command_of Shape = refl
is_command_of Check = refl
is_command_of Explain = refl
is_command_of Schedule = refl
is_command_of Bounds = refl
is_command_of Margin = refl
is_command_of Plan = refl
is_command_of Improve = refl
is_command_of Decide = refl
is_command_of Revise = refl
is_command_of Drive = refl
is_command_of Resume = refl
is_command_of Hub = refl
is_command_of Digest = refl
is_command_of Audit = refl
is_command_of State = refl
is_command_of Gantt = refl

pub same_command : (name other : CommandName) → command_word_of name ≡ command_word_of other → name ≡ other
same_command name other same = sym (is_command_of name) ∙ ap command_of same ∙ is_command_of other
