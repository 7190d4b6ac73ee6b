-- How a described command line grows.
use Rattle.std.proofs.Common.{◌≡◌, false, ◌∙◌, ◌<◌, ◌+◌, ◌++◌, ◌||◌, ℕ, List, [], ◌∷◌, ap, ap₂, refl, sym, subst, length, take, get_or, map}
use Rattle.std.specs.Prelude.{fold}
use Rattle.std.proofs.lemmas.List.{take_more}
use Rattle.clap.specs.Words.{AddsArg, AddsSubcommand, App, Rule, Shape, rule_of, with_rule, with_subcommand}
use Rattle.clap.specs.declared.builder.arg.Arg.{Arg}
use Rattle.clap.specs.declared.builder.command.Command.{Command}
use Rattle.command_words.specs.CommandLine.{Describes, described, leaf, program_with}
use Rattle.command_words.specs.declared.words.CommandName.{CommandName}

-- with one argument more
pub one_more : (a : App) (r : Rule) (old : Command) (arg : Arg) (new : Command) → Describes a old → rule_of arg ≡ r
    → arg.global ≡ false → AddsArg old arg new → Describes (with_rule a r) new
one_more a r old arg new d same local h = record {
  app = h.shape local ∙ ap₂ with_rule d.app same;
  local = h.globals ∙ ap₂ (λ x y. x || y) d.local local;
}

-- with one command more
pub with_command : (a : App) (s : Shape) (old sub new : Command) → Describes a old → Describes (leaf s) sub → AddsSubcommand old sub new
    → Describes (with_subcommand a s) new
with_command a s old sub new d e h = record {
  app = h.shape e.local ∙ ap₂ with_subcommand d.app (ap (λ (x : App). x.top) e.app);
  local = h.globals ∙ ap₂ (λ x y. x || y) d.local e.local;
}

push : (a : App) (names : List CommandName) (name : CommandName)
    → fold with_subcommand a (map described (names ++ name ∷ [])) ≡ with_subcommand (fold with_subcommand a (map described names)) (described name)
push a [] name = refl
push a (x ∷ xs) name = push (with_subcommand a (described x)) xs name

-- one command more of those in the list
pub next_command : (names : List CommandName) (i : ℕ) (d : CommandName) (new : Command) → i < length names
    → Describes (with_subcommand (program_with (take i names)) (described (get_or names i d))) new → Describes (program_with (take (i + 1) names)) new
next_command names i d new lt more =
    let same : program_with (take (i + 1) names) ≡ with_subcommand (program_with (take i names)) (described (get_or names i d)) =
    ap program_with (take_more names i d lt) ∙ push _ (take i names) (get_or names i d) in
    subst (λ (a : App). Describes a new) (sym same) more
