-- The command line of the program, as `clap` reads it: its commands, with their options and files.
use Rattle.std.specs.Prelude.{◌≡◌, ℕ, List, [], ◌∷◌, Some, true, false, pos, codes, fold, map}
use Rattle.clap.specs.Lexer.{usize_max}
use Rattle.clap.specs.Words.{App, Rule, Shape, Text, app_of, new_rule}
use Rattle.clap.specs.Simple.{new_shape, with_subcommand}
use Rattle.clap.specs.declared.builder.command.Command.{Command}
use Rattle.clap.specs.declared.builder.command.Command.TheViews.{out-Command}
use Rattle.command_words.specs.declared.words.CommandName.{CommandName}
use Rattle.command_words.specs.declared.words.CommandName.TheVariants.{Input, Facts, Shape as ShapeName, Check, Explain, Schedule, Bounds, Margin, Plan, Improve, Decide, Revise, Drive, Resume, Hub, Digest, Audit, State, Gantt}
use Rattle.clap.specs.declared.builder.value_parser.ValueParser.TheVariants.{Signed}
use Rattle.clap.specs.declared.builder.action.ArgAction.TheVariants.{Append, SetTrue}

-- a file that has to be named, under the name that help gives it
abbrev pub file_rule : Text → Rule
file_rule name = record (new_rule name) { required = true }

-- an option with one value, as `--instance NAME`
abbrev pub option_rule : Text → Rule
option_rule name = record (new_rule name) { long = Some name; value_names = 1 }

-- an option with one value that may be used more than once, as `--scrap J`
abbrev pub repeated_rule : Text → Rule
repeated_rule name = record (option_rule name) { action = Some Append }

-- one plan file or more
abbrev pub plans_rule : Rule
plans_rule = record (file_rule (codes "PLAN")) {
  range = Some (record { start_inclusive = 1; end_inclusive = usize_max });
}

-- the most rounds of a search
abbrev pub most_rounds : ℕ
most_rounds = 1000

-- the greatest seed of a search's random numbers
abbrev pub greatest_seed : ℕ
greatest_seed = 1000000

-- `--rounds R`, a whole number from 0 to the most rounds, and 20 where it is left out
abbrev pub rounds_rule : Rule
rounds_rule = record (option_rule (codes "rounds")) {
  parser = Some (Signed (pos 0) (pos most_rounds));
  defaults = codes "20" ∷ [];
}

-- `--seed S`, a whole number from 0 to the greatest seed, and 0 where it is left out
abbrev pub seed_rule : Rule
seed_rule = record (option_rule (codes "seed")) {
  parser = Some (Signed (pos 0) (pos greatest_seed));
  defaults = codes "0" ∷ [];
}

-- the most choices of a complete search
abbrev pub most_choices : ℕ
most_choices = 1000000000

-- `--choices K`, a whole number from 1 to the most choices, and 200000 where it is left out
abbrev pub choices_rule : Rule
choices_rule = record (option_rule (codes "choices")) {
  parser = Some (Signed (pos 1) (pos most_choices));
  defaults = codes "200000" ∷ [];
}

-- a switch, as `--svg`
abbrev pub switch_rule : Text → Rule
switch_rule name = record (new_rule name) { long = Some name; action = Some SetTrue }

-- `--names NAMES`: the names of jobs and machines, and the clock
abbrev pub names_rule : Rule
names_rule = option_rule (codes "names")

-- `--least` or `--job J`, `--choices K` and names: what is asked besides the budgets, and how long is searched
abbrev pub decision_rules : List Rule
decision_rules = switch_rule (codes "least") ∷ option_rule (codes "job") ∷ choices_rule ∷ names_rule ∷ []

-- a command with `--instance NAME` and the instance's file, and what it takes besides
abbrev pub command : Text → List Rule → Shape
command name more = record (new_shape name) {
  rules = option_rule (codes "instance") ∷ file_rule (codes "FILE") ∷ more;
}

-- a command on an instance and a plan
abbrev pub plan_command : Text → List Rule → Shape
plan_command name more = command name (file_rule (codes "PLAN") ∷ more)

-- the latest moment
abbrev pub latest_moment : ℕ
latest_moment = 1000000000000

-- a command on an instance and a plan, or with `--after LOG` and `--at N` on the rest of a run of it, and what it takes besides
abbrev pub rest_command : Text → List Rule → Shape
rest_command name more = plan_command name (option_rule (codes "after") ∷ option_rule (codes "at") ∷ more)

-- `--at N`, `--until M=T` and `--add ROUTE`: the present moment, how long what goes on lasts, and the jobs that are added
abbrev pub lengthening_rules : List Rule
lengthening_rules = option_rule (codes "at") ∷ repeated_rule (codes "until") ∷ repeated_rule (codes "add") ∷ []

-- these, `--release R` and `--budget B`, which go with the `--add` before them or are of a job, `--name NAME`, and `--route J=ROUTE`
abbrev pub adding_rules : List Rule
adding_rules = option_rule (codes "at") ∷ repeated_rule (codes "until") ∷ repeated_rule (codes "add")
    ∷ repeated_rule (codes "release") ∷ repeated_rule (codes "budget") ∷ repeated_rule (codes "name") ∷ repeated_rule (codes "route") ∷ []

-- these, and `--scrap J`, `--down M`, which may be `--down M=T`, and `--file`: all that is changed in mid-run, and whether the instance is printed
abbrev pub changing_rules : List Rule
changing_rules = option_rule (codes "at") ∷ repeated_rule (codes "until") ∷ repeated_rule (codes "add")
    ∷ repeated_rule (codes "release") ∷ repeated_rule (codes "budget") ∷ repeated_rule (codes "name") ∷ repeated_rule (codes "route")
    ∷ repeated_rule (codes "scrap") ∷ repeated_rule (codes "down") ∷ switch_rule (codes "file") ∷ []

-- these, and `--all`, with `--forget`, names and `--hand-over`: whether all texts are printed, what of them, and of whose log
abbrev pub revising_rules : List Rule
revising_rules = option_rule (codes "at") ∷ repeated_rule (codes "until") ∷ repeated_rule (codes "add")
    ∷ repeated_rule (codes "release") ∷ repeated_rule (codes "budget") ∷ repeated_rule (codes "name") ∷ repeated_rule (codes "route")
    ∷ repeated_rule (codes "scrap") ∷ repeated_rule (codes "down") ∷ switch_rule (codes "file")
    ∷ switch_rule (codes "all") ∷ switch_rule (codes "forget") ∷ names_rule ∷ switch_rule (codes "hand-over") ∷ []

-- `--lines V` and `--leap S`: the version of the lines of a driven cell, and the longest time from one report to the next
abbrev pub driven_rules : List Rule
driven_rules = option_rule (codes "lines") ∷ option_rule (codes "leap") ∷ []

-- `--log LOG`, `--new`, `--continue` and `--hand-over`: the log that a driven cell keeps, and how it has to begin
abbrev pub log_rules : List Rule
log_rules = option_rule (codes "log") ∷ switch_rule (codes "new") ∷ switch_rule (codes "continue") ∷ switch_rule (codes "hand-over") ∷ []

-- these, `--at N`, the present moment of the run in it, and those of driven cells
abbrev pub kept_rules : List Rule
kept_rules = option_rule (codes "log") ∷ switch_rule (codes "new") ∷ switch_rule (codes "continue") ∷ switch_rule (codes "hand-over")
    ∷ option_rule (codes "at") ∷ driven_rules

-- the plans of several cells, and these options
abbrev pub hub_rules : List Rule
hub_rules = plans_rule ∷ option_rule (codes "lines") ∷ option_rule (codes "leap") ∷ []

-- a command on an instance, a plan and a log, and what it takes besides
abbrev pub log_command : Text → List Rule → Shape
log_command name more = plan_command name (file_rule (codes "LOG") ∷ more)

-- the program itself, which takes no word but a command, and has `--help` and `--version`
abbrev pub bare_program : Shape
bare_program = record (new_shape (codes "cellplan")) { disable_help_subcommand = true; has_version = true }

-- what each command takes; the form without words is the program itself
abbrev pub described : CommandName → Shape
described Input = bare_program
described Facts = command (codes "facts") []
described ShapeName = plan_command (codes "shape") []
described Check = rest_command (codes "check") []
described Explain = rest_command (codes "explain") (option_rule (codes "job") ∷ names_rule ∷ [])
described Schedule = rest_command (codes "schedule") (switch_rule (codes "svg") ∷ switch_rule (codes "moves") ∷ names_rule ∷ [])
described Bounds = plan_command (codes "bounds") (names_rule ∷ [])
described Margin = plan_command (codes "margin") (names_rule ∷ [])
described Plan = plan_command (codes "plan") (rounds_rule ∷ [])
described Improve = plan_command (codes "improve") (option_rule (codes "after") ∷ option_rule (codes "at") ∷ rounds_rule ∷ seed_rule ∷ [])
described Decide = rest_command (codes "decide") decision_rules
described Revise = log_command (codes "revise") revising_rules
described Drive = plan_command (codes "drive") kept_rules
described Resume = log_command (codes "resume") (option_rule (codes "at") ∷ driven_rules)
described Hub = command (codes "hub") hub_rules
described Digest = plan_command (codes "digest") []
described Audit = log_command (codes "audit") []
described State = log_command (codes "state") (option_rule (codes "at") ∷ names_rule ∷ [])
described Gantt = log_command (codes "gantt") (switch_rule (codes "svg") ∷ names_rule ∷ [])

-- a command line of one command alone
abbrev pub leaf : Shape → App
leaf s = record { top = s; subs = [] }

-- the program with these commands, of which one is used or none
abbrev pub program_with : List CommandName → App
program_with names = fold with_subcommand (leaf bare_program) (map described names)

-- the whole command line, with the commands in the order in which help lists them
abbrev pub command_line : App
command_line = program_with
    (Facts ∷ ShapeName ∷ Check ∷ Explain ∷ Schedule ∷ Bounds ∷ Margin ∷ Plan ∷ Improve
    ∷ Decide ∷ Revise ∷ Drive ∷ Resume ∷ Hub ∷ Digest ∷ Audit ∷ State ∷ Gantt ∷ [])

-- the command that the code builds is the described one
pub record Describes (a : App) (c : Command) : Type 0 where
  pub app : app_of c ≡ a
  pub local : (out-Command c).has_globals ≡ false
