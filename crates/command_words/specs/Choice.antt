-- What the words of a command line ask for, by the matches that `clap` finds in them.
use Rattle.std.specs.Prelude.{◌≡◌, ◌≢◌, ◌≤◌, ◌++◌, ◌&&◌, ◌||◌, ◌==◌, ℕ, if◌then◌else◌, Bool, true, false, List, [], ◌∷◌, Option, Some, None, IfSome, String, bytes_eq, length, map, option_map, is_some, not, pos, codes}
use Rattle.std.specs.List.{list_any}
use Rattle.std.specs.Option.{option_map_or}
use Rattle.std.specs.String.{string_bytes}
use Rattle.std.specs.declared.alloc.Global.{Global}
use Rattle.std.specs.Str.Parse.{digits_value, without_leading_plus}
use Rattle.text_lines.specs.Numbers.{value_of}
use Rattle.clap.specs.Kinds.{or_else}
use Rattle.clap.specs.Words.{IsAmong, IsSignedIn, Kinds, Row, Text, fault_of, first_of, one_of, subcommand_of, without_minus}
use Rattle.clap.specs.declared.error.kind.ErrorKind.{ErrorKind}
use Rattle.clap.specs.declared.error.kind.ErrorKind.TheVariants.{ArgumentConflict, DisplayHelp, DisplayVersion, MissingRequiredArgument, OutOfMemory, ValueValidation}
use Rattle.command_words.specs.Given.{is_moment, is_number, values_of}
use Rattle.command_words.specs.Changes.{change_seen, changes_in, is_timed, revision_misfit}
use Rattle.command_words.specs.CommandLine.{command_line, most_rounds, greatest_seed, most_choices, latest_moment}
use Rattle.command_words.specs.declared.words.Chosen.{Chosen}
use Rattle.command_words.specs.declared.words.CommandName.{CommandName}
use Rattle.command_words.specs.declared.words.GivenTexts.{GivenTexts}
use Rattle.command_words.specs.declared.words.Marks.{Marks}
use Rattle.command_words.specs.declared.words.CommandName.TheVariants.{Input, Facts, Shape, Check, Explain, Schedule, Bounds, Margin, Plan, Improve, Decide, Revise, Drive, Resume, Hub, Digest, Audit, State, Gantt}
use Rattle.command_words.specs.declared.words.Lines.{Lines}
use Rattle.command_words.specs.declared.words.Lines.TheVariants.{One, Two}
use Rattle.command_words.specs.declared.words.log_start.LogStart.{LogStart}
use Rattle.command_words.specs.declared.words.log_start.LogStart.TheVariants.{Any, New, Continue, HandOver}
use Rattle.command_words.specs.declared.words.printed.Prints.{Prints}
use Rattle.command_words.specs.declared.words.printed.Prints.TheVariants.{Plan as ThePlan, File as TheInstance, Log as AllTexts}
use Rattle.command_words.specs.declared.words.WordsFault.{WordsFault}
use Rattle.command_words.specs.declared.words.WordsFault.TheVariants.{Usage, Memory}

-- the word of a command; the form without words has none
abbrev pub command_word_of : CommandName → Option Text
command_word_of Input = None
command_word_of Facts = Some (codes "facts")
command_word_of Shape = Some (codes "shape")
command_word_of Check = Some (codes "check")
command_word_of Explain = Some (codes "explain")
command_word_of Schedule = Some (codes "schedule")
command_word_of Bounds = Some (codes "bounds")
command_word_of Margin = Some (codes "margin")
command_word_of Plan = Some (codes "plan")
command_word_of Improve = Some (codes "improve")
command_word_of Decide = Some (codes "decide")
command_word_of Revise = Some (codes "revise")
command_word_of Drive = Some (codes "drive")
command_word_of Resume = Some (codes "resume")
command_word_of Hub = Some (codes "hub")
command_word_of Digest = Some (codes "digest")
command_word_of Audit = Some (codes "audit")
command_word_of State = Some (codes "state")
command_word_of Gantt = Some (codes "gantt")

-- the command takes n files
abbrev pub TakesFiles : CommandName → ℕ → Type 0
TakesFiles Input n = n ≡ 0
TakesFiles Facts n = n ≡ 1
TakesFiles Shape n = n ≡ 2
TakesFiles Check n = n ≡ 2
TakesFiles Explain n = n ≡ 2
TakesFiles Schedule n = n ≡ 2
TakesFiles Bounds n = n ≡ 2
TakesFiles Margin n = n ≡ 2
TakesFiles Plan n = n ≡ 2
TakesFiles Improve n = n ≡ 2
TakesFiles Decide n = n ≡ 2
TakesFiles Revise n = n ≡ 3
TakesFiles Drive n = n ≡ 2
TakesFiles Resume n = n ≡ 3
TakesFiles Hub n = 2 ≤ n
TakesFiles Digest n = n ≡ 2
TakesFiles Audit n = n ≡ 3
TakesFiles State n = n ≡ 3
TakesFiles Gantt n = n ≡ 3

-- a command's word and its matches, if there is one
abbrev pub Found : Type 0
Found = Option (Text × List Row)

-- what `clap` finds in the words
abbrev pub found_in : List Text → Found
found_in words = subcommand_of command_line words

-- the word of the command that was found
abbrev pub word_found : Found → Option Text
word_found = option_map (λ p. p.0)

-- the matches of the command that was found
abbrev pub rows_found : Found → List Row
rows_found found = option_map_or (λ p. p.1) found []

-- the bytes of each text
abbrev pub texts_of : List (String Global) → List Text
texts_of texts = map string_bytes texts

-- the files: the instance's, those of the plans, the log's
abbrev pub files_in : List Row → List Text
files_in rows = values_of (codes "FILE") rows
    ++ values_of (codes "PLAN") rows
    ++ values_of (codes "LOG") rows

-- the name of the instance
abbrev pub instance_in : List Row → Option Text
instance_in rows = first_of (codes "instance") rows

-- the number that is given with an option, and another where it is not said
abbrev pub number_chosen : Text → ℕ → List Row → ℕ
number_chosen name other rows = option_map_or (λ text. digits_value 10 (without_leading_plus text))
    (one_of name rows) other

-- the number of rounds, 20 where it is not said
abbrev pub rounds_in : List Row → ℕ
rounds_in = number_chosen (codes "rounds") 20

-- the seed, 0 where it is not said
abbrev pub seed_in : List Row → ℕ
seed_in = number_chosen (codes "seed") 0

-- the number of choices, 200000 where it is not said
abbrev pub choices_in : List Row → ℕ
choices_in = number_chosen (codes "choices") 200000

-- the log of a run, of whose rest is asked
abbrev pub after_in : List Row → Option Text
after_in rows = first_of (codes "after") rows

-- the log that a driven cell keeps
abbrev pub kept_in : List Row → Option Text
kept_in rows = first_of (codes "log") rows

-- the present moment of the run in a log
abbrev pub at_in : List Row → Option ℕ
at_in rows = option_map value_of (first_of (codes "at") rows)

-- the version of this number
abbrev pub version_of : ℕ → Lines
version_of number = if number == 2 then Two else One

-- the version of the lines of a driven cell
abbrev pub lines_in : List Row → Option Lines
lines_in rows = option_map version_of (option_map value_of (first_of (codes "lines") rows))

-- the longest time from one report to the next
abbrev pub leap_in : List Row → Option ℕ
leap_in rows = option_map value_of (first_of (codes "leap") rows)

-- the job of whose leaving is asked
abbrev pub job_chosen : List Row → Option ℕ
job_chosen rows = option_map value_of (first_of (codes "job") rows)

-- whether a switch is set: it is `true`
abbrev pub is_set : Text → List Row → Bool
is_set name rows = option_map_or (λ text. bytes_eq text (codes "true")) (first_of name rows) false

-- whether a picture is asked for
abbrev pub svg_in : List Row → Bool
svg_in = is_set (codes "svg")

-- whether the moves are asked for in place of the moments
abbrev pub moves_chosen : List Row → Bool
moves_chosen = is_set (codes "moves")

-- the file of the names
abbrev pub names_chosen : List Row → Option Text
names_chosen rows = first_of (codes "names") rows

-- how the log that is kept has to begin: handed over, or gone on with, or new, or in any way
abbrev pub start_chosen : List Row → LogStart
start_chosen rows = if is_set (codes "hand-over") rows then HandOver
    else (if is_set (codes "continue") rows then Continue
    else (if is_set (codes "new") rows then New else Any))

-- whether the least makespan is asked for
abbrev pub least_in : List Row → Bool
least_in = is_set (codes "least")

-- what is asked for of a changed plan: all texts, or the instance, or else the plan
abbrev pub prints_chosen : List Row → Prints
prints_chosen rows = if is_set (codes "all") rows then AllTexts (is_set (codes "forget") rows) (is_set (codes "hand-over") rows)
    else (if is_set (codes "file") rows then TheInstance else ThePlan)

-- the choice holds the command, the files, the instance's name, the rounds, the seed, the choices, the job, the log of whose rest is asked, the log that is kept, the moment, the version of the lines, the longest time, the file of the names, how the log has to begin, the changes, what is printed of them and the switches that were found in these words
pub record IsChoiceOf (words : List Text) (found : Found) (chosen : Chosen) : Type 0 where
  pub name : command_word_of chosen.name ≡ word_found found
  pub files : texts_of chosen.files.items ≡ files_in (rows_found found)
  pub instance : option_map string_bytes chosen.instance ≡ instance_in (rows_found found)
  pub rounds : chosen.rounds ≡ rounds_in (rows_found found)
  pub seed : chosen.seed ≡ seed_in (rows_found found)
  pub choices : chosen.choices ≡ choices_in (rows_found found)
  pub job : chosen.job ≡ job_chosen (rows_found found)
  pub least : chosen.least ≡ least_in (rows_found found)
  pub after : option_map string_bytes chosen.after ≡ after_in (rows_found found)
  pub log : option_map string_bytes chosen.log ≡ kept_in (rows_found found)
  pub at : chosen.at ≡ at_in (rows_found found)
  pub lines : chosen.lines ≡ lines_in (rows_found found)
  pub leap : chosen.leap ≡ leap_in (rows_found found)
  pub svg : chosen.svg ≡ svg_in (rows_found found)
  pub moves : chosen.moves ≡ moves_chosen (rows_found found)
  pub names : option_map string_bytes chosen.names ≡ names_chosen (rows_found found)
  pub start : chosen.start ≡ start_chosen (rows_found found)
  pub changes : map change_seen chosen.changes.items ≡ changes_in words (rows_found found)
  pub prints : chosen.prints ≡ prints_chosen (rows_found found)

-- what has to fit together of it, but for the changes
pub record AreMarksOf (rows : List Row) (marks : Marks) : Type 0 where
  pub at : marks.at ≡ at_in rows
  pub early : IfSome marks.at (λ n. n ≤ latest_moment)
  pub lines : marks.lines ≡ lines_in rows
  pub leap : marks.leap ≡ leap_in rows
  pub soon : IfSome marks.leap (λ n. n ≤ latest_moment)
  pub job : marks.job ≡ job_chosen rows
  pub moves : marks.moves ≡ moves_chosen rows
  pub start : marks.start ≡ start_chosen rows

-- its files and other texts
pub record AreTextsOf (rows : List Row) (given : GivenTexts) : Type 0 where
  pub files : texts_of given.files.items ≡ files_in rows
  pub instance : option_map string_bytes given.instance ≡ instance_in rows
  pub after : option_map string_bytes given.after ≡ after_in rows
  pub log : option_map string_bytes given.log ≡ kept_in rows
  pub names : option_map string_bytes given.names ≡ names_chosen rows

-- the choice has as many files as its command takes, no more rounds than a search may have, no greater seed than it takes, a choice at least and no more than a search may have, no moment past the latest, and no longer time than that
pub record IsChoiceWithin (chosen : Chosen) : Type 0 where
  pub files : TakesFiles chosen.name (length chosen.files.items)
  pub rounds : chosen.rounds ≤ most_rounds
  pub seed : chosen.seed ≤ greatest_seed
  pub some : 1 ≤ chosen.choices
  pub choices : chosen.choices ≤ most_choices
  pub at : IfSome chosen.at (λ n. n ≤ latest_moment)
  pub leap : IfSome chosen.leap (λ n. n ≤ latest_moment)

-- why `clap` refuses the words, or nothing where it takes them
abbrev pub parse_reasons_in : List Text → Kinds
parse_reasons_in words = fault_of command_line words

-- the first that is given
abbrev pub first_given : Option Text → Option Text → Option Text
first_given None other = other
first_given (Some text) other = Some text

-- the log with which a present moment goes: that of `--after`, the file LOG, or that of `--log`
abbrev pub log_given : List Row → Option Text
log_given rows = first_given (after_in rows) (first_given (first_of (codes "LOG") rows) (kept_in rows))

-- why a word isn't accepted as the present moment, or nothing: there is no log, or it isn't a moment
abbrev pub misfit_of : Option Text → Option Text → Kinds
misfit_of log None = []
misfit_of None (Some word) = MissingRequiredArgument ∷ []
misfit_of (Some log) (Some word) = if is_moment word then [] else ValueValidation ∷ []

-- why a word isn't accepted as such a number, or nothing
abbrev pub number_misfit : ℕ → ℕ → ℕ → Option Text → Kinds
number_misfit digits least most None = []
number_misfit digits least most (Some word) = if is_number digits least most word then [] else ValueValidation ∷ []

-- so of the version of the lines: 1 or 2
abbrev pub lines_misfit : List Row → Kinds
lines_misfit rows = number_misfit 1 1 2 (first_of (codes "lines") rows)

-- so of the longest time from one report to the next: from 1 to the latest moment
abbrev pub leap_misfit : List Row → Kinds
leap_misfit rows = number_misfit 13 1 latest_moment (first_of (codes "leap") rows)

-- a text is given, and a switch is set
abbrev pub has_both : Option Text → Bool → Bool
has_both None set = false
has_both (Some text) set = set

-- so of an option and a switch of a command
abbrev pub are_both : Text → Text → List Row → Bool
are_both option switch rows = has_both (first_of option rows) (is_set switch rows)

-- so of two switches
abbrev pub are_both_set : Text → Text → List Row → Bool
are_both_set one other rows = is_set one rows && is_set other rows

-- why its matches are refused: for this reason where that is so, else for these
abbrev pub refused_if : Bool → ErrorKind → Kinds → Kinds
refused_if is kind others = if is then kind ∷ [] else others

-- why its matches are refused for the moment
abbrev pub misfits_of : List Row → Kinds
misfits_of rows = misfit_of (log_given rows) (first_of (codes "at") rows)

-- so of a job: a number of 1 to 9 digits
abbrev pub job_misfit : List Row → Kinds
job_misfit rows = number_misfit 9 0 999999999 (first_of (codes "job") rows)

-- so of a decision: the least makespan and a job don't go together
abbrev pub decision_misfit : List Row → Kinds
decision_misfit rows = refused_if (are_both (codes "job") (codes "least") rows) ArgumentConflict (job_misfit rows)

-- so of the moves: they aren't drawn
abbrev pub moves_misfit : List Row → Kinds
moves_misfit rows = refused_if (are_both_set (codes "svg") (codes "moves") rows) ArgumentConflict []

-- the log has to have begun
abbrev pub continues_log : LogStart → Bool
continues_log Any = false
continues_log New = false
continues_log Continue = true
continues_log HandOver = true

-- the log is to be new and to have begun
abbrev pub is_twofold : LogStart → List Row → Bool
is_twofold start rows = is_set (codes "new") rows && continues_log start

-- a beginning is asked for
abbrev pub is_asked : LogStart → Bool
is_asked Any = false
is_asked New = true
is_asked Continue = true
is_asked HandOver = true

-- a beginning is asked for, and there is no log
abbrev pub lacks_log : LogStart → List Row → Bool
lacks_log start rows = is_asked start && not (is_some (log_given rows))

-- so of how the log has to begin: it isn't both new and begun, and there has to be one
abbrev pub start_misfit : List Row → Kinds
start_misfit rows = refused_if (is_twofold (start_chosen rows) rows) ArgumentConflict
    (refused_if (lacks_log (start_chosen rows) rows) MissingRequiredArgument [])

-- so of all that has to fit together but the changes, or else for these reasons
abbrev pub marks_misfit : List Row → Kinds → Kinds
marks_misfit rows others = or_else (misfits_of rows)
    (or_else (lines_misfit rows)
    (or_else (leap_misfit rows)
    (or_else (decision_misfit rows)
    (or_else (moves_misfit rows)
    (or_else (start_misfit rows) others)))))

-- something is given that goes only with all texts: that what is over is left out, any plan of the log, names, or a machine that is held
abbrev pub goes_with_all : List Row → Bool
goes_with_all rows = is_set (codes "forget") rows || (is_set (codes "hand-over") rows || (is_some (names_chosen rows) || list_any is_timed (values_of (codes "down") rows)))

-- a job gets a name, and no file of names is given
abbrev pub lacks_names : List Row → Bool
lacks_names rows = is_some (first_of (codes "name") rows) && not (is_some (names_chosen rows))

-- a plan is changed, by the command of this word
abbrev pub is_revision : Option Text → Bool
is_revision word = option_map_or (λ w. bytes_eq w (codes "revise")) word false

-- a plan is changed, and something that goes with all texts is given without them
abbrev pub lacks_all : Option Text → List Row → Bool
lacks_all word rows = is_revision word && (not (is_set (codes "all") rows) && goes_with_all rows)

-- so of what is printed: all texts and the instance alone don't go together, nothing goes with all texts where they aren't asked for, and no job gets a name where none are given
abbrev pub prints_misfit : Option Text → List Row → Kinds
prints_misfit word rows = refused_if (are_both_set (codes "all") (codes "file") rows) ArgumentConflict
    (refused_if (lacks_all word rows) MissingRequiredArgument
    (refused_if (lacks_names rows) MissingRequiredArgument []))

-- so of what was found in these words
abbrev pub misfit_in : List Text → Found → Kinds
misfit_in words found = marks_misfit (rows_found found)
    (or_else (prints_misfit (word_found found) (rows_found found)) (revision_misfit words (rows_found found)))

-- why the words are refused, or nothing where they are accepted: `clap`'s reasons, or else that what they ask for doesn't fit together
abbrev pub reasons_in : List Text → Kinds
reasons_in words = or_else (parse_reasons_in words) (misfit_in words (found_in words))

-- a reason that asks for a text, as `--help` and `--version` do, and is no mistake
abbrev pub asks_for_help : ErrorKind → Bool
asks_for_help DisplayHelp = true
asks_for_help DisplayVersion = true
asks_for_help _ = false

-- the fault is the reason's: out of memory where the reason is that, and else a text, which is help where that was asked for
abbrev pub IsFaultOf : ErrorKind → WordsFault → Type 0
IsFaultOf kind Memory = kind ≡ OutOfMemory
IsFaultOf kind (Usage help text) = (kind ≢ OutOfMemory) × (help ≡ asks_for_help kind)

-- the fault is out of memory, or names this reason
abbrev pub NamesReason : ErrorKind → WordsFault → Type 0
NamesReason kind Memory = Unit {0}
NamesReason kind (Usage help text) = (kind ≢ OutOfMemory) × (help ≡ asks_for_help kind)

-- the fault is out of memory, or names one of these reasons
abbrev pub NamesOneOf : Kinds → WordsFault → Type 0
NamesOneOf kinds Memory = Unit {0}
NamesOneOf kinds (Usage help text) =
    (kind : ErrorKind) × IsAmong kind kinds × (help ≡ asks_for_help kind)

-- a text for a number: none, or a number from the least to the most, as it is read
abbrev pub FitsBetween : ℕ → ℕ → Option Text → Type 0
FitsBetween least most None = Unit {0}
FitsBetween least most (Some text) =
    (written : Text) × (text ≡ without_minus written) × IsSignedIn (pos least) (pos most) written

-- what is found where `clap` takes the words: a command of the program with as many files as it
-- takes and numbers within their limits, or no command
abbrev pub IsFit : Found → Type 0
IsFit None = Unit {0}
IsFit (Some p) = ((name : CommandName) × (command_word_of name ≡ Some p.0)
    × TakesFiles name (length (files_in p.1)))
    × FitsBetween 0 most_rounds (one_of (codes "rounds") p.1) × FitsBetween 0 greatest_seed (one_of (codes "seed") p.1)
    × FitsBetween 1 most_choices (one_of (codes "choices") p.1)
