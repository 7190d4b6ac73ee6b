-- Reading the lines of an instance from the front, with the first fault that is met.
use Rattle.std.specs.Prelude.{◌≡◌, ◌≢◌, ℕ, zero, suc, ◌+◌, Bool, true, false, if◌then◌else◌, List, [], ◌∷◌, length, codes, Option, Some, None, option_map, option_and_then, is_some, MatchOption, Result, Ok, Err}
use Rattle.std.specs.Str.{bytes_eq}
use Rattle.shop_base.specs.declared.shop.Step.{Step}
use Rattle.shop_base.specs.Shop.{JobShop}
use Rattle.orlib_read.specs.declared.named.Sizes.{Sizes}
use Rattle.orlib_read.specs.declared.or_fault.OrFault.{OrFault}
use Rattle.orlib_read.specs.declared.or_fault.OrFault.TheVariants.{NoInstance, NoSizes, BadSizes, MissingJob, BadNumber, OddWords, Extra, Memory}
use Rattle.text_lines.specs.Lines.{NumberedLine}
use Rattle.orlib_read.specs.Words.{words_of, number_of, is_odd}

infixl 10 ◌>>=◌
abbrev pub ◌>>=◌ : {A B : Type 0} → Result A OrFault → (A → Result B OrFault) → Result B OrFault
(Ok x) >>= f = f x
(Err fault) >>= f = Err fault

-- what a function answered that takes no memory, seen by view, is what reading gives
abbrev pub GivesExactly : {X Y : Type 0} → (X → Y) → Result X OrFault → Result Y OrFault → Type 0
GivesExactly view (Ok x) reading = reading ≡ Ok (view x)
GivesExactly view (Err fault) reading = reading ≡ Err fault

-- what was found, seen by view, is what there is
abbrev pub Finds : {X Y : Type 0} → (X → Y) → Option X → Option Y → Type 0
Finds view found there = MatchOption found (there ≡ None) (λ x. there ≡ Some (view x))

-- the fault that a function answered is the one that reading meets, unless memory ran out
abbrev pub Fails : {Y : Type 0} → OrFault → Result Y OrFault → Type 0
Fails fault reading = fault ≢ Memory → reading ≡ Err fault

-- what a function answered, seen by view, is what reading gives, unless memory ran out
abbrev pub Gives : {X Y : Type 0} → (X → Y) → Result X OrFault → Result Y OrFault → Type 0
Gives view (Ok x) reading = reading ≡ Ok (view x)
Gives view (Err fault) reading = Fails fault reading

-- the name on an instance line
abbrev pub name_of : List (List ℕ) → Option (List ℕ)
name_of [] = None
name_of (word ∷ []) = None
name_of (word ∷ name ∷ []) = if bytes_eq word (codes "instance") then Some name else None
name_of (word ∷ name ∷ other ∷ words) = None

-- an instance line, and one with this name
abbrev pub is_instance_line : NumberedLine → Bool
is_instance_line line = is_some (name_of (words_of line.bytes))

-- the line's name, if it has one, is this name
abbrev pub is_name : List ℕ → Option (List ℕ) → Bool
is_name name None = false
is_name name (Some other) = bytes_eq other name

-- the lines from the first one on that isn't an instance line
abbrev pub without_titles : List NumberedLine → List NumberedLine
without_titles [] = []
without_titles (line ∷ lines) = if is_instance_line line then without_titles lines else line ∷ lines

-- the lines before the first instance line
abbrev pub before_title : List NumberedLine → List NumberedLine
before_title [] = []
before_title (line ∷ lines) = if is_instance_line line then [] else line ∷ before_title lines

-- the section of a name: the lines between its first instance line and the next one
abbrev pub section_of : List ℕ → List NumberedLine → Option (List NumberedLine)
section_of name [] = None
section_of name (line ∷ lines) = if is_name name (name_of (words_of line.bytes)) then Some (before_title lines) else section_of name lines

-- the sizes, where both words are numbers
abbrev pub sizes_with : List ℕ → List ℕ → Bool → Option Sizes
sizes_with jobs machines again = option_and_then (λ n. option_map (λ m. record { jobs = n; machines = m; recirculates = again }) (number_of machines)) (number_of jobs)

-- two numbers and no other word
abbrev pub sizes_of : List (List ℕ) → Option Sizes
sizes_of [] = None
sizes_of (word ∷ []) = None
sizes_of (jobs ∷ machines ∷ []) = sizes_with jobs machines false
sizes_of (jobs ∷ machines ∷ other ∷ words) = None

-- two numbers, and behind them no other word but the one for recirculation
abbrev pub worded_sizes_of : List (List ℕ) → Option Sizes
worded_sizes_of [] = None
worded_sizes_of (word ∷ []) = None
worded_sizes_of (jobs ∷ machines ∷ []) = sizes_with jobs machines false
worded_sizes_of (jobs ∷ machines ∷ word ∷ []) = if bytes_eq word (codes "recrc") then sizes_with jobs machines true else None
worded_sizes_of (jobs ∷ machines ∷ word ∷ other ∷ words) = None

-- what stands before the job lines
pub record Head : Type 0 where
  pub description : List ℕ
  pub sizes : Sizes

-- what stands before the job lines, with the sizes on the line of this number
abbrev pub sized : List ℕ → Option Sizes → ℕ → Result Head OrFault
sized description (Some sizes) number = Ok (record { description = description; sizes = sizes })
sized description None number = Err (BadSizes number)

-- the size line behind a description
abbrev pub sizes_at : List ℕ → List NumberedLine → Result (Head × List NumberedLine) OrFault
sizes_at description [] = Err NoSizes
sizes_at description (line ∷ lines) = sized description (worded_sizes_of (words_of line.bytes)) line.number >>= λ head. Ok (head, lines)

-- the same from the first line on, which is the size line or the description
abbrev pub opened : Option Sizes → NumberedLine → List NumberedLine → Result (Head × List NumberedLine) OrFault
opened (Some sizes) line lines = Ok (record { description = []; sizes = sizes }, lines)
opened None line lines = sizes_at line.bytes lines

-- the size line, alone or behind a description
abbrev pub head_at : List NumberedLine → Result (Head × List NumberedLine) OrFault
head_at [] = Err NoSizes
head_at (line ∷ lines) = opened (sizes_of (words_of line.bytes)) line lines

-- the number of a word, or else the fault that names the word
abbrev pub number_or : Option ℕ → ℕ → ℕ → Result ℕ OrFault
number_or (Some n) line word = Ok n
number_or None line word = Err (BadNumber line word)

-- a step of two words, before of which stand this many
unfoldable pub step_at : ℕ → ℕ → List ℕ → List ℕ → Result Step OrFault
step_at line before machine nominal = do
  m ← number_or (number_of machine) line (before + 1)
  t ← number_or (number_of nominal) line (before + 2)
  Ok (record { machine = m; nominal = t })

-- the steps of the words that are left
unfoldable pub steps_at : ℕ → ℕ → List (List ℕ) → Result (List Step) OrFault
steps_at line before [] = Ok []
steps_at line before (word ∷ []) = Err (OddWords line)
steps_at line before (machine ∷ nominal ∷ words) = do
  step ← step_at line before machine nominal
  steps ← steps_at line (before + 2) words
  Ok (step ∷ steps)

-- the route on a job line
unfoldable pub route_at : NumberedLine → Result (List Step) OrFault
route_at line = if is_odd (length (words_of line.bytes)) then Err (OddWords line.number) else steps_at line.number 0 (words_of line.bytes)

-- the routes of this many job lines, the first of them that of this job
unfoldable pub jobs_at : ℕ → ℕ → List NumberedLine → Result (List (List Step) × List NumberedLine) OrFault
jobs_at job zero lines = Ok ([], lines)
jobs_at job (suc jobs) [] = Err (MissingJob job)
jobs_at job (suc jobs) (line ∷ lines) = do
  route ← route_at line
  others ← jobs_at (job + 1) jobs lines
  Ok (route ∷ others.0, others.1)

-- what an instance says, before its numbers are known to make a shop
pub record Content : Type 0 where
  pub description : List ℕ
  pub shop : JobShop

-- the content with these sizes and routes
abbrev pub content_by : Head → List (List Step) → Content
content_by head routes = record { description = head.description; shop = record { machines = head.sizes.machines; routes = routes; recirculates = head.sizes.recirculates } }

-- an instance, and the lines after its last job line
unfoldable pub draft_at : List NumberedLine → Result (Content × List NumberedLine) OrFault
draft_at lines = do
  head ← head_at (without_titles lines)
  jobs ← jobs_at 0 head.0.sizes.jobs head.1
  Ok (content_by head.0 jobs.0, jobs.1)

-- what was read, if no line is left
abbrev pub ended : Content → List NumberedLine → Result Content OrFault
ended draft [] = Ok draft
ended draft (line ∷ lines) = Err (Extra line.number)

-- one instance, all of the lines
unfoldable pub instance_at : List NumberedLine → Result Content OrFault
instance_at lines = do
  draft ← draft_at lines
  ended draft.0 draft.1

-- what is read of a section, if there is one
abbrev pub in_section : Option (List NumberedLine) → Result Content OrFault
in_section None = Err NoInstance
in_section (Some lines) = draft_at lines >>= λ draft. Ok draft.0

-- the section of a name in a collection
unfoldable pub section_at : List ℕ → List NumberedLine → Result Content OrFault
section_at name lines = in_section (section_of name lines)
