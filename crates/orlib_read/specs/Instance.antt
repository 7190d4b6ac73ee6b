-- What instance texts are: one instance, and the sections of a collection (OR-Library, jobshop1).
use Rattle.std.specs.Prelude.{◌≡◌, ℕ, false, List, [], ◌∷◌, ◌++◌, length}
use Rattle.std.specs.List.{AllByRecursion}
use Rattle.shop_base.specs.declared.shop.Step.{Step}
use Rattle.shop_base.specs.Shop.{JobShop, IsShop}
use Rattle.text_lines.specs.Lines.{NumberedLine}
use Rattle.orlib_read.specs.Kinds.{unfilled_lines, IsInstanceLine, IsAnyInstanceLine, IsOtherLine, IsSizeLine, IsSizeLineOf, IsDescription, IsJobLine}
use Rattle.orlib_read.specs.declared.named.Sizes.{Sizes}

-- how an instance opens: with the size line alone, and no description, or with a description and the size line
abbrev pub Opens : List NumberedLine → List ℕ → Sizes → Type 0
Opens [] description sizes = ⊥
Opens (size ∷ []) description sizes = (description ≡ []) × (sizes.recirculates ≡ false) × IsSizeLine size sizes.jobs sizes.machines
Opens (first ∷ size ∷ []) description sizes = (description ≡ first.bytes) × IsDescription first × IsSizeLineOf size sizes
Opens (first ∷ size ∷ other ∷ lines) description sizes = ⊥

-- the lines are the job lines of these routes, in order
abbrev pub AreJobLines : List NumberedLine → List (List Step) → Type 0
AreJobLines [] [] = Unit {0}
AreJobLines [] (route ∷ routes) = ⊥
AreJobLines (line ∷ lines) [] = ⊥
AreJobLines (line ∷ lines) (route ∷ routes) = IsJobLine line route × AreJobLines lines routes

-- the lines are instance lines that are passed over, an opening with this number of jobs and the shop's machines, the job lines of its routes, and a rest
pub record Reads (lines : List NumberedLine) (description : List ℕ) (jobs : ℕ) (shop : JobShop) (rest : List NumberedLine) : Type 0 where
  pub titles : List NumberedLine
  pub opening : List NumberedLine
  pub job_lines : List NumberedLine
  pub whole : lines ≡ titles ++ (opening ++ (job_lines ++ rest))
  pub passed : AllByRecursion IsAnyInstanceLine titles
  pub opens : Opens opening description (record { jobs = jobs; machines = shop.machines; recirculates = shop.recirculates })
  pub each : AreJobLines job_lines shop.routes

-- the text is one instance: as many job lines as the size line says, and nothing but filler after them
pub record IsInstance (text : List ℕ) (description : List ℕ) (shop : JobShop) : Type 0 where
  pub reads : Reads (unfilled_lines text) description (length shop.routes) shop []
  pub sound : IsShop shop

-- no line follows, or an instance line does
abbrev pub EndsSection : List NumberedLine → Type 0
EndsSection [] = Unit {0}
EndsSection (line ∷ lines) = IsAnyInstanceLine line

-- the section of a name begins after the first instance line of that name, and ends before the next instance line or with the text
pub record IsSection (lines : List NumberedLine) (name : List ℕ) (section : List NumberedLine) : Type 0 where
  pub before : List NumberedLine
  pub title : NumberedLine
  pub after : List NumberedLine
  pub whole : lines ≡ before ++ (title ∷ (section ++ after))
  pub first : AllByRecursion (λ line. IsInstanceLine line name → ⊥) before
  pub named : IsInstanceLine title name
  pub inside : AllByRecursion IsOtherLine section
  pub ends : EndsSection after

-- the collection has this instance under that name: as many job lines as the size line says, whatever the section has after them
pub record IsInstanceOf (text : List ℕ) (name : List ℕ) (description : List ℕ) (shop : JobShop) : Type 0 where
  pub section : List NumberedLine
  pub rest : List NumberedLine
  pub is_section : IsSection (unfilled_lines text) name section
  pub reads : Reads section description (length shop.routes) shop rest
  pub sound : IsShop shop
