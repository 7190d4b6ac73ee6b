-- What is wrong first with an instance text, in reading order.
use Rattle.std.specs.Prelude.{◌≡◌, ℕ, ◌+◌, ◌<◌, ◌⊎◌, true, false, List, [], ◌∷◌, ◌++◌, length}
use Rattle.std.specs.List.{AllByRecursion}
use Rattle.shop_base.specs.declared.shop_fault.ShopFault.{ShopFault}
use Rattle.shop_base.specs.Shop.{JobShop}
use Rattle.shop_base.specs.ShopFault.{IsFirstFault}
use Rattle.orlib_read.specs.declared.or_fault.OrFault.{OrFault}
use Rattle.orlib_read.specs.declared.or_fault.OrFault.TheVariants.{NoInstance, NoSizes, BadSizes, MissingJob, BadNumber, OddWords, Extra, Shop}
use Rattle.text_lines.specs.Lines.{NumberedLine}
use Rattle.orlib_read.specs.Words.{words_of, IsNumber, AreNumbers, is_odd}
use Rattle.orlib_read.specs.Kinds.{unfilled_lines, IsInstanceLine, IsAnyInstanceLine, IsSizeLineOf, IsDescription}
use Rattle.orlib_read.specs.declared.named.Sizes.{Sizes}
use Rattle.orlib_read.specs.Instance.{Reads, IsSection}

-- behind the instance lines that are passed over there is no size line: no line follows, or a description alone, or behind a description a line that is no size line
abbrev pub IsSizesFault : List NumberedLine → OrFault → Type 0
IsSizesFault [] fault = fault ≡ NoSizes
IsSizesFault (first ∷ []) fault = IsDescription first × (fault ≡ NoSizes)
IsSizesFault (first ∷ line ∷ rest) fault = IsDescription first × ((sizes : Sizes) → IsSizeLineOf line sizes → ⊥) × (fault ≡ BadSizes line.number)

-- the lines have no size line
pub record LacksSizes (lines : List NumberedLine) (fault : OrFault) : Type 0 where
  pub titles : List NumberedLine
  pub rest : List NumberedLine
  pub whole : lines ≡ titles ++ rest
  pub passed : AllByRecursion IsAnyInstanceLine titles
  pub wrong : IsSizesFault rest fault

-- the first of the words that isn't a number, by its place from 1
pub record IsFirstNonNumber (words : List (List ℕ)) (place : ℕ) : Type 0 where
  pub before : List (List ℕ)
  pub word : List ℕ
  pub after : List (List ℕ)
  pub numbers : List ℕ
  pub whole : words ≡ before ++ (word ∷ after)
  pub are_numbers : AreNumbers before numbers
  pub no_number : (n : ℕ) → IsNumber word n → ⊥
  pub here : place ≡ length before + 1

-- the line has an odd number of words
pub record IsOddLine (line : NumberedLine) (fault : OrFault) : Type 0 where
  pub odd : is_odd (length (words_of line.bytes)) ≡ true
  pub is : fault ≡ OddWords line.number

-- the line has an even number of words, and one of them isn't a number
pub record IsWordLine (line : NumberedLine) (fault : OrFault) : Type 0 where
  pub place : ℕ
  pub even : is_odd (length (words_of line.bytes)) ≡ false
  pub first : IsFirstNonNumber (words_of line.bytes) place
  pub is : fault ≡ BadNumber line.number place

-- the job has no line, or its line isn't a job line
abbrev pub IsJobFault : ℕ → List NumberedLine → OrFault → Type 0
IsJobFault job [] fault = fault ≡ MissingJob job
IsJobFault job (line ∷ rest) fault = IsOddLine line fault ⊎ IsWordLine line fault

-- the size line says more jobs than there are job lines before this fault
pub record LacksJob (lines : List NumberedLine) (fault : OrFault) : Type 0 where
  pub description : List ℕ
  pub jobs : ℕ
  pub shop : JobShop
  pub rest : List NumberedLine
  pub reads : Reads lines description jobs shop rest
  pub more : length shop.routes < jobs
  pub wrong : IsJobFault (length shop.routes) rest fault

-- the lines have no size line, or not all of the job lines
abbrev pub IsCutShort : List NumberedLine → OrFault → Type 0
IsCutShort lines fault = LacksSizes lines fault ⊎ LacksJob lines fault

-- a line that isn't filler follows the last job line
pub record HasExtraLine (lines : List NumberedLine) (fault : OrFault) : Type 0 where
  pub description : List ℕ
  pub shop : JobShop
  pub extra : NumberedLine
  pub rest : List NumberedLine
  pub reads : Reads lines description (length shop.routes) shop (extra ∷ rest)
  pub is : fault ≡ Extra extra.number

-- the lines can be read up to this rest, but their numbers make no shop
pub record MakesNoShop (lines rest : List NumberedLine) (fault : OrFault) : Type 0 where
  pub description : List ℕ
  pub shop : JobShop
  pub reason : ShopFault
  pub reads : Reads lines description (length shop.routes) shop rest
  pub wrong : IsFirstFault shop.machines shop.recirculates shop.routes reason
  pub is : fault ≡ Shop reason

-- what is wrong first with a text as one instance
abbrev pub IsInstanceFault : List ℕ → OrFault → Type 0
IsInstanceFault text fault = IsCutShort (unfilled_lines text) fault ⊎ HasExtraLine (unfilled_lines text) fault ⊎ MakesNoShop (unfilled_lines text) [] fault

-- no instance line has the name
pub record LacksName (lines : List NumberedLine) (name : List ℕ) (fault : OrFault) : Type 0 where
  pub none : AllByRecursion (λ line. IsInstanceLine line name → ⊥) lines
  pub is : fault ≡ NoInstance

-- the section of the name has this fault, whatever follows its last job line
pub record IsSectionFault (lines : List NumberedLine) (name : List ℕ) (fault : OrFault) : Type 0 where
  pub section : List NumberedLine
  pub rest : List NumberedLine
  pub is_section : IsSection lines name section
  pub wrong : IsCutShort section fault ⊎ MakesNoShop section rest fault

-- what is wrong first with a text as a collection that has this name
abbrev pub IsInstanceOfFault : List ℕ → List ℕ → OrFault → Type 0
IsInstanceOfFault text name fault = LacksName (unfilled_lines text) name fault ⊎ IsSectionFault (unfilled_lines text) name fault
