-- Which names a text is, for a shop, and what is wrong first with a text that is none.
use Rattle.std.specs.Prelude.{◌≡◌, ℕ, ◌⊎◌, List, [], ◌∷◌, Some, IsUtf8}
use Rattle.toml.specs.Data.{Members}
use Rattle.toml.specs.Parse.{parse_document}
use Rattle.people_names.specs.declared.names_fault.NamesFault.{NamesFault}
use Rattle.people_names.specs.declared.names_fault.NamesFault.TheVariants.{NotToml}
use Rattle.people_names.specs.NameBooks.{NameBook}
use Rattle.people_names.specs.Faults.{faults_of}
use Rattle.people_names.specs.Reading.{names_in}

-- the text is a TOML document with this table (TOML 1.1, as the library `toml` reads it)
pub record IsNamesDocument (text : List ℕ) (table : Members) : Type 0 where
  pub utf8 : IsUtf8 text
  pub read : parse_document text ≡ Some table

-- the text is no document
pub record IsNoNamesDocument (text : List ℕ) (fault : NamesFault) : Type 0 where
  pub none : (table : Members) → IsNamesDocument text table → ⊥
  pub is : fault ≡ NotToml

-- the fault is the first of these
abbrev pub IsFirstOf : List NamesFault → NamesFault → Type 0
IsFirstOf [] fault = ⊥
IsFirstOf (first ∷ rest) fault = first ≡ fault

module _ (jobs machines : ℕ) where
  -- the text is a document without a fault, and these are its names
  pub record IsNamesText (text : List ℕ) (names : NameBook) : Type 0 where
    pub table : Members
    pub document : IsNamesDocument text table
    pub right : faults_of jobs machines table ≡ []
    pub are : names ≡ names_in table

  -- the text is a document, and this is the first fault of its table
  pub record IsNamesDocumentFault (text : List ℕ) (fault : NamesFault) : Type 0 where
    pub table : Members
    pub document : IsNamesDocument text table
    pub is : IsFirstOf (faults_of jobs machines table) fault

  -- what is wrong first with a text as names of a shop with so many jobs and machines
  abbrev pub IsFirstNamesFault : List ℕ → NamesFault → Type 0
  IsFirstNamesFault text fault = IsNoNamesDocument text fault ⊎ IsNamesDocumentFault text fault
