-- Names and a log that are read, and what comes of them.
use Rattle.std.proofs.Common.{◌≡◌, ℕ, List, Option, Result, Ok, Err, IsOkAnd, ap, refl}
use Rattle.shop_base.specs.Plan.{PlannedShop}
use Rattle.people_names.specs.NameBooks.{NameBook}
use Rattle.command_answers.specs.declared.command_fault.CommandFault.{CommandFault}
use Rattle.command_answers.specs.declared.naming.NamesAndLog.{NamesAndLog}
use Rattle.command_answers.specs.Naming.{ReadsNames}
use Rattle.command_answers.specs.Steps.{Concludes, Then}
use Rattle.command_answers.specs.Texts.{Asks}
use Rattle.command_answers.proofs.Passing.{then_on}

module _ {W : Type 0} (gives : W → List ℕ → Result (List ℕ) CommandFault → W → Type 0) (names : Option (List ℕ)) (path : List ℕ) (p : PlannedShop) where
  -- both are read
  abbrev pub ReadsBoth : W → Result NamesAndLog CommandFault → W → Type 0
  ReadsBoth = Then (ReadsNames gives names p) (λ book. Then (Asks gives path) (λ bytes. Concludes (λ read. IsOkAnd read (λ both. (both.names ≡ book) × (both.log.items ≡ bytes)))))

module _ {W B : Type 0} (gives : W → List ℕ → Result (List ℕ) CommandFault → W → Type 0) (names : Option (List ℕ)) (path : List ℕ) (p : PlannedShop) where
  -- both are read, and then this comes of them
  abbrev pub ReadsOn : (NameBook → List ℕ → Result B CommandFault → Type 0) → W → Result B CommandFault → W → Type 0
  ReadsOn Comes = Then (ReadsNames gives names p) (λ book. Then (Asks gives path) (λ log. Concludes (Comes book log)))

  both_on : (Comes : NameBook → List ℕ → Result B CommandFault → Type 0) (before after : W) (read : Result NamesAndLog CommandFault) (outcome : Result B CommandFault)
      → ((fault : CommandFault) → read ≡ Err fault → outcome ≡ Err fault) → ((book : NameBook) (log : List ℕ) → IsOkAnd read (λ both. (both.names ≡ book) × (both.log.items ≡ log)) → Comes book log outcome)
      → ReadsBoth gives names path p before read after → ReadsOn Comes before outcome after
  both_on Comes before after read outcome fails comes =
      then_on (ReadsNames gives names p) (λ book. Then (Asks gives path) (λ bytes. Concludes (λ found. IsOkAnd found (λ both. (both.names ≡ book) × (both.log.items ≡ bytes)))))
      (λ book. Then (Asks gives path) (λ log. Concludes (Comes book log))) before read after outcome after (λ fault is. (fails fault is, refl))
      (λ book mid. then_on (Asks gives path) (λ bytes. Concludes (λ found. IsOkAnd found (λ both. (both.names ≡ book) × (both.log.items ≡ bytes)))) (λ log. Concludes (Comes book log)) mid read after outcome after
      (λ fault is. (fails fault is, refl)) (λ log last on. (comes book log on.0, on.1)))

  -- both were read, and this came of them
  pub read_on : (Comes : NameBook → List ℕ → Result B CommandFault → Type 0) (before after : W) (read : NamesAndLog) (outcome : Result B CommandFault)
      → ReadsBoth gives names path p before (Ok read) after → Comes read.names read.log.items outcome → ReadsOn Comes before outcome after
  read_on Comes before after read outcome reads comes = both_on Comes before after (Ok read) outcome (λ fault is. absurd (cc is)) (λ book log both. rw (← both.0, ← both.1) comes) reads

  -- they couldn't be read
  pub unread : (Comes : NameBook → List ℕ → Result B CommandFault → Type 0) (before after : W) (fault : CommandFault)
      → ReadsBoth gives names path p before (Err fault) after → ReadsOn Comes before (Err fault) after
  unread Comes before after fault reads = both_on Comes before after (Err fault) (Err fault) (λ why is. (let same : fault ≡ why = cc is in ap Err same)) (λ book log none. absurd none) reads
