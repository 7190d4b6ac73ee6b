-- The lines in which more is sent than reports, from version 2 of the lines on.
use Rattle.std.specs.Prelude.{ℕ, List, [], ◌∷◌, codes}
use Rattle.cell_tables.specs.declared.claim.Claim.{Claim}
use Rattle.cell_tables.specs.declared.claim.Claim.TheVariants.{Report, FinishStep, CleanAfter, CleanAfterStep}
use Rattle.event_lines.specs.declared.requests.Request as requests
use Rattle.event_lines.specs.declared.requests.Request.TheVariants.{Claim as ClaimRequest, Status}
use Rattle.event_lines.specs.Words.{Word, Text, JobStep, short, moment, IsReadAs}
use Rattle.event_lines.specs.SentLines.{sent_words}

-- behind `finish`: `J.K T`
abbrev pub finish_step_numbers : ℕ → ℕ → ℕ → List Word
finish_step_numbers job step at = JobStep job step ∷ moment at ∷ []

-- behind `clean`: `M J T`
abbrev pub clean_after_numbers : ℕ → ℕ → ℕ → List Word
clean_after_numbers machine job at = short machine ∷ short job ∷ moment at ∷ []

-- or `M J.K T`
abbrev pub clean_after_step_numbers : ℕ → ℕ → ℕ → ℕ → List Word
clean_after_step_numbers machine job step at = short machine ∷ JobStep job step ∷ moment at ∷ []

-- a report as it is sent, `finish J.K T`, `clean M J T` or `clean M J.K T`
abbrev pub claim_words : Claim → List Word
claim_words (Report report) = sent_words report
claim_words (FinishStep job step at) = Text (codes "finish") ∷ finish_step_numbers job step at
claim_words (CleanAfter machine job at) = Text (codes "clean") ∷ clean_after_numbers machine job at
claim_words (CleanAfterStep machine job step at) = Text (codes "clean") ∷ clean_after_step_numbers machine job step at

-- one of these, or `status`
abbrev pub request_words : requests.Request → List Word
request_words (ClaimRequest claim) = claim_words claim
request_words Status = Text (codes "status") ∷ []

-- the line is this claim
abbrev pub IsClaimLine : List ℕ → Claim → Type 0
IsClaimLine line claim = IsReadAs line (claim_words claim)

-- this request
abbrev pub IsRequestLine : List ℕ → requests.Request → Type 0
IsRequestLine line request = IsReadAs line (request_words request)

-- or none
abbrev pub IsNoRequest : List ℕ → Type 0
IsNoRequest line = (request : requests.Request) → IsRequestLine line request → ⊥

-- the line is this request on this cell, whose number and a space stand before it
abbrev pub IsCellRequest : List ℕ → ℕ → requests.Request → Type 0
IsCellRequest line cell request = IsReadAs line (short cell ∷ request_words request)

-- the line is no request on any cell
abbrev pub IsNoCellRequest : List ℕ → Type 0
IsNoCellRequest line = (cell : ℕ) (request : requests.Request) → IsCellRequest line cell request → ⊥

-- the line isn't `finish J.K T`
abbrev pub IsNoFinishStep : List ℕ → Type 0
IsNoFinishStep line = (job step at : ℕ) → IsClaimLine line (FinishStep job step at) → ⊥

-- nor `clean M J T`
abbrev pub IsNoCleanAfter : List ℕ → Type 0
IsNoCleanAfter line = (machine job at : ℕ) → IsClaimLine line (CleanAfter machine job at) → ⊥

-- nor `clean M J.K T`
abbrev pub IsNoCleanAfterStep : List ℕ → Type 0
IsNoCleanAfterStep line = (machine job step at : ℕ) → IsClaimLine line (CleanAfterStep machine job step at) → ⊥

-- what is claimed by a report
abbrev pub IsReport : Claim → Type 0
IsReport (Report report) = Unit {0}
IsReport _ = ⊥

-- if the line claims anything, it does by a report
abbrev pub ClaimsReports : List ℕ → Type 0
ClaimsReports line = (claim : Claim) → IsClaimLine line claim → IsReport claim
