-- Which words say what has ended, and which no event.
use Rattle.std.proofs.Common.{◌≡◌, ◌≢◌, ℕ, false, true, nat_eq, List, [], ◌∷◌, ◌++◌, codes, eqb, ap}
use Rattle.std.specs.List.{starts_with}
use Rattle.std.proofs.lemmas.Bool.{eq-eqb}
use Rattle.shop_base.specs.declared.move_order.Spot.{Spot}
use Rattle.shop_base.specs.declared.move_order.Spot.TheVariants.{Out, At}
use Rattle.shop_base.specs.declared.report.Report.{Report}
use Rattle.shop_base.specs.Report.{at}
use Rattle.shop_base.specs.declared.report.Report.TheVariants.{Arrive, Finish, Clean}
use Rattle.cell_tables.specs.declared.entry.Entry.{Entry}
use Rattle.cell_tables.specs.declared.entry.Entry.TheVariants.{Report as ReportEntry, Order as OrderEntry}
use Rattle.event_lines.specs.Words.{Text, Number, short, moment, IsReadAs}
use Rattle.event_lines.specs.EventLines.{end_words, spot_word, move_numbers, IsEntryLine}
use Rattle.event_lines.specs.SentLines.{IsNoReport}
use Rattle.event_lines.specs.declared.requests.Request.TheVariants.{Claim as ClaimRequest, Status}
use Rattle.cell_tables.specs.declared.claim.Claim.{Claim}
use Rattle.cell_tables.specs.declared.claim.Claim.TheVariants.{Report as ReportClaim, FinishStep, CleanAfter, CleanAfterStep}
use Rattle.event_lines.specs.Requests.{IsClaimLine, IsNoFinishStep, IsNoCleanAfter, IsNoCleanAfterStep, ClaimsReports, IsReport, IsNoRequest}
use Rattle.event_lines.specs.AnswerLines.{is_passed_over}
use Rattle.event_lines.specs.FirstWords.{IsNeverFirst, IsOnly}
use Rattle.event_lines.proofs.WordByWord.{only_of, text_before}

-- texts with other first bytes are others
pub unlike : (a b : ℕ) (text other : List ℕ) → eqb a b ≡ false → a ∷ text ≡ b ∷ other → ⊥
unlike a b text other unequal same = let heads : a ≡ b = cc in let equal = eq-eqb a b heads in cc

-- ---- what has ended

module _ (line : List ℕ) (a : (rest : List ℕ) → line ≢ codes "arrive " ++ rest) (f : (rest : List ℕ) → line ≢ codes "finish " ++ rest) (c : (rest : List ℕ) → line ≢ codes "clean " ++ rest) where
  pub no_end : (report : Report) → IsReadAs line (end_words report) → ⊥
  no_end (Arrive job at) found = let first = text_before line (codes "arrive") (short job) [] found in a first.0 first.1
  no_end (Finish job machine at) found = let first = text_before line (codes "finish") (short job) (short machine ∷ []) found in f first.0 first.1
  no_end (Clean machine at) found = let first = text_before line (codes "clean") (short machine) [] found in c first.0 first.1

  pub no_sent : IsNoReport line
  no_sent (Arrive job at) found = let first = text_before line (codes "arrive") (short job) (moment at ∷ []) found in a first.0 first.1
  no_sent (Finish job machine at) found = let first = text_before line (codes "finish") (short job) (short machine ∷ moment at ∷ []) found in f first.0 first.1
  no_sent (Clean machine at) found = let first = text_before line (codes "clean") (short machine) (moment at ∷ []) found in c first.0 first.1

-- ---- requests

pub claims_reports : (line : List ℕ) → IsNoFinishStep line → IsNoCleanAfter line → IsNoCleanAfterStep line → ClaimsReports line
claims_reports line finish clean clean_step (ReportClaim r) found = tt
claims_reports line finish clean clean_step (FinishStep job step at) found = finish job step at found
claims_reports line finish clean clean_step (CleanAfter machine job at) found = clean machine job at found
claims_reports line finish clean clean_step (CleanAfterStep machine job step at) found = clean_step machine job step at found

no_claim : (line : List ℕ) (claim : Claim) → IsNoReport line → IsReport claim → IsClaimLine line claim → ⊥
no_claim line (ReportClaim r) report is found = report r found
no_claim line (FinishStep job step at) report is found = is
no_claim line (CleanAfter machine job at) report is found = is
no_claim line (CleanAfterStep machine job step at) report is found = is

pub no_request : (line : List ℕ) → (line ≡ codes "status" → ⊥) → ClaimsReports line → IsNoReport line → IsNoRequest line
no_request line status reports report (ClaimRequest claim) found = no_claim line claim report (reports claim found) found
no_request line status reports report Status found = status (only_of line (Text (codes "status")) found)

-- ---- orders

pub no_spot : (line : List ℕ) → IsNeverFirst (λ n. Number 9 n) line → ((rest : List ℕ) → line ≢ codes "out " ++ rest) → IsNeverFirst spot_word line
no_spot line none o Out next words found = let first = text_before line (codes "out") next words found in o first.0 first.1
no_spot line none o (At machine) next words found = none machine next words found

pub no_spot_alone : (line : List ℕ) → (line ≡ codes "out" → ⊥) → ((n : ℕ) → IsOnly short line n → ⊥) → (spot : Spot) → IsOnly spot_word line spot → ⊥
no_spot_alone line out none Out found = out (only_of line (Text (codes "out")) found)
no_spot_alone line out none (At machine) found = none machine found

-- ---- events

-- a line with neither word first records nothing
no_line : (line : List ℕ) → ((rest : List ℕ) → line ≢ codes "report " ++ rest) → ((rest : List ℕ) → line ≢ codes "order " ++ rest) → (entry : Entry) → IsEntryLine line entry → ⊥
no_line line r o (ReportEntry report) found = let first = text_before line (codes "report") (moment (at report)) (end_words report) found in r first.0 first.1
no_line line r o (OrderEntry order) found = let first = text_before line (codes "order") (moment order.at) (move_numbers order) found in o first.0 first.1

-- with the first byte of `order` it is no report, and with another no order
pub no_line-order : (line : List ℕ) → starts_with nat_eq line (codes "o") ≡ true → ((rest : List ℕ) → line ≢ codes "order " ++ rest) → (entry : Entry) → IsEntryLine line entry → ⊥
no_line-order line first none = no_line line (λ rest is. let other : starts_with nat_eq line (codes "o") ≡ false = ap (λ l. starts_with nat_eq l (codes "o")) is in cc) none

pub no_line-report : (line : List ℕ) → starts_with nat_eq line (codes "o") ≡ false → ((rest : List ℕ) → line ≢ codes "report " ++ rest) → (entry : Entry) → IsEntryLine line entry → ⊥
no_line-report line first none = no_line line none (λ rest is. let other : starts_with nat_eq line (codes "o") ≡ true = ap (λ l. starts_with nat_eq l (codes "o")) is in cc)

-- a line that records an entry isn't passed over
pub parsed-not_passed : (line : List ℕ) (entry : Entry) → IsEntryLine line entry → is_passed_over line ≡ false
parsed-not_passed line (ReportEntry report) found = let first = text_before line (codes "report") (moment (at report)) (end_words report) found in ap is_passed_over first.1
parsed-not_passed line (OrderEntry order) found = let first = text_before line (codes "order") (moment order.at) (move_numbers order) found in ap is_passed_over first.1
