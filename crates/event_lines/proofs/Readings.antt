-- A line has one reading.
use Rattle.std.proofs.Common.{◌≡◌, ℕ, List, [], ◌∷◌, ◌++◌, codes, refl, sym, ap, ap₂, ◌∙◌, subst, append_assoc, append-nil}
use Rattle.shop_base.specs.declared.move_order.Spot.{Spot}
use Rattle.shop_base.specs.declared.move_order.Spot.TheVariants.{Out, At}
use Rattle.shop_base.specs.declared.move_order.MoveOrder.{MoveOrder}
use Rattle.shop_base.specs.declared.report.Report.{Report}
use Rattle.shop_base.specs.Plan.{PlannedShop}
use Rattle.shop_base.specs.declared.report.Report.TheVariants.{Arrive, Finish, Clean}
use Rattle.text_lines.specs.Numbers.{IsNumeral}
use Rattle.cell_tables.specs.declared.entry.Entry.{Entry}
use Rattle.cell_tables.specs.declared.entry.Entry.TheVariants.{Report as ReportEntry, Order as OrderEntry}
use Rattle.event_lines.specs.Words.{Word, Text, Number, JobStep, short, spaced_words, IsJobStep, IsRead, AreRead}
use Rattle.event_lines.specs.EventLines.{spot_word, logged_words, order_words}
use Rattle.event_lines.specs.SentLines.{sent_words, IsReportLine}
use Rattle.event_lines.specs.LogLines.{LineParses, LinesParse}
use Rattle.event_lines.specs.declared.requests.Request.{Request}
use Rattle.event_lines.specs.declared.requests.Request.TheVariants.{Claim as ClaimRequest, Status}
use Rattle.cell_tables.specs.declared.claim.Claim.{Claim}
use Rattle.cell_tables.specs.declared.claim.Claim.TheVariants.{Report as ReportClaim, FinishStep, CleanAfter, CleanAfterStep}
use Rattle.event_lines.specs.Requests.{claim_words, request_words, IsRequestLine}
use Rattle.event_lines.specs.ReadBack.{OneEntry, OneReport, OneCellReport, OneRequest, OneCellRequest}
use Rattle.event_lines.proofs.Ends.{unlike}
use Rattle.event_lines.proofs.JobSteps.{no_numeral, one_step}

-- two words that the same bytes are read as
abbrev AreBoth : Word → Word → Type 0
AreBoth (Text a) (Text b) = b ≡ a
AreBoth (Text a) (Number most n) = IsNumeral most a n
AreBoth (Number most n) (Text b) = IsNumeral most b n
AreBoth (Number most n) (Number other m) = m ≡ n
AreBoth (Text a) (JobStep j k) = IsJobStep a j k
AreBoth (JobStep j k) (Text b) = IsJobStep b j k
AreBoth (Number most n) (JobStep j k) = ⊥
AreBoth (JobStep j k) (Number most n) = ⊥
AreBoth (JobStep i k) (JobStep j l) = (j ≡ i) × (l ≡ k)

abbrev AllBoth : List Word → List Word → Type 0
AllBoth [] [] = Unit {0}
AllBoth [] (w ∷ ws) = ⊥
AllBoth (v ∷ vs) [] = ⊥
AllBoth (v ∷ vs) (w ∷ ws) = AreBoth v w × AllBoth vs ws

both : (bytes : List ℕ) (v w : Word) → IsRead bytes v → IsRead bytes w → AreBoth v w
both bytes (Text a) (Text b) is also = sym also ∙ is
both bytes (Text a) (Number most n) is also = subst (λ (l : List ℕ). IsNumeral most l n) is also
both bytes (Number most n) (Text b) is also = subst (λ (l : List ℕ). IsNumeral most l n) also is
both bytes (Number most n) (Number other m) is also = also.value ∙ sym is.value
both bytes (Text a) (JobStep j k) is also = subst (λ (l : List ℕ). IsJobStep l j k) is also
both bytes (JobStep j k) (Text b) is also = subst (λ (l : List ℕ). IsJobStep l j k) also is
both bytes (Number most n) (JobStep j k) is also = no_numeral bytes most n j k is also
both bytes (JobStep j k) (Number most n) is also = no_numeral bytes most n j k also is
both bytes (JobStep i k) (JobStep j l) is also = one_step bytes i k j l is also

all_both : (line : List (List ℕ)) (vs ws : List Word) → AreRead line vs → AreRead line ws → AllBoth vs ws
all_both [] [] [] is also = tt
all_both [] [] (w ∷ ws) is also = absurd also
all_both [] (v ∷ vs) ws is also = absurd is
all_both (bytes ∷ line) [] ws is also = absurd is
all_both (bytes ∷ line) (v ∷ vs) [] is also = absurd also
all_both (bytes ∷ line) (v ∷ vs) (w ∷ ws) is also = (both bytes v w is.0 also.0, all_both line vs ws is.1 also.1)

-- ---- reports

same_parsed : (one other : Report) → AllBoth (logged_words one) (logged_words other) → other ≡ one
same_parsed (Arrive job at) (Arrive job' at') (_, (t, (_, (j, _)))) = ap₂ (λ x y. Arrive x y) j t
same_parsed (Arrive job at) (Finish job' machine' at') (_, (_, (name, _))) = absurd (unlike 102 97 _ _ refl name)
same_parsed (Arrive job at) (Clean machine' at') (_, (_, (name, _))) = absurd (unlike 99 97 _ _ refl name)
same_parsed (Finish job machine at) (Arrive job' at') (_, (_, (name, _))) = absurd (unlike 97 102 _ _ refl name)
same_parsed (Finish job machine at) (Finish job' machine' at') (_, (t, (_, (j, (m, _))))) = cc (t, j, m)
same_parsed (Finish job machine at) (Clean machine' at') (_, (_, (name, _))) = absurd (unlike 99 102 _ _ refl name)
same_parsed (Clean machine at) (Arrive job' at') (_, (_, (name, _))) = absurd (unlike 97 99 _ _ refl name)
same_parsed (Clean machine at) (Finish job' machine' at') (_, (_, (name, _))) = absurd (unlike 102 99 _ _ refl name)
same_parsed (Clean machine at) (Clean machine' at') (_, (t, (_, (m, _)))) = ap₂ (λ x y. Clean x y) m t

same_sent : (one other : Report) → AllBoth (sent_words one) (sent_words other) → other ≡ one
same_sent (Arrive job at) (Arrive job' at') (_, (j, (t, _))) = ap₂ (λ x y. Arrive x y) j t
same_sent (Arrive job at) (Finish job' machine' at') (name, _) = absurd (unlike 102 97 _ _ refl name)
same_sent (Arrive job at) (Clean machine' at') (name, _) = absurd (unlike 99 97 _ _ refl name)
same_sent (Finish job machine at) (Arrive job' at') (name, _) = absurd (unlike 97 102 _ _ refl name)
same_sent (Finish job machine at) (Finish job' machine' at') (_, (j, (m, (t, _)))) = cc (t, j, m)
same_sent (Finish job machine at) (Clean machine' at') (name, _) = absurd (unlike 99 102 _ _ refl name)
same_sent (Clean machine at) (Arrive job' at') (name, _) = absurd (unlike 97 99 _ _ refl name)
same_sent (Clean machine at) (Finish job' machine' at') (name, _) = absurd (unlike 102 99 _ _ refl name)
same_sent (Clean machine at) (Clean machine' at') (_, (m, (t, _))) = ap₂ (λ x y. Clean x y) m t

pub one_report : OneReport
one_report line one other is also = same_sent one other (all_both (spaced_words line) (sent_words one) (sent_words other) is also)

pub one_cell_report : OneCellReport
one_cell_report line cell cell' one other is also =
    let same = all_both (spaced_words line) (short cell ∷ sent_words one) (short cell' ∷ sent_words other) is also in
    (same.0, same_sent one other same.1)

-- ---- requests

same_claim : (one other : Claim) → AllBoth (claim_words one) (claim_words other) → other ≡ one
same_claim (ReportClaim one) (ReportClaim other) both = ap ReportClaim (same_sent one other both)
same_claim (ReportClaim (Arrive job at)) (FinishStep job' step' at') (name, _) = absurd (unlike 102 97 _ _ refl name)
same_claim (ReportClaim (Finish job machine at)) (FinishStep job' step' at') (_, (none, _)) = absurd none
same_claim (ReportClaim (Clean machine at)) (FinishStep job' step' at') (name, _) = absurd (unlike 102 99 _ _ refl name)
same_claim (FinishStep job step at) (ReportClaim (Arrive job' at')) (name, _) = absurd (unlike 97 102 _ _ refl name)
same_claim (FinishStep job step at) (ReportClaim (Finish job' machine' at')) (_, (none, _)) = absurd none
same_claim (FinishStep job step at) (ReportClaim (Clean machine' at')) (name, _) = absurd (unlike 99 102 _ _ refl name)
same_claim (FinishStep job step at) (FinishStep job' step' at') (_, ((j, k), (t, _))) = cc (j, k, t)
same_claim (FinishStep job step at) (CleanAfter machine' job' at') (name, _) = absurd (unlike 99 102 _ _ refl name)
same_claim (FinishStep job step at) (CleanAfterStep machine' job' step' at') (name, _) = absurd (unlike 99 102 _ _ refl name)
same_claim (CleanAfter machine job at) (FinishStep job' step' at') (name, _) = absurd (unlike 102 99 _ _ refl name)
same_claim (CleanAfter machine job at) (CleanAfterStep machine' job' step' at') (_, (_, (none, _))) = absurd none
same_claim (ReportClaim (Arrive job at)) (CleanAfterStep machine' job' step' at') (name, _) = absurd (unlike 99 97 _ _ refl name)
same_claim (ReportClaim (Finish job machine at)) (CleanAfterStep machine' job' step' at') (name, _) = absurd (unlike 99 102 _ _ refl name)
same_claim (ReportClaim (Clean machine at)) (CleanAfterStep machine' job' step' at') (_, (_, (none, _))) = absurd none
same_claim (CleanAfterStep machine job step at) (ReportClaim (Arrive job' at')) (name, _) = absurd (unlike 97 99 _ _ refl name)
same_claim (CleanAfterStep machine job step at) (ReportClaim (Finish job' machine' at')) (name, _) = absurd (unlike 102 99 _ _ refl name)
same_claim (CleanAfterStep machine job step at) (ReportClaim (Clean machine' at')) (_, (_, (none, _))) = absurd none
same_claim (CleanAfterStep machine job step at) (FinishStep job' step' at') (name, _) = absurd (unlike 102 99 _ _ refl name)
same_claim (CleanAfterStep machine job step at) (CleanAfter machine' job' at') (_, (_, (none, _))) = absurd none
same_claim (CleanAfterStep machine job step at) (CleanAfterStep machine' job' step' at') (_, (m, ((j, k), (t, _)))) = cc (m, j, k, t)
same_claim (ReportClaim (Arrive job at)) (CleanAfter machine' job' at') (name, _) = absurd (unlike 99 97 _ _ refl name)
same_claim (ReportClaim (Finish job machine at)) (CleanAfter machine' job' at') (name, _) = absurd (unlike 99 102 _ _ refl name)
same_claim (ReportClaim (Clean machine at)) (CleanAfter machine' job' at') (_, (_, (_, more))) = absurd more
same_claim (CleanAfter machine job at) (ReportClaim (Arrive job' at')) (name, _) = absurd (unlike 97 99 _ _ refl name)
same_claim (CleanAfter machine job at) (ReportClaim (Finish job' machine' at')) (name, _) = absurd (unlike 102 99 _ _ refl name)
same_claim (CleanAfter machine job at) (ReportClaim (Clean machine' at')) (_, (_, (_, more))) = absurd more
same_claim (CleanAfter machine job at) (CleanAfter machine' job' at') (_, (m, (j, (t, _)))) = cc (m, j, t)

some_words : (claim : Claim) (text : List ℕ) → AllBoth (claim_words claim) (Text text ∷ []) → ⊥
some_words (ReportClaim (Arrive job at)) text (_, more) = more
some_words (ReportClaim (Finish job machine at)) text (_, more) = more
some_words (ReportClaim (Clean machine at)) text (_, more) = more
some_words (FinishStep job step at) text (_, more) = more
some_words (CleanAfter machine job at) text (_, more) = more
some_words (CleanAfterStep machine job step at) text (_, more) = more

no_words : (claim : Claim) (text : List ℕ) → AllBoth (Text text ∷ []) (claim_words claim) → ⊥
no_words (ReportClaim (Arrive job at)) text (_, more) = more
no_words (ReportClaim (Finish job machine at)) text (_, more) = more
no_words (ReportClaim (Clean machine at)) text (_, more) = more
no_words (FinishStep job step at) text (_, more) = more
no_words (CleanAfter machine job at) text (_, more) = more
no_words (CleanAfterStep machine job step at) text (_, more) = more

same_request : (one other : Request) → AllBoth (request_words one) (request_words other) → other ≡ one
same_request (ClaimRequest one) (ClaimRequest other) both = ap ClaimRequest (same_claim one other both)
same_request (ClaimRequest one) Status both = absurd (some_words one (codes "status") both)
same_request Status (ClaimRequest other) both = absurd (no_words other (codes "status") both)
same_request Status Status both = refl

pub one_request : OneRequest
one_request line one other is also = same_request one other (all_both (spaced_words line) (request_words one) (request_words other) is also)

pub one_cell_request : OneCellRequest
one_cell_request line cell cell' one other is also =
    let same = all_both (spaced_words line) (short cell ∷ request_words one) (short cell' ∷ request_words other) is also in
    (same.0, same_request one other same.1)

-- no request is an empty line
pub some_request : (line : List ℕ) (request : Request) → IsRequestLine line request → line ≡ [] → ⊥
some_request line request is none = go request (subst (λ (l : List ℕ). IsRequestLine l request) none is)
  where
    go : (r : Request) → IsRequestLine [] r → ⊥
    go (ClaimRequest (ReportClaim (Arrive job at))) read = read.1
    go (ClaimRequest (ReportClaim (Finish job machine at))) read = read.1
    go (ClaimRequest (ReportClaim (Clean machine at))) read = read.1
    go (ClaimRequest (FinishStep job step at)) read = read.1
    go (ClaimRequest (CleanAfter machine job at)) read = read.1
    go (ClaimRequest (CleanAfterStep machine job step at)) read = read.1
    go Status read = let other : codes "status" ≡ [] = sym read.0 in absurd (cc)

-- no report is an empty line
pub some_line : (line : List ℕ) (report : Report) → IsReportLine line report → line ≡ [] → ⊥
some_line line report is none = go report (subst (λ (l : List ℕ). IsReportLine l report) none is)
  where
    go : (r : Report) → IsReportLine [] r → ⊥
    go (Arrive job at) read = read.1
    go (Finish job machine at) read = read.1
    go (Clean machine at) read = read.1

-- ---- orders

out_no_number : (n : ℕ) → IsNumeral 9 (codes "out") n → ⊥
out_no_number n is_number = let digits = is_number.digits in absurd (cc)

same_spot : (one other : Spot) → AreBoth (spot_word one) (spot_word other) → other ≡ one
same_spot Out Out both = refl
same_spot Out (At m) both = absurd (out_no_number m both)
same_spot (At m) Out both = absurd (out_no_number m both)
same_spot (At m) (At n) both = ap At both

same_order : (one other : MoveOrder) → AllBoth (order_words one) (order_words other) → other ≡ one
same_order one other (_, (at, (job, (source, (target, _))))) =
    ap (λ (n : ℕ). let o : MoveOrder = record { job = n; source = other.source; target = other.target; at = other.at } in o) job
    ∙ ap (λ (s : Spot). let o : MoveOrder = record { job = one.job; source = s; target = other.target; at = other.at } in o) (same_spot one.source other.source source)
    ∙ ap (λ (s : Spot). let o : MoveOrder = record { job = one.job; source = one.source; target = s; at = other.at } in o) (same_spot one.target other.target target)
    ∙ ap (λ (n : ℕ). let o : MoveOrder = record { job = one.job; source = one.source; target = one.target; at = n } in o) at

-- ---- entries

pub one_entry : OneEntry
one_entry line (ReportEntry r) (ReportEntry s) is also = ap ReportEntry (same_parsed r s (all_both (spaced_words line) (logged_words r) (logged_words s) is also))
one_entry line (ReportEntry r) (OrderEntry o) is also = let same = all_both (spaced_words line) (logged_words r) (order_words o) is also in absurd (unlike 111 114 _ _ refl same.0)
one_entry line (OrderEntry o) (ReportEntry r) is also = let same = all_both (spaced_words line) (order_words o) (logged_words r) is also in absurd (unlike 114 111 _ _ refl same.0)
one_entry line (OrderEntry o) (OrderEntry q) is also = ap OrderEntry (same_order o q (all_both (spaced_words line) (order_words o) (order_words q) is also))

-- a line records one list of entries
pub one_parse : (p : PlannedShop) (line : List ℕ) (a b : List Entry) → LineParses p line a → LineParses p line b → a ≡ b
one_parse p line [] [] h k = refl
one_parse p line [] (e ∷ []) h k = let other = k.0 in absurd (cc)
one_parse p line [] (e ∷ f ∷ es) h k = absurd k
one_parse p line (e ∷ []) [] h k = let other = h.0 in absurd (cc)
one_parse p line (e ∷ []) (f ∷ []) h k = ap (λ x. x ∷ []) (one_entry line f e k.1 h.1)
one_parse p line (e ∷ []) (f ∷ g ∷ es) h k = absurd k
one_parse p line (e ∷ f ∷ es) b h k = absurd h

-- so do lines
pub one_reading : (p : PlannedShop) (lines : List (List ℕ)) (a b : List Entry) → LinesParse p lines a → LinesParse p lines b → a ≡ b
one_reading p [] a b h k = h ∙ sym k
one_reading p (line ∷ lines) a b h k =
    h.4 ∙ ap₂ (λ x y. x ++ y) (one_parse p line h.0 k.0 h.2 k.2) (one_reading p lines h.1 k.1 h.3 k.3) ∙ sym k.4

-- one more line behind others
pub parse-more : (p : PlannedShop) (lines : List (List ℕ)) (line : List ℕ) (all own : List Entry) → LinesParse p lines all → LineParses p line own
    → LinesParse p (lines ++ line ∷ []) (all ++ own)
parse-more p [] line all own parses more = (own, [], more, refl, ap (λ es. es ++ own) parses ∙ sym (append-nil own))
parse-more p (first ∷ lines) line all own parses more =
    (parses.0, parses.1 ++ own, parses.2, parse-more p lines line parses.1 own parses.3 more, ap (λ es. es ++ own) parses.4 ∙ append_assoc parses.0 parses.1 own)

-- what lines record, in two parts
pub parse-parts : (p : PlannedShop) (before after : List (List ℕ)) (all : List Entry) → LinesParse p (before ++ after) all
    → (a : List Entry) × (b : List Entry) × LinesParse p before a × LinesParse p after b × (all ≡ a ++ b)
parse-parts p [] after all parses = ([], all, refl, parses, refl)
parse-parts p (line ∷ before) after all parses =
    let (a, b, first, second, split) = parse-parts p before after parses.1 parses.3 in
    (parses.0 ++ a, b, (parses.0, a, parses.2, first, refl), second, parses.4 ∙ ap (λ es. parses.0 ++ es) split ∙ sym (append_assoc parses.0 a b))
