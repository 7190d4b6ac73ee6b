-- The lines of events that are written once more by a protocol.
use Rattle.std.proofs.Common.{◌≡◌, ℕ, ◌+◌, ◌<◌, ◌≤◌, List, [], ◌∷◌, ◌++◌, Bool, true, false, cond, Option, None, length, get_or, take, drop, refl, sym, ap, ap₂, ◌∙◌, subst, arith}
use Rattle.std.proofs.{lemmas.List.{drop_more, take-append-drop}, Math.ListN.drop_of_length-le}
use Rattle.shop_base.specs.{Plan.PlannedShop, Cell.{Cell, start}, Run.{after, IsRun}, Report.at}
use Rattle.cell_tables.specs.declared.entry.Entry.{Entry, TheVariants.{Report as ReportEntry, Order as OrderEntry}}
use Rattle.cell_tables.specs.Events.{event_of, events_of}
use Rattle.run_log.proofs.Audits.{events-join}
use Rattle.event_lines.specs.{EventLines.{report_line, order_line}, AnswerLines.late_line}
use Rattle.event_lines.specs.declared.details.Overdue.{Overdue}
use Rattle.cell_drive.specs.{declared.protocol.Protocol.Protocol, ProtocolText.lateness_part, PlainLines.plain_lines}
use Rattle.cell_drive.specs.{ProtocolLaw.PlainReplay, Replay.{replay_line, replay_lines}}
use Rattle.cell_drive.proofs.OwnRuns.{front_events}

-- ---- in version 1

no_lateness : (version_2 : Bool) (at : ℕ) (late : Bool) (overdue : Option Overdue) → version_2 ≡ false → lateness_part [] at late (cond version_2 overdue None) ≡ cond late (late_line at) []
no_lateness true at late overdue plain = absurd (cc)
no_lateness false at late overdue plain = refl

pub plain_replay : PlainReplay
plain_replay p protocol c [] late plain = refl
plain_replay p protocol c (entry ∷ entries) [] plain = refl
plain_replay p protocol c (ReportEntry report ∷ entries) (was_late ∷ late) plain =
    ap (λ (rest : List ℕ). replay_line p protocol c (ReportEntry report) was_late ++ rest) (plain_replay p protocol (after p c (event_of (ReportEntry report))) entries late plain)
    ∙ ap (λ (line : List ℕ). (report_line report ++ line) ++ plain_lines entries late) (no_lateness protocol.version_2 (at report) was_late _ plain)
plain_replay p protocol c (OrderEntry order ∷ entries) (was_late ∷ late) plain =
    ap (λ (rest : List ℕ). order_line order ++ rest) (plain_replay p protocol (after p c (event_of (OrderEntry order))) entries late plain)

-- ---- one after another

-- the lines of the next event, and those after it
pub next_replayed : (p : PlannedShop) (protocol : Protocol) (c : Cell) (entries : List Entry) (late : List Bool) (i : ℕ) (d : Entry) (e : Bool) → i < length entries → length entries ≡ length late
    → replay_line p protocol c (get_or entries i d) (get_or late i e) ++ replay_lines p protocol (after p c (event_of (get_or entries i d))) (drop (i + 1) entries) (drop (i + 1) late)
    ≡ replay_lines p protocol c (drop i entries) (drop i late)
next_replayed p protocol c entries late i d e below same =
    sym (ap (λ (es : List Entry). replay_lines p protocol c es (drop i late)) (drop_more entries i d below)
    ∙ ap (λ (ls : List Bool). replay_lines p protocol c (get_or entries i d ∷ drop (i + 1) entries) ls) (drop_more late i e (omega (arith, below, same))))

-- so from the cell that it makes, by a plan that stays
pub more_replayed : (p q : PlannedShop) (protocol : Protocol) (c x : Cell) (entries : List Entry) (late : List Bool) (i : ℕ) (d : Entry) (e : Bool) → i < length entries → length entries ≡ length late
    → q ≡ p → x ≡ after p c (event_of (get_or entries i d))
    → replay_line p protocol c (get_or entries i d) (get_or late i e) ++ replay_lines q protocol x (drop (i + 1) entries) (drop (i + 1) late) ≡ replay_lines p protocol c (drop i entries) (drop i late)
more_replayed p q protocol c x entries late i d e below same same_plan is =
    ap₂ (λ (r : PlannedShop) (y : Cell). replay_line p protocol c (get_or entries i d) (get_or late i e) ++ replay_lines r protocol y (drop (i + 1) entries) (drop (i + 1) late)) same_plan is
    ∙ next_replayed p protocol c entries late i d e below same

-- there are none behind the last
pub no_more_replayed : (p : PlannedShop) (protocol : Protocol) (c : Cell) (entries : List Entry) (late : List Bool) (i : ℕ) → length entries ≤ i → replay_lines p protocol c (drop i entries) (drop i late) ≡ []
no_more_replayed p protocol c entries late i past = ap (λ (es : List Entry). replay_lines p protocol c es (drop i late)) (drop_of_length-le entries past)

-- the first of the events of a run are one
pub first_run : (p q : PlannedShop) (n : ℕ) (entries others : List Entry) → q ≡ p → others ≡ entries → IsRun p (events_of entries) → IsRun q (events_of (take n others))
first_run p q n entries others same_plan same run =
    let parts : events_of entries ≡ events_of (take n entries) ++ events_of (drop n entries) = ap events_of (sym (take-append-drop n entries)) ∙ events-join (take n entries) (drop n entries) in
    subst (λ (r : PlannedShop). IsRun r (events_of (take n others))) (sym same_plan)
    (subst (λ (es : List Entry). IsRun p (events_of (take n es))) (sym same)
    (front_events p (start p) (events_of (take n entries)) (events_of (drop n entries)) (subst (IsRun p) parts run)))
