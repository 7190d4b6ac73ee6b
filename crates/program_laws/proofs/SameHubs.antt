-- A driven hub writes the same.
use Rattle.std.proofs.Common.{◌≡◌, ◌↔◌, ◌⊎◌, ℕ, zero, suc, ◌+◌, ◌≤◌, ◌++◌, List, [], ◌∷◌, set, drop, Bool, IsTrue, Option, Some, None, Result, Ok, Err, length, get_or, map, option_map, inl, inr, ap, sym, ◌∙◌, subst, refl}
use Rattle.std.specs.Prelude.{slice_get}
use Rattle.std.specs.String.{string_bytes}
use Rattle.shop_base.specs.Plan.{PlannedShop}
use Rattle.shop_base.specs.Cell.{Cell, start}
use Rattle.shop_base.specs.Ends.{HasEnded}
use Rattle.text_lines.specs.declared.limits.TheConstants.{MAX_INPUT}
use Rattle.plan_verifier.specs.Accepted.{VerifiedPlan}
use Rattle.byte_streams.specs.declared.drive_fault.DriveFault.{DriveFault}
use Rattle.byte_streams.specs.Answering.{AnswerAll}
use Rattle.byte_streams.specs.Lines.{input_lines}
use Rattle.event_lines.specs.SentLines.{cell_prefix}
use Rattle.cell_drive.specs.declared.protocol.Protocol.{Protocol}
use Rattle.cell_drive.specs.declared.hub.HubEnd.{HubEnd}
use Rattle.cell_drive.specs.LineAnswers.{IsClosingLine}
use Rattle.cell_drive.specs.ProtocolText.{RequestAnswer}
use Rattle.cell_drive.specs.ManyCells.{HubCell, AreAllDone, AreVerified, CellsClose, hub_start}
use Rattle.cell_drive.specs.ProtocolCells.{AreDrivesIn, HubAnswer, HubCloses, HubOfCells, IsReplyIn, OfCell, ProtocolCellsAnswer, hub_of_plans}
use Rattle.cell_drive.specs.ProtocolCellsLaw.{IsCellsText}
use Rattle.cell_drive.proofs.OneText.{one_cells_text}
use Rattle.command_words.specs.declared.words.Chosen.{Chosen}
use Rattle.command_words.specs.declared.words.CommandName.{CommandName}
use Rattle.command_words.specs.declared.words.CommandName.TheVariants.{Hub}
use Rattle.command_words.specs.declared.words.WordsFault.{WordsFault}
use Rattle.command_words.specs.declared.words.WordsFault.TheVariants.{Usage, Memory as NoWordsMemory}
use Rattle.command_words.specs.Choice.{IsChoiceOf, NamesOneOf, found_in}
use Rattle.command_answers.specs.declared.answer.Answer.{Answer}
use Rattle.command_answers.specs.declared.command_fault.CommandFault.{CommandFault}
use Rattle.command_answers.specs.declared.command_fault.CommandFault.TheVariants.{Memory}
use Rattle.command_run.specs.Streams.{Streams}
use Rattle.command_run.specs.Drives.{IsEndAnswer, status_at}
use Rattle.command_run.specs.Hubs.{end_of_hub}
use Rattle.command_run.specs.Ending.{Ends, EndsBy}
use Rattle.command_run.specs.Program.{AreWordsRead, Follows, RunsChosen, RunsCommand, RunsHub, draws, file_at, given_log_in, keeps_log, kept_log_in, log_given_to, log_kept_by, name_in, plans_in, protocol_in}
use Rattle.command_run.specs.Laws.{Shelf, DrivesPlans, ParseAsAcceptedPlans, RunsWell}
use Rattle.program_laws.specs.HistoryLaw.{protocol_of}
use Rattle.program_laws.specs.HubLaw.{AskForHub, HubWritesTheSame}
use Rattle.program_laws.proofs.CommandNames.{same_command}
use Rattle.program_laws.proofs.GoodHubs.{good_hub, plans_of}
use Rattle.program_laws.proofs.ShownLogs.{apart_runs}
use Rattle.program_laws.proofs.SameWriting.{ended_well, memory_ends, memory_status, never_broke, own_ends, same_manner, same_truth}

-- ---- cells by the same plans, whose evidence may differ

record IsAlike (c d : HubCell) : Type 0 where
  plan : d.plan.planned ≡ c.plan.planned
  cell : d.cell ≡ c.cell

abbrev AreAlike : List HubCell → List HubCell → Type 0
AreAlike [] [] = Unit {0}
AreAlike [] (d ∷ others) = ⊥
AreAlike (c ∷ cells) [] = ⊥
AreAlike (c ∷ cells) (d ∷ others) = IsAlike c d × AreAlike cells others

starts_alike : (plans others : List VerifiedPlan) → plans_of others ≡ plans_of plans → AreAlike (hub_start plans) (hub_start others)
starts_alike [] [] same = tt
starts_alike [] (w ∷ others) same = absurd (cc same)
starts_alike (v ∷ plans) [] same = absurd (cc same)
starts_alike (v ∷ plans) (w ∷ others) same =
    let first : w.planned ≡ v.planned = cc same in
    let rest : plans_of others ≡ plans_of plans = cc same in
    (record { plan = first; cell = ap start first }, starts_alike plans others rest)

-- the cells of a number, where there are such
abbrev AlikeAt : Option HubCell → Option HubCell → Type 0
AlikeAt None None = Unit {0}
AlikeAt None (Some d) = ⊥
AlikeAt (Some c) None = ⊥
AlikeAt (Some c) (Some d) = IsAlike c d

alike_at : (cells others : List HubCell) (k : ℕ) → AreAlike cells others → AlikeAt (slice_get cells k) (slice_get others k)
alike_at [] [] k alike = tt
alike_at [] (d ∷ others) k alike = absurd alike
alike_at (c ∷ cells) [] k alike = absurd alike
alike_at (c ∷ cells) (d ∷ others) zero alike = alike.0
alike_at (c ∷ cells) (d ∷ others) (suc k) alike = alike_at cells others k alike.1

set_alike : (cells others : List HubCell) (k : ℕ) (c d : HubCell) → AreAlike cells others → IsAlike c d → AreAlike (set cells k c) (set others k d)
set_alike [] [] k c d alike one = tt
set_alike [] (e ∷ others) k c d alike one = absurd alike
set_alike (b ∷ cells) [] k c d alike one = absurd alike
set_alike (b ∷ cells) (e ∷ others) zero c d alike one = (one, alike.1)
set_alike (b ∷ cells) (e ∷ others) (suc k) c d alike one = (alike.0, set_alike cells others k c d alike.1 one)

closes_alike : (cells others : List HubCell) (number : ℕ) (text : List ℕ) → AreAlike cells others → CellsClose number others text → CellsClose number cells text
closes_alike [] [] number text alike is = is
closes_alike [] (d ∷ others) number text alike is = absurd alike
closes_alike (c ∷ cells) [] number text alike is = absurd alike
closes_alike (c ∷ cells) (d ∷ others) number text alike is =
    let line : IsClosingLine c.plan.planned c.cell is.0 =
    subst (λ (x : Cell). IsClosingLine c.plan.planned x is.0) alike.0.cell (subst (λ (p : PlannedShop). IsClosingLine p d.cell is.0) alike.0.plan is.2) in
    (is.0, is.1, line, closes_alike cells others (suc number) is.1 alike.1 is.3, is.4)

done_alike : (cells others : List HubCell) → AreAlike cells others → AreAllDone cells ↔ AreAllDone others
done_alike [] [] alike = (λ is. is, λ is. is)
done_alike [] (d ∷ others) alike = absurd alike
done_alike (c ∷ cells) [] alike = absurd alike
done_alike (c ∷ cells) (d ∷ others) alike =
    let rest = done_alike cells others alike.1 in (
      λ is. (subst (λ (p : PlannedShop). HasEnded p d.cell) (sym alike.0.plan) (subst (λ (x : Cell). HasEnded c.plan.planned x) (sym alike.0.cell) is.0), rest.0 is.1),
      λ is. (subst (λ (x : Cell). HasEnded c.plan.planned x) alike.0.cell (subst (λ (p : PlannedShop). HasEnded p d.cell) alike.0.plan is.0), rest.1 is.1),
    )

-- what some answer, the others answer so
module _ (protocol : Protocol) where
  reply_alike : (here there : Option HubCell) (cells others : List HubCell) (number : ℕ) (asked : OfCell) (text : List ℕ) (end : List HubCell) → AlikeAt here there → AreAlike cells others
      → IsReplyIn protocol there others number asked text end → (last : List HubCell) × IsReplyIn protocol here cells number asked text last × AreAlike last end
  reply_alike None None cells others number asked text end at alike is = (cells, record { text_is = is.text_is; end_is = refl }, subst (AreAlike cells) (sym is.end_is) alike)
  reply_alike None (Some d) cells others number asked text end at alike is = absurd at
  reply_alike (Some c) None cells others number asked text end at alike is = absurd at
  reply_alike (Some c) (Some d) cells others number asked text end at alike is =
      let p : PlannedShop = c.plan.planned in
      let prefix : List ℕ = cell_prefix asked.cell in
      let next : HubCell = record { plan = c.plan; cell = is.next } in
      let other : HubCell = record { plan = d.plan; cell = is.next } in
      let answer : RequestAnswer p protocol prefix c.cell number asked.request text is.events is.next =
      subst (λ (x : Cell). RequestAnswer p protocol prefix x number asked.request text is.events is.next) at.cell
      (subst (λ (q : PlannedShop). RequestAnswer q protocol prefix d.cell number asked.request text is.events is.next) at.plan is.answer) in (
        set cells asked.cell next,
        record { events = is.events; next = is.next; answer = answer; end_is = refl },
        subst (AreAlike (set cells asked.cell next)) (sym is.end_is) (set_alike cells others asked.cell next other alike (record { plan = at.plan; cell = refl })),
      )

  line_alike : (cells others : List HubCell) (number : ℕ) (line : Option (List ℕ)) (text : List ℕ) (end : List HubCell) → AreAlike cells others → ProtocolCellsAnswer protocol others number line text end
      → (last : List HubCell) × ProtocolCellsAnswer protocol cells number line text last × AreAlike last end
  line_alike cells others number None text end alike is = (cells, record { text_is = is.text_is; end_is = refl }, subst (AreAlike cells) (sym is.end_is) alike)
  line_alike cells others number (Some []) text end alike is = (cells, record { text_is = is.text_is; end_is = refl }, subst (AreAlike cells) (sym is.end_is) alike)
  line_alike cells others number (Some (b ∷ line)) text end alike (inl is) =
      (cells, inl (is.0, record { text_is = is.1.text_is; end_is = refl }), subst (AreAlike cells) (sym is.1.end_is) alike)
  line_alike cells others number (Some (b ∷ line)) text end alike (inr is) =
      let k : ℕ = is.what.cell in
      let reply = reply_alike (slice_get cells k) (slice_get others k) cells others number is.what text end (alike_at cells others k alike) alike is.answer in
      (reply.0, inr (record { what = is.what; asked = is.asked; answer = reply.1 }), reply.2)

  lines_alike : (lines : List (Option (List ℕ))) (cells others end : List HubCell) (number : ℕ) (text : List ℕ) → AreAlike cells others → AnswerAll (ProtocolCellsAnswer protocol) others number lines text end
      → (last : List HubCell) × AnswerAll (ProtocolCellsAnswer protocol) cells number lines text last × AreAlike last end
  lines_alike [] cells others end number text alike all = (cells, (all.0, refl), subst (AreAlike cells) (sym all.1) alike)
  lines_alike (line ∷ lines) cells others end number text alike all =
      let one = line_alike cells others number line all.0 all.2 alike all.3 in
      let rest = lines_alike lines one.0 all.2 end (number + 1) all.1 one.2 all.4 in
      (rest.0, (all.0, all.1, one.0, one.1, rest.1, all.5), rest.2)

  text_alike : (plans others : List VerifiedPlan) (input text : List ℕ) (end : List HubCell) → plans_of others ≡ plans_of plans → IsCellsText others protocol input text end
      → (last : List HubCell) × IsCellsText plans protocol input text last × AreAlike last end
  text_alike plans others input text end same is =
      let all = lines_alike (input_lines input) (hub_start plans) (hub_start others) end 1 is.answers (starts_alike plans others same) is.are_answers in (
        all.0,
        record {
          answers = is.answers;
          are_answers = all.1;
          closing = is.closing;
          is_closing = closes_alike all.0 end 0 is.closing all.2 is.is_closing;
          whole = is.whole;
        },
        all.2,
      )

-- ---- what a good run of `hub` wrote

-- the files behind the first one
behind_first : {A B : Type 0} (f : A → B) (xs : List A) → map f (drop 1 xs) ≡ drop 1 (map f xs)
behind_first f [] = refl
behind_first f (x ∷ xs) = refl

-- the answers of the cells
hub_answers : (protocol : Protocol) (lines : List (Option (List ℕ))) (s e : HubOfCells) (number : ℕ) (text : List ℕ) → s.protocol ≡ protocol → AnswerAll HubAnswer s number lines text e
    → AnswerAll (ProtocolCellsAnswer protocol) s.cells number lines text e.cells
hub_answers protocol [] s e number text by all = (all.0, ap (λ (h : HubOfCells). h.cells) all.1)
hub_answers protocol (line ∷ lines) s e number text by all =
    let next : HubOfCells = all.2 in
    let first : ProtocolCellsAnswer protocol s.cells number line all.0 next.cells = subst (λ (m : Protocol). ProtocolCellsAnswer m s.cells number line all.0 next.cells) by all.3.answer in
    (all.0, all.1, next.cells, first, hub_answers protocol lines next e (number + 1) all.1 (all.3.protocol ∙ by) all.4, all.5)

-- the answer text of its input by this protocol
record HubWrote (cells : List VerifiedPlan) (protocol : Protocol) (input : List ℕ) (status : ℕ) (written : List ℕ) : Type 0 where
  verified : AreVerified cells
  end : List HubCell
  done : Bool
  is_text : IsCellsText cells protocol input written end
  ended : IsTrue done ↔ AreAllDone end
  own : status ≡ status_at done

module _ (content : List ℕ → Result (List ℕ) CommandFault) (words : List (List ℕ)) (input : List ℕ) (few : length input ≤ MAX_INPUT)
    (status : ℕ) (written : List ℕ) (well : RunsWell content words input status written) where
  drives_wrote : (protocol : Protocol) (cells : List VerifiedPlan) (mid : Streams) (outcome : Result Answer CommandFault) (end : Result HubEnd DriveFault)
      → AreDrivesIn protocol cells well.before.streams mid end → IsEndAnswer (end_of_hub end) outcome → well.after.streams.input ≡ mid.input
      → Ends outcome mid.output well.after.streams.output well.before.errors well.after.errors status → HubWrote cells protocol input status written
  drives_wrote protocol cells mid outcome (Ok end) is answer same_input ends =
      let all = is.streamed.comes_to in
      let from : HubOfCells = hub_of_plans protocol cells in
      let whole : List ℕ = all.text ++ all.closing in
      let ended = ended_well content words input few status written well HubAnswer HubCloses from is.end mid outcome same_input ends end end.all_done is.streamed answer in
      let answered : IsCellsText cells protocol is.streamed.input whole is.end.cells = record {
        answers = all.text;
        are_answers = hub_answers protocol (input_lines is.streamed.input) from is.end 1 all.text refl all.are_answers;
        closing = all.closing;
        is_closing = all.is_closing;
        whole = refl;
      } in
      record {
        verified = is.verified;
        end = is.end.cells;
        done = end.all_done;
        is_text = subst (λ (xs : List ℕ). IsCellsText cells protocol input xs is.end.cells) (sym ended.1) (subst (λ (xs : List ℕ). IsCellsText cells protocol xs whole is.end.cells) ended.0 answered);
        ended = is.done;
        own = ended.2;
      }
  drives_wrote protocol cells mid outcome (Err fault) is answer same_input ends =
      absurd (never_broke content words input few status written well HubAnswer HubCloses (hub_of_plans protocol cells) is.end mid outcome same_input ends HubEnd fault is.streamed answer)

  -- the cells of these plans
  module _ (plans : List PlannedShop) where
    abbrev CellsWrote : Protocol → Type 0
    CellsWrote protocol = (cells : List VerifiedPlan) × (plans_of cells ≡ plans) × HubWrote cells protocol input status written

    plans_wrote : {P Q : Type 0} (protocol : Protocol) (mid : Streams) (outcome : Result Answer CommandFault) → (P × DrivesPlans protocol plans well.before.streams mid outcome) ⊎ ((outcome ≡ Err Memory) × Q)
        → well.after.streams.input ≡ mid.input → Ends outcome mid.output well.after.streams.output well.before.errors well.after.errors status → CellsWrote protocol
    plans_wrote protocol mid outcome (inl all) same_input ends =
        let drives = all.1.2 in (all.1.0, all.1.1, drives_wrote protocol all.1.0 mid outcome drives.end drives.are drives.answer same_input ends)
    plans_wrote protocol mid outcome (inr none) same_input ends =
        absurd (well.not_out_of_memory (memory_ends outcome mid.output well.after.streams.output well.before.errors well.after.errors status none.0 ends))

    follows_hub : (path instance : List ℕ) (name : Option (List ℕ)) (files : List (List ℕ)) (read : Result Chosen WordsFault) → AskForHub words path name files → content path ≡ Ok instance
        → ParseAsAcceptedPlans content instance name files plans → AreWordsRead words read → Follows (Shelf content) read well.before status well.after well.log → CellsWrote (protocol_of words)
    follows_hub path instance name files (Ok chosen) ask came good are follows =
        let choice : IsChoiceOf words (found_in words) chosen = are.chosen in
        let is_hub : chosen.name ≡ Hub = same_command chosen.name Hub (choice.name ∙ ask.hub) in
        let no_log : kept_log_in chosen ≡ None = ap (λ (n : CommandName). log_kept_by (keeps_log n) (option_map string_bytes chosen.log)) is_hub in
        let none_given : given_log_in chosen ≡ None = ap (λ (n : CommandName). log_given_to n chosen) is_hub ∙ no_log in
        let unlogged : RunsCommand (Shelf content) chosen.name chosen well.before.texts well.before.streams follows.outcome well.after.texts follows.mid =
        (subst (λ (l : Option (List ℕ)). RunsChosen (Shelf content) l chosen well.before follows.outcome follows.mid well.after well.log) no_log
        (apart_runs (Shelf content) chosen well.before follows.outcome follows.mid well.after well.log none_given follows.runs)).0 in
        let runs : RunsHub (Shelf content) (protocol_in chosen) (file_at chosen 0) (name_in chosen) (plans_in chosen) well.before.texts well.before.streams follows.outcome well.after.texts follows.mid =
        subst (λ (n : CommandName). RunsCommand (Shelf content) n chosen well.before.texts well.before.streams follows.outcome well.after.texts follows.mid) is_hub unlogged in
        let path_is : file_at chosen 0 ≡ path = ap (λ (fs : List (List ℕ)). get_or fs 0 []) choice.files ∙ sym ask.path_is in
        let files_are : plans_in chosen ≡ files = behind_first string_bytes chosen.files.items ∙ ap (drop 1) choice.files ∙ sym ask.plans_are in
        let hub : RunsHub (Shelf content) (protocol_of words) path name files [] well.before.streams follows.outcome well.after.texts follows.mid =
        subst (λ (a : List ℕ). RunsHub (Shelf content) (protocol_of words) a name files [] well.before.streams follows.outcome well.after.texts follows.mid) path_is
        (subst (λ (n : Option (List ℕ)). RunsHub (Shelf content) (protocol_of words) (file_at chosen 0) n files [] well.before.streams follows.outcome well.after.texts follows.mid) (choice.instance ∙ sym ask.name_is)
        (subst (λ (fs : List (List ℕ)). RunsHub (Shelf content) (protocol_of words) (file_at chosen 0) (name_in chosen) fs [] well.before.streams follows.outcome well.after.texts follows.mid) files_are
        (subst (λ (m : Protocol). RunsHub (Shelf content) m (file_at chosen 0) (name_in chosen) (plans_in chosen) [] well.before.streams follows.outcome well.after.texts follows.mid) (same_manner words chosen choice)
        (subst (λ (asked : List (List ℕ)). RunsHub (Shelf content) (protocol_in chosen) (file_at chosen 0) (name_in chosen) (plans_in chosen) asked well.before.streams follows.outcome well.after.texts follows.mid) well.unasked runs)))) in
        plans_wrote (protocol_of words) follows.mid follows.outcome
        (good_hub content instance name (protocol_of words) path files plans well.before.streams follows.mid follows.outcome well.after.texts came good hub) follows.input
        (subst (λ (n : CommandName). EndsBy (draws n chosen.svg) follows.outcome follows.mid.output well.after.streams.output well.before.errors well.after.errors status) is_hub
        (own_ends chosen follows.outcome _ _ _ _ follows.own status well.log no_log follows.status_is follows.ends))
    follows_hub path instance name files (Err (Usage help text)) ask came good are follows =
        absurd (let named = subst (λ kinds. NamesOneOf kinds (Usage help text)) ask.accepted are.refused in named.1)
    follows_hub path instance name files (Err NoWordsMemory) ask came good are follows = absurd (well.not_out_of_memory (memory_status well.before.errors well.after.errors status follows.0.1))

-- ---- two runs

hubs_wrote_the_same : (protocol : Protocol) (input : List ℕ) (cells others : List VerifiedPlan) (status other_status : ℕ) (written other : List ℕ) → plans_of others ≡ plans_of cells
    → HubWrote cells protocol input status written → HubWrote others protocol input other_status other → (other_status ≡ status) × (other ≡ written)
hubs_wrote_the_same protocol input cells others status other_status written other same one two =
    let alike = text_alike protocol cells others input other two.end same two.is_text in
    let text = one_cells_text cells protocol input written other one.end alike.0 one.verified one.is_text alike.1 in
    let both : AreAllDone one.end ↔ AreAllDone two.end = done_alike one.end two.end (subst (λ (cs : List HubCell). AreAlike cs two.end) text.1 alike.2) in
    let done : two.done ≡ one.done = same_truth one.done two.done (λ yet. two.ended.1 (both.0 (one.ended.0 yet))) (λ yet. one.ended.1 (both.1 (two.ended.0 yet))) in
    (two.own ∙ ap status_at done ∙ sym one.own, text.0)

pub hub_writes_the_same : HubWritesTheSame
hub_writes_the_same content words path instance name files plans input status other_status written other ask came good few well also =
    let one = follows_hub content words input few status written well plans path instance name files well.run.read ask came good well.run.is well.run.follows in
    let two = follows_hub content words input few other_status other also plans path instance name files also.run.read ask came good also.run.is also.run.follows in
    hubs_wrote_the_same (protocol_of words) input one.0 two.0 status other_status written other (two.1 ∙ sym one.1) one.2 two.2
