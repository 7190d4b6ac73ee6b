-- What becomes of a log and an output that bytes are given to.
use Rattle.std.proofs.Common.{◌≡◌, ℕ, ◌+◌, ◌≤◌, List, [], ◌++◌, length, take, drop, Option, None, Some, IfSome, Err, Bool, true, false, refl, sym, ap, ◌∙◌, subst, arith, append_assoc, append-nil, length-append, take-append-drop}
use Rattle.std.proofs.lemmas.List.{take_all}
use Rattle.std.specs.Io.KnownBytes.{Appends}
use Rattle.run_journal.specs.declared.{logged.TheConstants.MAX_PENDING, selection.TheConstants.DECIDING}
use Rattle.run_journal.specs.{declared.logged.Unflushed.{Unflushed, TheVariants.{Log, Output}}, LoggedLines.logged}
use Rattle.run_journal.specs.{LogFiles.{Leaves, IsDurable}, Selecting.{Gets, IsFront, added, open_line}}
use Rattle.run_journal.specs.Logged.{AreInitial, IsSoFar, IsSoundLogger, OnKept, OnLogFault}
use Rattle.run_journal.proofs.Fronts.{durable_leaves, fewer_left, if_some-at, if_some-map}
use Rattle.run_journal.proofs.Selected.{line_after-append, logged-front, logged-more}

grown : (a b : Option (List ℕ)) (xs bs : List ℕ) → a ≡ Some xs → Appends a b bs → b ≡ Some (xs ++ bs)
grown None b xs bs is added = absurd (cc is)
grown (Some ys) None xs bs is added = absurd added
grown (Some ys) (Some zs) xs bs is added = let same : ys ≡ xs = cc is in ap Some (added ∙ ap (λ l. l ++ bs) same)

-- before anything has come
pub starts : (before : Option (List ℕ × List ℕ)) (seen : Option (List ℕ)) (crash_states : List ℕ → Type 0) (written : Option (List ℕ)) (buffered : List ℕ) (capacity events_capacity front_capacity : ℕ) (front : List ℕ)
    → AreInitial before seen written → IsDurable seen crash_states → buffered ≡ [] → MAX_PENDING ≤ capacity → MAX_PENDING + DECIDING ≤ events_capacity → front ≡ [] → DECIDING ≤ front_capacity
    → IsSoundLogger before seen crash_states written buffered capacity events_capacity front_capacity 0 false front
starts before seen crash_states written buffered capacity events_capacity front_capacity front are durable none room events_room first front_room = record {
  within = omega arith;
  few = omega (arith, ap length none);
  room = room;
  events_room = events_room;
  few_decide = omega (arith, ap length first);
  front_room = front_room;
  none_out = λ yes. refl;
  durable = λ yes. durable;
  so_far = if_some-map before (λ b both. record {
    step = record {
      shown = [];
      output = both.1 ∙ ap Some (sym (append-nil b.1));
      log = λ yes. both.0 ∙ ap Some (sym (append-nil b.0));
      crash = fewer_left crash_states (length b.0) (length (b.0 ++ [])) (b.0 ++ []) (b.0 ++ logged (drop 0 buffered)) (omega (arith, ap length (append-nil b.0))) (ap (λ l. b.0 ++ logged (drop 0 l)) none)
          (durable_leaves crash_states b.0 [] (if_some-at seen b.0 (λ f. (left : List ℕ) → crash_states left → left ≡ f) both.0 durable));
    };
    line = λ yes. subst (λ (f : List ℕ). IsFront f []) (sym first) (refl, λ no. refl);
  }) are;
}

module _ (before : Option (List ℕ × List ℕ)) (seen : Option (List ℕ)) (crash_states : List ℕ → Type 0) (written : Option (List ℕ)) (buffered : List ℕ) (capacity events_capacity front_capacity sent : ℕ) (failed : Bool)
    (front : List ℕ) (sound : IsSoundLogger before seen crash_states written buffered capacity events_capacity front_capacity sent failed front) (unfailed : failed ≡ false) where
  pub all_pending : drop sent buffered ≡ buffered
  all_pending = ap (λ (n : ℕ). drop n buffered) (sound.none_out unfailed)

  -- more bytes are gathered
  pub gathers : (more now : List ℕ) (room : ℕ) → now ≡ buffered ++ more → length now ≤ MAX_PENDING → capacity ≤ room → IsSoundLogger before seen crash_states written now room events_capacity front_capacity sent failed front
  gathers more now room is few kept_room = record {
    within = omega (arith, sound.none_out unfailed);
    few = few;
    room = omega (arith, sound.room, kept_room);
    events_room = sound.events_room;
    few_decide = sound.few_decide;
    front_room = sound.front_room;
    none_out = sound.none_out;
    durable = sound.durable;
    so_far = if_some-map before (λ b so_far.
        let step = so_far.step in
        let rest = logged-front step.shown (drop sent now) in
        let file = b.0 ++ logged step.shown in
        record {
          step = record {
            shown = step.shown;
            output = step.output;
            log = step.log;
            crash = fewer_left crash_states (length file) (length file) (file ++ rest.0) (b.0 ++ logged (step.shown ++ drop sent now)) (omega arith)
                (ap (λ l. b.0 ++ l) rest.1 ∙ sym (append_assoc b.0 (logged step.shown) rest.0))
                (durable_leaves crash_states file rest.0 (if_some-at seen file (λ f. (left : List ℕ) → crash_states left → left ≡ f) (step.log unfailed) (sound.durable unfailed)));
          };
          line = so_far.line;
        }) sound.so_far;
  }

  module _ (events : List ℕ) (seen_now : Option (List ℕ)) (crash_states_now : List ℕ → Type 0) (front_now : List ℕ) (events_room front_capacity_now : ℕ) (kept_room : events_capacity ≤ events_room)
      (kept_front : front_capacity ≤ front_capacity_now) (gets : Gets front buffered front_now [] events) (few_decide : length front_now ≤ DECIDING) where
    -- what the log gets of all that has come
    all_events : (b : List ℕ × List ℕ) (so_far : IsSoFar b.0 b.1 seen crash_states written (drop sent buffered) failed front)
        → (b.0 ++ logged so_far.step.shown) ++ events ≡ b.0 ++ logged (so_far.step.shown ++ buffered)
    all_events b so_far =
        append_assoc b.0 (logged so_far.step.shown) events ∙ ap (λ l. b.0 ++ (logged so_far.step.shown ++ l)) (gets (open_line so_far.step.shown) (so_far.line unfailed)).1
        ∙ ap (λ l. b.0 ++ l) (sym (logged-more so_far.step.shown buffered))

    -- the log didn't take them
    pub not_kept : IfSome seen (λ file. Leaves crash_states_now (length file) (file ++ events))
        → IsSoundLogger before seen_now crash_states_now written buffered capacity events_room front_capacity_now sent true front_now
    not_kept crash = record {
      within = sound.within;
      few = sound.few;
      room = sound.room;
      events_room = omega (arith, sound.events_room, kept_room);
      few_decide = few_decide;
      front_room = omega (arith, sound.front_room, kept_front);
      none_out = λ no. absurd (cc no);
      durable = λ no. absurd (cc no);
      so_far = if_some-map before (λ b so_far.
          let step = so_far.step in
          let file = b.0 ++ logged step.shown in
          record {
            step = record {
              shown = step.shown;
              output = step.output;
              log = λ no. absurd (cc no);
              crash = fewer_left crash_states_now (length file) (length file) (file ++ events) (b.0 ++ logged (step.shown ++ drop sent buffered)) (omega arith)
                  (ap (λ l. b.0 ++ logged (step.shown ++ l)) all_pending ∙ sym (all_events b so_far))
                  (if_some-at seen file (λ f. Leaves crash_states_now (length f) (f ++ events)) (step.log unfailed) crash);
            };
            line = λ no. absurd (cc no);
          }) sound.so_far;
    }

    module _ (kept : IfSome seen (λ file. seen_now ≡ Some (file ++ events))) (durable : IsDurable seen_now crash_states_now) where
      -- where the log has them all, a crash leaves just these
      has_all : (b : List ℕ × List ℕ) (so_far : IsSoFar b.0 b.1 seen crash_states written (drop sent buffered) failed front)
          → seen_now ≡ Some (b.0 ++ logged (so_far.step.shown ++ buffered))
      has_all b so_far = if_some-at seen (b.0 ++ logged so_far.step.shown) (λ file. seen_now ≡ Some (file ++ events)) (so_far.step.log unfailed) kept ∙ ap Some (all_events b so_far)

      leaves_all : (b : List ℕ × List ℕ) (so_far : IsSoFar b.0 b.1 seen crash_states written (drop sent buffered) failed front)
          → Leaves crash_states_now (length (b.0 ++ logged (so_far.step.shown ++ buffered))) (b.0 ++ logged (so_far.step.shown ++ buffered))
      leaves_all b so_far =
          let file = b.0 ++ logged (so_far.step.shown ++ buffered) in
          fewer_left crash_states_now (length file) (length file) (file ++ []) file (omega arith) (sym (append-nil file))
          (durable_leaves crash_states_now file [] (if_some-at seen_now file (λ f. (left : List ℕ) → crash_states_now left → left ≡ f) (has_all b so_far) durable))

      -- and the output took only some
      pub not_shown : (written_now : Option (List ℕ)) (out : ℕ) → out ≤ length buffered → Appends written written_now (take out buffered)
          → IsSoundLogger before seen_now crash_states_now written_now buffered capacity events_room front_capacity_now out true front_now
      not_shown written_now out within added = record {
        within = within;
        few = sound.few;
        room = sound.room;
        events_room = omega (arith, sound.events_room, kept_room);
        few_decide = few_decide;
        front_room = omega (arith, sound.front_room, kept_front);
        none_out = λ no. absurd (cc no);
        durable = λ no. absurd (cc no);
        so_far = if_some-map before (λ b so_far.
            let step = so_far.step in
            let shown = step.shown ++ take out buffered in
            let same : shown ++ drop out buffered ≡ step.shown ++ buffered = append_assoc step.shown (take out buffered) (drop out buffered) ∙ ap (λ l. step.shown ++ l) (take-append-drop out buffered) in
            let all = logged-front shown (drop out buffered) in
            let file = b.0 ++ logged (step.shown ++ buffered) in
            let whole : file ≡ (b.0 ++ logged shown) ++ all.0 = ap (λ l. b.0 ++ logged l) (sym same) ∙ ap (λ l. b.0 ++ l) all.1 ∙ sym (append_assoc b.0 (logged shown) all.0) in
            record {
              step = record {
                shown = shown;
                output = grown written written_now (b.1 ++ step.shown) (take out buffered) step.output added ∙ ap Some (append_assoc b.1 step.shown (take out buffered));
                log = λ no. absurd (cc no);
                crash = fewer_left crash_states_now (length file) (length (b.0 ++ logged shown)) file (b.0 ++ logged (shown ++ drop out buffered))
                    (omega (arith, ap length whole, length-append (b.0 ++ logged shown) all.0)) (ap (λ l. b.0 ++ logged l) same) (leaves_all b so_far);
              };
              line = λ no. absurd (cc no);
            }) sound.so_far;
      }

      -- both have them
      pub shown : (written_now : Option (List ℕ)) (out : ℕ) (now : List ℕ) (room : ℕ) → out ≡ length buffered → Appends written written_now (take out buffered) → now ≡ [] → capacity ≤ room
          → IsSoundLogger before seen_now crash_states_now written_now now room events_room front_capacity_now 0 false front_now
      shown written_now out now room all added none kept_buffered = record {
        within = omega arith;
        few = omega (arith, ap length none);
        room = omega (arith, sound.room, kept_buffered);
        events_room = omega (arith, sound.events_room, kept_room);
        few_decide = few_decide;
        front_room = omega (arith, sound.front_room, kept_front);
        none_out = λ yes. refl;
        durable = λ yes. durable;
        so_far = if_some-map before (λ b so_far.
            let step = so_far.step in
            let whole : take out buffered ≡ buffered = take_all out buffered (omega (arith, all)) in
            let text = step.shown ++ buffered in
            let same : text ++ now ≡ text = ap (λ l. text ++ l) none ∙ append-nil text in
            record {
              step = record {
                shown = text;
                output = grown written written_now (b.1 ++ step.shown) (take out buffered) step.output added ∙ ap (λ l. Some ((b.1 ++ step.shown) ++ l)) whole ∙ ap Some (append_assoc b.1 step.shown buffered);
                log = λ yes. has_all b so_far;
                crash = fewer_left crash_states_now (length (b.0 ++ logged text)) (length (b.0 ++ logged text)) (b.0 ++ logged text) (b.0 ++ logged (text ++ now)) (omega arith) (ap (λ l. b.0 ++ logged l) same)
                    (leaves_all b so_far);
              };
              line = λ yes. subst (IsFront front_now) (sym (line_after-append [] step.shown buffered)) (gets (open_line step.shown) (so_far.line unfailed)).0;
            }) sound.so_far;
      }

-- ---- which has failed

pub on_log_fault : (fault : Unflushed) (P : Type 0) → fault ≡ Log → OnLogFault (Err fault) P → P
on_log_fault Log P is p = p
on_log_fault Output P is p = absurd (cc is)

pub on_output_fault : (fault : Unflushed) (P : Type 0) → fault ≡ Output → OnKept (Err fault) P → P
on_output_fault Log P is p = absurd (cc is)
on_output_fault Output P is p = p
