-- Controlled runs that are cut between two events.
use Rattle.std.proofs.Common.{◌≡◌, ℕ, zero, suc, ◌≤◌, List, [], ◌∷◌, ◌++◌, length, ◌⊎◌, inl, inr, refl, sym, ap, ◌∙◌, subst, arith, append_assoc, append-nil, length-append}
use Rattle.shop_base.specs.{declared.move_order.MoveOrder.MoveOrder, declared.report.Report.Report, Plan.PlannedShop}
use Rattle.shop_base.specs.{Cell.Cell, Run.{Event, Reported}}
use Rattle.shop_base.specs.Controlled.{moved, IsStep, after_step, step_orders, Leads, done, accepted, refused}
use Rattle.cell_drive.specs.OneRun.{IsBeforeReport}
use Rattle.cell_drive.proofs.Parts.{append_parts, moved_rest}

-- the first step of a controlled run
pub record FirstStep (p : PlannedShop) (c : Cell) (es : List Event) (end : Cell) : Type 0 where
  pub report : Report
  pub jobs : List ℕ
  pub step : IsStep p c report jobs
  pub later : List Report
  pub rest : List Event
  pub leads : Leads p (after_step p c report jobs) later rest end
  pub events : es ≡ Reported report ∷ (moved (step_orders p c report jobs) ++ rest)

pub first_step : (p : PlannedShop) (c : Cell) (rs : List Report) (es : List Event) (end : Cell) → Leads p c rs es end → (es ≡ []) ⊎ FirstStep p c es end
first_step p _ _ _ _ (done c) = inl refl
first_step p _ _ _ _ (accepted c r js rs es end step leads) = inr (record { report = r; jobs = js; step = step; later = rs; rest = es; leads = leads; events = refl })
first_step p _ _ _ _ (refused c r rs es end cannot leads) = first_step p c rs es end leads

-- its first event is a report
pub begins : (p : PlannedShop) (c : Cell) (rs : List Report) (es : List Event) (end : Cell) → Leads p c rs es end → IsBeforeReport es
begins p _ _ _ _ (done c) = tt
begins p _ _ _ _ (accepted c r js rs es end step leads) = tt
begins p _ _ _ _ (refused c r rs es end cannot leads) = begins p c rs es end leads

-- the first events of a controlled run, with moves behind them, are one
pub record IsCutOf (p : PlannedShop) (c : Cell) (a b : List Event) : Type 0 where
  pub due : List MoveOrder
  pub reports : List Report
  pub end : Cell
  pub leads : Leads p c reports (a ++ moved due) end
  pub rest : List Event
  pub split : b ≡ moved due ++ rest

pub cut_of_run : (n : ℕ) (p : PlannedShop) (c end : Cell) (rs : List Report) (a b : List Event) → length a ≤ n → Leads p c rs (a ++ b) end → IsCutOf p c a b
cut_of_run n p c end rs [] b few leads = record { due = []; reports = []; end = c; leads = done c; rest = b; split = refl }
cut_of_run zero p c end rs (e ∷ a) b few leads = absurd (omega (arith, few))
cut_of_run (suc n) p c end rs (e ∷ a) b few leads =
    go (first_step p c rs (e ∷ (a ++ b)) end leads) (λ there qs d fewer on. cut_of_run n p there end qs d b fewer on)
  where
    Again : Type 0
    Again = (there : Cell) (qs : List Report) (d : List Event) → length d ≤ n → Leads p there qs (d ++ b) end → IsCutOf p there d b

    go : ((e ∷ (a ++ b)) ≡ []) ⊎ FirstStep p c (e ∷ (a ++ b)) end → Again → IsCutOf p c (e ∷ a) b
    go (inl none) again = absurd (cc)
    go (inr first) again = elim (append_parts a b os first.rest tails) [
      | inl (d, longer, events) ↦ later d longer (again next first.later d (shorter d longer) (subst (λ es. Leads p next first.later es end) events first.leads))
      | inr (d, longer, events) ↦ within d longer events (moved_rest (step_orders p c first.report first.jobs) a d longer)
    ]
      where
        os : List Event
        os = moved (step_orders p c first.report first.jobs)

        next : Cell
        next = after_step p c first.report first.jobs

        tails : a ++ b ≡ os ++ first.rest
        tails = let events = first.events in cc

        heads : e ≡ Reported first.report
        heads = let events = first.events in cc

        shorter : (d : List Event) → a ≡ os ++ d → length d ≤ n
        shorter d longer = omega (arith, few, ap length longer, length-append os d)

        later : (d : List Event) → a ≡ os ++ d → IsCutOf p next d b → IsCutOf p c (e ∷ a) b
        later d longer cut =
            let events : Reported first.report ∷ (os ++ (d ++ moved cut.due)) ≡ (e ∷ a) ++ moved cut.due =
            ap (λ x. x ∷ (os ++ (d ++ moved cut.due))) (sym heads) ∙ ap (λ es. e ∷ es) (sym (append_assoc os d (moved cut.due)) ∙ ap (λ es. es ++ moved cut.due) (sym longer)) in
            record {
              due = cut.due;
              reports = first.report ∷ cut.reports;
              end = cut.end;
              leads = subst (λ es. Leads p c (first.report ∷ cut.reports) es cut.end) events
                  (accepted c first.report first.jobs cut.reports (d ++ moved cut.due) cut.end first.step cut.leads);
              rest = cut.rest;
              split = cut.split;
            }

        within : (d : List Event) → os ≡ a ++ d → b ≡ d ++ first.rest → (ds : List MoveOrder) × (d ≡ moved ds) → IsCutOf p c (e ∷ a) b
        within d longer split (ds, are) =
            let events : Reported first.report ∷ (os ++ []) ≡ (e ∷ a) ++ moved ds =
            ap (λ x. x ∷ (os ++ [])) (sym heads) ∙ ap (λ es. e ∷ es) (append-nil os ∙ longer ∙ ap (λ es. a ++ es) are) in
            record {
              due = ds;
              reports = first.report ∷ [];
              end = next;
              leads = subst (λ es. Leads p c (first.report ∷ []) es next) events (accepted c first.report first.jobs [] [] next first.step (done next));
              rest = first.rest;
              split = split ∙ ap (λ es. es ++ first.rest) are;
            }
