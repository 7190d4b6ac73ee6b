use Rattle.std.proofs.Common.{◌∙◌, List, Option, ℕ, ap, inl, map, subst, sym}
use Rattle.std.specs.Borrow.{Bor}
use Rattle.std.specs.Option.{option_copied}
use Rattle.plan_revise.specs.declared.change.Change.{Change}
use Rattle.command_answers.specs.declared.revises.Revised.{Revised}
use Rattle.command_answers.specs.Asked.{AskedRevision}
use Rattle.command_answers.specs.Commands.{RunsRevise}
use Rattle.command_run.specs.Revisions.{AreChangesOf, names_asked, values_asked}
use Rattle.command_run.proofs.revisions.revision_answer.Goals as goal

pub returns : goal.returns
returns g c =
    let changes = c.as_slice-changes.result.now in
    let texts = ap (map (λ (value : Bor (List ℕ)). value.now)) c.as_slice-values.ensures.value ∙ c.in_ok-add_changes.ensures.values in
    let called = ap (map (λ (name : Option (Bor (List ℕ))). option_copied name)) c.as_slice.ensures.value ∙ c.in_ok-called.ensures in
    let ask : Revised → List (List ℕ) → List (Option (List ℕ)) → AskedRevision = λ prints values names.
    record { prints = prints; names = option_copied c.args.wanted.names; at = c.args.wanted.at; changes = changes; values = values; called = names } in
    let runs : AskedRevision → Type 0 = λ asked. RunsRevise g.T.Texts.gives asked c.args.inputs.now c.args.log.now c.args.texts.now c.revise_answer.result c.revise_answer.new.texts in
    inl (record {
      changes = changes;
      are = subst (λ (some : List Change). AreChangesOf c.args.asked.now some) (sym c.as_slice-changes.ensures.value) c.in_ok-add_changes.ensures.are;
      runs =
          subst (λ (prints : Revised). runs (ask prints (values_asked c.args.asked.now) (names_asked c.args.asked.now))) c.printed_for.ensures
          (subst (λ (values : List (List ℕ)). runs (ask c.printed_for.result values (names_asked c.args.asked.now))) texts
          (subst (λ (names : List (Option (List ℕ))). runs (ask c.printed_for.result (map (λ (value : Bor (List ℕ)). value.now) c.as_slice-values.result.now) names)) called c.revise_answer.ensures));
    })
