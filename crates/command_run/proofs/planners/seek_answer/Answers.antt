use Rattle.std.proofs.Common.{rules, ◌≡◌, ◌↔◌, ℕ, [], ◌∷◌, Some, sym, subst, inl}
use Rattle.shop_base.specs.Shop.{JobShop}
use Rattle.plan_seek.specs.Orders.{Proposal, shifted_order}
use Rattle.command_run.proofs.Planning.{AreTheTwo, seeks}
use Rattle.command_run.proofs.planners.seek_answer.OwnLists as own
use Rattle.command_run.proofs.planners.seek_answer.Goals as goal

pub returns : goal.returns
returns g c =
    let planners : c.deref.result.now ≡ c.into_dyn_box.result ∷ c.into_dyn_box-2.result ∷ [] = search rules in
    inl (seeks g.T.Texts.gives (λ b. (own.own-1.entry b.vtable).1.may b.value) c.deref.result.now c.args.rounds c.args.inputs.now c.args.texts.now c.plan_answer.result c.plan_answer.new.texts
    (subst (AreTheTwo _) (sym planners) (
      subst (λ v. (value : (own.own-1.entry v).0.Denot) (shop : JobShop) (round : ℕ) (proposal : Proposal) → (own.own-1.entry v).1.may value shop round proposal)
          (sym c.into_dyn_box.ensures.0) (λ value shop round proposal. tt) c.into_dyn_box.result.value,
      subst (λ v. (value : (own.own-1.entry v).0.Denot) (shop : JobShop) (round : ℕ) (proposal : Proposal) → (own.own-1.entry v).1.may value shop round proposal ↔ (proposal ≡ Some (shifted_order shop round)))
          (sym c.into_dyn_box-2.ensures.0) (λ value shop round proposal. ((λ same. same), λ same. same)) c.into_dyn_box-2.result.value,
    ))
    c.plan_answer.ensures)
