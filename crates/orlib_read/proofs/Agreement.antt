-- Reading agrees with the relations on whole texts, so a reader's answer does.
use Rattle.std.proofs.Common.{◌≡◌, ◌≢◌, ℕ, List, [], Result, Ok, Err, refl, sym, ap, subst, ◌∙◌, inl, inr}
use Rattle.std.specs.Prelude.{◌⊎◌, IfOk, IfErr}
use Rattle.shop_base.specs.declared.shop_fault.ShopFault.{ShopFault}
use Rattle.shop_base.specs.Shop.{JobShop, IsShop}
use Rattle.shop_base.specs.ShopFault.{IsFirstFault}
use Rattle.shop_base.proofs.Refusals.{fault_refutes}
use Rattle.shop_base.proofs.OneFault.{fault_once}
use Rattle.orlib_read.specs.declared.named.Named.{Named}
use Rattle.orlib_read.specs.declared.or_fault.OrFault.{OrFault}
use Rattle.orlib_read.specs.declared.or_fault.OrFault.TheVariants.{NoInstance, NoSizes, BadSizes, MissingJob, BadNumber, OddWords, Extra, Shop, Memory}
use Rattle.orlib_read.specs.Kinds.{unfilled_lines}
use Rattle.orlib_read.specs.Instance.{IsInstance, IsInstanceOf}
use Rattle.orlib_read.specs.Faults.{IsInstanceFault, IsInstanceOfFault}
use Rattle.orlib_read.specs.Reading.{Content, instance_at, section_at}
use Rattle.orlib_read.specs.Answers.{IsReadInstance, IsRefusedInstance, content_with, GivesNoShop, Answers}
use Rattle.orlib_read.proofs.Numbers.{done, failed, ok_is, err_is}
use Rattle.orlib_read.proofs.Drafts.{instance_is, instance_again, instance_fault, instance_cut, instance_extra}
use Rattle.orlib_read.proofs.Sections.{section_content, section_content_again, section_fault, section_lacks, section_cut}

-- the reading gives exactly what is related to the text, and fails with exactly what is wrong first
pub record Agrees (reading : Result Content OrFault) (Is : List ℕ → JobShop → Type 0) (Wrong : OrFault → Type 0) : Type 0 where
  is : (content : Content) → reading ≡ Ok content → IsShop content.shop → Is content.description content.shop
  sound : (description : List ℕ) (shop : JobShop) → Is description shop → IsShop shop
  again : (description : List ℕ) (shop : JobShop) → Is description shop → reading ≡ Ok (content_with description shop)
  fault : (fault : OrFault) → reading ≡ Err fault → Wrong fault
  no_shop : (content : Content) (reason : ShopFault) → reading ≡ Ok content → IsFirstFault content.shop.machines content.shop.recirculates content.shop.routes reason → Wrong (Shop reason)
  wrong : (fault : OrFault) → Wrong fault → (reading ≡ Err fault) ⊎ GivesNoShop reading fault

pub instance_agrees : (text : List ℕ) → Agrees (instance_at (unfilled_lines text)) (IsInstance text) (IsInstanceFault text)
instance_agrees text = record {
  is = λ content h s. record { reads = instance_is (unfilled_lines text) content h; sound = s };
  sound = λ description shop i. i.sound;
  again = λ description shop i. instance_again (unfilled_lines text) description shop i.reads;
  fault = λ fault h. elim (instance_fault (unfilled_lines text) fault h) [ inl cut ↦ inl cut | inr extra ↦ inr (inl extra) ];
  no_shop = λ content reason h f.
      inr (inr (record { description = content.description; shop = content.shop; reason = reason; reads = instance_is (unfilled_lines text) content h; wrong = f; is = refl }));
  wrong = λ fault w. elim w [
    | inl cut ↦ inl (instance_cut (unfilled_lines text) fault cut)
    | inr (inl extra) ↦ inl (instance_extra (unfilled_lines text) fault extra)
    | inr (inr none) ↦ inr (record {
      content = record { description = none.description; shop = none.shop };
      reason = none.reason;
      gives = instance_again (unfilled_lines text) none.description none.shop none.reads;
      wrong = none.wrong;
      is = none.is;
    })
  ];
}

pub section_agrees : (text name : List ℕ) → Agrees (section_at name (unfilled_lines text)) (IsInstanceOf text name) (IsInstanceOfFault text name)
section_agrees text name = record {
  is = λ content h s.
      let r = section_content name (unfilled_lines text) content h in
      record { section = r.section; rest = r.rest; is_section = r.is_section; reads = r.reads; sound = s };
  sound = λ description shop i. i.sound;
  again = λ description shop i. section_content_again name (unfilled_lines text) i.section description shop i.rest i.is_section i.reads;
  fault = λ fault h. elim (section_fault name (unfilled_lines text) fault h) [
    | inl none ↦ inl none
    | inr cut ↦ inr (record { section = cut.section; rest = []; is_section = cut.is_section; wrong = inl cut.cut })
  ];
  no_shop = λ content reason h f.
      let r = section_content name (unfilled_lines text) content h in
      inr (record {
        section = r.section;
        rest = r.rest;
        is_section = r.is_section;
        wrong = inr (record { description = content.description; shop = content.shop; reason = reason; reads = r.reads; wrong = f; is = refl });
      });
  wrong = λ fault w. elim w [
    | inl none ↦ inl (section_lacks name (unfilled_lines text) fault none)
    | inr f ↦ elim f.wrong [
      | inl cut ↦ inl (section_cut name (unfilled_lines text) f.section fault f.is_section cut)
      | inr none ↦ inr (record {
        content = record { description = none.description; shop = none.shop };
        reason = none.reason;
        gives = section_content_again name (unfilled_lines text) f.section none.description none.shop f.rest f.is_section none.reads;
        wrong = none.wrong;
        is = none.is;
      })
    ]
  ];
}

-- ---- answers

pub only_memory : (fault : OrFault) → (fault ≢ Memory → ⊥) → fault ≡ Memory
only_memory Memory h = refl
only_memory NoInstance h = absurd (h (λ e. cc))
only_memory NoSizes h = absurd (h (λ e. cc))
only_memory (BadSizes line) h = absurd (h (λ e. cc))
only_memory (MissingJob job) h = absurd (h (λ e. cc))
only_memory (BadNumber line word) h = absurd (h (λ e. cc))
only_memory (OddWords line) h = absurd (h (λ e. cc))
only_memory (Extra line) h = absurd (h (λ e. cc))
only_memory (Shop reason) h = absurd (h (λ e. cc))

-- content was read, and no fault met
read_or_failed : {P : Type 0} {reading : Result Content OrFault} (content : Content) (fault : OrFault) → reading ≡ Ok content → reading ≡ Err fault → P
read_or_failed content fault h k = let both : done content ≡ failed fault = sym h ∙ k in absurd (cc)

-- content that is a shop isn't content that makes none
shop_or_none : {P : Type 0} {reading : Result Content OrFault} {fault : OrFault} (content : Content) → reading ≡ Ok content → IsShop content.shop → GivesNoShop reading fault → P
shop_or_none content h s none =
    let e = ok_is content none.content (sym h ∙ none.gives) in
    absurd (fault_refutes content.shop.machines content.shop.recirculates content.shop.routes none.reason (subst (λ (c : Content). IsFirstFault c.shop.machines c.shop.recirculates c.shop.routes none.reason) (sym e) none.wrong) s)

same_reason : {reading : Result Content OrFault} (fault other : OrFault) → GivesNoShop reading fault → GivesNoShop reading other → fault ≡ other
same_reason fault other f g =
    let e = ok_is g.content f.content (sym g.gives ∙ f.gives) in
    let wrong : IsFirstFault f.content.shop.machines f.content.shop.recirculates f.content.shop.routes g.reason = subst (λ (c : Content). IsFirstFault c.shop.machines c.shop.recirculates c.shop.routes g.reason) e g.wrong in
    f.is ∙ ap (λ (reason : ShopFault). Shop reason) (fault_once f.content.shop.machines f.content.shop.recirculates f.content.shop.routes f.reason g.reason f.wrong wrong) ∙ sym g.is

pub found : {reading : Result Content OrFault} {Is : List ℕ → JobShop → Type 0} {Wrong : OrFault → Type 0} → Agrees reading Is Wrong
    → (result : Result Named OrFault) → Answers result reading → IfOk result (λ named. Is named.description.items named.shop)
found a (Ok named) h = a.is (content_with named.description.items named.shop) h.0 h.1
found a (Err fault) h = tt

pub only : {reading : Result Content OrFault} {Is : List ℕ → JobShop → Type 0} {Wrong : OrFault → Type 0} → Agrees reading Is Wrong
    → (result : Result Named OrFault) → Answers result reading → (description : List ℕ) (shop : JobShop) → Is description shop → IsReadInstance result description shop
only a (Ok named) h description shop i =
    let e = ok_is (content_with named.description.items named.shop) (content_with description shop) (sym h.0 ∙ a.again description shop i) in
    (ap (λ (c : Content). c.description) e, ap (λ (c : Content). c.shop) e)
only a (Err fault) h description shop i = only_memory fault (λ other. elim (h other) [
  | inl e ↦ read_or_failed (content_with description shop) fault (a.again description shop i) e
  | inr none ↦ shop_or_none (content_with description shop) (a.again description shop i) (a.sound description shop i) none
])

pub fault : {reading : Result Content OrFault} {Is : List ℕ → JobShop → Type 0} {Wrong : OrFault → Type 0} → Agrees reading Is Wrong
    → (result : Result Named OrFault) → Answers result reading → IfErr result (λ fault. fault ≢ Memory → Wrong fault)
fault a (Ok named) h = tt
fault {Wrong = Wrong} a (Err answered) h = λ other. elim (h other) [
  | inl e ↦ a.fault answered e
  | inr none ↦ subst Wrong (sym none.is) (a.no_shop none.content none.reason none.gives none.wrong)
]

pub first : {reading : Result Content OrFault} {Is : List ℕ → JobShop → Type 0} {Wrong : OrFault → Type 0} → Agrees reading Is Wrong
    → (result : Result Named OrFault) → Answers result reading → (fault : OrFault) → Wrong fault → IsRefusedInstance result fault
first a (Ok named) h fault w = elim (a.wrong fault w) [
  | inl e ↦ read_or_failed (content_with named.description.items named.shop) fault h.0 e
  | inr none ↦ shop_or_none (content_with named.description.items named.shop) h.0 h.1 none
]
first a (Err answered) h fault w = λ other. elim (h other) [
  | inl e ↦ elim (a.wrong fault w) [ inl f ↦ err_is {A = Content} answered fault (sym e ∙ f) | inr none ↦ read_or_failed none.content answered none.gives e ]
  | inr none ↦ elim (a.wrong fault w) [ inl f ↦ read_or_failed none.content fault none.gives f | inr other ↦ same_reason answered fault none other ]
]
