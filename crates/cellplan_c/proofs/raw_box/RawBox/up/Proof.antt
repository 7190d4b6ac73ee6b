-- `up`: where the box lies and its allocator are what a box is made of.
use Rattle.std.proofs.Common.{◌≡◌, List, [], ◌∷◌, ◌++◌, refl, sym, ap, subst}
use lib.Dec.{T}
use mir.Syntax.{Args, a_type, dcons, dnil}
use mir.MapTy.{inst_fn}
use mir.Val.{Val, vptr, has_ty, WT}
use base.Logic.{SProp, ent, id⊢}
use base.Fml.{ftrue, fsep, flft}
use prog.Wp.{WpFn}
use types.Kit.{‵, raw, ◌⊛◌, some, later, at_ret, ◌$◌, ◌∵◌, !, qed, done, move, drop, split, split3, join, fsplit, fjoin, pick, suffices, use1, await, rewrite, feq_i}
use types.Run.{stop, fld, of_opd, no_more, and_then, first, blocks, exec, returns, enter}
use types.ByLocal.{alloc_all, pass_all, free_all, look_at, get, get_in, sets, lands_last, env}
use types.Part.{sub, whole}
use contract.Monad.{fact}
use contract.BorrowLft.{◌⊑◌}
use contract.Running.{tables}
use denote.Exit.{no}
use denote.Signature.{plain}
use denote.RawPtr.{block_ptr}
use denote.Steps.{nothing, only, heard}
use denote.Param.{bounded}
use denote.Triple.Clauses.{Lasts, lasts}
use denote.Triple.Spec.{triple_of}
use denote.Triple.Call.{calls_at_last}
use denote.Triple.Walked.{says, Stays, stay_dropped, walk_of, ends_at}
use Rattle.core.proofs.alloc.Calls.{Goes-blank}
use Rattle.core.proofs.alloc.Shapes.{after}
use Rattle.core.proofs.atomic.Steps.{fm}
use Rattle.std.proofs.raw_atomic.Walks.{proved_at}
use Rattle.std_alloc.proofs.BoxSteps.Form.{Bx, B, D, box_ty, word, box_typed}
use Rattle.std_alloc.proofs.BoxSteps.Steps.{box_out, box_in}
use Rattle.std_alloc.specs.contracts.boxed.Box.from_raw as from_raw
use Rattle.std_alloc.proofs.boxed.Box.from_raw.Met.{met}
use Rattle.cellplan_c.proofs.Laying.{RawBox, takes}
use Rattle.cellplan_c.specs.contracts.raw_box.RawBox.up as F
use Rattle.cellplan_c.proofs.raw_box.RawBox.up.Statement.{statement}
use Rattle.cellplan_c.proofs.raw_box.RawBox.up.Code as code

pub up_spec : {M : Type 1} → statement M
up_spec 𝓤 𝓛 𝓜 𝓡 wired V A L LA g d dx dd allocator glue glued =
    let 𝓣 = tables 𝓤 𝓛.H 𝓜 𝓡 𝓡.env in
    let E : Bx = record { row = V; laws = L; al = record { row = A; laws = LA; g = g; d = d; drops = dd } } in
    let En = F.ended V A g d dx dd in let c = F.clauses V A g d dx dd 𝓛 𝓜.mem 𝓡.returns in
    let at_types : Args = bounded (a_type ∷ a_type ∷ []) (V, (A, tt)) (dcons d (dcons dx (dcons dd dnil))) in
    let fn = inst_fn at_types code.function in
    let stays : Stays En.signature.params En.kept = (stay_dropped (plain (λ _. RawBox E)) no, tt) in
    let Asked = from_raw.ended V A g d dd in
    let k = triple_of 𝓛 (from_raw.signature V A g d dd) (from_raw.spec V A g d dd 𝓛 𝓜.mem 𝓡.returns) in
    let known = met 𝓤 𝓛 𝓜 𝓡 (code.calls-std_alloc::boxed::Box::from_raw 𝓡.env wired) V A L LA g d dd allocator glued in
    proved_at 𝓛 En stays c 𝓜 𝓡 (Goes-blank 𝓛 2 (plain (λ _. RawBox E)) no (λ κs x f. tt), tt) (F.Key.name at_types) fn (code.unfolded 𝓤 𝓛.H 𝓜 𝓡 wired (V, (A, tt)) d dx dd) (λ z are.
    let κs = z.0.0 in let qs = z.0.1 in let raw_box = z.0.3.0 in
    let Post : Val → SProp 𝓤 = (walk_of 𝓛 En stays c).post z in
    let Run : List Val → SProp 𝓤 = λ vs. WpFn 𝓤 𝓛.H 𝓣.C 𝓣.Λ fn vs Post in
    let tokens = ‵ (flft κs.0 qs.0) ⊛ ‵ (flft κs.1.0 qs.1.0) ⊛ ‵ ftrue in
    let lives = raw (fact 𝓤 (κs.0 ⊑ V.lives)) ⊛ raw (fact 𝓤 (κs.1.0 ⊑ A.lives)) ⊛ ‵ ftrue in
    qed 𝓛 ((tokens ⊛ ‵ (fsep ((RawBox E).own_val raw_box z.0.4.0) ftrue)) ∷ lives ∷ []) ∵ split ! $ move ! (1 ∷ []) $ fsplit ! $
    takes E ! raw_box z.0.4.0 (λ b o hv lies is fits.
    let v : Val = word E hv b o in
    suffices ! (Run (v ∷ [])) (subst (λ (vs : List Val). ent 𝓤 (Run (v ∷ [])) (Run vs)) (sym (λ i. is i ++ [])) (id⊢ 𝓤 (Run (v ∷ [])))) $
    enter ! 𝓣.C 𝓣.Λ fn (v ∷ []) Post $ alloc_all ! (λ l. pass_all ! refl (box_typed E hv b o fits, tt) $
    let Ev = env fn.locals l in
    sets ! (of_opd ! (get_in ! (fld ! refl (stop !)) (sub ! 0 refl (whole !)))) refl (tt, tt) $
    sets ! (of_opd ! (get_in ! (fld ! refl (stop !)) (sub ! 1 refl (whole !)))) refl fits $
    first ! $ blocks ! $ sets ! (of_opd ! (get ! refl)) refl fits $
    -- [what the box owns; its allocator; true; the tokens; the lifetimes]
    move ! (2 ∷ []) $ feq_i ! (List Val) (vptr b o ∷ []) (vptr b o ∷ []) refl $ fjoin ! $ move ! (2 ∷ 0 ∷ []) $ fjoin ! $
    -- [the arguments; what the box owns; the tokens; the lifetimes]
    move ! (2 ∷ 0 ∷ []) $ join ! $ move ! (2 ∷ []) $ split3 ! $ move ! (2 ∷ []) $ drop ! $
    -- [the one lifetime; the other; the tokens with the arguments; what the box owns]
    move ! (1 ∷ 3 ∷ []) $ join ! $ move ! (1 ∷ 0 ∷ []) $ join ! $ move ! (1 ∷ 0 ∷ []) $ join ! $
    let y : k.Ghost = ((κs, qs, tt, (raw_box.from, (block_ptr b o, tt)), (hv ∷ [], (vptr b o ∷ [], tt))), raw_box.value) in
    use1 𝓛 (raw (k.pre y)) (id⊢ 𝓤 _) $
    calls_at_last ! (fm 𝓛 𝓜 𝓡) k known y (and_then ! (get ! refl) (and_then ! (get ! refl) (no_more !))) (λ u.
    use1 𝓛 (later (some (λ (r : D E). (tokens ⊛ ‵ ((B E).own_val r (u ∷ []))) ⊛ some (λ (ls : Lasts Asked κs y.0.3). ‵ (lasts Asked κs y.0.3 ls) ⊛ (raw (fact 𝓤 (r.value ≡ raw_box.value)) ⊛ raw (fact 𝓤 (r.alloc ≡ raw_box.from))))))) (id⊢ 𝓤 (k.post y u)) $
    await ! tt $ pick ! (λ r. split ! $ move ! (1 ∷ []) $ pick ! (λ ls. split3 ! $ drop ! $ heard ! (r.value ≡ raw_box.value) (λ same. drop ! $ split ! $ move ! (1 ∷ []) $
    -- [the box; the tokens]
    box_out E ! r (u ∷ []) (λ b' o' hw lies' is' fits'. box_in E ! r b' o' r.value lies' refl $
    rewrite ! 0 (λ (vs : List Val). ‵ ((B E).own_val r vs)) (sym is') refl $
    let typed : T (has_ty (box_ty E) u) × WT u = subst (λ (s : Val). T (has_ty (box_ty E) s) × WT s) (sym (ap only is')) (box_typed E hw b' o' fits') in
    lands_last ! refl typed $ exec ! 𝓣.C 𝓣.Λ Ev (after 3 fn.body) (at_ret Ev Post) $
    sets ! (of_opd ! (get ! refl)) refl typed $ returns ! (look_at ! 0 refl) $ free_all ! refl $
    suffices ! _ (ends_at 𝓛 En stays c z u r ((tt, (tt, tt)), tt) (tt, tt)) $ says ! same $
    nothing ! $ nothing ! $ fjoin ! $ join ! $ move ! (1 ∷ 0 ∷ []) $ join ! $ done !))))))))
