-- A box that lies: [what the box owns; its allocator], and the one machine value of both. Assumes `Logic`.
use Rattle.std.proofs.Common.{◌≡◌, ℕ, List, [], ◌∷◌, ◌++◌, refl, subst}
use seplogic.Ra.Ura.{Ura}
use mir.Raw.{raw as bare}
use mir.Val.{Val, vptr, vstruct, of_list}
use base.Logic.{never, fst∗}
use types.Logic.{Logic, sem}
use types.Kit.{Item, Goal, Seq, Step, step, ‵, ◌$◌, move, drop, fsplit, fjoin, fpick, fpack, feq_i, feq_l}
use denote.RattleType.{RattleType, Valss}
use denote.Builtin.{RawPtr}
use denote.RawPtr.{Ptr, block_ptr, null_ptr, ptr_val, in_a_block}
use denote.Steps.{nothing}
use denote.Struct.Struct.{within}
use denote.Struct.Owning.{shape}
use Rattle.core.proofs.alloc.Calls.{token, Fits, handle_tells}
use Rattle.std_alloc.specs.Box.Ownership.{box_owns}
use Rattle.std_alloc.proofs.BoxSteps.Form.{Bx, X, R, P, τ, handle, word}
use Rattle.cellplan_c.specs.contracts.raw_box.RawBox as RawBox_type

module _ (E : Bx) where
  abbrev pub RawBox : RattleType
  RawBox = RawBox_type.the_row (R E) (P E) E.al.g

  module _ {M : Type 1} {𝓤 : Ura M} {𝓛 : Logic 𝓤} {K : Type 0} {Γ : List (Item 𝓤)} {G : Goal 𝓤 𝓛.H} where
    pub takes : K → (raw_box : RawBox.Denot) (vs : List Val)
        → ((b o : ℕ) (hv : Val) → raw_box.place ≡ block_ptr b o → vs ≡ word E hv b o ∷ [] → Fits E.al hv
        → Seq K 𝓛 (‵ (box_owns (token E.al raw_box.from) (R E) (block_ptr b o) raw_box.value) ∷ ‵ (handle E raw_box.from hv) ∷ Γ) G)
        → Seq K 𝓛 (‵ (RawBox.own_val raw_box vs) ∷ Γ) G
    takes t raw_box vs then_with =
        let owned = λ (p : Ptr). box_owns (token E.al raw_box.from) (R E) p raw_box.value in
        fsplit t $ fpick t (λ parts. fsplit t $ feq_l t (λ whole. fsplit t $ feq_l t (λ at. fsplit t $
        handle_tells E.al t raw_box.from parts.1.0 (λ hv eh fits. move t (1 ∷ []) $ drop t $ move t (1 ∷ []) $
        in_a_block t raw_box.place owned (fst∗ 𝓤 (never 𝓤) (sem 𝓛 (token E.al raw_box.from (bare (τ E)) null_ptr))) (λ b o lies.
        let one : vs ≡ vstruct (of_list (ptr_val raw_box.place ∷ (parts.1.0 ++ []))) ∷ [] =
        subst (λ (ps : List Val). vs ≡ vstruct (of_list (ps ++ (parts.1.0 ++ []))) ∷ []) at whole in
        let two : vs ≡ vstruct (of_list (ptr_val raw_box.place ∷ hv ∷ [])) ∷ [] =
        subst (λ (hs : List Val). vs ≡ vstruct (of_list (ptr_val raw_box.place ∷ (hs ++ []))) ∷ []) eh one in
        then_with b o hv lies (subst (λ (p : Ptr). vs ≡ vstruct (of_list (ptr_val p ∷ hv ∷ [])) ∷ []) lies two) fits)))))

    pub gives : K → (b o : ℕ) (hv : Val) (a : E.al.row.Denot) (x : X E)
        → Step K 𝓛 (‵ (RawBox.own_val (record { place = block_ptr b o; from = a; value = x }) (word E hv b o ∷ [])) ∷ Γ) G
        (‵ (box_owns (token E.al a) (R E) (block_ptr b o) x) ∷ ‵ (handle E a hv) ∷ Γ) G
    gives t b o hv a x = step (λ rest. let v : Val = word E hv b o in
        nothing t $ move t (2 ∷ 0 ∷ []) $ fjoin t $ feq_i t (List Val) (vptr b o ∷ []) (vptr b o ∷ []) refl $ fjoin t $ feq_i t (List Val) (v ∷ []) (v ∷ []) refl $ fjoin t $
        fpack t (Valss (RawPtr ∷ P E ∷ [])) (within (shape (RawBox_type.the_type (R E) (P E) E.al.g)) (block_ptr b o, (a, tt)) (v ∷ [])) (vptr b o ∷ [], (hv ∷ [], tt)) $ fjoin t $ rest)
