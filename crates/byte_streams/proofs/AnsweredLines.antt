-- Lines that are answered one after another.
use Rattle.std.proofs.Common.{◌≡◌, ℕ, ◌+◌, List, [], ◌∷◌, ◌++◌, Option, length, refl, sym, ap, ◌∙◌, arith, append_assoc, append-nil, length-append, subst}
use Rattle.std.specs.Io.KnownBytes.{Appends}
use Rattle.std.proofs.KnownBytes.{Appends-nil, Appends-trans}
use Rattle.byte_streams.specs.Sinks.{TookPart}
use Rattle.byte_streams.specs.Answering.{AnswerAll, AreCutOff, IsClosingCut}

pub AnswerAll-append : {S : Type 0} (answers : S → ℕ → Option (List ℕ) → List ℕ → S → Type 0) (xs ys : List (Option (List ℕ))) (start middle end : S) (number next : ℕ) (text more : List ℕ)
    → AnswerAll answers start number xs text middle → next ≡ number + length xs → AnswerAll answers middle next ys more end → AnswerAll answers start number (xs ++ ys) (text ++ more) end
AnswerAll-append answers [] ys start middle end number next text more first at second =
    let same_number : next ≡ number = omega arith in
    let at_start = subst (λ s. AnswerAll answers s next ys more end) first.1 second in
    let numbered = subst (λ n. AnswerAll answers start n ys more end) same_number at_start in
    subst (λ t. AnswerAll answers start number ys t end) (sym (ap (λ t. t ++ more) first.0)) numbered
AnswerAll-append answers (x ∷ xs) ys start middle end number next text more first at second =
    let all = AnswerAll-append answers xs ys first.2 middle end (number + 1) next first.1 more first.4 (omega arith) second in
    (first.0, first.1 ++ more, first.2, first.3, all, ap (λ t. t ++ more) first.5 ∙ append_assoc first.0 first.1 more)

-- one line is answered
pub AnswerAll-one : {S : Type 0} (answers : S → ℕ → Option (List ℕ) → List ℕ → S → Type 0) (start end : S) (number : ℕ) (line : Option (List ℕ)) (text : List ℕ)
    → answers start number line text end → AnswerAll answers start number (line ∷ []) text end
AnswerAll-one answers start end number line text is_answer = (text, [], end, is_answer, (refl, refl), sym (append-nil text))

-- lines were answered, and of further ones the answer to one was cut off
pub cut_behind : {S : Type 0} (answers : S → ℕ → Option (List ℕ) → List ℕ → S → Type 0) (xs ys : List (Option (List ℕ))) (start middle end : S) (number next : ℕ) (text : List ℕ) (before now after : Option (List ℕ))
    → AnswerAll answers start number xs text middle → next ≡ number + length xs → Appends before now text → AreCutOff answers middle next ys end now after → AreCutOff answers start number (xs ++ ys) end before after
cut_behind answers xs ys start middle end number next text before now after first at wrote second =
    let same_number : next + length second.answered ≡ number + length (xs ++ second.answered) = omega (arith, at, length-append xs second.answered) in
    record {
      answered = xs ++ second.answered;
      line = second.line;
      rest = second.rest;
      whole = append_assoc xs second.answered (second.line ∷ second.rest) ∙ ap (λ l. xs ++ l) second.whole;
      text = text ++ second.text;
      state = second.state;
      are_answers = AnswerAll-append answers xs second.answered start middle second.state number next text second.text first at second.are_answers;
      cut = second.cut;
      is_answer = subst (λ (n : ℕ). answers second.state n second.line second.cut end) same_number second.is_answer;
      between = second.between;
      written = Appends-trans before now second.between text second.text wrote second.written;
      part = second.part;
    }

-- or the closing text behind the further ones
pub closing_cut_behind : {S : Type 0} (answers : S → ℕ → Option (List ℕ) → List ℕ → S → Type 0) (closes : S → List ℕ → Type 0) (xs ys : List (Option (List ℕ))) (start middle end : S) (number next : ℕ) (text : List ℕ) (before now after : Option (List ℕ))
    → AnswerAll answers start number xs text middle → next ≡ number + length xs → Appends before now text → IsClosingCut answers closes middle next ys end now after → IsClosingCut answers closes start number (xs ++ ys) end before after
closing_cut_behind answers closes xs ys start middle end number next text before now after first at wrote second = record {
  text = text ++ second.text;
  are_answers = AnswerAll-append answers xs ys start middle end number next text second.text first at second.are_answers;
  closing = second.closing;
  is_closing = second.is_closing;
  between = second.between;
  written = Appends-trans before now second.between text second.text wrote second.written;
  part = second.part;
}

-- one line, whose answer was cut off
pub cut_one : {S : Type 0} (answers : S → ℕ → Option (List ℕ) → List ℕ → S → Type 0) (start end : S) (number : ℕ) (line : Option (List ℕ)) (rest : List (Option (List ℕ))) (cut : List ℕ) (before after : Option (List ℕ))
    → answers start number line cut end → TookPart before after cut → AreCutOff answers start number (line ∷ rest) end before after
cut_one answers start end number line rest cut before after is_answer part =
    let same_number : number ≡ number + 0 = omega arith in
    record {
      answered = [];
      line = line;
      rest = rest;
      whole = refl;
      text = [];
      state = start;
      are_answers = (refl, refl);
      cut = cut;
      is_answer = subst (λ (n : ℕ). answers start n line cut end) same_number is_answer;
      between = before;
      written = Appends-nil before;
      part = part;
    }
