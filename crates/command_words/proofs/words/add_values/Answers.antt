use Rattle.std.proofs.Common.{rules, ◌∙◌, ◌++◌, ap, sym, map, append-nil, ℕ, List}
use Rattle.std.specs.String.{string_bytes}
use Rattle.std.specs.Borrow.{Bor}
use Rattle.std.proofs.lemmas.List.{take_all}
use Rattle.clap.specs.Words.{found_of}
use Rattle.command_words.proofs.words.Getters.{one_more, values_given, values_left_out}
use Rattle.command_words.proofs.words.add_values.Goals as goal

pub returns-in_default : goal.returns-in_default
returns-in_default c =
    let none = values_left_out (found_of c.args.matches.now) c.args.name.now c.get_raw.result c.get_raw.ensures (search rules) in
    sym (append-nil (map string_bytes c.args.files.now.items)) ∙ ap (λ (vs : List (List ℕ)). map string_bytes c.args.files.now.items ++ vs) none

pub loop-value-preserved : goal.loop-value-preserved
loop-value-preserved c =
    one_more string_bytes c.loop-value.files.items c.push.new.self.items c.in_ok-from_str.field-0 _ c.in-Some.values.now c.loop-value.value-index _ (search rules)
    c.loop-value.invariant c.in_ok-push.ensures.items c.in_ok-from_str.ensures.ok

pub returns : goal.returns
returns c =
    let some = values_given (found_of c.args.matches.now) c.args.name.now c.get_raw.result c.in-Some.values c.get_raw.ensures c.in-Some.is in
    let all = take_all c.loop-value.value-index c.in-Some.values.now c.loop-value-test.false in
    c.loop-value.invariant
    ∙ ap (λ (vs : List (Bor (List ℕ))). map string_bytes c.args.files.now.items ++ map (λ v. v.now) vs) all
    ∙ ap (λ (vs : List (List ℕ)). map string_bytes c.args.files.now.items ++ vs) some
