use Rattle.std.proofs.Common.{◌≡◌, ℕ, ◌<◌, [], ◌∷◌, ◌++◌, length, get_or, Option, None, ap, ◌∙◌, arith}
use Rattle.std.proofs.lemmas.List.{get_or_default, length-map}
use Rattle.run_gantt.specs.declared.visits.LinkedVisit.{LinkedVisit}
use Rattle.run_gantt.specs.LinkedVisits.{linked_from}
use Rattle.run_gantt.proofs.Linked.{put-rows, put-linked}
use Rattle.run_gantt.proofs.visits.Visits.put_first.Goals as goal

pub invariant_of-self-2 : goal.invariant_of-self-2
invariant_of-self-2 c =
    let table = c.self.inside.table.items in
    let first = c.self.inside.first.items in
    let linked : Option ℕ → LinkedVisit = λ next. record { visit = c.args.visit; next = next } in
    let inside : c.args.machine < length first = omega (arith, c.requires, ap length c.self.view_is, length-map first (linked_from table (length table))) in
    let next : c.index-next.result.now ≡ get_or first c.args.machine None = c.index-next.ensures ∙ get_or_default _ _ _ _ inside in
    let pushed : c.push.new.self.items ≡ table ++ linked (get_or first c.args.machine None) ∷ [] = c.in_ok-push.ensures.items ∙ ap (λ (n : Option ℕ). table ++ linked n ∷ []) next in
    let place : c.len-place.result ≡ length table = omega (arith, c.len-place.ensures, c.self.inside.table.ok.0) in
    rw (pushed, place) (put-linked table first c.args.machine c.args.visit inside c.self.invariant)

pub returns : goal.returns
returns c =
    let table = c.self.inside.table.items in
    let first = c.self.inside.first.items in
    let linked : Option ℕ → LinkedVisit = λ next. record { visit = c.args.visit; next = next } in
    let inside : c.args.machine < length first = omega (arith, c.requires, ap length c.self.view_is, length-map first (linked_from table (length table))) in
    let next : c.index-next.result.now ≡ get_or first c.args.machine None = c.index-next.ensures ∙ get_or_default _ _ _ _ inside in
    let pushed : c.push.new.self.items ≡ table ++ linked (get_or first c.args.machine None) ∷ [] = c.in_ok-push.ensures.items ∙ ap (λ (n : Option ℕ). table ++ linked n ∷ []) next in
    let place : c.len-place.result ≡ length table = omega (arith, c.len-place.ensures, c.self.inside.table.ok.0) in
    rw (← c.self.view_is, pushed, place) (put-rows table first c.args.machine c.args.visit inside c.self.invariant)
