use Rattle.std.proofs.Common.{◌≡◌, ◌≤◌, ◌∙◌, ap, arith, length, map, string_bytes, take}
use Rattle.std.proofs.lemmas.List.Elements.{All-take}
use Rattle.people_names.specs.declared.names.TheConstants.{LONGEST_NAME}
use Rattle.people_names.proofs.KeptNames.{all_names, are_short, one_more_name}
use Rattle.people_names.proofs.kept.first_names.Goals as goal

pub loop-place-preserved : goal.loop-place-preserved
loop-place-preserved c = record {
  so_far = one_more_name c.args.names.now c.loop-place.place c.args.most (map string_bytes c.loop-place.kept.items) c.loop-place.invariant.so_far
      c.index-names-place.result _ _ c.loop-place-test.true c.index-names-place.is c.as_str.ensures.value c.in_ok-push_copy.ensures;
  few = omega (arith, c.if-place-most.false);
}

pub returns-then-place-most-clause-exact : goal.returns-then-place-most-clause-exact
returns-then-place-most-clause-exact c =
    let here : c.loop-place.place ≡ c.args.most = omega (arith, c.loop-place.invariant.few, c.if-place-most.true) in
    c.loop-place.invariant.so_far ∙ ap (λ n. take n (map string_bytes c.args.names.now)) here

pub returns-then-place-most-clause-short : goal.returns-then-place-most-clause-short
returns-then-place-most-clause-short c =
    are_short _ _ (returns-then-place-most-clause-exact c) (All-take (λ name. length name ≤ LONGEST_NAME) c.args.most (map string_bytes c.args.names.now) c.requires)

pub returns-clause-exact : goal.returns-clause-exact
returns-clause-exact c =
    all_names c.args.names.now c.loop-place.place c.args.most (map string_bytes c.loop-place.kept.items) c.loop-place.invariant.so_far c.loop-place-test.false c.loop-place.invariant.few

pub returns-clause-short : goal.returns-clause-short
returns-clause-short c =
    are_short _ _ (returns-clause-exact c) (All-take (λ name. length name ≤ LONGEST_NAME) c.args.most (map string_bytes c.args.names.now) c.requires)
