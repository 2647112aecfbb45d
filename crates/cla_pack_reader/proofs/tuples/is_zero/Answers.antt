use Rattle.std.proofs.Common.{◌≡◌, ◌<◌, true, ℤ, pos, length, map, ap, sym, ◌∙◌, below_more, arith}
use Rattle.std.specs.Ordering.{int_eq}
use Rattle.std.proofs.lemmas.List.{get_or-map, length-map}
use Rattle.std.proofs.lemmas.List.Elements.{All-from_get_or}
use Rattle.std.proofs.lemmas.List.Folds.{list_all_at}
use Rattle.std.proofs.lemmas.List.Sums.{list_all-from_AllPass}
use Rattle.cla_layout.specs.Groups.{at}
use Rattle.cla_pack_reader.proofs.tuples.is_zero.Given.{Over}
use Rattle.cla_pack_reader.proofs.tuples.is_zero.Goals.{After-is_nothing}
use Rattle.cla_pack_reader.proofs.tuples.is_zero.Goals as goal

-- whether this value is 0
tested : (g : Over) (c : After-is_nothing g) →
    int_eq (at (map g.N.Number.value c.args.tuple.now) c.loop-value.value-index) (pos 0) ≡ c.is_nothing.result
tested g c =
    let value = g.N.Number.value in
    ap (λ (z : ℤ). int_eq z (pos 0)) (get_or-map value c.args.tuple.now c.loop-value.value-index _ (pos 0)
    c.loop-value-test.true
    ∙ ap value (sym c.value-item.is)) ∙ sym c.is_nothing.ensures

pub returns-then-not-is_nothing : goal.returns-then-not-is_nothing
returns-then-not-is_nothing g c =
    let tuple = map g.N.Number.value c.args.tuple.now in
    let there : c.loop-value.value-index < length tuple =
    omega (arith, c.loop-value-test.true, length-map c.args.tuple.now g.N.Number.value) in
    sym (list_all_at (λ v. int_eq v (pos 0)) tuple c.loop-value.value-index (pos 0) there
    (tested g (goal.at.returns-then-not-is_nothing g c).After-is_nothing ∙ c.if-not-is_nothing.true))

pub loop-value-preserved : goal.loop-value-preserved
loop-value-preserved g c = record {
  zeros = below_more _ _ c.loop-value.invariant.zeros
      (tested g (goal.at.loop-value-preserved g c).After-is_nothing ∙ c.if-not-is_nothing.false);
}

pub returns : goal.returns
returns g c =
    let test = λ (v : ℤ). int_eq v (pos 0) in
    let tuple = map g.N.Number.value c.args.tuple.now in
    sym (list_all-from_AllPass test tuple
    (All-from_get_or (λ v. test v ≡ true) tuple (pos 0) (λ p there. c.loop-value.invariant.zeros p
    (omega (
      arith,
      there,
      length-map c.args.tuple.now g.N.Number.value,
      c.loop-value-test.false,
      c.loop-value.auto.value-index-end,
    )))))
