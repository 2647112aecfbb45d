use Rattle.std.proofs.Common.{◌≡◌, ◌<◌, ◌*◌, ◌∙◌, ℕ, length, map, ap, subst, sym, arith}
use Rattle.std.proofs.lemmas.List.{length-map, get_or-map, take_all}
use Rattle.cla_layout.specs.Groups.{at}
use Rattle.cla_layout.proofs.Tuples.{tuples_count}
use Rattle.cla_group.specs.Rows.{ArePlaces, projected}
use Rattle.cla_group.proofs.Dictionaries.{values_narrow, places_fit, AreFirst, first_more, the_dictionary}
use Rattle.cla_group.proofs.dictionary.Dictionary.project.Given.{Over}
use Rattle.cla_group.proofs.dictionary.Dictionary.project.Goals.{After-loop-k}
use Rattle.cla_group.proofs.dictionary.Dictionary.project.Goals as goal

pub overflow_mul-self-inside : goal.overflow_mul-self-inside
overflow_mul-self-inside g c =
    let fit = places_fit _ _ _ _ c.self.invariant (rw (← c.self.view_is) at c.requires) in
    omega (arith, fit.1, c.self.invariant.few)

pub overflow_cast-result : goal.overflow_cast-result
overflow_cast-result g c =
    let fit = places_fit _ _ _ _ c.self.invariant (rw (← c.self.view_is) at c.requires) in
    omega (arith, fit.0, values_narrow _ _ _ c.self.invariant)

pub keep_places-requires : goal.keep_places-requires
keep_places-requires g c = record { within = λ p there. omega (arith, c.requires.within p there, c.tuple.ensures.full) }

pub loop-k-preserved : goal.loop-k-preserved
loop-k-preserved g c =
    let places = c.args.places.now in
    let tuples = c.args.self.now.tuples in
    let k = c.loop-k.k in
    let there : k < length tuples = omega (arith, c.len-k-end.ensures.count, c.loop-k-test.true) in
    let is = ap (projected places) c.tuple.ensures.values ∙ sym (get_or-map (projected places) tuples k _ _ there) in
    record {
      first = rw c.in_ok-keep_places.ensures (first_more (length places) k _ _ _ c.loop-k.invariant.first
          (omega (arith, there, length-map tuples (projected places))) is (length-map places (at _)));
    }

-- how many tuples there are, and all of them have kept the places
all : (g : Over) (c : After-loop-k g) → (length c.args.self.now.tuples ≡ c.self.inside.tuples) ×
    AreFirst (length c.args.places.now) c.self.inside.tuples (map (projected c.args.places.now) c.args.self.now.tuples)
    (map g.N.Number.value c.loop-k.values.items)
all g c =
    let d = c.self.inside in
    let count : length c.args.self.now.tuples ≡ d.tuples =
    rw (← c.self.view_is) (tuples_count d.width d.tuples (map g.N.Number.value d.values.items)) in
    let end : c.loop-k.k ≡ d.tuples = omega (
      arith,
      c.loop-k-test.false,
      c.loop-k.auto.k-end,
      c.len-k-end.ensures.count,
      count,
    ) in
    let wanted = map (projected c.args.places.now) c.args.self.now.tuples in (
      count,
      subst (λ (k : ℕ). AreFirst (length c.args.places.now) k wanted (map g.N.Number.value c.loop-k.values.items)) end
          c.loop-k.invariant.first,
    )

pub invariant_of-result : goal.invariant_of-result
invariant_of-result g c =
    let fit = places_fit _ _ _ _ c.self.invariant (rw (← c.self.view_is) at c.requires) in
    let kept = all g (goal.at.invariant_of-result g c).After-loop-k in
    let whole = sym (length-map c.loop-k.values.items g.N.Number.value) ∙ kept.1.whole in
    record {
      a_column = c.requires.some;
      a_tuple = c.self.invariant.a_tuple;
      whole = whole;
      few = omega (arith, whole, fit.1, c.self.invariant.few);
    }

pub returns : goal.returns
returns g c =
    let kept = all g (goal.at.returns g c).After-loop-k in
    ap (the_dictionary (length c.args.places.now)) (kept.1.are
    ∙ take_all _ _ (omega (arith, kept.0, length-map c.args.self.now.tuples (projected c.args.places.now))))
