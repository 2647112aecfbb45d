use Rattle.std.proofs.Common.{rules, ◌≡◌, ◌-◌, ℕ, ℤ, List, length, map, take, drop, refl, sym, ap, subst, ◌∙◌, arith}
use Rattle.std.specs.Prelude.{◌&&◌, not}
use Rattle.std.proofs.lemmas.List.{length-map}
use Rattle.cla_layout.specs.Listed.{is_zero}
use Rattle.cla_layout.specs.Tuples.{tuples_of}
use Rattle.cla_packed.specs.declared.fault.PackFault.TheVariants.{Field}
use Rattle.cla_packed.specs.declared.fault.FieldName.TheVariants.{Value}
use Rattle.cla_packed.specs.Values.{tuple_at, is_among}
use Rattle.cla_pack_reader.specs.Hashes.{AreHashed}
use Rattle.cla_pack_reader.specs.Places.{places_of, Refused}
use Rattle.cla_pack_reader.specs.Tuples.{fits_tuple}
use Rattle.cla_pack_reader.proofs.TupleLaws.{key_is, front_is, zero_unfit, among_unfit, tuple_fits}
use Rattle.cla_pack_reader.proofs.HashLaws.{hashed_same}
use Rattle.cla_pack_reader.proofs.tuples.next_tuple.Given.{Over}
use Rattle.cla_pack_reader.proofs.tuples.next_tuple.Goals.{After-is_unlisted}
use Rattle.cla_pack_reader.proofs.tuples.next_tuple.Goals as goal

pub overflow_sub-bad : goal.overflow_sub-bad
overflow_sub-bad g c = omega (arith, c.at.ensures, c.in-Ok.ensures.far)

-- what was read, cut where the values ended before
module _ (g : Over) (c : After-is_unlisted g) where
  abbrev value : g.row.N.Denot → ℤ
  value = g.N.Number.value

  abbrev before : List (List ℤ)
  before = tuples_of c.args.width (length c.args.seen.now) (map value c.args.values.now.items)

  from : c.len-from.result ≡ length c.args.values.now.items
  from = search rules

  front : map value c.split_at.result.0.now ≡ map value c.args.values.now.items
  front =
      let gives = c.in-Ok.ensures.exact (fits_tuple c.args.listed before) in
      ap (map value) (c.split_at.ensures.front ∙ ap (take c.len-from.result) c.deref.ensures.value)
      ∙ front_is value c.args.values.now.items c.tuple.new.values.items gives.0 c.len-from.result gives.1 from

  back : map value c.split_at.result.1.now ≡ (c.in-Ok.ensures.exact (fits_tuple c.args.listed before)).0
  back =
      let gives = c.in-Ok.ensures.exact (fits_tuple c.args.listed before) in
      ap (map value) (c.split_at.ensures.back ∙ ap (drop c.len-from.result) c.deref.ensures.value)
      ∙ key_is value c.args.values.now.items c.tuple.new.values.items gives.0 c.len-from.result gives.1 from

  width : length c.split_at.result.1.now ≡ c.args.width
  width =
      let gives = c.in-Ok.ensures.exact (fits_tuple c.args.listed before) in
      sym (length-map c.split_at.result.1.now value) ∙ ap (λ (vs : List ℤ). length vs) back ∙ gives.2

  -- the tuples that were there
  same_before : tuples_of (length c.split_at.result.1.now) (length c.args.seen.now) (map value c.split_at.result.0.now)
      ≡ before
  same_before = rw (width, front) refl

pub returns-then-is_unlisted-clause-exact : goal.returns-then-is_unlisted-clause-exact
returns-then-is_unlisted-clause-exact g c =
    let at = (goal.at.returns-then-is_unlisted-clause-exact g c).After-is_unlisted in
    let value = g.N.Number.value in
    let whole = fits_tuple c.args.listed (before g at) in
    let gives = c.in-Ok.ensures.exact whole in
    let b = places_of c.args.input.now.taken (g.F.Files.state c.args.input.now.files.now) in
    let unfit = zero_unfit c.args.listed (before g at) gives.0
    (ap (λ (t : List ℤ). c.args.listed && is_zero t) (sym (back g at)) ∙ sym c.is_unlisted.ensures
    ∙ c.if-is_unlisted.true) in
    subst (λ (at : ℕ). Refused b (tuple_at 8 g.N.Number.BITS c.args.group c.args.width whole)
    (Field c.args.group Value (at - 8))) (sym c.at.ensures) (gives.4 unfit)

pub insert_new-requires-clause-hashed : goal.insert_new-requires-clause-hashed
insert_new-requires-clause-hashed g c =
    let at = (goal.at.insert_new-requires-clause-hashed g c).After-is_unlisted in
    subst (λ (w : ℕ). AreHashed g.N.Hash.hash_input w c.split_at.result.0.now c.args.seen.now) (sym (width g at))
    (hashed_same g.N.Hash.hash_input g.N.PartialEq.eq g.met.N.Hash.respects_eq g.N.Number.value g.met.N.Number.equality
    c.args.width c.args.values.now.items c.split_at.result.0.now c.args.seen.now (front g at) c.requires.hashed)

pub returns-in-Ok-false-clause-exact : goal.returns-in-Ok-false-clause-exact
returns-in-Ok-false-clause-exact g c =
    let at = (goal.at.returns-in-Ok-false-clause-exact g c).After-is_unlisted in
    let value = g.N.Number.value in
    let whole = fits_tuple c.args.listed (before g at) in
    let gives = c.in-Ok.ensures.exact whole in
    let b = places_of c.args.input.now.taken (g.F.Files.state c.args.input.now.files.now) in
    let new : not (is_among (before g at) gives.0) ≡ c.in-Ok-false.field-0 =
    ap (λ (ts : List (List ℤ)). not (is_among ts gives.0)) (sym (same_before g at))
    ∙ ap (λ (t : List ℤ). not (is_among (tuples_of (length c.split_at.result.1.now) (length c.args.seen.now)
    (map value c.split_at.result.0.now)) t)) (sym (back g at)) ∙ sym c.in-Ok-false.ensures.new in
    let unfit = among_unfit c.args.listed (before g at) gives.0 (new ∙ c.in-Ok-false.field-0-test) in
    subst (λ (at : ℕ). Refused b (tuple_at 8 g.N.Number.BITS c.args.group c.args.width whole)
    (Field c.args.group Value (at - 8))) (sym c.at.ensures) (gives.4 unfit)

pub returns-in-Ok-true-clause-exact : goal.returns-in-Ok-true-clause-exact
returns-in-Ok-true-clause-exact g c =
    let at = (goal.at.returns-in-Ok-true-clause-exact g c).After-is_unlisted in
    let value = g.N.Number.value in
    let whole = fits_tuple c.args.listed (before g at) in
    let gives = c.in-Ok.ensures.exact whole in
    let new : not (is_among (before g at) gives.0) ≡ c.in-Ok-true.field-0 =
    ap (λ (ts : List (List ℤ)). not (is_among ts gives.0)) (sym (same_before g at))
    ∙ ap (λ (t : List ℤ). not (is_among (tuples_of (length c.split_at.result.1.now) (length c.args.seen.now)
    (map value c.split_at.result.0.now)) t)) (sym (back g at)) ∙ sym c.in-Ok-true.ensures.new in
    let fits = tuple_fits c.args.listed (before g at) gives.0 (new ∙ c.in-Ok-true.field-0-test)
    (ap (λ (t : List ℤ). c.args.listed && is_zero t) (sym (back g at)) ∙ sym c.is_unlisted.ensures
    ∙ c.if-is_unlisted.false) in
    (gives.0, gives.1, gives.2, gives.3 fits)
