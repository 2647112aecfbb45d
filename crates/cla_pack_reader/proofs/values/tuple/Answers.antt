use Rattle.std.proofs.Common.{rules, ℕ, ℤ, ◌-◌, ◌<◌, ◌++◌, ◌∷◌, [], List, map, ◌∙◌, ap, arith, append_assoc, refl, sym}
use Rattle.std.proofs.lemmas.List.{length-append, append-nil}
use Rattle.cla_packed.specs.Values.{value_at, fits_value}
use Rattle.cla_pack_reader.specs.Places.{places_of}
use Rattle.cla_pack_reader.proofs.Steps.{follows, decides_none, decides_more, refused_list}
use Rattle.cla_pack_reader.proofs.ValueLaws.{tests_range, before_last, tuple_done}
use Rattle.cla_pack_reader.proofs.values.tuple.Goals as goal

pub returns-in-Err-clause-exact : goal.returns-in-Err-clause-exact
returns-in-Err-clause-exact g c whole =
    let bits = g.N.Number.BITS in
    let old = c.args.input.now.taken in
    let s = g.F.Files.state c.args.input.now.files.now in
    let mid = c.loop-j.input.taken in
    let u = g.F.Files.state c.loop-j.input.files.now in
    let before = c.loop-j.invariant.so_far whole in
    let step = λ (left : ℕ) (so_far : List ℤ). value_at 8 (fits_value bits whole left so_far) c.args.group in
    let left = c.args.width - 1 - c.loop-j._j in
    let lt : c.loop-j._j < c.args.width = omega arith in
    refused_list (places_of old s) (places_of mid u) step c.args.width c.loop-j._j left before.0 c.in-Err.fault lt refl
    (follows old mid s u c.loop-j.invariant.frame.told) before.3
    (c.in-Err.ensures.exact (fits_value bits whole left before.0) (tests_range bits whole left before.0))

pub loop-j-preserved : goal.loop-j-preserved
loop-j-preserved g c = record {
  same_reference = search rules;
  frame = search rules;
  no_fault = search rules;
  count = omega (arith, c.in-Ok.ensures.count, c.loop-j.invariant.count);
  so_far = λ whole.
      let bits = g.N.Number.BITS in
      let before = c.loop-j.invariant.so_far whole in
      let b = places_of c.args.input.now.taken (g.F.Files.state c.args.input.now.files.now) in
      let m = places_of c.loop-j.input.taken (g.F.Files.state c.loop-j.input.files.now) in
      let r = places_of c.push_value.new.input.taken (g.F.Files.state c.push_value.new.input.files.now) in
      let step = λ (left : ℕ) (so_far : List ℤ). value_at 8 (fits_value bits whole left so_far) c.args.group in
      let left = c.args.width - 1 - c.loop-j._j in
      let lt : c.loop-j._j < c.args.width = omega arith in
      let more : 0 < left = omega arith in
      let gives = c.in-Ok.ensures.exact (fits_value bits whole left before.0) (tests_range bits whole left before.0) in
      let v = gives.0 in (
        before.0 ++ v ∷ [],
        gives.1 ∙ ap (λ (l : List ℤ). l ++ v ∷ []) before.1
            ∙ append_assoc (map g.N.Number.value c.args.values.now.items) before.0 (v ∷ []),
        omega (arith, before.2, length-append before.0 (v ∷ [])),
        decides_more b m r step c.args.width c.loop-j._j left before.0 v lt refl before.3
            (gives.3 (before_last bits whole left before.0 v gives.2 more)),
      );
}

pub returns-clause-exact : goal.returns-clause-exact
returns-clause-exact g c whole =
    let bits = g.N.Number.BITS in
    let old = c.args.input.now.taken in
    let s = g.F.Files.state c.args.input.now.files.now in
    let mid = c.loop-j.input.taken in
    let u = g.F.Files.state c.loop-j.input.files.now in
    let before = c.loop-j.invariant.so_far whole in
    let lt : c.loop-j._j < c.args.width = omega arith in
    let gives = c.push_value-2.ensures.exact (fits_value bits whole 0 before.0) (tests_range bits whole 0 before.0) in
    let r = places_of c.push_value-2.new.input.taken (g.F.Files.state c.push_value-2.new.input.files.now) in
    tuple_done g.N.Number.value 8 bits c.args.group c.args.width c.loop-j._j whole c.args.values.now.items
    c.loop-j.values.items c.push_value-2.new.values.items before.0 (places_of old s) (places_of mid u) r
    mid.at c.push_value-2.new.input.taken.at c.push_value-2.result c.push_value-2.ensures.moved
    (follows old mid s u c.loop-j.invariant.frame.told) lt
    c.loop-j-test.false before.1 before.2 before.3 gives

pub loop-j-init : goal.loop-j-init
loop-j-init g c = record {
  same_reference = refl;
  frame = search rules;
  no_fault = refl;
  count = omega arith;
  so_far = λ whole.
      let bits = g.N.Number.BITS in
      let b = places_of c.args.input.now.taken (g.F.Files.state c.args.input.now.files.now) in
      let step = λ (left : ℕ) (so_far : List ℤ). value_at 8 (fits_value bits whole left so_far) c.args.group in (
        [],
        sym (append-nil (map g.N.Number.value c.args.values.now.items)),
        refl,
        decides_none b b step c.args.width,
      );
}
