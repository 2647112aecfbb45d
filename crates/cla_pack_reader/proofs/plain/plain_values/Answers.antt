use Rattle.std.proofs.Common.{rules, ◌≡◌, ◌+◌, ◌-◌, ◌*◌, ◌∷◌, ◌++◌, ℕ, ℤ, List, [], length, map, refl, sym, ap, subst}
use Rattle.std.proofs.Common.{◌∙◌, arith}
use Rattle.std.proofs.lemmas.List.{length-map}
use Rattle.cla_layout.specs.Tuples.{tuples_of}
use Rattle.cla_packed.specs.Fields.{list_at}
use Rattle.cla_packed.specs.Files.{any_tuple, own_codes}
use Rattle.cla_packed.specs.Values.{tuple_at, tuples_at}
use Rattle.cla_pack_reader.specs.Places.{places_of, Took}
use Rattle.cla_pack_reader.proofs.Steps.{follows, decides_none, decides_more, took_list, refused_list, Decides}
use Rattle.cla_pack_reader.proofs.Steps.{took_view, refused_view}
use Rattle.cla_pack_reader.proofs.TupleLaws.{tuples_more}
use Rattle.cla_pack_reader.proofs.plain.plain_values.Goals as goal

pub loop-i-init : goal.loop-i-init
loop-i-init g c = record {
  same_reference = refl;
  frame = search rules;
  no_fault = refl;
  count = omega arith;
  so_far =
      let b = places_of c.args.input.now.taken (g.F.Files.state c.args.input.now.files.now) in
      decides_none b b (λ left before. tuple_at 8 g.N.Number.BITS c.args.group c.args.width (any_tuple left before))
      c.args.rows;
}

pub returns-in-Err-clause-exact : goal.returns-in-Err-clause-exact
returns-in-Err-clause-exact g c =
    let old = c.args.input.now.taken in
    let s = g.F.Files.state c.args.input.now.files.now in
    let mid = c.loop-i.input.taken in
    let u = g.F.Files.state c.loop-i.input.files.now in
    let b = places_of old s in
    let n = c.args.rows in
    let left = n - 1 - c.loop-i._i in
    let tuples = tuples_of c.args.width c.loop-i._i (map g.N.Number.value c.loop-i.values.items) in
    let step = λ (left : ℕ) (before : List (List ℤ)). tuple_at 8 g.N.Number.BITS c.args.group c.args.width
    (any_tuple left before) in
    refused_view (own_codes n) (tuples_at 8 g.N.Number.BITS c.args.group c.args.width any_tuple n) b b c.in-Err.fault
    (refused_list b (places_of mid u) step n c.loop-i._i left tuples c.in-Err.fault c.loop-i-test.true refl
    (follows old mid s u c.loop-i.invariant.frame.told) c.loop-i.invariant.so_far
    (c.in-Err.ensures.exact (any_tuple left tuples)))

pub loop-i-preserved : goal.loop-i-preserved
loop-i-preserved g c =
    let value = g.N.Number.value in
    let n = c.args.rows in
    let width = c.args.width in
    let k = c.loop-i._i in
    let left = n - 1 - k in
    let b = places_of c.args.input.now.taken (g.F.Files.state c.args.input.now.files.now) in
    let m = places_of c.loop-i.input.taken (g.F.Files.state c.loop-i.input.files.now) in
    let r = places_of c.tuple.new.input.taken (g.F.Files.state c.tuple.new.input.files.now) in
    let values = map value c.loop-i.values.items in
    let tuples = tuples_of width k values in
    let step = λ (left : ℕ) (before : List (List ℤ)). tuple_at 8 g.N.Number.BITS c.args.group width
    (any_tuple left before) in
    let good = c.in-Ok.ensures.exact (any_tuple left tuples) in
    let tuple = good.0 in
    let whole : length values ≡ k * width = length-map c.loop-i.values.items value ∙ c.loop-i.invariant.count in
    let more : tuples_of width (k + 1) (map value c.tuple.new.values.items) ≡ tuples ++ tuple ∷ [] =
    ap (λ (vs : List ℤ). tuples_of width (k + 1) vs) good.1
    ∙ tuples_more width k values tuple whole good.2 in
    record {
      same_reference = search rules;
      frame = search rules;
      no_fault = search rules;
      count = omega (arith, c.in-Ok.ensures.count, c.loop-i.invariant.count);
      so_far = subst (λ (ts : List (List ℤ)). Decides b r step n (k + 1) ts) (sym more)
          (decides_more b m r step n k left tuples tuple c.loop-i-test.true refl c.loop-i.invariant.so_far
          (good.3 refl));
    }

pub returns-clause-exact : goal.returns-clause-exact
returns-clause-exact g c =
    let b = places_of c.args.input.now.taken (g.F.Files.state c.args.input.now.files.now) in
    let m = places_of c.loop-i.input.taken (g.F.Files.state c.loop-i.input.files.now) in
    let n = c.args.rows in
    let bits = g.N.Number.BITS in
    let step = λ (left : ℕ) (before : List (List ℤ)). tuple_at 8 bits c.args.group c.args.width
    (any_tuple left before) in
    let values = map g.N.Number.value c.loop-i.values.items in
    let all = took_list b m step n c.loop-i._i (tuples_of c.args.width c.loop-i._i values) c.loop-i-test.false
    c.loop-i.invariant.so_far in
    let end : c.loop-i._i ≡ n = omega (arith, c.loop-i-test.false) in
    let done = subst (λ (k : ℕ). Took b m (λ p. list_at step n [] p) (tuples_of c.args.width k values)) end all in
    took_view (own_codes n) (tuples_at 8 bits c.args.group c.args.width any_tuple n) b m
    (tuples_of c.args.width n values) done
