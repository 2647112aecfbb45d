use Rattle.std.proofs.Common.{rules, ◌≡◌, ◌+◌, ◌-◌, ◌*◌, ◌∷◌, ◌++◌, ℕ, ℤ, List, [], length, map, refl}
use Rattle.std.proofs.Common.{sym, ap, subst, ◌∙◌, arith}
use Rattle.std.proofs.lemmas.List.{length-map}
use Rattle.cla_layout.specs.Tuples.{tuples_of}
use Rattle.cla_packed.specs.Fields.{list_at}
use Rattle.cla_packed.specs.Values.{tuple_at}
use Rattle.cla_pack_reader.specs.Hashes.{AreHashed}
use Rattle.cla_pack_reader.specs.Places.{places_of, Took, Refused}
use Rattle.cla_pack_reader.specs.Tuples.{fits_tuple}
use Rattle.cla_pack_reader.proofs.Steps.{follows, decides_none, decides_more, took_list, refused_list, Decides}
use Rattle.cla_pack_reader.proofs.TupleLaws.{tuples_more}
use Rattle.cla_pack_reader.proofs.tuples.tuples.Goals as goal

pub loop-k-init : goal.loop-k-init
loop-k-init g c = record {
  same_reference = refl;
  frame = search rules;
  no_fault = refl;
  many = ap (λ (hs : List ℕ). length hs) c.new-seen.ensures;
  hashed = subst (AreHashed g.N.Hash.hash_input c.args.width c.new-values.result.items) (sym c.new-seen.ensures)
      record {
        whole = search rules;
        each = λ k there. omega (arith, there);
      };
  so_far =
      let b = places_of c.args.input.now.taken (g.F.Files.state c.args.input.now.files.now) in
      decides_none b b (λ left before. tuple_at 8 g.N.Number.BITS c.args.group c.args.width
      (fits_tuple c.args.listed before)) c.args.n;
}

pub returns-in-Err-clause-exact : goal.returns-in-Err-clause-exact
returns-in-Err-clause-exact g c =
    let old = c.args.input.now.taken in
    let s = g.F.Files.state c.args.input.now.files.now in
    let mid = c.loop-k.input.taken in
    let u = g.F.Files.state c.loop-k.input.files.now in
    let bits = g.N.Number.BITS in
    let n = c.args.n in
    let tuples = tuples_of c.args.width c.loop-k._k (map g.N.Number.value c.loop-k.values.items) in
    let step = λ (left : ℕ) (before : List (List ℤ)). tuple_at 8 bits c.args.group c.args.width
    (fits_tuple c.args.listed before) in
    let bad = subst (λ (m : ℕ). Refused (places_of mid u) (step 0 (tuples_of c.args.width m
    (map g.N.Number.value c.loop-k.values.items))) c.in-Err.fault) c.loop-k.invariant.many c.in-Err.ensures.exact in
    refused_list (places_of old s) (places_of mid u) step n c.loop-k._k (n - 1 - c.loop-k._k) tuples c.in-Err.fault
    c.loop-k-test.true refl (follows old mid s u c.loop-k.invariant.frame.told) c.loop-k.invariant.so_far bad

pub loop-k-preserved : goal.loop-k-preserved
loop-k-preserved g c =
    let value = g.N.Number.value in
    let bits = g.N.Number.BITS in
    let n = c.args.n in
    let width = c.args.width in
    let k = c.loop-k._k in
    let b = places_of c.args.input.now.taken (g.F.Files.state c.args.input.now.files.now) in
    let m = places_of c.loop-k.input.taken (g.F.Files.state c.loop-k.input.files.now) in
    let r = places_of c.next_tuple.new.input.taken (g.F.Files.state c.next_tuple.new.input.files.now) in
    let values = map value c.loop-k.values.items in
    let tuples = tuples_of width k values in
    let step = λ (left : ℕ) (before : List (List ℤ)). tuple_at 8 bits c.args.group width
    (fits_tuple c.args.listed before) in
    let good = c.in-Ok.ensures.exact in
    let tuple = good.0 in
    let whole : length values ≡ k * width = length-map c.loop-k.values.items value ∙ c.loop-k.invariant.hashed.whole
    ∙ ap (λ (m : ℕ). m * width) c.loop-k.invariant.many in
    let more : tuples_of width (k + 1) (map value c.next_tuple.new.values.items) ≡ tuples ++ tuple ∷ [] =
    ap (λ (vs : List ℤ). tuples_of width (k + 1) vs) good.1
    ∙ tuples_more width k values tuple whole good.2 in
    let one = subst (λ (m' : ℕ). Took m r (step 0 (tuples_of width m' values)) tuple) c.loop-k.invariant.many good.3 in
    record {
      same_reference = search rules;
      frame = search rules;
      no_fault = search rules;
      many = omega (arith, c.in-Ok.ensures.count, c.loop-k.invariant.many);
      hashed = c.in-Ok.ensures.hashed;
      so_far = subst (λ (ts : List (List ℤ)). Decides b r step n (k + 1) ts) (sym more)
          (decides_more b m r step n k (n - 1 - k) tuples tuple c.loop-k-test.true refl c.loop-k.invariant.so_far one);
    }

pub returns-clause-exact : goal.returns-clause-exact
returns-clause-exact g c =
    let b = places_of c.args.input.now.taken (g.F.Files.state c.args.input.now.files.now) in
    let m = places_of c.loop-k.input.taken (g.F.Files.state c.loop-k.input.files.now) in
    let step = λ (left : ℕ) (before : List (List ℤ)). tuple_at 8 g.N.Number.BITS c.args.group c.args.width
    (fits_tuple c.args.listed before) in
    let values = map g.N.Number.value c.loop-k.values.items in
    let all = took_list b m step c.args.n c.loop-k._k (tuples_of c.args.width c.loop-k._k values) c.loop-k-test.false
    c.loop-k.invariant.so_far in
    let end : c.loop-k._k ≡ c.args.n = omega (arith, c.loop-k-test.false) in
    subst (λ (k : ℕ). Took b m (λ p. list_at step c.args.n [] p) (tuples_of c.args.width k values)) end all
