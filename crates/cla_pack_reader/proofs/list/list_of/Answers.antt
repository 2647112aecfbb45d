use Rattle.std.proofs.Common.{rules, ◌≡◌, ℕ, ◌+◌, ◌-◌, ◌/◌, ◌<◌, eqb, ◌++◌, ◌∷◌, List, [], length, refl, sym, ap}
use Rattle.std.proofs.Common.{subst, ◌∙◌, arith}
use Rattle.std.proofs.lemmas.List.{length_push}
use Rattle.cla_packed.specs.Offsets.{segment_at, segments, joined}
use Rattle.cla_pack_reader.proofs.OwnerLaws.{joined-append}
use Rattle.cla_pack_reader.proofs.Steps.{follows, decides_none, decides_more, took_list, refused_list}
use Rattle.cla_pack_reader.specs.declared.walk.Walk.{Walk}
use Rattle.cla_pack_reader.specs.Segments.{IsOffsetState}
use Rattle.cla_pack_reader.specs.Places.{places_of, Took, Refused}
use Rattle.cla_pack_reader.proofs.KeptLists.{offsets_pushed}
use Rattle.cla_pack_reader.proofs.ListLaws.{last_one, list_ends, list_reads}
use Rattle.cla_pack_reader.proofs.list.list_of.Goals as goal

pub loop-s-init : goal.loop-s-init
loop-s-init g c = record {
  same_reference = refl;
  frame = search rules;
  no_fault = refl;
  size = refl;
  so_far = λ earlier st.
      let b = places_of c.args.input.now.taken (g.F.Files.state c.args.input.now.files.now) in
      let rows = length c.args.marks.now in
      let start = subst (λ (w : Walk). IsOffsetState earlier [] c.args.marks.now c.args.places.now.items w c.args.floor)
      (sym c.new-walk.ensures) st in
      ([], refl, start, decides_none b b (segment_at 32768 rows c.args.group earlier) (segments 32768 rows));
}

pub returns-in-Err-clause-exact : goal.returns-in-Err-clause-exact
returns-in-Err-clause-exact g c earlier st =
    let old = c.args.input.now.taken in
    let s = g.F.Files.state c.args.input.now.files.now in
    let mid = c.loop-s.input.taken in
    let u = g.F.Files.state c.loop-s.input.files.now in
    let rows = length c.args.marks.now in
    let n = segments 32768 rows in
    let left = n - 1 - c.loop-s.s in
    let count : (c.len-rows.result + 32767) / 32768 ≡ n = ap (λ (m : ℕ). (m + 32767) / 32768) c.len-rows.ensures in
    let lt : c.loop-s.s < n = omega (arith, c.loop-s-test.true, count) in
    let last = ap (eqb (c.loop-s.s + 1)) count ∙ last_one left n c.loop-s.s lt refl in
    let so_far = c.loop-s.invariant.so_far earlier st in
    let same = c.loop-s.invariant.size in
    let step = segment_at 32768 rows c.args.group earlier in
    let bad = c.in-Err.ensures.exact 32768 left earlier so_far.0 (omega (arith, so_far.1))
    (omega (arith, c.min-len.ensures, so_far.1, same, c.len-rows.ensures)) last
    so_far.2 in
    list_ends rows c.args.group earlier (places_of old s) (places_of mid u) c.in-Err.fault
    (refused_list (places_of old s) (places_of mid u) step n c.loop-s.s left so_far.0 c.in-Err.fault lt
    refl (follows old mid s u c.loop-s.invariant.frame.told) so_far.3
    (subst (λ (m : ℕ). Refused (places_of mid u) (segment_at 32768 m c.args.group earlier left so_far.0)
    c.in-Err.fault) same bad))

pub loop-s-preserved : goal.loop-s-preserved
loop-s-preserved g c = record {
  same_reference = search rules;
  frame = search rules;
  no_fault = search rules;
  size = c.segment_of.ensures.size ∙ c.loop-s.invariant.size;
  so_far = λ earlier st.
      let b = places_of c.args.input.now.taken (g.F.Files.state c.args.input.now.files.now) in
      let m = places_of c.loop-s.input.taken (g.F.Files.state c.loop-s.input.files.now) in
      let r = places_of c.segment_of.new.input.taken (g.F.Files.state c.segment_of.new.input.files.now) in
      let rows = length c.args.marks.now in
      let n = segments 32768 rows in
      let left = n - 1 - c.loop-s.s in
      let count : (c.len-rows.result + 32767) / 32768 ≡ n = ap (λ (m : ℕ). (m + 32767) / 32768) c.len-rows.ensures in
      let lt : c.loop-s.s < n = omega (arith, c.loop-s-test.true, count) in
      let last = ap (eqb (c.loop-s.s + 1)) count ∙ last_one left n c.loop-s.s lt refl in
      let so_far = c.loop-s.invariant.so_far earlier st in
      let same = c.loop-s.invariant.size in
      let step = segment_at 32768 rows c.args.group earlier in
      let good = c.in-Ok.ensures.exact 32768 left earlier so_far.0 (omega (arith, so_far.1))
      (omega (arith, c.min-len.ensures, so_far.1, same, c.len-rows.ensures)) last
      so_far.2 in
      let one = subst (λ (k : ℕ). Took m r (segment_at 32768 k c.args.group earlier left so_far.0) good.0) same
      good.1 in (
        so_far.0 ++ good.0 ∷ [],
        length_push so_far.0 good.0 ∙ ap (λ (k : ℕ). k + 1) so_far.1,
        subst (λ (l : List ℕ). IsOffsetState earlier l c.segment_of.new.marks c.segment_of.new.places.items
            c.in-Ok.next c.args.floor)
            (sym (joined-append so_far.0 good.0)) good.2,
        decides_more b m r step n c.loop-s.s left so_far.0 good.0 lt refl so_far.3 one,
      );
}

pub returns-clause-exact : goal.returns-clause-exact
returns-clause-exact g c earlier st =
    let b = places_of c.args.input.now.taken (g.F.Files.state c.args.input.now.files.now) in
    let m = places_of c.loop-s.input.taken (g.F.Files.state c.loop-s.input.files.now) in
    let rows = length c.args.marks.now in
    let so_far = c.loop-s.invariant.so_far earlier st in
    let step = segment_at 32768 rows c.args.group earlier in (
      joined so_far.0,
      list_reads rows c.args.group earlier b m so_far.0
          (took_list b m step (segments 32768 rows) c.loop-s.s so_far.0
          (omega (arith, c.loop-s-test.false, c.len-rows.ensures)) so_far.3),
      offsets_pushed earlier (joined so_far.0) c.loop-s.marks c.loop-s.places.items c.loop-s.walk c.args.floor so_far.2,
    )
