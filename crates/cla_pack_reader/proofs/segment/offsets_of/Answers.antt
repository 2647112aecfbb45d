use Rattle.std.proofs.Common.{rules, ℕ, ◌+◌, ◌-◌, ◌++◌, ◌∷◌, Bool, true, List, [], length, refl, sym, ap, subst, ◌∙◌}
use Rattle.std.proofs.Common.{append_assoc, append-nil}
use Rattle.std.proofs.lemmas.List.{length-set}
use Rattle.cla_packed.specs.Offsets.{row_at, joined, segment_rows}
use Rattle.cla_pack_reader.specs.declared.walk.Walk.{Walk}
use Rattle.cla_pack_reader.specs.Places.{places_of, Took, Refused}
use Rattle.cla_pack_reader.specs.Segments.{IsOffsetState}
use Rattle.cla_pack_reader.specs.Walks.{past}
use Rattle.cla_pack_reader.proofs.KeptLists.{offset_pushed}
use Rattle.cla_pack_reader.proofs.Steps.{follows, decides_none, decides_more, took_list, refused_list}
use Rattle.cla_pack_reader.proofs.segment.offsets_of.Goals as goal

pub loop-j-init : goal.loop-j-init
loop-j-init g c = record {
  same_reference = refl;
  frame = search rules;
  no_fault = refl;
  size = refl;
  so_far = λ size earlier before base_is len_is st.
      let b = places_of c.args.input.now.taken (g.F.Files.state c.args.input.now.files.now) in
      let all = length c.args.marks.now in
      let step = λ (left : ℕ) (so_far : List ℕ). row_at size all c.args.group earlier before so_far in (
        [],
        subst (λ (l : List ℕ). IsOffsetState earlier l c.args.marks.now c.args.places.now.items c.args.walk
            c.args.floor) (sym (append-nil (joined before))) st,
        decides_none b b step c.args.n,
      );
}

pub returns-in-Err-clause-exact : goal.returns-in-Err-clause-exact
returns-in-Err-clause-exact g c size earlier before base_is len_is st =
    let old = c.args.input.now.taken in
    let s = g.F.Files.state c.args.input.now.files.now in
    let mid = c.loop-j.input.taken in
    let u = g.F.Files.state c.loop-j.input.files.now in
    let all = length c.args.marks.now in
    let same = c.loop-j.invariant.size in
    let so_far = c.loop-j.invariant.so_far size earlier before base_is len_is st in
    let step = λ (left : ℕ) (so_far : List ℕ). row_at size all c.args.group earlier before so_far in
    let len_here = len_is ∙ ap (λ (m : ℕ). segment_rows size m (length before)) (sym same) in
    let bad = c.in-Err.ensures.exact size earlier before so_far.0 base_is len_here so_far.1.state in
    refused_list (places_of old s) (places_of mid u) step c.args.n c.loop-j._j (c.args.n - 1 - c.loop-j._j) so_far.0
    c.in-Err.fault c.loop-j-test.true refl (follows old mid s u c.loop-j.invariant.frame.told) so_far.2
    (subst (λ (m : ℕ). Refused (places_of mid u) (row_at size m c.args.group earlier before so_far.0) c.in-Err.fault)
    same bad)

pub loop-j-preserved : goal.loop-j-preserved
loop-j-preserved g c = record {
  same_reference = search rules;
  frame = search rules;
  no_fault = search rules;
  size = ap (λ (l : List Bool). length l) c.put.ensures ∙ length-set c.loop-j.marks c.in-Ok.row true
      ∙ c.loop-j.invariant.size;
  so_far = λ size earlier before base_is len_is st.
      let b = places_of c.args.input.now.taken (g.F.Files.state c.args.input.now.files.now) in
      let m = places_of c.loop-j.input.taken (g.F.Files.state c.loop-j.input.files.now) in
      let r = places_of c.offset_of.new.input.taken (g.F.Files.state c.offset_of.new.input.files.now) in
      let all = length c.args.marks.now in
      let same = c.loop-j.invariant.size in
      let row = c.in-Ok.row in
      let so_far = c.loop-j.invariant.so_far size earlier before base_is len_is st in
      let step = λ (left : ℕ) (so_far : List ℕ). row_at size all c.args.group earlier before so_far in
      let len_here = len_is ∙ ap (λ (m : ℕ). segment_rows size m (length before)) (sym same) in
      let good = c.in-Ok.ensures.exact size earlier before so_far.0 base_is len_here so_far.1.state in
      let one = subst (λ (n : ℕ). Took m r (row_at size n c.args.group earlier before so_far.0) row) same good.0 in
      let pushed = offset_pushed earlier (joined before ++ so_far.0) c.loop-j.marks c.loop-j.places.items c.loop-j.walk
      c.args.floor so_far.1 row c.in-Ok.ensures.below good.1 in
      let there = subst (λ (l : List Bool). IsOffsetState earlier ((joined before ++ so_far.0) ++ row ∷ []) l
      (c.loop-j.places.items ++ row ∷ []) (past c.loop-j.walk row (row + 1)) c.args.floor) (sym c.put.ensures) pushed in
      let kept = subst (λ (l : List ℕ). IsOffsetState earlier ((joined before ++ so_far.0) ++ row ∷ []) c.put.new.self l
      (past c.loop-j.walk row (row + 1)) c.args.floor) (sym c.in-Ok-push.ensures.items) there in
      let walked = subst (λ (w : Walk). IsOffsetState earlier ((joined before ++ so_far.0) ++ row ∷ []) c.put.new.self
      c.push.new.self.items w c.args.floor) (sym c.past-walk.ensures) kept in (
        so_far.0 ++ row ∷ [],
        subst (λ (l : List ℕ). IsOffsetState earlier l c.put.new.self c.push.new.self.items c.past-walk.result
            c.args.floor) (append_assoc (joined before) so_far.0 (row ∷ [])) walked,
        decides_more b m r step c.args.n c.loop-j._j (c.args.n - 1 - c.loop-j._j) so_far.0 row c.loop-j-test.true refl
            so_far.2 one,
      );
}

pub returns-clause-exact : goal.returns-clause-exact
returns-clause-exact g c size earlier before base_is len_is st =
    let b = places_of c.args.input.now.taken (g.F.Files.state c.args.input.now.files.now) in
    let m = places_of c.loop-j.input.taken (g.F.Files.state c.loop-j.input.files.now) in
    let all = length c.args.marks.now in
    let so_far = c.loop-j.invariant.so_far size earlier before base_is len_is st in
    let step = λ (left : ℕ) (so_far : List ℕ). row_at size all c.args.group earlier before so_far in (
      so_far.0,
      took_list b m step c.args.n c.loop-j._j so_far.0 c.loop-j-test.false so_far.2,
      so_far.1,
    )
