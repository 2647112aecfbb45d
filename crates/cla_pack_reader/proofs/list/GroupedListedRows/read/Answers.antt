use Rattle.std.proofs.Common.{rules, ◌≡◌, ℕ, ◌-◌, ◌^◌, ◌<◌, ◌++◌, ◌∷◌, Bool, false, List, [], length, refl, sym, ap}
use Rattle.std.proofs.Common.{subst, ◌∙◌, append-nil, arith}
use Rattle.std.proofs.lemmas.List.{length-replicate}
use Rattle.cla_packed.specs.Offsets.{offsets_at, joined}
use Rattle.cla_pack_reader.proofs.KeptLists.{AreChained, no_offsets, chained_none, chained_more, few_places}
use Rattle.cla_pack_reader.proofs.Steps.{follows, decides_none, decides_more, took_list, refused_list}
use Rattle.cla_pack_reader.proofs.WalkLaws.{all_named}
use Rattle.cla_pack_reader.specs.Places.{places_of, Took, Refused}
use Rattle.cla_pack_reader.specs.Segments.{IsOffsetState}
use Rattle.cla_pack_reader.specs.Walks.{at_start}
use Rattle.cla_pack_reader.proofs.list.GroupedListedRows.read.Goals as goal

pub loop-t-init : goal.loop-t-init
loop-t-init g c =
    let b = places_of c.args.input.now.taken (g.F.Files.state c.args.input.now.files.now) in
    let step = λ (left : ℕ) (earlier : List (List ℕ)). offsets_at 32768 c.args.rows c.args.group earlier in
    let none : [] ≡ c.new-places.result.items = sym c.new-places.ensures.items in
    let first : 0 ∷ [] ≡ c.in-Ok-from_elem.starts.items = search rules in
    record {
      same_reference = refl;
      frame = search rules;
      no_fault = refl;
      size = ap (λ (l : List Bool). length l) c.in-Ok.ensures ∙ length-replicate c.args.rows false;
      so_far = (
        [],
        subst (λ (l : List ℕ). IsOffsetState [] [] c.in-Ok.marks l at_start 0) none
            (no_offsets c.args.rows c.in-Ok.marks c.in-Ok.ensures),
        subst (AreChained []) first chained_none,
        decides_none b b step c.args.d,
      );
    }

pub returns-in-Err-clause-exact : goal.returns-in-Err-clause-exact
returns-in-Err-clause-exact g c =
    let old = c.args.input.now.taken in
    let s = g.F.Files.state c.args.input.now.files.now in
    let mid = c.loop-t.input.taken in
    let u = g.F.Files.state c.loop-t.input.files.now in
    let d = c.args.d in
    let left = d - 1 - c.loop-t._t in
    let lists = c.loop-t.invariant.so_far in
    let step = λ (left : ℕ) (earlier : List (List ℕ)). offsets_at 32768 c.args.rows c.args.group earlier in
    let bad = c.in-Err.ensures.exact lists.0 lists.1 in
    refused_list (places_of old s) (places_of mid u) step d c.loop-t._t left lists.0 c.in-Err.fault c.loop-t-test.true
    refl (follows old mid s u c.loop-t.invariant.frame.told) lists.3
    (subst (λ (m : ℕ). Refused (places_of mid u) (offsets_at 32768 m c.args.group lists.0) c.in-Err.fault)
    c.loop-t.invariant.size bad)

pub overflow_cast-len : goal.overflow_cast-len
overflow_cast-len g c =
    let lists = c.loop-t.invariant.so_far in
    let good = c.in-Ok-list_of.ensures.exact lists.0 lists.1 in
    let few = few_places (lists.0 ++ good.0 ∷ []) [] c.list_of.new.marks c.list_of.new.places.items at_start
    c.in-Ok-list_of.next good.2 in
    let whole : c.len.result ≡ length c.list_of.new.places.items = search rules in
    let most : c.args.rows < 2 ^ 32 = search rules in
    omega (arith, few, most, c.list_of.ensures.size, c.loop-t.invariant.size, whole)

pub loop-t-preserved : goal.loop-t-preserved
loop-t-preserved g c =
    let b = places_of c.args.input.now.taken (g.F.Files.state c.args.input.now.files.now) in
    let m = places_of c.loop-t.input.taken (g.F.Files.state c.loop-t.input.files.now) in
    let r = places_of c.list_of.new.input.taken (g.F.Files.state c.list_of.new.input.files.now) in
    let d = c.args.d in
    let lists = c.loop-t.invariant.so_far in
    let step = λ (left : ℕ) (earlier : List (List ℕ)). offsets_at 32768 c.args.rows c.args.group earlier in
    let good = c.in-Ok-list_of.ensures.exact lists.0 lists.1 in
    let all = lists.0 ++ good.0 ∷ [] in
    let one = subst (λ (k : ℕ). Took m r (offsets_at 32768 k c.args.group lists.0) good.0) c.loop-t.invariant.size
    good.1 in
    let places = c.list_of.new.places.items in
    let whole : c.len.result ≡ length places = search rules in
    let count : c.len.result ≡ length (joined all) =
    whole ∙ ap (λ (l : List ℕ). length l) (good.2.kept ∙ append-nil (joined all)) in
    let chained = chained_more lists.0 good.0 c.loop-t.starts.items c.len.result lists.2 count in
    record {
      same_reference = search rules;
      frame = search rules;
      no_fault = search rules;
      size = c.list_of.ensures.size ∙ c.loop-t.invariant.size;
      so_far = (
        all,
        good.2,
        subst (AreChained all) (sym c.in-Ok-push.ensures.items) chained,
        decides_more b m r step d c.loop-t._t (d - 1 - c.loop-t._t) lists.0 good.0 c.loop-t-test.true refl lists.3 one,
      );
    }

pub returns-clause-exact : goal.returns-clause-exact
returns-clause-exact g c =
    let b = places_of c.args.input.now.taken (g.F.Files.state c.args.input.now.files.now) in
    let m = places_of c.loop-t.input.taken (g.F.Files.state c.loop-t.input.files.now) in
    let lists = c.loop-t.invariant.so_far in
    let step = λ (left : ℕ) (earlier : List (List ℕ)). offsets_at 32768 c.args.rows c.args.group earlier in (
      lists.0,
      took_list b m step c.args.d c.loop-t._t lists.0 c.loop-t-test.false lists.3,
      all_named c.args.rows lists.0 c.loop-t.marks c.loop-t.floor c.loop-t.invariant.size lists.1.state,
      record {
        starts_are = lists.2.begins;
        places_are = lists.1.kept ∙ append-nil (joined lists.0) ∙ lists.2.rows;
      },
    )
