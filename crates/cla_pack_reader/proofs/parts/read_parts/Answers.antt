use Rattle.std.proofs.Common.{rules, ◌≡◌, ℕ, ◌+◌, ◌-◌, ◌<◌, ◌∷◌, ◌++◌, List, [], length, map, refl, sym, ap, subst}
use Rattle.std.proofs.Common.{◌∙◌, arith}
use Rattle.std.proofs.lemmas.List.{map-append, length-map, length-append}
use Rattle.cla_layout.specs.Groups.{code_of}
use Rattle.cla_packed.specs.Files.{PackedGroup, columns_of, group_at}
use Rattle.cla_pack_reader.specs.Kept.{group_kept, HasItsForm, HaveTheirForms}
use Rattle.cla_pack_reader.specs.Places.{places_of}
use Rattle.cla_pack_reader.specs.Taken.{HasTaken}
use Rattle.cla_pack_reader.proofs.PartLaws.{columns_more, all_more}
use Rattle.cla_pack_reader.proofs.Steps.{follows, decides_none, decides_more, took_list, refused_list, Decides}
use Rattle.cla_pack_reader.proofs.parts.read_parts.Goals as goal

pub loop-g-init : goal.loop-g-init
loop-g-init g c =
    let b = places_of c.args.input.now.taken (g.F.Files.state c.args.input.now.files.now) in
    let header = c.args.header in
    let step = group_at 8 g.N.Number.BITS header.rows header.cols in
    let none : [] ≡ map group_kept c.new-parts.result.items = sym (ap (map group_kept) c.new-parts.ensures.items) in
    record {
      same_reference = refl;
      frame = search rules;
      no_fault = refl;
      forms = search rules;
      count = ap length c.new-parts.ensures.items;
      room = search rules;
      taken = subst (λ (l : List PackedGroup). HasTaken header.cols (columns_of l) c.in-Ok.taken) none c.in-Ok.ensures;
      so_far = subst (λ (l : List PackedGroup). Decides b b step header.groups 0 l) none
          (decides_none b b step header.groups);
    }

pub returns-in-Err-read_part-clause-exact : goal.returns-in-Err-read_part-clause-exact
returns-in-Err-read_part-clause-exact g c =
    let old = c.args.input.now.taken in
    let s = g.F.Files.state c.args.input.now.files.now in
    let mid = c.loop-g.input.taken in
    let u = g.F.Files.state c.loop-g.input.files.now in
    let header = c.args.header in
    let n = header.groups in
    let i = c.loop-g.g in
    let left = n - 1 - i in
    let step = group_at 8 g.N.Number.BITS header.rows header.cols in
    let groups = map group_kept c.loop-g.parts.items in
    let count : length groups + 1 ≡ i + 1 = omega (
      arith,
      length-map c.loop-g.parts.items group_kept,
      c.loop-g.invariant.count,
    ) in
    refused_list (places_of old s) (places_of mid u) step n i left groups c.in-Err-read_part.fault c.loop-g-test.true
    refl (follows old mid s u c.loop-g.invariant.frame.told) c.loop-g.invariant.so_far
    (c.in-Err-read_part.ensures.exact groups count c.loop-g.invariant.taken)

pub returns-clause-exact : goal.returns-clause-exact
returns-clause-exact g c =
    let b = places_of c.args.input.now.taken (g.F.Files.state c.args.input.now.files.now) in
    let m = places_of c.loop-g.input.taken (g.F.Files.state c.loop-g.input.files.now) in
    let header = c.args.header in
    let step = group_at 8 g.N.Number.BITS header.rows header.cols in
    took_list b m step header.groups c.loop-g.g (map group_kept c.loop-g.parts.items) c.loop-g-test.false
    c.loop-g.invariant.so_far

pub loop-g-preserved : goal.loop-g-preserved
loop-g-preserved g c =
    let b = places_of c.args.input.now.taken (g.F.Files.state c.args.input.now.files.now) in
    let m = places_of c.loop-g.input.taken (g.F.Files.state c.loop-g.input.files.now) in
    let r = places_of c.read_part.new.input.taken (g.F.Files.state c.read_part.new.input.files.now) in
    let header = c.args.header in
    let n = header.groups in
    let i = c.loop-g.g in
    let left = n - 1 - i in
    let step = group_at 8 g.N.Number.BITS header.rows header.cols in
    let parts = c.loop-g.parts.items in
    let part = c.in-Ok-read_part.part in
    let groups = map group_kept parts in
    let before = c.loop-g.invariant.taken in
    let count : length groups + 1 ≡ i + 1 = omega (arith, length-map parts group_kept, c.loop-g.invariant.count) in
    let items : c.push.new.self.items ≡ parts ++ part ∷ [] = c.in-Ok-push.ensures.items in
    let more : groups ++ group_kept part ∷ [] ≡ map group_kept c.push.new.self.items =
    sym (ap (map group_kept) items ∙ map-append group_kept parts (part ∷ [])) in
    let columns = part.columns.items in
    let added : HasTaken header.cols (columns_of groups ++ columns) c.add.new.self =
    subst (λ (l : List ℕ). HasTaken header.cols (columns_of groups ++ l) c.add.new.self) c.deref.ensures.value
    (subst (λ (k : ℕ). HasTaken k (columns_of groups) c.loop-g.taken
    → HasTaken k (columns_of groups ++ c.deref.result.now) c.add.new.self) before.places
    (λ h. c.add.ensures (columns_of groups) h) before) in
    record {
      same_reference = search rules;
      frame = search rules;
      no_fault = search rules;
      forms = subst HaveTheirForms (sym items)
          (all_more HasItsForm parts part c.loop-g.invariant.forms c.in-Ok-read_part.ensures.form);
      count = ap length items ∙ omega (arith, length-append parts (part ∷ []), c.loop-g.invariant.count);
      room = omega (
        arith,
        added.count,
        before.count,
        length-append (columns_of groups) columns,
        c.in-Ok-read_part.ensures.room,
        c.loop-g-test.true,
      );
      taken = subst (λ (l : List PackedGroup). HasTaken header.cols (columns_of l) c.add.new.self) more
          (subst (λ (cs : List ℕ). HasTaken header.cols cs c.add.new.self) (columns_more groups (group_kept part))
          added);
      so_far = subst (λ (l : List PackedGroup). Decides b r step n (i + 1) l) more
          (decides_more b m r step n i left groups (group_kept part) c.loop-g-test.true refl
          c.loop-g.invariant.so_far (c.in-Ok-read_part.ensures.exact groups count before));
    }

pub add-requires-clause-below : goal.add-requires-clause-below
add-requires-clause-below g c =
    subst (λ (l : List ℕ). (k : ℕ) → k < length l → code_of l k < length c.loop-g.taken.marks)
    (sym c.deref.ensures.value) (subst (λ (n : ℕ). (k : ℕ) → k < length c.in-Ok-read_part.part.columns.items
    → code_of c.in-Ok-read_part.part.columns.items k < n) (sym c.loop-g.invariant.taken.places)
    c.in-Ok-read_part.ensures.below)

pub add-requires-clause-room : goal.add-requires-clause-room
add-requires-clause-room g c = omega (
  arith,
  ap (λ (l : List ℕ). length l) c.deref.ensures.value,
  c.loop-g.invariant.taken.places,
  c.in-Ok-read_part.ensures.room,
)

pub read_part-requires-clause-room : goal.read_part-requires-clause-room
read_part-requires-clause-room g c = omega (arith, c.loop-g.invariant.room, c.loop-g-test.true)
