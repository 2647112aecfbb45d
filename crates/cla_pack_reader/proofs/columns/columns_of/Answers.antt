use Rattle.std.proofs.Common.{rules, ◌≡◌, ◌+◌, ◌-◌, ◌<◌, ◌∷◌, ◌++◌, ℕ, List, [], length, refl, sym, ap, subst, arith}
use Rattle.std.specs.Prelude.{nat_lt}
use Rattle.cla_layout.specs.Groups.{code_of}
use Rattle.cla_packed.specs.declared.fault.FieldName.TheVariants.{Column}
use Rattle.cla_packed.specs.Fields.{field_at}
use Rattle.cla_packed.specs.Files.{fits_column}
use Rattle.cla_pack_reader.specs.Marks.{IsNext}
use Rattle.cla_pack_reader.specs.Places.{places_of}
use Rattle.cla_pack_reader.proofs.ColumnLaws.{next_is, below_push}
use Rattle.cla_pack_reader.proofs.Steps.{follows, decides_none, decides_more, took_list, refused_list, Decides}
use Rattle.cla_pack_reader.proofs.columns.columns_of.Goals as goal

pub loop-j-init : goal.loop-j-init
loop-j-init g c =
    let b = places_of c.args.input.now.taken (g.F.Files.state c.args.input.now.files.now) in
    let cols = length c.args.marks.now in
    let none : [] ≡ c.new-columns.result.items = sym c.new-columns.ensures.items in
    record {
      same_reference = refl;
      frame = search rules;
      no_fault = refl;
      count = ap (λ (l : List ℕ). length l) c.new-columns.ensures.items;
      below = subst (λ (l : List ℕ). (k : ℕ) → k < length l → code_of l k < cols) none
          (λ k lt. absurd (omega (arith, lt)));
      so_far = λ taken marks least.
          let step = λ (left : ℕ) (so_far : List ℕ). field_at 4 (fits_column cols taken so_far) c.args.group Column in (
            subst (λ (l : List ℕ). IsNext taken l c.args.least) none least,
            subst (λ (l : List ℕ). Decides b b step c.args.width 0 l) none (decides_none b b step c.args.width),
          );
    }

pub returns-in-Err-clause-exact : goal.returns-in-Err-clause-exact
returns-in-Err-clause-exact g c taken marks least =
    let old = c.args.input.now.taken in
    let s = g.F.Files.state c.args.input.now.files.now in
    let mid = c.loop-j.input.taken in
    let u = g.F.Files.state c.loop-j.input.files.now in
    let cols = length c.args.marks.now in
    let n = c.args.width in
    let columns = c.loop-j.columns.items in
    let step = λ (left : ℕ) (so_far : List ℕ). field_at 4 (fits_column cols taken so_far) c.args.group Column in
    let so_far = c.loop-j.invariant.so_far taken marks least in
    let bad = c.in-Err.ensures.exact taken columns marks
    (ap (λ (k : ℕ). nat_lt 0 k) (sym c.loop-j.invariant.count)) so_far.0 in
    refused_list (places_of old s) (places_of mid u) step n c.loop-j.j (n - 1 - c.loop-j.j) columns c.in-Err.fault
    c.loop-j-test.true refl (follows old mid s u c.loop-j.invariant.frame.told) so_far.1 bad

pub loop-j-preserved : goal.loop-j-preserved
loop-j-preserved g c =
    let b = places_of c.args.input.now.taken (g.F.Files.state c.args.input.now.files.now) in
    let m = places_of c.loop-j.input.taken (g.F.Files.state c.loop-j.input.files.now) in
    let r = places_of c.column_of.new.input.taken (g.F.Files.state c.column_of.new.input.files.now) in
    let cols = length c.args.marks.now in
    let n = c.args.width in
    let j = c.loop-j.j in
    let columns = c.loop-j.columns.items in
    let column = c.in-Ok.column in
    let items : c.push.new.self.items ≡ columns ++ column ∷ [] = c.in-Ok-push.ensures.items in
    record {
      same_reference = search rules;
      frame = search rules;
      no_fault = search rules;
      count = search rules;
      below = subst (λ (l : List ℕ). (k : ℕ) → k < length l → code_of l k < cols) (sym items)
          (below_push columns column cols c.loop-j.invariant.below c.in-Ok.ensures.below);
      so_far = λ taken marks least.
          let step = λ (left : ℕ) (so_far : List ℕ). field_at 4 (fits_column cols taken so_far) c.args.group Column in
          let so_far = c.loop-j.invariant.so_far taken marks least in
          let took = c.in-Ok.ensures.exact taken columns marks
          (ap (λ (k : ℕ). nat_lt 0 k) (sym c.loop-j.invariant.count)) so_far.0 in (
            subst (λ (l : List ℕ). IsNext taken l (column + 1)) (sym items) (next_is taken columns column),
            subst (λ (l : List ℕ). Decides b r step n (j + 1) l) (sym items)
                (decides_more b m r step n j (n - 1 - j) columns column c.loop-j-test.true refl so_far.1 took),
          );
    }

pub returns-clause-exact : goal.returns-clause-exact
returns-clause-exact g c taken marks least =
    let b = places_of c.args.input.now.taken (g.F.Files.state c.args.input.now.files.now) in
    let m = places_of c.loop-j.input.taken (g.F.Files.state c.loop-j.input.files.now) in
    let cols = length c.args.marks.now in
    let step = λ (left : ℕ) (so_far : List ℕ). field_at 4 (fits_column cols taken so_far) c.args.group Column in
    took_list b m step c.args.width c.loop-j.j c.loop-j.columns.items c.loop-j-test.false
    (c.loop-j.invariant.so_far taken marks least).1
