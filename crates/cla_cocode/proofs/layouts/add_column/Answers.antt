use Rattle.std.proofs.Common.{zero, suc, ◌<◌, ◌≤◌, ◌+◌, [], ◌∷◌, map, length, get_or, sym, ap, ◌∙◌, subst, arith}
use Rattle.std.proofs.Common.{length-append, All}
use Rattle.std.proofs.lemmas.List.Elements.{All-set, All-append}
use Rattle.cla_cocode.specs.declared.kept.Kept.{Kept}
use Rattle.cla_cocode.specs.Kept.{IsCounted, IsJoined, IsChosen, AreCounted, code_saving}
use Rattle.cla_cocode.proofs.KeptLemmas.{can-join, joined-counted}
use Rattle.cla_cocode.proofs.Placed.{placed-alone, placed-taken, at_place}
use Rattle.cla_cocode.proofs.layouts.add_column.Goals as goal

All-one : (P : Kept → Type 0) (k : Kept) → P k → All P (k ∷ [])
All-one P k h zero d there = h
All-one P k h (suc i) d there = absurd (omega (arith, there))

pub choose-requires-clause-pairs : goal.choose-requires-clause-pairs
choose-requires-clause-pairs g c k d h =
    let here = rw c.deref.ensures.value at h in
    rw c.deref.ensures.value
    (can-join c.args.m.now c.args.column c.args.single (get_or c.args.groups.now.items k d) c.requires.shape
    c.requires.within
    c.requires.single c.requires.alone (c.requires.counted.each k d here) (c.requires.counted.narrow k d here))

pub take_in-requires : goal.take_in-requires
take_in-requires g c =
    let within : c.in_ok-best.best.place < length c.args.groups.now.items =
    omega (arith, c.in_ok-best.ensures.within (omega (arith, c.if-best-gt0.true)), ap length c.deref.ensures.value)
    in
    let is = at_place c.args.m.now c.args.column c.in_ok-best.best.place c.index_mut.result.now c.args.groups.now.items
    c.requires.counted within c.index_mut.ensures.value in
    can-join c.args.m.now c.args.column c.args.single c.index_mut.result.now c.requires.shape c.requires.within
    c.requires.single c.requires.alone is.0 is.1

pub returns-in_ok-take_in-clause-counted : goal.returns-in_ok-take_in-clause-counted
returns-in_ok-take_in-clause-counted g c =
    let m = c.args.m.now in
    let groups = c.args.groups.now.items in
    let place = c.in_ok-best.best.place in
    let within : place < length groups =
    omega (arith, c.in_ok-best.ensures.within (omega (arith, c.if-best-gt0.true)), ap length c.deref.ensures.value)
    in
    let is = at_place m c.args.column place c.index_mut.result.now groups c.requires.counted within
    c.index_mut.ensures.value in
    let new = joined-counted m c.args.column c.args.single c.index_mut.result.now c.take_in.new.group c.requires.single
    c.requires.alone is.0 c.in_ok-take_in.ensures in
    let wider = ap length c.in_ok-take_in.ensures.columns ∙ length-append c.index_mut.result.now.columns.items
    (c.args.column ∷ []) in
    record {
      each = All-set (IsCounted m) groups place c.take_in.new.group new c.requires.counted.each;
      narrow = All-set (λ (k : Kept). length k.columns.items ≤ c.args.column + 1) groups place c.take_in.new.group
          (omega (arith, is.1, wider))
          (λ i d h. omega (arith, c.requires.counted.narrow i d h));
    }

pub returns-in_ok-take_in-clause-columns : goal.returns-in_ok-take_in-clause-columns
returns-in_ok-take_in-clause-columns g c =
    let single = c.args.single in
    let chosen = subst (λ ks. IsChosen (length ks) (map (λ k. code_saving k single) ks) c.in_ok-best.best)
    c.deref.ensures.value c.in_ok-best.ensures in
    placed-taken c.args.m.now c.args.column single c.take_in.new.group c.index_mut.result.now c.args.groups.now.items
    c.in_ok-best.best
    c.requires.single c.requires.alone c.requires.counted chosen (omega (arith, c.if-best-gt0.true))
    (subst (λ k. IsJoined k single c.args.column c.take_in.new.group) c.index_mut.ensures.value c.in_ok-take_in.ensures)

pub returns-in_ok-push-clause-counted : goal.returns-in_ok-push-clause-counted
returns-in_ok-push-clause-counted g c =
    let m = c.args.m.now in
    let groups = c.args.groups.now.items in
    let single = c.args.single in
    let most = c.args.column + 1 in
    subst (AreCounted m most) (sym c.in_ok-push.ensures.items) (record {
      each = All-append (IsCounted m) groups (single ∷ []) c.requires.counted.each
          (All-one (IsCounted m) single c.requires.single);
      narrow = All-append (λ (k : Kept). length k.columns.items ≤ most) groups (single ∷ [])
          (λ i d h. omega (arith, c.requires.counted.narrow i d h))
          (All-one (λ (k : Kept). length k.columns.items ≤ most) single (omega (arith, ap length c.requires.alone)));
    })

pub returns-in_ok-push-clause-columns : goal.returns-in_ok-push-clause-columns
returns-in_ok-push-clause-columns g c =
    let single = c.args.single in
    let chosen = subst (λ ks. IsChosen (length ks) (map (λ k. code_saving k single) ks) c.in_ok-best.best)
    c.deref.ensures.value c.in_ok-best.ensures in
    placed-alone c.args.m.now c.args.column single c.args.groups.now.items c.push.new.self.items c.in_ok-best.best
    c.requires.single c.requires.alone c.requires.counted chosen
    (omega (arith, c.if-best-gt0.false)) c.in_ok-push.ensures.items
