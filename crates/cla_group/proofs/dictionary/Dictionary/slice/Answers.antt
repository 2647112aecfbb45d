use Rattle.std.proofs.Common.{◌≡◌, ◌≤◌, ◌-◌, ◌*◌, ◌∙◌, ℕ, ℤ, List, length, map, drop, ap, arith}
use Rattle.std.proofs.Math.Nat.{mul-le-mul_right}
use Rattle.std.proofs.lemmas.List.{length-take-le, length-drop}
use Rattle.cla_layout.specs.Tuples.{tuples_of}
use Rattle.cla_layout.proofs.Tuples.{tuples_count}
use Rattle.cla_group.proofs.Dictionaries.{tuples_are, slice_size, slice_tuples, the_dictionary}
use Rattle.cla_group.specs.Dictionaries.{AreValues}
use Rattle.cla_group.proofs.dictionary.Dictionary.slice.Goals as goal
use Rattle.cla_group.proofs.dictionary.Dictionary.slice.Goals.{In_ok-from_slice}
use Rattle.cla_group.proofs.dictionary.Dictionary.slice.Given.{Over}

within : (g : Over) (c : In_ok-from_slice g) → c.args.b ≤ c.self.inside.tuples
within g c =
    let d = c.self.inside in
    let there : c.args.b ≤ length (tuples_of d.width d.tuples (map g.N.Number.value d.values.items)) =
    rw (← c.self.view_is) at c.requires.within in
    omega (arith, there, tuples_count d.width d.tuples (map g.N.Number.value d.values.items))

values_are : (g : Over) (c : In_ok-from_slice g)
    → AreValues c.self.inside.width (c.args.b - c.args.a) (length c.in_ok-from_slice.field-0.items)
values_are g c =
    let d = c.self.inside in
    let from = c.args.a * d.width in
    let to = c.args.b * d.width in
    let values = c.deref.result.now in
    let size : to - from ≡ (c.args.b - c.args.a) * d.width = slice_size d.width c.args.a c.args.b c.requires.some in
    let old : length values ≡ d.tuples * d.width = ap length c.deref.ensures.value ∙ c.self.invariant.whole in
    let fits : to ≤ d.tuples * d.width = mul-le-mul_right {m = c.args.b} {n = d.tuples} d.width (within g c) in
    let rest : to - from ≤ length (drop from values) = rw (length-drop from values) (omega (arith, old, fits)) in
    let kept = c.in_ok-from_slice.field-0.items in
    let count : length kept ≡ to - from = ap length c.in_ok-from_slice.ensures.items
    ∙ length-take-le (to - from) (drop from values) rest in
    record {
      a_column = c.self.invariant.a_column;
      a_tuple = omega (arith, c.requires.some);
      whole = count ∙ size;
      few = omega (arith, count, fits, c.self.invariant.whole, c.self.invariant.few);
    }

pub invariant_of-result : goal.invariant_of-result
invariant_of-result g c = values_are g c

pub returns-clause-value : goal.returns-clause-value
returns-clause-value g c =
    let d = c.self.inside in
    let value = g.N.Number.value in
    let cut = slice_tuples value d.width d.tuples c.args.a c.args.b d.values.items c.requires.some (within g c) in
    rw (← c.self.view_is) (rw (c.in_ok-from_slice.ensures.items, c.deref.ensures.value)
    (ap (the_dictionary d.width) cut))

pub returns-clause-are : goal.returns-clause-are
returns-clause-are g c = tuples_are g.N.Number.BITS g.N.Number.value g.met.N.Number.in_range _ _ _ (values_are g c)
