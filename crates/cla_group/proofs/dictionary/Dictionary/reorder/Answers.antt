use Rattle.std.proofs.Common.{◌≡◌, ◌<◌, ℕ, ℤ, List, length, map, ap, arith}
use Rattle.cla_layout.specs.Groups.{code_of}
use Rattle.cla_layout.specs.Tuples.{tuples_of}
use Rattle.cla_group.specs.Dictionaries.{AreInOrder}
use Rattle.cla_layout.proofs.Tuples.{tuples_count}
use Rattle.cla_group.proofs.Dictionaries.{in_order_tuples, the_dictionary}
use Rattle.cla_group.specs.Dictionaries.{in_order}
use Rattle.cla_group.proofs.dictionary.Dictionary.reorder.Goals as goal

pub returns : goal.returns
returns g c =
    let value = g.N.Number.value in
    let d = c.self.inside in
    let order = c.args.order.now in
    let kept = c.in_ok-values.values.items in
    let old = tuples_of d.width d.tuples (map value d.values.items) in
    let below : (k : ℕ) → k < length order → code_of order k < length old =
    rw (← c.self.view_is) at c.requires.within in
    let same : AreInOrder d.width order (map value d.values.items) (map value kept) =
    rw c.deref.ensures.value at c.in_ok-values.ensures.values in
    let tuples : tuples_of d.width (length order) (map value kept) ≡ in_order order old =
    in_order_tuples d.width d.tuples order (map value d.values.items) (map value kept)
    (λ k there. omega (arith, below k there, tuples_count d.width d.tuples (map value d.values.items))) same in
    rw (← c.self.view_is) (ap (λ (ts : List (List ℤ)). the_dictionary d.width ts) tuples)
