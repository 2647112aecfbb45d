use Rattle.std.proofs.Common.{◌<◌, ◌∙◌, ℤ, List, length, map, ap, sym, arith}
use Rattle.std.proofs.lemmas.List.{length-map}
use Rattle.cla_layout.specs.Tuples.{tuples_of}
use Rattle.cla_layout.proofs.Tuples.{tuples_count, tuple_width}
use Rattle.cla_group.proofs.Dictionaries.{tuple_piece}
use Rattle.cla_group.proofs.dictionary.Dictionary.tuple.Given.{Over}
use Rattle.cla_group.proofs.dictionary.Dictionary.tuple.Goals.{After-deref}
use Rattle.cla_group.proofs.dictionary.Dictionary.tuple.Goals as goal

there : (g : Over) (c : After-deref g) → c.args.k < c.self.inside.tuples
there g c =
    let d = c.self.inside in
    let values = map g.N.Number.value d.values.items in
    let below : c.args.k < length (tuples_of d.width d.tuples values) = rw (← c.self.view_is) at c.requires in
    omega (arith, below, tuples_count d.width d.tuples values)

pub returns-clause-full : goal.returns-clause-full
returns-clause-full g c =
    let d = c.self.inside in
    let k = there g (goal.at.returns-clause-full g c).After-deref in
    let value = g.N.Number.value in
    let is = tuple_piece value d.width d.tuples c.args.k _ d.values.items c.self.invariant.whole k (omega arith) in
    rw (← c.self.view_is, c.deref.ensures.value) (sym (length-map _ value) ∙ ap (λ (t : List ℤ). length t) is
    ∙ tuple_width d.width d.tuples _ c.args.k k)

pub returns-clause-values : goal.returns-clause-values
returns-clause-values g c =
    let d = c.self.inside in
    let k = there g (goal.at.returns-clause-values g c).After-deref in
    rw (← c.self.view_is, c.deref.ensures.value)
    (tuple_piece g.N.Number.value d.width d.tuples c.args.k _ d.values.items c.self.invariant.whole k (omega arith))
