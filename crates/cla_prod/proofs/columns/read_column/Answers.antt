use Rattle.std.proofs.Common.{◌<◌, ℕ, List, length, map, ap, subst, sym, ◌∙◌, arith}
use Rattle.std.proofs.lemmas.List.{map-set, length-map}
use Rattle.cla_layout.specs.Groups.{code_of, cell_of, value_of}
use Rattle.cla_prod.proofs.LinesWritten.{item_step}
use Rattle.cla_prod.proofs.columns.read_column.Goals as goal

pub value-requires-clause-tuple : goal.value-requires-clause-tuple
value-requires-clause-tuple g c =
    let codes = g.G.Group.codes c.args.group.now in
    let i = c.loop-i.i in
    let there : i < length codes = omega (arith, c.loop-i-test.true, c.requires.rows, ap length c.requires.codes) in
    subst (λ (xs : List ℕ). code_of xs i < length (g.G.Group.dictionary c.args.group.now)) (sym c.requires.codes)
    ((g.met.G.Group.laws c.args.group.now).in_tuples i there)

pub loop-i-preserved : goal.loop-i-preserved
loop-i-preserved g c =
    let value = g.N.Number.value in
    let codes = g.G.Group.codes c.args.group.now in
    let tuples = g.G.Group.dictionary c.args.group.now in
    let i = c.loop-i.i in
    let within : i < length (map value c.loop-i.column) =
    omega (arith, length-map c.loop-i.column value, c.loop-i.auto.column, c.loop-i-test.true) in
    rw (map-set value c.loop-i.column i c.value.result)
    (item_step i (λ r. cell_of codes tuples r c.args.c) (map value c.loop-i.column) (value c.value.result) within
    (c.value.ensures ∙ ap (λ (xs : List ℕ). value_of tuples (code_of xs i) c.args.c) c.requires.codes)
    c.loop-i.invariant)
