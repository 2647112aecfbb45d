use Rattle.std.proofs.Common.{Bool, map, sym, ap, subst, ◌∙◌}
use Rattle.cla_layout.specs.Tuples.{tuples_of}
use Rattle.cla_packed.specs.Bodies.{Body}
use Rattle.cla_packed.specs.Lists.{owners_of}
use Rattle.cla_packed.specs.Rests.{body_with, listed_at}
use Rattle.cla_pack_reader.specs.ListedParts.{flag}
use Rattle.cla_pack_reader.specs.Listings.{rows_at}
use Rattle.cla_pack_reader.specs.Places.{places_of, Took}
use Rattle.cla_pack_reader.proofs.CoveringLaws.{group_took, group_refused}
use Rattle.cla_pack_reader.proofs.Steps.{follows}
use Rattle.cla_pack_reader.proofs.listed_group.listed_group.Goals as goal

pub returns-in-Err-clause-exact : goal.returns-in-Err-clause-exact
returns-in-Err-clause-exact g c = c.in-Err.ensures.exact (rows_at g.L.ListedRows.listing c.args.rows c.args.group)

pub returns-in-Err-covered_rows-clause-exact : goal.returns-in-Err-covered_rows-clause-exact
returns-in-Err-covered_rows-clause-exact g c =
    let t0 = c.args.input.now.taken in
    let s0 = g.F.Files.state c.args.input.now.files.now in
    let t1 = c.listed_tuples.new.input.taken in
    let s1 = g.F.Files.state c.listed_tuples.new.input.files.now in
    let one = rows_at g.L.ListedRows.listing c.args.rows c.args.group in
    let x = c.in-Ok.tuples in
    group_refused one g.N.Number.BITS c.args.group c.args.rows c.args.width (places_of t0 s0) (places_of t1 s1) x.count
    x.has_rest (tuples_of c.args.width x.count (map g.N.Number.value x.values.items)) (c.in-Ok.ensures.exact one)
    c.in-Err-covered_rows.fault (follows t0 t1 s0 s1 c.in-Ok.ensures.frame.told) c.in-Err-covered_rows.ensures.exact

pub group_of_rows-requires-clause-owners : goal.group_of_rows-requires-clause-owners
group_of_rows-requires-clause-owners g c =
    let e = c.in-Ok-covered_rows.ensures.exact in
    (owners_of c.args.rows e.0, e.2, e.3)

pub returns-in-Ok-group_of_rows-clause-exact : goal.returns-in-Ok-group_of_rows-clause-exact
returns-in-Ok-group_of_rows-clause-exact g c =
    let t0 = c.args.input.now.taken in
    let s0 = g.F.Files.state c.args.input.now.files.now in
    let t1 = c.listed_tuples.new.input.taken in
    let s1 = g.F.Files.state c.listed_tuples.new.input.files.now in
    let t2 = c.covered_rows.new.input.taken in
    let s2 = g.F.Files.state c.covered_rows.new.input.files.now in
    let one = rows_at g.L.ListedRows.listing c.args.rows c.args.group in
    let bits = g.N.Number.BITS in
    let width = c.args.width in
    let x = c.in-Ok.tuples in
    let ts = tuples_of width x.count (map g.N.Number.value x.values.items) in
    let e = c.in-Ok-covered_rows.ensures.exact in
    let owners = owners_of c.args.rows e.0 in
    let body = c.in-Ok-group_of_rows.ensures.body owners e.2 e.3
    ∙ ap (λ (b : Bool). body_with width x.count ts owners (flag b)) e.4 in
    subst (λ (body : Body). Took (places_of t0 s0) (places_of t2 s2)
    (listed_at one 8 bits c.args.group c.args.rows width) body) (sym body)
    (group_took one bits c.args.group c.args.rows width (places_of t0 s0) (places_of t1 s1) x.count x.has_rest ts
    (c.in-Ok.ensures.exact one) (places_of t2 s2) e.0 e.1)
