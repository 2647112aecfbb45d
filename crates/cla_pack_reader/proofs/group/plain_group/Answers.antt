use Rattle.std.proofs.Common.{◌/◌, length, map, subst}
use Rattle.cla_packed.specs.Bodies.{Body}
use Rattle.cla_packed.specs.Files.{plain_at}
use Rattle.cla_pack_reader.specs.Places.{places_of, Took}
use Rattle.cla_pack_reader.proofs.CodedLaws.{tuples_in}
use Rattle.cla_pack_reader.proofs.GroupForms.{own_are}
use Rattle.cla_pack_reader.proofs.group.plain_group.Goals as goal

pub returns-in-Ok-clause-exact : goal.returns-in-Ok-clause-exact
returns-in-Ok-clause-exact g c =
    let b = places_of c.args.input.now.taken (g.F.Files.state c.args.input.now.files.now) in
    let a = places_of c.plain_values.new.input.taken (g.F.Files.state c.plain_values.new.input.files.now) in
    let rows = c.args.rows in
    let width = c.args.width in
    let values = c.in-Ok.values.items in
    let count = tuples_in width rows (length values) c.requires.some c.in-Ok.ensures.count in
    subst (λ (body : Body). Took b a (plain_at 8 g.N.Number.BITS c.args.group rows width) body)
    (own_are width rows (length values / width) _ _ (map g.N.Number.value values) count c.from_rows.ensures.codes
    c.from_rows.ensures.dictionary) c.in-Ok.ensures.exact
