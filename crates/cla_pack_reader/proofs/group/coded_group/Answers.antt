use Rattle.std.proofs.Common.{subst, sym}
use Rattle.cla_packed.specs.Bodies.{Body, coded_at}
use Rattle.cla_pack_reader.specs.Bodies.{body_seen}
use Rattle.cla_pack_reader.specs.Places.{places_of, Took}
use Rattle.cla_pack_reader.proofs.GroupForms.{coded_good, codes_are}
use Rattle.cla_pack_reader.proofs.group.coded_group.Goals as goal

pub from_body-requires-clause-codes : goal.from_body-requires-clause-codes
from_body-requires-clause-codes g c =
    let t0 = c.args.input.now.taken in
    let s0 = g.F.Files.state c.args.input.now.files.now in
    let t1 = c.coded_body.new.input.taken in
    let s1 = g.F.Files.state c.coded_body.new.input.files.now in
    let bits = g.N.Number.BITS in
    let codes = c.in-Ok.body.codes.codes in
    let values = c.in-Ok.body.values.items in
    codes_are g.N.Number.value bits c.args.rows c.args.width codes values c.requires.a_row c.requires.some
    c.requires.few c.in-Ok.ensures.whole
    (coded_good bits c.args.group c.args.rows c.args.width t0 t1 s0 s1
    (body_seen g.N.Number.value c.args.width codes values) c.requires.a_row c.requires.most c.requires.some
    c.in-Ok.ensures.exact)

pub returns-in-Ok-from_body-clause-exact : goal.returns-in-Ok-from_body-clause-exact
returns-in-Ok-from_body-clause-exact g c =
    let b = places_of c.args.input.now.taken (g.F.Files.state c.args.input.now.files.now) in
    let a = places_of c.coded_body.new.input.taken (g.F.Files.state c.coded_body.new.input.files.now) in
    subst (λ (body : Body). Took b a (coded_at 8 g.N.Number.BITS c.args.group c.args.rows c.args.width) body)
    (sym c.in-Ok-from_body.ensures.body) c.in-Ok.ensures.exact
