use Rattle.std.proofs.Common.{sym, subst}
use Rattle.cla_layout.specs.declared.kind.Kind.{Kind}
use Rattle.cla_packed.specs.declared.fault.FieldName.TheVariants as names
use Rattle.cla_packed.specs.Fields.{field_at}
use Rattle.cla_packed.specs.Files.{kind_of, kind_at}
use Rattle.cla_pack_reader.specs.Places.{places_of, Took}
use Rattle.cla_pack_reader.specs.Ranges.{within}
use Rattle.cla_pack_reader.proofs.Steps.{took_view, refused_view}
use Rattle.cla_pack_reader.proofs.kinds.read_kind.Goals as goal

pub returns-in-Ok-clause-exact : goal.returns-in-Ok-clause-exact
returns-in-Ok-clause-exact g c =
    let b = places_of c.args.input.now.taken (g.F.Files.state c.args.input.now.files.now) in
    let a = places_of c.field.new.input.taken (g.F.Files.state c.field.new.input.files.now) in
    subst (λ (kind : Kind). Took b a (kind_at c.args.group) kind) (sym c.kind_numbered.ensures)
    (took_view kind_of (field_at 1 (within 1 4) c.args.group names.Kind) b a c.in-Ok.number c.in-Ok.ensures.exact)

pub returns-in-Err-clause-exact : goal.returns-in-Err-clause-exact
returns-in-Err-clause-exact g c =
    let b = places_of c.args.input.now.taken (g.F.Files.state c.args.input.now.files.now) in
    refused_view kind_of (field_at 1 (within 1 4) c.args.group names.Kind) b b c.in-Err.fault c.in-Err.ensures.exact
