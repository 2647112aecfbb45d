use Rattle.std.proofs.Common.{◌∙◌, ap}
use Rattle.cla_layout.specs.Kinds.{kind_number}
use Rattle.cla_spec.specs.Bytes.{bytes_of}
use Rattle.cla_packed.specs.Files.{columns_bytes}
use Rattle.cla_pack_writer.proofs.Sending.{sent_as, sent_on}
use Rattle.cla_pack_writer.proofs.group.put_group.Goals as goal

pub returns : goal.returns
returns g c =
    let on = g.met.O.Sink.kept_on in
    sent_on on (sent_as (ap (bytes_of 1) (c.from.ensures ∙ c.number.ensures ∙ ap kind_number c.kind.ensures))
    c.put_number.ensures)
    (sent_on on (sent_as (ap columns_bytes c.deref.ensures.value) c.put_columns.ensures) c.put_body.ensures)
