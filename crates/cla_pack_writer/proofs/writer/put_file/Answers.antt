use Rattle.std.proofs.Common.{◌≤◌, ◌∙◌, ◌++◌, ℕ, length, ap, sym, arith}
use Rattle.std.specs.List.{flat_map}
use Rattle.std.proofs.lemmas.List.{append-nil, take_all}
use Rattle.cla_spec.specs.Bytes.{bytes_of}
use Rattle.cla_layout.proofs.Bounds.{width_few}
use Rattle.cla_coded.specs.AnyGroups.{any_codes, any_dictionary, any_form}
use Rattle.cla_coded.specs.Parts.{part_of}
use Rattle.cla_coded.specs.Tables.{layout_of}
use Rattle.cla_coded.proofs.Outlines.{parts_count}
use Rattle.cla_packed.specs.Files.{group_bytes}
use Rattle.cla_pack_writer.specs.Groups.{packed_part, HasItsRest}
use Rattle.cla_pack_writer.proofs.Files.{header_bytes, file_put, few_parts, each_at, same_item, part_here}
use Rattle.cla_pack_writer.proofs.Sending.{sent_as, sent_on}
use Rattle.cla_pack_writer.proofs.Sequences.{behind_sent}
use Rattle.cla_pack_writer.proofs.writer.put_file.Goals as goal

pub overflow_cast-parts : goal.overflow_cast-parts
overflow_cast-parts g c =
    let m = c.args.m.now in
    let cols = rw c.requires.upright at c.cols.ensures in
    omega (
      arith,
      few_parts g.N.Number.BITS (layout_of any_codes any_dictionary m) c.parts.ensures.whole,
      parts_count any_codes any_dictionary m.parts,
      ap length c.parts.ensures.parts,
      cols,
      c.cols.type_inv,
    )

pub loop-part-init : goal.loop-part-init
loop-part-init g c =
    let on = g.met.O.Sink.kept_on in
    let m = c.args.m.now in
    let rows = rw c.requires.upright at c.rows.ensures in
    let cols = rw c.requires.upright at c.cols.ensures in
    let count = ap length c.parts.ensures.parts in
    sent_as (sym (append-nil (header_bytes m.rows m.cols (length m.parts))))
    (sent_on on c.put.ensures
    (sent_on on (sent_as (ap (bytes_of 4) rows) c.put_number.ensures)
    (sent_on on (sent_as (ap (bytes_of 4) cols) c.put_number-2.ensures)
    (sent_as (ap (bytes_of 4) count) c.put_number-3.ensures))))

pub put_group-requires-clause-columns : goal.put_group-requires-clause-columns
put_group-requires-clause-columns g c =
    let m = c.args.m.now in
    let q = c.loop-part.part-index in
    let item = c.part-item.result in
    let here = same_item _ m.parts q item c.parts-part-items.ensures.parts c.loop-part-test.true c.part-item.is in
    let is = part_here g.N.Number.BITS any_codes any_dictionary m q item c.parts-part-items.ensures.whole here in
    width_few g.N.Number.BITS (length item.columns.items) (any_codes item.group) (any_dictionary item.group) is.group

pub put_group-requires-clause-rest : goal.put_group-requires-clause-rest
put_group-requires-clause-rest g c =
    let m = c.args.m.now in
    let q = c.loop-part.part-index in
    let item = c.part-item.result in
    let here = same_item _ m.parts q item c.parts-part-items.ensures.parts c.loop-part-test.true c.part-item.is in
    each_at (λ part. HasItsRest part.group) m.parts q item c.requires.rests here.0 here.1

pub loop-part-preserved : goal.loop-part-preserved
loop-part-preserved g c =
    let m = c.args.m.now in
    let q = c.loop-part.part-index in
    let item = c.part-item.result in
    let here = same_item _ m.parts q item c.parts-part-items.ensures.parts c.loop-part-test.true c.part-item.is in
    let is = part_here g.N.Number.BITS any_codes any_dictionary m q item c.parts-part-items.ensures.whole here in
    behind_sent (header_bytes m.rows m.cols (length m.parts))
    (λ part. group_bytes 8 m.rows (packed_part part)) m.parts item q
    g.met.O.Sink.kept_on here.0 c.loop-part.invariant
    (sent_as (ap (λ (n : ℕ). group_bytes 8 n (packed_part item)) is.a_code_each
    ∙ ap (λ part. group_bytes 8 m.rows (packed_part part)) here.1) c.put_group.ensures)

pub returns : goal.returns
returns g c =
    let m = c.args.m.now in
    let count = ap length c.parts-part-items.ensures.parts in
    let all : length m.parts ≤ c.loop-part.part-index = omega (arith, c.loop-part-test.false, count) in
    sent_as (ap (λ parts. header_bytes m.rows m.cols (length m.parts) ++ flat_map
    (λ part. group_bytes 8 m.rows (packed_part part)) parts)
    (take_all c.loop-part.part-index m.parts all)
    ∙ file_put (part_of any_codes any_dictionary) (λ part. (any_form part.group).kind) m.rows m.cols m.parts)
    c.loop-part.invariant
