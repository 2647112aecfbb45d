use Rattle.std.proofs.Common.{◌++◌, ℕ, List, length, ap, sym, arith}
use Rattle.std.specs.List.{flat_map}
use Rattle.std.proofs.lemmas.List.{append-nil, take_all}
use Rattle.cla_spec.specs.Bytes.{bytes_of}
use Rattle.cla_pack_writer.proofs.Sending.{sent_as}
use Rattle.cla_pack_writer.proofs.Sequences.{behind_sent}
use Rattle.cla_pack_writer.proofs.offsets.put_segment.Goals as goal

pub loop-offset-init : goal.loop-offset-init
loop-offset-init g c = sent_as (sym (append-nil (bytes_of 2 (length c.args.offsets.now)))) c.put_number.ensures

pub loop-offset-preserved : goal.loop-offset-preserved
loop-offset-preserved g c =
    let items = c.args.offsets.now in
    behind_sent (bytes_of 2 (length items)) (bytes_of 2) items 0 c.loop-offset.offset-index g.met.O.Sink.kept_on
    c.loop-offset-test.true c.loop-offset.invariant
    (sent_as (ap (bytes_of 2) c.from.ensures) c.put_number-in-loop-offset.ensures)

pub returns : goal.returns
returns g c =
    let items = c.args.offsets.now in
    sent_as (ap (λ (t : List ℕ). bytes_of 2 (length items) ++ flat_map (bytes_of 2) t)
    (take_all c.loop-offset.offset-index items (omega (arith, c.loop-offset-test.false)))) c.loop-offset.invariant
