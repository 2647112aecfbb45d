use Rattle.std.proofs.Common.{◌++◌, ℕ, List, length, ap, sym, arith}
use Rattle.std.specs.List.{flat_map}
use Rattle.std.proofs.lemmas.List.{append-nil, take_all}
use Rattle.cla_spec.specs.Bytes.{bytes_of}
use Rattle.cla_pack_writer.proofs.Sending.{sent_as}
use Rattle.cla_pack_writer.proofs.Sequences.{behind_sent}
use Rattle.cla_pack_writer.proofs.group.put_columns.Goals as goal

pub loop-column-init : goal.loop-column-init
loop-column-init g c = sent_as (sym (append-nil (bytes_of 4 (length c.args.columns.now)))) c.put_number.ensures

pub loop-column-preserved : goal.loop-column-preserved
loop-column-preserved g c =
    let items = c.args.columns.now in
    behind_sent (bytes_of 4 (length items)) (bytes_of 4) items 0 c.loop-column.column-index g.met.O.Sink.kept_on
    c.loop-column-test.true c.loop-column.invariant c.put_number-in-loop-column.ensures

pub returns : goal.returns
returns g c =
    let items = c.args.columns.now in
    sent_as (ap (λ (t : List ℕ). bytes_of 4 (length items) ++ flat_map (bytes_of 4) t)
    (take_all c.loop-column.column-index items (omega (arith, c.loop-column-test.false)))) c.loop-column.invariant
