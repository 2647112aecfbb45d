use Rattle.std.proofs.Common.{◌<◌, ◌≤◌, length, arith}
use Rattle.cla_spec.specs.Bytes.{bytes_of}
use Rattle.cla_pack_writer.proofs.Sending.{sent_none}
use Rattle.cla_pack_writer.proofs.Sequences.{item_sent, list_sent}
use Rattle.cla_pack_writer.proofs.codes.put_codes.Goals as goal

pub loop-i-init : goal.loop-i-init
loop-i-init g c = sent_none c.args.outgoing.now c.args.out.now (g.met.O.Sink.kept_itself c.args.out.now)

pub loop-i-preserved : goal.loop-i-preserved
loop-i-preserved g c =
    let codes = g.G.Group.codes c.args.g.now in
    let here : c.loop-i.i < length codes = omega (arith, c.loop-i-test.true, c.rows-i-end.ensures) in
    item_sent (bytes_of c.args.bytes) codes 0 c.loop-i.i g.met.O.Sink.kept_on here c.loop-i.invariant
    (rw c.code_at.ensures at c.put_number.ensures)

pub returns : goal.returns
returns g c =
    let codes = g.G.Group.codes c.args.g.now in
    let all : length codes ≤ c.loop-i.i = omega (arith, c.loop-i-test.false, c.rows-i-end.ensures) in
    list_sent (bytes_of c.args.bytes) codes c.loop-i.i all c.loop-i.invariant
