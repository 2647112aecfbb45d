use Rattle.std.proofs.Common.{◌<◌, ◌≤◌, pos, [], length, get_or, arith}
use Rattle.cla_spec.specs.Bytes.{value_bytes}
use Rattle.cla_pack_writer.proofs.Sending.{sent_none}
use Rattle.cla_pack_writer.proofs.Sequences.{item_sent, list_sent}
use Rattle.cla_pack_writer.proofs.tuples.put_tuple.Goals as goal

pub loop-c-init : goal.loop-c-init
loop-c-init g c = sent_none c.args.outgoing.now c.args.out.now (g.met.O.Sink.kept_itself c.args.out.now)

pub loop-c-preserved : goal.loop-c-preserved
loop-c-preserved g c =
    let tuple = get_or (g.G.Group.dictionary c.args.g.now) c.args.k [] in
    let full = (g.met.G.Group.laws c.args.g.now).full c.args.k c.requires.tuple in
    let here : c.loop-c.c < length tuple = omega (arith, full, c.loop-c-test.true, c.width-c-end.ensures) in
    item_sent (value_bytes 8) tuple (pos 0) c.loop-c.c g.met.O.Sink.kept_on here c.loop-c.invariant
    (rw c.value.ensures at c.put_value.ensures)

pub returns : goal.returns
returns g c =
    let tuple = get_or (g.G.Group.dictionary c.args.g.now) c.args.k [] in
    let full = (g.met.G.Group.laws c.args.g.now).full c.args.k c.requires.tuple in
    let all : length tuple ≤ c.loop-c.c = omega (arith, full, c.loop-c-test.false, c.width-c-end.ensures) in
    list_sent (value_bytes 8) tuple c.loop-c.c all c.loop-c.invariant
