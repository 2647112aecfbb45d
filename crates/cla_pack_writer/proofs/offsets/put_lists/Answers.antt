use Rattle.std.proofs.Common.{◌≡◌, ◌-◌, length, ap, arith}
use Rattle.cla_offsets.specs.Members.{offsets_codes}
use Rattle.cla_packed.specs.Lists.{rows_from}
use Rattle.cla_packed.specs.Offsets.{offsets_bytes}
use Rattle.cla_pack_writer.specs.Listed.{lists_from}
use Rattle.cla_pack_writer.proofs.Sending.{sent_as, sent_none}
use Rattle.cla_pack_writer.proofs.Sequences.{next_sent}
use Rattle.cla_pack_writer.proofs.offsets.put_lists.Goals as goal

pub loop-k-init : goal.loop-k-init
loop-k-init g c =
    let codes = offsets_codes c.args.g.now in
    let none : 0 ≡ c.args.a - c.args.a = omega arith in
    record {
      from = omega arith;
      sent =
          sent_as (ap (lists_from (offsets_bytes 32768 (length codes)) codes c.args.a) none)
          (sent_none c.args.outgoing.now c.args.out.now (g.met.O.Sink.kept_itself c.args.out.now));
    }

pub loop-k-preserved : goal.loop-k-preserved
loop-k-preserved g c =
    let codes = offsets_codes c.args.g.now in
    let from = c.loop-k.invariant.from in
    record {
      from = omega (arith, from);
      sent =
          next_sent (λ k. offsets_bytes 32768 (length codes) (rows_from 0 codes k)) c.args.a c.loop-k.k
          g.met.O.Sink.kept_on from
          c.loop-k.invariant.sent c.put_list.ensures;
    }

pub returns : goal.returns
returns g c =
    let codes = offsets_codes c.args.g.now in
    let all : c.loop-k.k - c.args.a ≡ c.args.b - c.args.a = omega (arith, c.loop-k-test.false, c.loop-k.auto.k-end) in
    sent_as (ap (lists_from (offsets_bytes 32768 (length codes)) codes c.args.a) all) c.loop-k.invariant.sent
