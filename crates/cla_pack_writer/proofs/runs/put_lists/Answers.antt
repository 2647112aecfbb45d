use Rattle.std.proofs.Common.{◌≡◌, ◌<◌, ◌-◌, ap, arith}
use Rattle.cla_packed.specs.Lists.{rows_from}
use Rattle.cla_packed.specs.Runs.{runs_bytes}
use Rattle.cla_pack_writer.specs.Listed.{lists_from}
use Rattle.cla_pack_writer.proofs.Sending.{sent_as, sent_none}
use Rattle.cla_pack_writer.proofs.Sequences.{next_sent}
use Rattle.cla_pack_writer.proofs.runs.put_lists.Goals as goal

pub loop-k-init : goal.loop-k-init
loop-k-init g c =
    let none : 0 ≡ c.args.a - c.args.a = omega arith in
    record {
      from = omega arith;
      sent =
          sent_as (ap (lists_from runs_bytes c.args.rows.now.codes c.args.a) none)
          (sent_none c.args.outgoing.now c.args.out.now (g.met.O.Sink.kept_itself c.args.out.now));
    }

pub put_list-requires-clause-numbers : goal.put_list-requires-clause-numbers
put_list-requires-clause-numbers g c =
    let k = c.loop-k.k in
    let below : k < c.args.rows.now.tuples = omega (arith, c.loop-k-test.true, c.requires.within) in (
      k,
      record {
        listed = c.requires.listed k c.loop-k.invariant.from c.loop-k-test.true;
        numbers_are = c.places_of.ensures c.args.rows.now.tuples _ c.requires.grouped below;
        runs = c.requires.runs;
      },
    )

pub loop-k-preserved : goal.loop-k-preserved
loop-k-preserved g c =
    let rows = c.args.rows.now in
    let k = c.loop-k.k in
    let from = c.loop-k.invariant.from in
    let below : k < rows.tuples = omega (arith, c.loop-k-test.true, c.requires.within) in
    record {
      from = omega (arith, from);
      sent =
          next_sent (λ k. runs_bytes (rows_from 0 rows.codes k)) c.args.a k g.met.O.Sink.kept_on from
          c.loop-k.invariant.sent (c.put_list.ensures k (record {
            listed = c.requires.listed k from c.loop-k-test.true;
            numbers_are = c.places_of.ensures rows.tuples _ c.requires.grouped below;
            runs = c.requires.runs;
          }));
    }

pub returns : goal.returns
returns g c =
    let all : c.loop-k.k - c.args.a ≡ c.args.b - c.args.a = omega (arith, c.loop-k-test.false, c.loop-k.auto.k-end) in
    sent_as (ap (lists_from runs_bytes c.args.rows.now.codes c.args.a) all) c.loop-k.invariant.sent
