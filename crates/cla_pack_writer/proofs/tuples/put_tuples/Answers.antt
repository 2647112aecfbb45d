use Rattle.std.proofs.Common.{◌≡◌, ◌<◌, ◌+◌, ◌-◌, ℕ, [], length, take, drop, get_or, ap, sym, ◌∙◌, arith}
use Rattle.std.specs.List.{flat_map}
use Rattle.std.proofs.lemmas.List.{get_or-drop, length-drop}
use Rattle.cla_packed.specs.Values.{tuple_bytes}
use Rattle.cla_pack_writer.proofs.Sending.{sent_as, sent_none}
use Rattle.cla_pack_writer.proofs.Sequences.{item_sent}
use Rattle.cla_pack_writer.proofs.tuples.put_tuples.Goals as goal

pub loop-k-init : goal.loop-k-init
loop-k-init g c =
    let none : 0 ≡ c.args.a - c.args.a = omega arith in
    record {
      from = omega arith;
      sent =
          sent_as (ap (λ (n : ℕ). flat_map (tuple_bytes 8)
          (take n (drop c.args.a (g.G.Group.dictionary c.args.g.now)))) none)
          (sent_none c.args.outgoing.now c.args.out.now (g.met.O.Sink.kept_itself c.args.out.now));
    }

pub loop-k-preserved : goal.loop-k-preserved
loop-k-preserved g c =
    let tuples = g.G.Group.dictionary c.args.g.now in
    let a = c.args.a in
    let k = c.loop-k.k in
    let from = c.loop-k.invariant.from in
    let back : a + (k - a) ≡ k = omega (arith, from) in
    let next : (k - a) + 1 ≡ (k + 1) - a = omega (arith, from) in
    let here : k - a < length (drop a tuples) = omega
    (arith, from, c.loop-k-test.true, c.requires.within, length-drop a tuples) in
    let same : get_or tuples k [] ≡ get_or (drop a tuples) (k - a) [] =
    ap (λ (i : ℕ). get_or tuples i []) (sym back) ∙ sym (get_or-drop a tuples (k - a) []) in
    record {
      from = omega (arith, from);
      sent =
          sent_as (ap (λ (n : ℕ). flat_map (tuple_bytes 8) (take n (drop a tuples))) next)
          (item_sent (tuple_bytes 8) (drop a tuples) [] (k - a) g.met.O.Sink.kept_on here c.loop-k.invariant.sent
          (sent_as (ap (tuple_bytes 8) same) c.put_tuple.ensures));
    }

pub returns : goal.returns
returns g c =
    let all : c.loop-k.k - c.args.a ≡ c.args.b - c.args.a = omega (arith, c.loop-k-test.false, c.loop-k.auto.k-end) in
    sent_as (ap (λ (n : ℕ). flat_map (tuple_bytes 8) (take n (drop c.args.a (g.G.Group.dictionary c.args.g.now))))
    all) c.loop-k.invariant.sent
