use Rattle.std.proofs.Common.{◌-◌, ◌+◌, ℕ, Option, ap, sym}
use Rattle.std.specs.List.{flat_map}
use Rattle.cla_spec.specs.Bytes.{bytes_of}
use Rattle.cla_packed.specs.Values.{tuple_bytes}
use Rattle.cla_pack_writer.specs.Listed.{head_bytes}
use Rattle.cla_pack_writer.proofs.Sending.{sent_as, sent_on}
use Rattle.cla_pack_writer.proofs.Sequences.{all_of, front_of, back_of}
use Rattle.cla_pack_writer.proofs.lists.put_head.Goals as goal

pub returns-in-None : goal.returns-in-None
returns-in-None g c =
    let on = g.met.O.Sink.kept_on in
    let tuples = g.G.Group.dictionary c.args.g.now in
    let count = c.tuples-tuples.ensures in
    sent_as (ap (λ (r : Option ℕ). head_bytes r tuples) (sym c.in-None.is))
    (sent_on on (sent_as (ap (bytes_of 4) count) c.put_number.ensures)
    (sent_on on c.put_number-in-None.ensures
    (sent_as (ap (flat_map (tuple_bytes 8)) (all_of c.tuples-tuples.result tuples count)) c.put_tuples.ensures)))

pub returns-in-Some : goal.returns-in-Some
returns-in-Some g c =
    let on = g.met.O.Sink.kept_on in
    let tuples = g.G.Group.dictionary c.args.g.now in
    let count = c.tuples-tuples.ensures in
    let r = c.in-Some.rest in
    sent_as (ap (λ (r : Option ℕ). head_bytes r tuples) (sym c.in-Some.is))
    (sent_on on (sent_as (ap (λ (n : ℕ). bytes_of 4 (n - 1)) count) c.put_number-in-Some.ensures)
    (sent_on on c.put_number-in-Some-2.ensures
    (sent_on on (sent_as (ap (flat_map (tuple_bytes 8)) (front_of r tuples)) c.put_tuples-in-Some.ensures)
    (sent_as (ap (flat_map (tuple_bytes 8)) (back_of (r + 1) c.tuples-tuples.result tuples count))
    c.put_tuples-in-Some-2.ensures))))
