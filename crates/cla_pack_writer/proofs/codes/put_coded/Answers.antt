use Rattle.std.proofs.Common.{◌≡◌, ◌-◌, ℕ, take, ap, ◌∙◌, arith}
use Rattle.std.specs.List.{flat_map}
use Rattle.std.proofs.lemmas.List.{take_all}
use Rattle.cla_packed.specs.Values.{tuple_bytes}
use Rattle.cla_spec.specs.Bytes.{bytes_of}
use Rattle.cla_packed.specs.Codes.{code_bytes}
use Rattle.cla_pack_writer.proofs.Sending.{sent_on, sent_as}
use Rattle.cla_pack_writer.proofs.codes.put_coded.Goals as goal

pub returns : goal.returns
returns g c =
    let on = g.met.O.Sink.kept_on in
    let tuples = g.G.Group.dictionary c.args.g.now in
    let codes = g.G.Group.codes c.args.g.now in
    let count = c.tuples-tuples.ensures in
    let all : take (c.tuples-tuples.result - 0) tuples ≡ tuples = take_all (c.tuples-tuples.result - 0) tuples
    (omega (arith, count)) in
    sent_on on (sent_as (ap (bytes_of 4) count) c.put_number.ensures)
    (sent_on on (sent_as (ap (flat_map (tuple_bytes 8)) all) c.put_tuples.ensures)
    (sent_as (ap (λ (b : ℕ). flat_map (bytes_of b) codes) (c.code_bytes.ensures.bytes ∙ ap code_bytes count))
    c.put_codes.ensures))
