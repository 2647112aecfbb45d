use Rattle.std.proofs.Common.{◌≡◌, ◌-◌, ◌+◌, ℕ, length, Option, Some, None, ap, sym, ◌∙◌, arith}
use Rattle.cla_layout.specs.Listed.{rest_of}
use Rattle.cla_offsets.specs.Members.{offsets_codes, offsets_dictionary}
use Rattle.cla_packed.specs.Offsets.{offsets_bytes}
use Rattle.cla_pack_writer.specs.Listed.{head_bytes, lists_from}
use Rattle.cla_pack_writer.proofs.Bodies.{listed_put, rest_there}
use Rattle.cla_pack_writer.proofs.Sending.{sent_as, sent_on}
use Rattle.cla_pack_writer.proofs.offsets.put_offsets.Goals as goal

pub returns-in-None : goal.returns-in-None
returns-in-None g c =
    let on = g.met.O.Sink.kept_on in
    let codes = offsets_codes c.args.g.now in
    let tuples = offsets_dictionary c.args.g.now in
    let bytes = offsets_bytes 32768 (length codes) in
    let size : c.tuples-tuples.result - 0 ≡ length tuples = omega (arith, c.tuples-tuples.ensures) in
    sent_as (listed_put bytes None codes tuples (sym c.in-None.is ∙ c.rest-rest.ensures.value ∙ c.requires.rest) tt)
    (sent_on on (sent_as (ap (λ (r : Option ℕ). head_bytes r tuples) c.in-None.is) c.put_head.ensures)
    (sent_as (ap (lists_from bytes codes 0) size) c.put_lists.ensures))

pub returns-in-Some : goal.returns-in-Some
returns-in-Some g c =
    let on = g.met.O.Sink.kept_on in
    let codes = offsets_codes c.args.g.now in
    let tuples = offsets_dictionary c.args.g.now in
    let bytes = offsets_bytes 32768 (length codes) in
    let r = c.in-Some.rest in
    let count = c.tuples-tuples.ensures in
    let front : r - 0 ≡ r = omega arith in
    let back : c.tuples-tuples.result - (r + 1) ≡ length tuples - (r + 1) = ap (λ (n : ℕ). n - (r + 1)) count in
    let same : Some r ≡ rest_of codes tuples = sym c.in-Some.is ∙ c.rest-rest.ensures.value ∙ c.requires.rest in
    sent_as (listed_put bytes (Some r) codes tuples same (rest_there codes tuples r (sym same)))
    (sent_on on (sent_as (ap (λ (r : Option ℕ). head_bytes r tuples) c.in-Some.is) c.put_head.ensures)
    (sent_on on (sent_as (ap (lists_from bytes codes 0) front) c.put_lists-in-Some.ensures)
    (sent_as (ap (lists_from bytes codes (r + 1)) back) c.put_lists-in-Some-2.ensures)))
