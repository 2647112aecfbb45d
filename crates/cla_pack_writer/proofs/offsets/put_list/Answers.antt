use Rattle.std.proofs.Common.{◌≡◌, ℕ, length, ap, sym, ◌∙◌, arith}
use Rattle.std.specs.List.{flat_map, range_with_len}
use Rattle.cla_offsets.specs.Members.{offsets_codes}
use Rattle.cla_offsets.specs.Segments.{segment_offsets}
use Rattle.cla_packed.specs.Offsets.{segments}
use Rattle.cla_pack_writer.specs.Listed.{counted_offsets}
use Rattle.cla_pack_writer.proofs.Segments.{segments_put, offsets_few}
use Rattle.cla_pack_writer.proofs.Sending.{sent_as, sent_none}
use Rattle.cla_pack_writer.proofs.Sequences.{count_sent}
use Rattle.cla_pack_writer.proofs.offsets.put_list.Goals as goal

pub loop-s-init : goal.loop-s-init
loop-s-init g c = sent_none c.args.outgoing.now c.args.out.now (g.met.O.Sink.kept_itself c.args.out.now)

pub list-requires : goal.list-requires
list-requires g c = record {
  tuple = c.requires.tuple;
  listed = c.requires.listed;
  segment = omega (arith, c.segment_count-s-end.ensures, c.rows.ensures, c.loop-s-test.true);
}

pub put_segment-requires : goal.put_segment-requires
put_segment-requires g c =
    omega (arith, ap length c.list.ensures, offsets_few (offsets_codes c.args.g.now) c.args.k 32768 c.loop-s.s)

pub loop-s-preserved : goal.loop-s-preserved
loop-s-preserved g c =
    count_sent (λ s. counted_offsets (segment_offsets (offsets_codes c.args.g.now) c.args.k s)) c.loop-s.s
    g.met.O.Sink.kept_on c.loop-s.invariant (sent_as (ap counted_offsets c.list.ensures) c.put_segment.ensures)

pub returns : goal.returns
returns g c =
    let codes = offsets_codes c.args.g.now in
    let k = c.args.k in
    let all : c.loop-s.s ≡ segments 32768 (length codes) =
    omega (arith, c.segment_count-s-end.ensures, c.rows.ensures, c.loop-s-test.false, c.loop-s.auto.s-end) in
    sent_as (ap (λ (n : ℕ). flat_map (λ s. counted_offsets (segment_offsets codes k s)) (range_with_len 0 n)) all
    ∙ sym (segments_put 32768 0 (segments 32768 (length codes)) codes k (omega arith))) c.loop-s.invariant
