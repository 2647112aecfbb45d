use Rattle.std.proofs.Common.{◌≡◌, map, arith, eqb, false}
use Rattle.std.proofs.lemmas.List.FromFn.{length-map-range_with_len}
use Rattle.cla_layout.specs.Listed.{is_zero}
use Rattle.cla_layout.specs.Tuples.{tuple_at, tuples_of}
use Rattle.cla_packed_laws.proofs.Zeros.{all_in}
use Rattle.cla_pack_reader.specs.Places.{places_of}
use Rattle.cla_pack_reader.specs.Ranges.{within}
use Rattle.cla_pack_reader.proofs.Steps.{follows}
use Rattle.cla_pack_reader.proofs.HeadLaws.{no_count, no_flag, no_tuples, head_is}
use Rattle.cla_pack_reader.proofs.ListsTaken.{flag_is, tuples_taken}
use Rattle.cla_pack_reader.proofs.listed.listed_tuples.Goals as goal

pub returns-in-Err-clause-exact : goal.returns-in-Err-clause-exact
returns-in-Err-clause-exact g c one =
    let t0 = c.args.input.now.taken in
    let s0 = g.F.Files.state c.args.input.now.files.now in
    no_count one g.N.Number.BITS c.args.group c.args.rows c.args.width (places_of t0 s0) c.in-Err.fault
    c.in-Err.ensures.exact

pub returns-in-Err-field-clause-exact : goal.returns-in-Err-field-clause-exact
returns-in-Err-field-clause-exact g c one =
    let t0 = c.args.input.now.taken in
    let s0 = g.F.Files.state c.args.input.now.files.now in
    let t1 = c.field.new.input.taken in
    let s1 = g.F.Files.state c.field.new.input.files.now in
    no_flag one g.N.Number.BITS c.args.group c.args.rows c.args.width (places_of t0 s0) (places_of t1 s1) c.in-Ok.count
    (follows t0 t1 s0 s1 c.in-Ok.ensures.frame.told) c.in-Ok.ensures.exact c.in-Err-field.fault
    c.in-Err-field.ensures.exact

pub returns-in-Err-tuples-clause-exact : goal.returns-in-Err-tuples-clause-exact
returns-in-Err-tuples-clause-exact g c one =
    let t0 = c.args.input.now.taken in
    let s0 = g.F.Files.state c.args.input.now.files.now in
    let t1 = c.field.new.input.taken in
    let s1 = g.F.Files.state c.field.new.input.files.now in
    let t2 = c.field-2.new.input.taken in
    let s2 = g.F.Files.state c.field-2.new.input.files.now in
    no_tuples one g.N.Number.BITS c.args.group c.args.rows c.args.width (places_of t0 s0) (places_of t1 s1)
    c.in-Ok.count (follows t0 t1 s0 s1 c.in-Ok.ensures.frame.told) c.in-Ok.ensures.exact (places_of t2 s2)
    c.in-Ok-field.rest (follows t1 t2 s1 s2 c.in-Ok-field.ensures.frame.told) c.in-Ok-field.ensures.exact
    c.in-Err-tuples.fault c.in-Err-tuples.ensures.exact

pub returns-clause-tuples : goal.returns-clause-tuples
returns-clause-tuples g c =
    let d = c.in-Ok.count in
    let values = map g.N.Number.value c.in-Ok-tuples.values.items in
    let ts = tuples_of c.args.width d values in
    let taken = tuples_taken g.N.Number.BITS c.args.group c.args.width d c.in-Ok-field.rest ts (within 0 1)
    c.field.new.input.taken c.field-2.new.input.taken c.tuples.new.input.taken
    (g.F.Files.state c.field.new.input.files.now) (g.F.Files.state c.field-2.new.input.files.now)
    (g.F.Files.state c.tuples.new.input.files.now) c.requires.some c.in-Ok-field.ensures.exact
    c.in-Ok-tuples.ensures.exact in
    record {
      whole = c.in-Ok-tuples.ensures.count;
      not_zero = λ k lt. all_in (λ t. is_zero t ≡ false) ts k taken.0
          (omega (arith, lt, length-map-range_with_len (tuple_at c.args.width values) 0 d));
    }

pub returns-clause-near : goal.returns-clause-near
returns-clause-near g c =
    let d = c.in-Ok.count in
    let ts = tuples_of c.args.width d (map g.N.Number.value c.in-Ok-tuples.values.items) in
    (tuples_taken g.N.Number.BITS c.args.group c.args.width d c.in-Ok-field.rest ts (within 0 1)
    c.field.new.input.taken c.field-2.new.input.taken c.tuples.new.input.taken
    (g.F.Files.state c.field.new.input.files.now) (g.F.Files.state c.field-2.new.input.files.now)
    (g.F.Files.state c.tuples.new.input.files.now) c.requires.some c.in-Ok-field.ensures.exact
    c.in-Ok-tuples.ensures.exact).1

pub returns-clause-exact : goal.returns-clause-exact
returns-clause-exact g c one =
    let t0 = c.args.input.now.taken in
    let s0 = g.F.Files.state c.args.input.now.files.now in
    let t1 = c.field.new.input.taken in
    let s1 = g.F.Files.state c.field.new.input.files.now in
    let t2 = c.field-2.new.input.taken in
    let s2 = g.F.Files.state c.field-2.new.input.files.now in
    let t3 = c.tuples.new.input.taken in
    let s3 = g.F.Files.state c.tuples.new.input.files.now in
    let d = c.in-Ok.count in
    let rest = c.in-Ok-field.rest in
    let ts = tuples_of c.args.width d (map g.N.Number.value c.in-Ok-tuples.values.items) in
    head_is one g.N.Number.BITS c.args.group c.args.rows c.args.width (places_of t0 s0) (places_of t1 s1) d
    (follows t0 t1 s0 s1 c.in-Ok.ensures.frame.told) c.in-Ok.ensures.exact (places_of t2 s2) rest
    (follows t1 t2 s1 s2 c.in-Ok-field.ensures.frame.told) c.in-Ok-field.ensures.exact (places_of t3 s3) ts
    (follows t2 t3 s2 s3 c.in-Ok-tuples.ensures.frame.told) c.in-Ok-tuples.ensures.exact (eqb rest 1)
    (flag_is rest c.in-Ok-field.ensures.high)
