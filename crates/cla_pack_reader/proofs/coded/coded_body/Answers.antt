use Rattle.std.proofs.Common.{ℕ, length, map, subst, ap, ◌∙◌}
use Rattle.cla_layout.specs.Tuples.{tuples_of}
use Rattle.cla_packed.specs.Bodies.{coded_at}
use Rattle.cla_packed.specs.Codes.{codes_at, code_bytes}
use Rattle.cla_pack_reader.specs.Places.{places_of, Took, Refused}
use Rattle.cla_pack_reader.proofs.Steps.{follows}
use Rattle.cla_pack_reader.proofs.CodedLaws.{tuples_in, whole_in, with_codes, coded_count, coded_tuples, coded_codes}
use Rattle.cla_pack_reader.proofs.CodedLaws.{coded_took}
use Rattle.cla_pack_reader.proofs.coded.coded_body.Goals as goal

pub returns-in-Err-clause-exact : goal.returns-in-Err-clause-exact
returns-in-Err-clause-exact g c =
    let b = places_of c.args.input.now.taken (g.F.Files.state c.args.input.now.files.now) in
    coded_count g.N.Number.BITS c.args.group c.args.rows c.args.width b c.in-Err.fault c.in-Err.ensures.exact

pub returns-in-Err-tuples-clause-exact : goal.returns-in-Err-tuples-clause-exact
returns-in-Err-tuples-clause-exact g c =
    let t0 = c.args.input.now.taken in
    let s0 = g.F.Files.state c.args.input.now.files.now in
    let t1 = c.field.new.input.taken in
    let s1 = g.F.Files.state c.field.new.input.files.now in
    coded_tuples g.N.Number.BITS c.args.group c.args.rows c.args.width (places_of t0 s0) (places_of t1 s1) c.in-Ok.d
    c.in-Ok.ensures.exact c.in-Err-tuples.fault (follows t0 t1 s0 s1 c.in-Ok.ensures.frame.told)
    c.in-Err-tuples.ensures.exact

pub returns-in-Err-codes_of-clause-exact : goal.returns-in-Err-codes_of-clause-exact
returns-in-Err-codes_of-clause-exact g c =
    let t0 = c.args.input.now.taken in
    let s0 = g.F.Files.state c.args.input.now.files.now in
    let t1 = c.field.new.input.taken in
    let s1 = g.F.Files.state c.field.new.input.files.now in
    let t2 = c.tuples.new.input.taken in
    let s2 = g.F.Files.state c.tuples.new.input.files.now in
    let d = c.in-Ok.d in
    let values = map g.N.Number.value c.in-Ok-tuples.values.items in
    coded_codes g.N.Number.BITS c.args.group c.args.rows c.args.width (places_of t0 s0) (places_of t1 s1) d
    c.in-Ok.ensures.exact (places_of t2 s2) (tuples_of c.args.width d values) c.in-Ok-tuples.ensures.exact
    c.in-Err-codes_of.fault (follows t0 t1 s0 s1 c.in-Ok.ensures.frame.told)
    (follows t1 t2 s1 s2 c.in-Ok-tuples.ensures.frame.told)
    (subst (λ (k : ℕ). Refused (places_of t2 s2) (codes_at k c.args.group d c.args.rows) c.in-Err-codes_of.fault)
    c.code_bytes.ensures.bytes c.in-Err-codes_of.ensures.exact)

pub returns-in-Ok-codes_of-clause-exact : goal.returns-in-Ok-codes_of-clause-exact
returns-in-Ok-codes_of-clause-exact g c =
    let b = places_of c.args.input.now.taken (g.F.Files.state c.args.input.now.files.now) in
    let m = places_of c.field.new.input.taken (g.F.Files.state c.field.new.input.files.now) in
    let r = places_of c.tuples.new.input.taken (g.F.Files.state c.tuples.new.input.files.now) in
    let a = places_of c.codes_of.new.input.taken (g.F.Files.state c.codes_of.new.input.files.now) in
    let bits = g.N.Number.BITS in
    let width = c.args.width in
    let d = c.in-Ok.d in
    let values = map g.N.Number.value c.in-Ok-tuples.values.items in
    let codes = c.in-Ok-codes_of.codes.codes in
    let count = tuples_in width d (length c.in-Ok-tuples.values.items) c.requires.some c.in-Ok-tuples.ensures.count in
    subst (λ (n : ℕ). Took b a (coded_at 8 bits c.args.group c.args.rows width)
    (with_codes codes (tuples_of width n values))) count
    (coded_took bits c.args.group c.args.rows width b m d c.in-Ok.ensures.exact r (tuples_of width d values)
    c.in-Ok-tuples.ensures.exact a codes
    (subst (λ (k : ℕ). Took r a (codes_at k c.args.group d c.args.rows) codes) c.code_bytes.ensures.bytes
    c.in-Ok-codes_of.ensures.exact))

pub returns-in-Ok-codes_of-clause-whole : goal.returns-in-Ok-codes_of-clause-whole
returns-in-Ok-codes_of-clause-whole g c =
    whole_in c.args.width c.in-Ok.d c.in-Ok-tuples.values.items c.requires.some c.in-Ok-tuples.ensures.count

pub returns-in-Ok-codes_of-clause-fewest : goal.returns-in-Ok-codes_of-clause-fewest
returns-in-Ok-codes_of-clause-fewest g c =
    let width = c.args.width in
    let values = c.in-Ok-tuples.values.items in
    let count = tuples_in width c.in-Ok.d (length values) c.requires.some c.in-Ok-tuples.ensures.count in
    c.in-Ok-codes_of.ensures.width ∙ c.code_bytes.ensures.bytes ∙ ap code_bytes count
