use Rattle.std.proofs.Common.{arith}
use Rattle.cla_pack_reader.specs.Places.{places_of}
use Rattle.cla_pack_reader.proofs.Steps.{follows}
use Rattle.cla_pack_reader.proofs.HeaderLaws.{no_magic, no_rows, no_columns, over, no_groups, header_took}
use Rattle.cla_pack_reader.proofs.header.read_header.Goals as goal

pub returns-in-Err-clause-exact : goal.returns-in-Err-clause-exact
returns-in-Err-clause-exact g c bits =
    let b = places_of c.args.input.now.taken (g.F.Files.state c.args.input.now.files.now) in
    no_magic bits b c.in-Err.fault c.in-Err.ensures.exact

pub returns-in-Err-size-clause-exact : goal.returns-in-Err-size-clause-exact
returns-in-Err-size-clause-exact g c bits =
    let t0 = c.args.input.now.taken in
    let s0 = g.F.Files.state c.args.input.now.files.now in
    let t1 = c.field.new.input.taken in
    let s1 = g.F.Files.state c.field.new.input.files.now in
    no_rows bits (places_of t0 s0) (places_of t1 s1) c.in-Ok._magic c.in-Ok.ensures.low c.in-Ok.ensures.high
    c.in-Ok.ensures.exact c.in-Err-size.fault (follows t0 t1 s0 s1 c.in-Ok.ensures.frame.told)
    c.in-Err-size.ensures.exact

pub returns-in-Err-size-2-clause-exact : goal.returns-in-Err-size-2-clause-exact
returns-in-Err-size-2-clause-exact g c bits =
    let t0 = c.args.input.now.taken in
    let s0 = g.F.Files.state c.args.input.now.files.now in
    let t1 = c.field.new.input.taken in
    let s1 = g.F.Files.state c.field.new.input.files.now in
    let t2 = c.size.new.input.taken in
    let s2 = g.F.Files.state c.size.new.input.files.now in
    no_columns bits (places_of t0 s0) (places_of t1 s1) c.in-Ok._magic c.in-Ok.ensures.low c.in-Ok.ensures.high
    c.in-Ok.ensures.exact (places_of t2 s2) c.in-Ok-size.rows c.in-Ok-size.ensures.exact
    c.in-Err-size-2.fault (follows t0 t1 s0 s1 c.in-Ok.ensures.frame.told)
    (follows t1 t2 s1 s2 c.in-Ok-size.ensures.frame.told) c.in-Err-size-2.ensures.exact

pub returns-then-cells-gt-MOST_CELLS-clause-exact : goal.returns-then-cells-gt-MOST_CELLS-clause-exact
returns-then-cells-gt-MOST_CELLS-clause-exact g c bits =
    let t0 = c.args.input.now.taken in
    let s0 = g.F.Files.state c.args.input.now.files.now in
    let t1 = c.field.new.input.taken in
    let s1 = g.F.Files.state c.field.new.input.files.now in
    let t2 = c.size.new.input.taken in
    let s2 = g.F.Files.state c.size.new.input.files.now in
    let t3 = c.size-2.new.input.taken in
    let s3 = g.F.Files.state c.size-2.new.input.files.now in
    over bits (places_of t0 s0) (places_of t1 s1) c.in-Ok._magic c.in-Ok.ensures.low c.in-Ok.ensures.high
    c.in-Ok.ensures.exact (places_of t2 s2) c.in-Ok-size.rows c.in-Ok-size.ensures.exact
    (places_of t3 s3) c.in-Ok-size-2.cols
    c.in-Ok-size-2.ensures.exact (follows t0 t1 s0 s1 c.in-Ok.ensures.frame.told)
    (follows t1 t2 s1 s2 c.in-Ok-size.ensures.frame.told)
    (follows t2 t3 s2 s3 c.in-Ok-size-2.ensures.frame.told) (omega (arith, c.if-cells-gt-MOST_CELLS.true))

pub returns-in-Ok-field-clause-exact : goal.returns-in-Ok-field-clause-exact
returns-in-Ok-field-clause-exact g c bits =
    let t0 = c.args.input.now.taken in
    let s0 = g.F.Files.state c.args.input.now.files.now in
    let t1 = c.field.new.input.taken in
    let s1 = g.F.Files.state c.field.new.input.files.now in
    let t2 = c.size.new.input.taken in
    let s2 = g.F.Files.state c.size.new.input.files.now in
    let t3 = c.size-2.new.input.taken in
    let s3 = g.F.Files.state c.size-2.new.input.files.now in
    let t4 = c.field-2.new.input.taken in
    let s4 = g.F.Files.state c.field-2.new.input.files.now in
    header_took bits (places_of t0 s0) (places_of t1 s1) c.in-Ok._magic c.in-Ok.ensures.low c.in-Ok.ensures.high
    c.in-Ok.ensures.exact (places_of t2 s2) c.in-Ok-size.rows c.in-Ok-size.ensures.exact
    (places_of t3 s3) c.in-Ok-size-2.cols
    c.in-Ok-size-2.ensures.exact (places_of t4 s4) c.in-Ok-field.groups
    (omega (arith, c.if-cells-gt-MOST_CELLS.false)) c.in-Ok-field.ensures.exact

pub returns-in-Err-field-clause-exact : goal.returns-in-Err-field-clause-exact
returns-in-Err-field-clause-exact g c bits =
    let t0 = c.args.input.now.taken in
    let s0 = g.F.Files.state c.args.input.now.files.now in
    let t1 = c.field.new.input.taken in
    let s1 = g.F.Files.state c.field.new.input.files.now in
    let t2 = c.size.new.input.taken in
    let s2 = g.F.Files.state c.size.new.input.files.now in
    let t3 = c.size-2.new.input.taken in
    let s3 = g.F.Files.state c.size-2.new.input.files.now in
    no_groups bits (places_of t0 s0) (places_of t1 s1) c.in-Ok._magic c.in-Ok.ensures.low c.in-Ok.ensures.high
    c.in-Ok.ensures.exact (places_of t2 s2) c.in-Ok-size.rows c.in-Ok-size.ensures.exact
    (places_of t3 s3) c.in-Ok-size-2.cols
    c.in-Ok-size-2.ensures.exact c.in-Err-field.fault (follows t0 t1 s0 s1 c.in-Ok.ensures.frame.told)
    (follows t1 t2 s1 s2 c.in-Ok-size.ensures.frame.told)
    (follows t2 t3 s2 s3 c.in-Ok-size-2.ensures.frame.told) (omega (arith, c.if-cells-gt-MOST_CELLS.false))
    c.in-Err-field.ensures.exact
