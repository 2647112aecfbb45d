use Rattle.std.proofs.Common.{◌+◌, ◌<◌, ◌≤◌, length, arith}
use Rattle.std.specs.Prelude.{nat_lt, nat_le, ◌&&◌}
use Rattle.std.specs.List.{range_with_len}
use Rattle.std.proofs.lemmas.Bool.{lt-ltb, le-ltb, lt-leb, le-leb, and_from, and_left, and_right}
use Rattle.cla_packed.specs.declared.fault.FieldName.TheVariants.{Length}
use Rattle.cla_pack_reader.specs.Places.{places_of}
use Rattle.cla_pack_reader.specs.Runs.{are_apart, fits_rows}
use Rattle.cla_pack_reader.proofs.RunLaws.{apart_if_none, not_apart}
use Rattle.cla_pack_reader.proofs.Steps.{follows, offset_is, took_field, refused_field, unfit_field}
use Rattle.cla_pack_reader.proofs.run.length_of.Goals as goal

pub returns-in-Err-clause-exact : goal.returns-in-Err-clause-exact
returns-in-Err-clause-exact g c earlier named_from =
    let b = places_of c.args.input.now.taken (g.F.Files.state c.args.input.now.files.now) in
    refused_field 4 c.args.group Length (fits_rows (length c.args.marks.now) earlier c.args.first) b b c.in-Err.fault
    c.in-Err.ensures.exact

pub returns-then-end-rows-clause-exact : goal.returns-then-end-rows-clause-exact
returns-then-end-rows-clause-exact g c earlier named_from =
    let old = c.args.input.now.taken in
    let s = g.F.Files.state c.args.input.now.files.now in
    let new = c.number.new.input.taken in
    let u = g.F.Files.state c.number.new.input.files.now in
    let all = length c.args.marks.now in
    let n = c.in-Ok.n in
    let end = c.args.first + n in
    let over = lt-leb end all (omega (arith, c.if-end-rows.true, c.len-rows.ensures)) in
    unfit_field 4 c.args.group Length (fits_rows all earlier c.args.first) (places_of old s) (places_of new u) n
    c.at-at.result (follows old new s u c.in-Ok.ensures.frame.told) c.in-Ok.ensures.exact
    (and_left (nat_lt 0 n && nat_le end all) (are_apart earlier (range_with_len c.args.first n))
    (and_right (nat_lt 0 n) (nat_le end all) over))
    (offset_is old s c.at-at.result c.at-at.ensures)

pub returns-then-n-lt1-clause-exact : goal.returns-then-n-lt1-clause-exact
returns-then-n-lt1-clause-exact g c earlier named_from =
    let old = c.args.input.now.taken in
    let s = g.F.Files.state c.args.input.now.files.now in
    let new = c.number.new.input.taken in
    let u = g.F.Files.state c.number.new.input.files.now in
    let all = length c.args.marks.now in
    let n = c.in-Ok.n in
    let end = c.args.first + n in
    let none = le-ltb 0 n (omega (arith, c.if-n-lt1.true)) in
    unfit_field 4 c.args.group Length (fits_rows all earlier c.args.first) (places_of old s) (places_of new u) n
    c.at-at.result (follows old new s u c.in-Ok.ensures.frame.told) c.in-Ok.ensures.exact
    (and_left (nat_lt 0 n && nat_le end all) (are_apart earlier (range_with_len c.args.first n))
    (and_left (nat_lt 0 n) (nat_le end all) none))
    (offset_is old s c.at-at.result c.at-at.ensures)

pub returns-then-has_any-clause-exact : goal.returns-then-has_any-clause-exact
returns-then-has_any-clause-exact g c earlier named_from =
    let old = c.args.input.now.taken in
    let s = g.F.Files.state c.args.input.now.files.now in
    let new = c.number.new.input.taken in
    let u = g.F.Files.state c.number.new.input.files.now in
    let all = length c.args.marks.now in
    let n = c.in-Ok.n in
    let end = c.args.first + n in
    let within : end ≤ all = omega (arith, c.if-end-rows.false, c.len-rows.ensures) in
    let old_row = c.has_any.ensures.some c.if-has_any.true in
    unfit_field 4 c.args.group Length (fits_rows all earlier c.args.first) (places_of old s) (places_of new u) n
    c.at-at.result (follows old new s u c.in-Ok.ensures.frame.told) c.in-Ok.ensures.exact
    (and_right (nat_lt 0 n && nat_le end all) (are_apart earlier (range_with_len c.args.first n))
    (not_apart c.args.first n earlier c.args.marks.now named_from within old_row.0 old_row.1 old_row.2 old_row.3))
    (offset_is old s c.at-at.result c.at-at.ensures)

pub returns-clause-exact : goal.returns-clause-exact
returns-clause-exact g c earlier named_from =
    let b = places_of c.args.input.now.taken (g.F.Files.state c.args.input.now.files.now) in
    let m = places_of c.number.new.input.taken (g.F.Files.state c.number.new.input.files.now) in
    let all = length c.args.marks.now in
    let n = c.in-Ok.n in
    let end = c.args.first + n in
    let some : 0 < n = omega (arith, c.if-n-lt1.false) in
    let within : end ≤ all = omega (arith, c.if-end-rows.false, c.len-rows.ensures) in
    let apart = apart_if_none c.args.first n earlier c.args.marks.now named_from within
    (c.has_any.ensures.none c.if-has_any.false) in
    let fits = and_from (nat_lt 0 n && nat_le end all) (are_apart earlier (range_with_len c.args.first n))
    (and_from (nat_lt 0 n) (nat_le end all) (lt-ltb 0 n some) (le-leb end all within)) apart in
    (took_field 4 c.args.group Length (fits_rows all earlier c.args.first) b m n c.in-Ok.ensures.exact fits, apart)
