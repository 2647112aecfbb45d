use Rattle.std.proofs.Common.{◌++◌, length, sym, ◌∙◌}
use Rattle.cla_packed.specs.Offsets.{joined}
use Rattle.cla_pack_reader.specs.Places.{places_of}
use Rattle.cla_pack_reader.proofs.RowLaws.{row_ends, row_reads, row_over, row_unfit}
use Rattle.cla_pack_reader.proofs.Steps.{follows, offset_is}
use Rattle.cla_pack_reader.proofs.segment.offset_of.Goals as goal

pub returns-in-Err-clause-exact : goal.returns-in-Err-clause-exact
returns-in-Err-clause-exact g c size earlier before so_far base_is len_is st =
    let b = places_of c.args.input.now.taken (g.F.Files.state c.args.input.now.files.now) in
    row_ends size (length c.args.marks.now) c.args.group earlier before so_far b b c.in-Err.fault c.in-Err.ensures.exact

pub returns-then-offset-rows-clause-exact : goal.returns-then-offset-rows-clause-exact
returns-then-offset-rows-clause-exact g c size earlier before so_far base_is len_is st =
    let old = c.args.input.now.taken in
    let s = g.F.Files.state c.args.input.now.files.now in
    let new = c.number.new.input.taken in
    let u = g.F.Files.state c.number.new.input.files.now in
    row_over size (length c.args.marks.now) c.args.group earlier before so_far (places_of old s) (places_of new u)
    c.in-Ok.offset c.args.base c.args.rows base_is len_is c.in-Ok.ensures.exact c.at-at.result
    (follows old new s u c.in-Ok.ensures.frame.told) (offset_is old s c.at-at.result c.at-at.ensures)
    c.if-offset-rows.true

pub returns-then-not-fits_row-clause-exact : goal.returns-then-not-fits_row-clause-exact
returns-then-not-fits_row-clause-exact g c size earlier before so_far base_is len_is st =
    let old = c.args.input.now.taken in
    let s = g.F.Files.state c.args.input.now.files.now in
    let new = c.number.new.input.taken in
    let u = g.F.Files.state c.number.new.input.files.now in
    row_unfit size (length c.args.marks.now) c.args.group earlier before so_far (places_of old s) (places_of new u)
    c.in-Ok.offset c.args.base c.args.rows base_is len_is c.in-Ok.ensures.exact c.at-at.result
    (follows old new s u c.in-Ok.ensures.frame.told) (offset_is old s c.at-at.result c.at-at.ensures)
    (sym (c.fits_row.ensures earlier (joined before ++ so_far) st) ∙ c.if-not-fits_row.true)

pub returns-clause-exact : goal.returns-clause-exact
returns-clause-exact g c size earlier before so_far base_is len_is st =
    let b = places_of c.args.input.now.taken (g.F.Files.state c.args.input.now.files.now) in
    let a = places_of c.number.new.input.taken (g.F.Files.state c.number.new.input.files.now) in
    let fits = sym (c.fits_row.ensures earlier (joined before ++ so_far) st) ∙ c.if-not-fits_row.false in (
      row_reads size (length c.args.marks.now) c.args.group earlier before so_far b a c.in-Ok.offset c.args.base
          c.args.rows base_is len_is c.in-Ok.ensures.exact c.if-offset-rows.false fits,
      fits,
    )
