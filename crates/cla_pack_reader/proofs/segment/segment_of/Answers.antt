use Rattle.std.proofs.Common.{◌+◌, length, sym, ◌∙◌, arith}
use Rattle.std.specs.Prelude.{nat_lt, nat_le, ◌||◌}
use Rattle.std.proofs.lemmas.Bool.{lt-leb, and_left}
use Rattle.cla_packed.specs.Offsets.{joined, segment_rows}
use Rattle.cla_pack_reader.specs.Places.{places_of}
use Rattle.cla_pack_reader.proofs.RowLaws.{at_count, no_count, segment_ends, segment_refused, segment_gives}
use Rattle.cla_pack_reader.proofs.Steps.{follows, offset_is}
use Rattle.cla_pack_reader.proofs.segment.segment_of.Goals as goal

pub returns-in-Err-clause-exact : goal.returns-in-Err-clause-exact
returns-in-Err-clause-exact g c size left earlier before base_is len_is last_is st =
    let b = places_of c.args.input.now.taken (g.F.Files.state c.args.input.now.files.now) in
    segment_ends size (length c.args.marks.now) c.args.group earlier left before b b b c.in-Err.fault
    c.in-Err.ensures.exact

pub returns-then-n-rows-clause-exact : goal.returns-then-n-rows-clause-exact
returns-then-n-rows-clause-exact g c size left earlier before base_is len_is last_is st =
    let old = c.args.input.now.taken in
    let s = g.F.Files.state c.args.input.now.files.now in
    let new = c.number.new.input.taken in
    let u = g.F.Files.state c.number.new.input.files.now in
    let all = length c.args.marks.now in
    let n = c.in-Ok.n in
    let len = segment_rows size all (length before) in
    segment_refused size all c.args.group earlier left before (places_of old s) (places_of new u) (places_of new u) n
    (follows old new s u c.in-Ok.ensures.frame.told) c.in-Ok.ensures.exact c.at-at.result
    (offset_is old s c.at-at.result c.at-at.ensures)
    (and_left (nat_le n len) (nat_lt 0 left || nat_lt 0 (length (joined before) + n))
    (lt-leb n len (omega (arith, len_is, c.if-n-rows.true))))

pub returns-then-is_empty-clause-exact : goal.returns-then-is_empty-clause-exact
returns-then-is_empty-clause-exact g c size left earlier before base_is len_is last_is st =
    let old = c.args.input.now.taken in
    let s = g.F.Files.state c.args.input.now.files.now in
    let new = c.number.new.input.taken in
    let u = g.F.Files.state c.number.new.input.files.now in
    let all = length c.args.marks.now in
    let none = sym c.is_empty.ensures ∙ c.if-is_empty.true in
    segment_refused size all c.args.group earlier left before (places_of old s) (places_of new u) (places_of new u)
    c.in-Ok.n (follows old new s u c.in-Ok.ensures.frame.told) c.in-Ok.ensures.exact c.at-at.result
    (offset_is old s c.at-at.result c.at-at.ensures)
    (no_count size all left before c.in-Ok.n c.args.last c.args.walk.started last_is st.state.started none)

pub returns-clause-exact : goal.returns-clause-exact
returns-clause-exact g c size left earlier before base_is len_is last_is st =
    let old = c.args.input.now.taken in
    let s = g.F.Files.state c.args.input.now.files.now in
    let new = c.number.new.input.taken in
    let u = g.F.Files.state c.number.new.input.files.now in
    let r = places_of c.offsets_of.new.input.taken (g.F.Files.state c.offsets_of.new.input.files.now) in
    let all = length c.args.marks.now in
    let some = sym c.is_empty.ensures ∙ c.if-is_empty.false in
    segment_gives size all c.args.group earlier left before (places_of old s) (places_of new u) r c.in-Ok.n
    (follows old new s u c.in-Ok.ensures.frame.told) c.in-Ok.ensures.exact (joined before)
    c.offsets_of.new.marks c.offsets_of.new.places.items c.args.floor c.offsets_of.result
    (at_count size all left before c.args.rows c.in-Ok.n c.args.last c.args.walk.started len_is last_is st.state.started
    c.if-n-rows.false some) (c.offsets_of.ensures.exact size earlier before base_is len_is st)
