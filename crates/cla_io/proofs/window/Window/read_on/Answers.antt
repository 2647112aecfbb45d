use Rattle.std.proofs.Common.{◌≡◌, ◌-◌, ◌+◌, ◌≤◌, ℕ, List, length, drop, length-take, length-drop, slice_range, arith}
use Rattle.std.proofs.Common.{ap, ◌∙◌}
use Rattle.std.proofs.lemmas.List.{with_items_is}
use borrow.Rule.Slice.PartMut.{put_mid}
use Rattle.cla_io.specs.Window.{items}
use Rattle.cla_io.proofs.NumberLaws.{grown, put_length, read_behind}
use Rattle.cla_io.proofs.window.Window.read_on.Goals as goal

pub returns-in-Ok-clause-content : goal.returns-in-Ok-clause-content
returns-in-Ok-clause-content g c =
    let old = g.F.Files.state c.args.files.now in
    let new = g.F.Files.state c.read.new.self in
    let w = c.move_to_front.new.self in
    let held = c.deref_mut.result.now in
    let into = c.read.new.into in
    let n = c.in-Ok.count in
    let reads = c.in-Ok.ensures.reads in
    let within : w.end ≤ length held = rw c.deref_mut.ensures.value w.within in
    let middle : slice_range held w.start w.end ≡ items c.args.self.now =
    rw c.deref_mut.ensures.value c.move_to_front.ensures.items in
    let room : length into ≡ length held - w.end = c.read.auto.into
    ∙ omega (arith, length-take (length held - w.end) (drop w.end held), length-drop w.end held) in
    let back = with_items_is w.bytes (put_mid w.end (length held - w.end) held into)
    (put_length held into w.end within room ∙ c.deref_mut.ensures.len) in
    read_behind old.told new.told old.reading new.reading (items c.args.self.now) (slice_range held w.start w.end) _
    into n
    c.read.ensures.frame.told middle
    (ap (λ (x : List ℕ). slice_range x w.start (w.end + n)) back
    ∙ grown held into w.start w.end (length held - w.end) n w.ordered within reads.0) reads.2
