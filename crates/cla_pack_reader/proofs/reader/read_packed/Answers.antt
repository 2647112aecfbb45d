use Rattle.std.proofs.Common.{ℕ, List, map, Ok, sym, subst, ◌∙◌, arith}
use Rattle.cla_io.specs.Lines.{ahead_of}
use Rattle.cla_io.specs.State.{left}
use Rattle.cla_packed.specs.Files.{PackedLayout}
use Rattle.cla_pack_reader.specs.Kept.{group_kept}
use Rattle.cla_pack_reader.specs.Reading.{IsEncodingWhereTold}
use Rattle.cla_pack_reader.proofs.FileLaws.{no_header, no_groups_read, layout_from, file_good, file_gives}
use Rattle.cla_pack_reader.proofs.FileLaws.{file_length, encodes_told}
use Rattle.cla_pack_reader.proofs.KeptLaws.{table_canonical, table_encoded, table_length}
use Rattle.cla_pack_reader.proofs.Steps.{follows}
use Rattle.cla_pack_reader.proofs.reader.read_packed.Goals as goal

pub read_end-requires : goal.read_end-requires
read_end-requires g c =
    let t0 = c.args.input.now.taken in
    let s0 = g.F.Files.state c.args.input.now.files.now in
    let t1 = c.read_header.new.input.taken in
    let s1 = g.F.Files.state c.read_header.new.input.files.now in
    let t2 = c.read_parts.new.input.taken in
    let s2 = g.F.Files.state c.read_parts.new.input.files.now in
    let bits = g.N.Number.BITS in
    let good = file_good bits t0 t1 s0 s1 c.in-Ok.header c.requires.nothing_taken (c.in-Ok.ensures.exact bits)
    (follows t0 t1 s0 s1 c.in-Ok.ensures.frame.told) t2 s2 (map group_kept c.in-Ok-read_parts.parts.items)
    c.in-Ok-read_parts.ensures.exact in
    record { near = good.2 }

pub new-requires : goal.new-requires
new-requires g c =
    let t0 = c.args.input.now.taken in
    let s0 = g.F.Files.state c.args.input.now.files.now in
    let t1 = c.read_header.new.input.taken in
    let s1 = g.F.Files.state c.read_header.new.input.files.now in
    let t2 = c.read_parts.new.input.taken in
    let s2 = g.F.Files.state c.read_parts.new.input.files.now in
    let bits = g.N.Number.BITS in
    let header = c.in-Ok.header in
    let parts = c.in-Ok-read_parts.parts.items in
    let good = file_good bits t0 t1 s0 s1 header c.requires.nothing_taken (c.in-Ok.ensures.exact bits)
    (follows t0 t1 s0 s1 c.in-Ok.ensures.frame.told) t2 s2 (map group_kept parts)
    c.in-Ok-read_parts.ensures.exact in
    (table_canonical header.rows header.cols parts bits good.0).whole

pub returns-in-Err-clause-exact : goal.returns-in-Err-clause-exact
returns-in-Err-clause-exact g c =
    let t0 = c.args.input.now.taken in
    let s0 = g.F.Files.state c.args.input.now.files.now in
    let t1 = c.read_header.new.input.taken in
    let s1 = g.F.Files.state c.read_header.new.input.files.now in
    let bits = g.N.Number.BITS in
    no_header _ bits t0 t1 s0 s1 c.in-Err.fault c.requires.nothing_taken (c.in-Err.ensures.exact bits)

pub returns-in-Err-read_parts-clause-exact : goal.returns-in-Err-read_parts-clause-exact
returns-in-Err-read_parts-clause-exact g c =
    let t0 = c.args.input.now.taken in
    let s0 = g.F.Files.state c.args.input.now.files.now in
    let t1 = c.read_header.new.input.taken in
    let s1 = g.F.Files.state c.read_header.new.input.files.now in
    let bits = g.N.Number.BITS in
    no_groups_read bits t0 t1 s0 s1 c.in-Ok.header c.requires.nothing_taken (c.in-Ok.ensures.exact bits)
    (follows t0 t1 s0 s1 c.in-Ok.ensures.frame.told) _ c.in-Err-read_parts.fault c.in-Err-read_parts.ensures.exact

pub returns-in-Err-read_end-clause-exact : goal.returns-in-Err-read_end-clause-exact
returns-in-Err-read_end-clause-exact g c =
    let t0 = c.args.input.now.taken in
    let s0 = g.F.Files.state c.args.input.now.files.now in
    let t1 = c.read_header.new.input.taken in
    let s1 = g.F.Files.state c.read_header.new.input.files.now in
    let t2 = c.read_parts.new.input.taken in
    let s2 = g.F.Files.state c.read_parts.new.input.files.now in
    let bits = g.N.Number.BITS in
    let f = follows t0 t1 s0 s1 c.in-Ok.ensures.frame.told in
    let h = follows t1 t2 s1 s2 c.in-Ok-read_parts.ensures.frame.told in
    let gs = map group_kept c.in-Ok-read_parts.parts.items in
    let exact = c.in-Ok.ensures.exact bits in
    let layout = layout_from c.in-Ok.header gs in
    file_gives bits t0 t1 s0 s1 c.in-Ok.header c.requires.nothing_taken exact f t2 s2 gs
    c.in-Ok-read_parts.ensures.exact h _ _ (c.in-Err-read_end.ensures.exact layout)

pub returns-in-Ok-read_end-clause-canonical : goal.returns-in-Ok-read_end-clause-canonical
returns-in-Ok-read_end-clause-canonical g c =
    let t0 = c.args.input.now.taken in
    let s0 = g.F.Files.state c.args.input.now.files.now in
    let t1 = c.read_header.new.input.taken in
    let s1 = g.F.Files.state c.read_header.new.input.files.now in
    let t2 = c.read_parts.new.input.taken in
    let s2 = g.F.Files.state c.read_parts.new.input.files.now in
    let bits = g.N.Number.BITS in
    let header = c.in-Ok.header in
    let parts = c.in-Ok-read_parts.parts.items in
    let good = file_good bits t0 t1 s0 s1 header c.requires.nothing_taken (c.in-Ok.ensures.exact bits)
    (follows t0 t1 s0 s1 c.in-Ok.ensures.frame.told) t2 s2 (map group_kept parts)
    c.in-Ok-read_parts.ensures.exact in
    rw c.new.ensures (table_canonical header.rows header.cols parts bits good.0)

pub returns-in-Ok-read_end-clause-count : goal.returns-in-Ok-read_end-clause-count
returns-in-Ok-read_end-clause-count g c =
    let t0 = c.args.input.now.taken in
    let s0 = g.F.Files.state c.args.input.now.files.now in
    let t1 = c.read_header.new.input.taken in
    let s1 = g.F.Files.state c.read_header.new.input.files.now in
    let t2 = c.read_parts.new.input.taken in
    let s2 = g.F.Files.state c.read_parts.new.input.files.now in
    let bits = g.N.Number.BITS in
    let header = c.in-Ok.header in
    let parts = c.in-Ok-read_parts.parts.items in
    let good = file_good bits t0 t1 s0 s1 header c.requires.nothing_taken (c.in-Ok.ensures.exact bits)
    (follows t0 t1 s0 s1 c.in-Ok.ensures.frame.told) t2 s2 (map group_kept parts)
    c.in-Ok-read_parts.ensures.exact in
    c.at-bytes.ensures ∙ good.1 ∙ sym (table_length header.rows header.cols parts c.new.result c.new.ensures)

pub returns-in-Ok-read_end-clause-in_limit : goal.returns-in-Ok-read_end-clause-in_limit
returns-in-Ok-read_end-clause-in_limit g c =
    let t0 = c.args.input.now.taken in
    let s0 = g.F.Files.state c.args.input.now.files.now in
    let t1 = c.read_header.new.input.taken in
    let s1 = g.F.Files.state c.read_header.new.input.files.now in
    let t2 = c.read_parts.new.input.taken in
    let s2 = g.F.Files.state c.read_parts.new.input.files.now in
    let bits = g.N.Number.BITS in
    let parts = c.in-Ok-read_parts.parts.items in
    let good = file_good bits t0 t1 s0 s1 c.in-Ok.header c.requires.nothing_taken (c.in-Ok.ensures.exact bits)
    (follows t0 t1 s0 s1 c.in-Ok.ensures.frame.told) t2 s2 (map group_kept parts)
    c.in-Ok-read_parts.ensures.exact in
    omega (arith, c.at-bytes.ensures, good.2, good.3)

pub returns-in-Ok-read_end-clause-exact : goal.returns-in-Ok-read_end-clause-exact
returns-in-Ok-read_end-clause-exact g c =
    let t0 = c.args.input.now.taken in
    let s0 = g.F.Files.state c.args.input.now.files.now in
    let t1 = c.read_header.new.input.taken in
    let s1 = g.F.Files.state c.read_header.new.input.files.now in
    let t2 = c.read_parts.new.input.taken in
    let s2 = g.F.Files.state c.read_parts.new.input.files.now in
    let bits = g.N.Number.BITS in
    let f = follows t0 t1 s0 s1 c.in-Ok.ensures.frame.told in
    let h = follows t1 t2 s1 s2 c.in-Ok-read_parts.ensures.frame.told in
    let gs = map group_kept c.in-Ok-read_parts.parts.items in
    let exact = c.in-Ok.ensures.exact bits in
    let layout = layout_from c.in-Ok.header gs in
    rw c.new.ensures (file_gives bits t0 t1 s0 s1 c.in-Ok.header c.requires.nothing_taken exact f t2 s2 gs
    c.in-Ok-read_parts.ensures.exact h _ _ (c.in-Ok-read_end.ensures.exact layout))

pub returns-in-Ok-read_end-clause-encodes : goal.returns-in-Ok-read_end-clause-encodes
returns-in-Ok-read_end-clause-encodes g c =
    let t0 = c.args.input.now.taken in
    let s0 = g.F.Files.state c.args.input.now.files.now in
    let t1 = c.read_header.new.input.taken in
    let s1 = g.F.Files.state c.read_header.new.input.files.now in
    let t2 = c.read_parts.new.input.taken in
    let s2 = g.F.Files.state c.read_parts.new.input.files.now in
    let bits = g.N.Number.BITS in
    let header = c.in-Ok.header in
    let f = follows t0 t1 s0 s1 c.in-Ok.ensures.frame.told in
    let h = follows t1 t2 s1 s2 c.in-Ok-read_parts.ensures.frame.told in
    let parts = c.in-Ok-read_parts.parts.items in
    let gs = map group_kept parts in
    let exact = c.in-Ok.ensures.exact bits in
    let layout = layout_from header gs in
    let bytes = ahead_of t0 (left s0) in
    let told = file_gives bits t0 t1 s0 s1 header c.requires.nothing_taken exact f t2 s2 gs
    c.in-Ok-read_parts.ensures.exact h (λ (x : PackedLayout). x) (Ok layout) (c.in-Ok-read_end.ensures.exact layout) in
    rw c.new.ensures (subst (λ (l : List ℕ). IsEncodingWhereTold bytes l)
    (sym (table_encoded header.rows header.cols parts)) (encodes_told bits t0.limit layout bytes told))

pub returns-in-Ok-read_end-clause-whole : goal.returns-in-Ok-read_end-clause-whole
returns-in-Ok-read_end-clause-whole g c =
    let t0 = c.args.input.now.taken in
    let s0 = g.F.Files.state c.args.input.now.files.now in
    let t1 = c.read_header.new.input.taken in
    let s1 = g.F.Files.state c.read_header.new.input.files.now in
    let t2 = c.read_parts.new.input.taken in
    let s2 = g.F.Files.state c.read_parts.new.input.files.now in
    let bits = g.N.Number.BITS in
    let f = follows t0 t1 s0 s1 c.in-Ok.ensures.frame.told in
    let h = follows t1 t2 s1 s2 c.in-Ok-read_parts.ensures.frame.told in
    let gs = map group_kept c.in-Ok-read_parts.parts.items in
    let exact = c.in-Ok.ensures.exact bits in
    let layout = layout_from c.in-Ok.header gs in
    rw c.at-bytes.ensures (file_length bits t0 t1 s0 s1 c.in-Ok.header c.requires.nothing_taken exact f t2 s2 gs
    c.in-Ok-read_parts.ensures.exact h (c.in-Ok-read_end.ensures.exact layout))
