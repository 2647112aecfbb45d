use Rattle.std.proofs.Common.{◌≡◌, ℕ, ◌≤◌, [], length, sym, subst, arith}
use Rattle.std.proofs.Math.Nat.{mul-le-mul_left}
use Rattle.cla_layout.specs.declared.kind.Kind.{Kind}
use Rattle.cla_coded.specs.AnyGroups.{any_codes, any_dictionary, any_form}
use Rattle.cla_packed.specs.declared.fault.FieldName.TheVariants.{Column}
use Rattle.cla_packed.specs.Fields.{field_at, list_at}
use Rattle.cla_packed.specs.Files.{columns_of, fits_column, group_at}
use Rattle.cla_pack_reader.specs.Kept.{body_kept}
use Rattle.cla_pack_reader.specs.Marks.{AreMarks}
use Rattle.cla_pack_reader.specs.Places.{places_of, Took, Refused}
use Rattle.cla_pack_reader.proofs.GroupForms.{kind_is, its_form}
use Rattle.cla_pack_reader.proofs.GroupLaws.{no_kind, no_width, no_columns, no_body, group_took}
use Rattle.cla_pack_reader.proofs.Steps.{follows}
use Rattle.cla_pack_reader.proofs.part.read_part.Goals as goal

pub read_group-requires-clause-few : goal.read_group-requires-clause-few
read_group-requires-clause-few g c =
    let narrow : c.in-Ok-width_of.width ≤ c.args.header.cols = omega (arith, c.in-Ok-width_of.ensures.room) in
    let less = mul-le-mul_left c.args.header.rows narrow in
    omega (arith, less, c.requires.few_cells)

pub returns-in-Err-clause-exact : goal.returns-in-Err-clause-exact
returns-in-Err-clause-exact g c before is taken =
    let t0 = c.args.input.now.taken in
    let s0 = g.F.Files.state c.args.input.now.files.now in
    no_kind g.N.Number.BITS c.args.header.rows c.args.header.cols c.args.left c.args.group before is (places_of t0 s0)
    c.in-Err.fault c.in-Err.ensures.exact

pub returns-in-Err-width_of-clause-exact : goal.returns-in-Err-width_of-clause-exact
returns-in-Err-width_of-clause-exact g c before is taken =
    let t0 = c.args.input.now.taken in
    let s0 = g.F.Files.state c.args.input.now.files.now in
    let t1 = c.read_kind.new.input.taken in
    let s1 = g.F.Files.state c.read_kind.new.input.files.now in
    no_width g.N.Number.BITS c.args.header.rows c.args.header.cols c.args.left c.args.group before is (places_of t0 s0)
    (places_of t1 s1) c.in-Ok.kind (follows t0 t1 s0 s1 c.in-Ok.ensures.frame.told) c.in-Ok.ensures.exact
    c.in-Err-width_of.fault (c.in-Err-width_of.ensures.exact (columns_of before) taken.count)

pub returns-in-Err-columns_of-clause-exact : goal.returns-in-Err-columns_of-clause-exact
returns-in-Err-columns_of-clause-exact g c before is taken =
    let t0 = c.args.input.now.taken in
    let s0 = g.F.Files.state c.args.input.now.files.now in
    let t1 = c.read_kind.new.input.taken in
    let s1 = g.F.Files.state c.read_kind.new.input.files.now in
    let t2 = c.width_of.new.input.taken in
    let s2 = g.F.Files.state c.width_of.new.input.files.now in
    let cs = columns_of before in
    let marks = c.args.taken.now.marks in
    let size : length marks ≡ c.args.header.cols = c.requires.places in
    let are : AreMarks (length marks) cs marks = subst (λ (n : ℕ). AreMarks n cs marks) (sym size) taken.marks in
    let bad = subst (λ (n : ℕ). Refused (places_of t2 s2)
    (list_at (λ left so_far. field_at 4 (fits_column n cs so_far) c.args.group Column) c.in-Ok-width_of.width [])
    c.in-Err-columns_of.fault) size (c.in-Err-columns_of.ensures.exact cs are taken.least) in
    no_columns g.N.Number.BITS c.args.header.rows c.args.header.cols c.args.left c.args.group before is
    (places_of t0 s0) (places_of t1 s1) c.in-Ok.kind (follows t0 t1 s0 s1 c.in-Ok.ensures.frame.told)
    c.in-Ok.ensures.exact (places_of t2 s2) c.in-Ok-width_of.width
    (follows t1 t2 s1 s2 c.in-Ok-width_of.ensures.frame.told) (c.in-Ok-width_of.ensures.exact cs taken.count)
    c.in-Err-columns_of.fault bad

pub returns-in-Err-read_group-clause-exact : goal.returns-in-Err-read_group-clause-exact
returns-in-Err-read_group-clause-exact g c before is taken =
    let t0 = c.args.input.now.taken in
    let s0 = g.F.Files.state c.args.input.now.files.now in
    let t1 = c.read_kind.new.input.taken in
    let s1 = g.F.Files.state c.read_kind.new.input.files.now in
    let t2 = c.width_of.new.input.taken in
    let s2 = g.F.Files.state c.width_of.new.input.files.now in
    let t3 = c.columns_of.new.input.taken in
    let s3 = g.F.Files.state c.columns_of.new.input.files.now in
    let cs = columns_of before in
    let columns = c.in-Ok-columns_of.columns.items in
    let marks = c.args.taken.now.marks in
    let size : length marks ≡ c.args.header.cols = c.requires.places in
    let are : AreMarks (length marks) cs marks = subst (λ (n : ℕ). AreMarks n cs marks) (sym size) taken.marks in
    let took = subst (λ (n : ℕ). Took (places_of t2 s2) (places_of t3 s3)
    (list_at (λ left so_far. field_at 4 (fits_column n cs so_far) c.args.group Column) c.in-Ok-width_of.width [])
    columns) size (c.in-Ok-columns_of.ensures.exact cs are taken.least) in
    no_body g.N.Number.BITS c.args.header.rows c.args.header.cols c.args.left c.args.group before is
    (places_of t0 s0) (places_of t1 s1) c.in-Ok.kind (follows t0 t1 s0 s1 c.in-Ok.ensures.frame.told)
    c.in-Ok.ensures.exact (places_of t2 s2) c.in-Ok-width_of.width
    (follows t1 t2 s1 s2 c.in-Ok-width_of.ensures.frame.told) (c.in-Ok-width_of.ensures.exact cs taken.count)
    (places_of t3 s3) columns (follows t2 t3 s2 s3 c.in-Ok-columns_of.ensures.frame.told) took
    c.in-Ok-columns_of.ensures.count c.in-Err-read_group.fault c.in-Err-read_group.ensures.exact

pub returns-in-Ok-read_group-clause-form : goal.returns-in-Ok-read_group-clause-form
returns-in-Ok-read_group-clause-form g c =
    let group = c.in-Ok-read_group.group in
    its_form c.in-Ok.kind (any_codes group) (any_dictionary group) (any_form group) c.in-Ok-read_group.ensures.form

pub returns-in-Ok-read_group-clause-exact : goal.returns-in-Ok-read_group-clause-exact
returns-in-Ok-read_group-clause-exact g c before is taken =
    let t0 = c.args.input.now.taken in
    let s0 = g.F.Files.state c.args.input.now.files.now in
    let t1 = c.read_kind.new.input.taken in
    let s1 = g.F.Files.state c.read_kind.new.input.files.now in
    let t2 = c.width_of.new.input.taken in
    let s2 = g.F.Files.state c.width_of.new.input.files.now in
    let t3 = c.columns_of.new.input.taken in
    let s3 = g.F.Files.state c.columns_of.new.input.files.now in
    let t4 = c.read_group.new.input.taken in
    let s4 = g.F.Files.state c.read_group.new.input.files.now in
    let cs = columns_of before in
    let columns = c.in-Ok-columns_of.columns.items in
    let group = c.in-Ok-read_group.group in
    let marks = c.args.taken.now.marks in
    let size : length marks ≡ c.args.header.cols = c.requires.places in
    let are : AreMarks (length marks) cs marks = subst (λ (n : ℕ). AreMarks n cs marks) (sym size) taken.marks in
    let took = subst (λ (n : ℕ). Took (places_of t2 s2) (places_of t3 s3)
    (list_at (λ left so_far. field_at 4 (fits_column n cs so_far) c.args.group Column) c.in-Ok-width_of.width [])
    columns) size (c.in-Ok-columns_of.ensures.exact cs are taken.least) in
    let all = group_took g.N.Number.BITS c.args.header.rows c.args.header.cols c.args.left c.args.group before is
    (places_of t0 s0) (places_of t1 s1) c.in-Ok.kind (follows t0 t1 s0 s1 c.in-Ok.ensures.frame.told)
    c.in-Ok.ensures.exact (places_of t2 s2) c.in-Ok-width_of.width
    (follows t1 t2 s1 s2 c.in-Ok-width_of.ensures.frame.told) (c.in-Ok-width_of.ensures.exact cs taken.count)
    (places_of t3 s3) columns (follows t2 t3 s2 s3 c.in-Ok-columns_of.ensures.frame.told) took
    c.in-Ok-columns_of.ensures.count (places_of t4 s4) (body_kept group) c.in-Ok-read_group.ensures.exact in
    subst (λ (kind : Kind). Took (places_of t0 s0) (places_of t4 s4)
    (group_at 8 g.N.Number.BITS c.args.header.rows c.args.header.cols c.args.left before)
    (record { kind = kind; columns = columns; body = body_kept group }))
    (kind_is c.in-Ok.kind (any_codes group) (any_dictionary group) (any_form group) c.in-Ok-read_group.ensures.form)
    all
