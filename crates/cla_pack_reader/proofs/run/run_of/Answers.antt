use Rattle.std.proofs.Common.{◌≡◌, ℕ, ◌+◌, length, sym, ap, subst, ◌∙◌, refl, arith}
use Rattle.cla_packed.specs.declared.fault.FieldName.TheVariants.{Length}
use Rattle.cla_packed.specs.Fields.{field_at}
use Rattle.cla_packed.specs.Runs.{end_of}
use Rattle.cla_pack_reader.specs.Places.{places_of, Took, Refused}
use Rattle.cla_pack_reader.specs.Runs.{fits_rows}
use Rattle.cla_pack_reader.proofs.RunLaws.{gap_over, gap_is, gap_ends, gap_refused, gap_apart, named_behind}
use Rattle.cla_pack_reader.proofs.RunLaws.{length_refused, run_reads}
use Rattle.cla_pack_reader.proofs.Steps.{follows, offset_is}
use Rattle.cla_pack_reader.proofs.run.run_of.Goals as goal

pub returns-in-Err-clause-exact : goal.returns-in-Err-clause-exact
returns-in-Err-clause-exact g c earlier so_far st =
    let b = places_of c.args.input.now.taken (g.F.Files.state c.args.input.now.files.now) in
    gap_ends (length c.args.marks.now) c.args.group earlier so_far b b b c.in-Err.fault c.in-Err.ensures.exact

pub returns-then-first-rows-clause-exact : goal.returns-then-first-rows-clause-exact
returns-then-first-rows-clause-exact g c earlier so_far st =
    let old = c.args.input.now.taken in
    let s = g.F.Files.state c.args.input.now.files.now in
    let new = c.number.new.input.taken in
    let u = g.F.Files.state c.number.new.input.files.now in
    let all = length c.args.marks.now in
    let gap = c.in-Ok.gap in
    let first = c.args.walk.next + gap in
    let first_is : first ≡ end_of 0 so_far + gap = ap (λ (m : ℕ). m + gap) (st.state.next ∙ st.end_is) in
    gap_refused all c.args.group earlier so_far (places_of old s) (places_of new u) (places_of new u) gap
    (follows old new s u c.in-Ok.ensures.frame.told) c.in-Ok.ensures.exact c.at-at.result
    (offset_is old s c.at-at.result c.at-at.ensures)
    (gap_over all earlier so_far gap first first_is (omega (arith, c.if-first-rows.true, c.len-rows.ensures)))

pub returns-then-not-fits_gap-clause-exact : goal.returns-then-not-fits_gap-clause-exact
returns-then-not-fits_gap-clause-exact g c earlier so_far st =
    let old = c.args.input.now.taken in
    let s = g.F.Files.state c.args.input.now.files.now in
    let new = c.number.new.input.taken in
    let u = g.F.Files.state c.number.new.input.files.now in
    let all = length c.args.marks.now in
    let gap = c.in-Ok.gap in
    let first = c.args.walk.next + gap in
    let first_is : first ≡ end_of 0 so_far + gap = ap (λ (m : ℕ). m + gap) (st.state.next ∙ st.end_is) in
    let is = gap_is all earlier so_far gap first first_is c.args.walk.started c.args.floor
    (omega (arith, c.if-first-rows.false, c.len-rows.ensures)) (st.state.started ∙ st.some_is) st.state.floor_is in
    gap_refused all c.args.group earlier so_far (places_of old s) (places_of new u) (places_of new u) gap
    (follows old new s u c.in-Ok.ensures.frame.told) c.in-Ok.ensures.exact c.at-at.result
    (offset_is old s c.at-at.result c.at-at.ensures) (is ∙ sym c.fits_gap.ensures ∙ c.if-not-fits_gap.true)

pub returns-in-Err-length_of-clause-exact : goal.returns-in-Err-length_of-clause-exact
returns-in-Err-length_of-clause-exact g c earlier so_far st =
    let old = c.args.input.now.taken in
    let s = g.F.Files.state c.args.input.now.files.now in
    let new = c.number.new.input.taken in
    let u = g.F.Files.state c.number.new.input.files.now in
    let m = places_of new u in
    let all = length c.args.marks.now in
    let gap = c.in-Ok.gap in
    let first = c.args.walk.next + gap in
    let first_is : first ≡ end_of 0 so_far + gap = ap (λ (m : ℕ). m + gap) (st.state.next ∙ st.end_is) in
    let is = gap_is all earlier so_far gap first first_is c.args.walk.started c.args.floor
    (omega (arith, c.if-first-rows.false, c.len-rows.ensures)) (st.state.started ∙ st.some_is) st.state.floor_is in
    let named_from = named_behind earlier so_far c.args.marks.now c.args.walk c.args.floor st first (omega arith) in
    let bad = subst (λ (f : ℕ). Refused m (field_at 4 (fits_rows all earlier f) c.args.group Length)
    c.in-Err-length_of.fault) first_is (c.in-Err-length_of.ensures.exact earlier named_from) in
    length_refused all c.args.group earlier so_far (places_of old s) m m gap
    (follows old new s u c.in-Ok.ensures.frame.told) c.in-Ok.ensures.exact c.in-Err-length_of.fault
    (is ∙ sym c.fits_gap.ensures ∙ c.if-not-fits_gap.false) bad

pub returns-in-Ok-length_of-clause-exact : goal.returns-in-Ok-length_of-clause-exact
returns-in-Ok-length_of-clause-exact g c earlier so_far st =
    let old = c.args.input.now.taken in
    let s = g.F.Files.state c.args.input.now.files.now in
    let new = c.number.new.input.taken in
    let u = g.F.Files.state c.number.new.input.files.now in
    let m = places_of new u in
    let r = places_of c.length_of.new.input.taken (g.F.Files.state c.length_of.new.input.files.now) in
    let all = length c.args.marks.now in
    let gap = c.in-Ok.gap in
    let n = c.in-Ok-length_of.n in
    let first = c.args.walk.next + gap in
    let first_is : first ≡ end_of 0 so_far + gap = ap (λ (m : ℕ). m + gap) (st.state.next ∙ st.end_is) in
    let is = gap_is all earlier so_far gap first first_is c.args.walk.started c.args.floor
    (omega (arith, c.if-first-rows.false, c.len-rows.ensures)) (st.state.started ∙ st.some_is) st.state.floor_is in
    let fits = sym c.fits_gap.ensures ∙ c.if-not-fits_gap.false in
    let named_from = named_behind earlier so_far c.args.marks.now c.args.walk c.args.floor st first (omega arith) in
    let took = c.in-Ok-length_of.ensures.exact earlier named_from in
    let good = subst (λ (f : ℕ). Took m r (field_at 4 (fits_rows all earlier f) c.args.group Length) n) first_is
    took.0 in (
      (gap, n),
      run_reads all c.args.group earlier so_far (places_of old s) m r gap
          (follows old new s u c.in-Ok.ensures.frame.told) c.in-Ok.ensures.exact n (is ∙ fits) good,
      record {
        key = refl;
        begin = first_is;
        end = refl;
        gap = gap_apart so_far gap c.args.walk.started c.args.floor first (st.state.started ∙ st.some_is) fits;
        apart = took.1;
      },
    )
