use Rattle.std.proofs.Common.{◌≡◌, ◌*◌, false, Bool, cond, ℕ, ℤ, [], ◌∷◌, length, map, ap, subst, sym, ◌∙◌, arith, Some}
use Rattle.std.proofs.Common.{None}
use Rattle.cla_num.specs.Cells.{cell_value}
use Rattle.cla_num.specs.declared.fault.OpFault.{OpFault}
use Rattle.cla_num.specs.Fault.{fault_of}
use Rattle.cla_layout.specs.Groups.{at}
use Rattle.cla_layout.specs.Layouts.{entry_as}
use Rattle.cla_layout.specs.Values.{values_of}
use Rattle.cla_coded.specs.Parts.{parts_of}
use Rattle.cla_coded.specs.Tables.{layout_of}
use Rattle.cla_meaning.specs.Chains.{integer_of}
use Rattle.cla_map.specs.declared.shape.Shape.{Shape}
use Rattle.cla_map.specs.Stops.{fault_of_misfit, place_in}
use Rattle.cla_map.specs.FirstStops.{mapped_part, Tells, StopsInParts}
use Rattle.cla_map.specs.Answers.{IsMappedTo}
use Rattle.cla_map.proofs.Results.{mapped_whole}
use Rattle.cla_map.proofs.Ends.{counts_are, last_ranged}
use Rattle.cla_map.proofs.RowEnds.{stop_of, last_of, row_stops, row_goes, row_mapped}
use Rattle.cla_map.proofs.chain.broadcast_row.Goals as goal

pub new-requires : goal.new-requires
new-requires g c =
    let m = c.args.m.now in
    let bits = g.N.Number.BITS in
    let row = map g.N.Number.value c.args.row.now in
    let f = λ (j : ℕ) (z : ℤ). cell_value c.args.op z (at row j) in
    let codes = g.G.Group.codes in
    let dictionary = g.G.Group.dictionary in
    let base = layout_of codes dictionary m in
    let old = parts_of codes dictionary m.parts in
    let last = last_of bits f in
    let parts : parts_of codes dictionary c.in-Ok.parts.items ≡ map (mapped_part last) old =
    c.in-Ok.ensures.done.values ∙ ap (λ ps. map (mapped_part last) (parts_of codes dictionary ps)) c.parts.ensures.parts
    in
    rw (c.base_of-shape.ensures, parts)
    (mapped_whole bits last base (λ j. last_ranged bits (f j ∷ [])) c.parts.ensures.whole)

pub returns-in-Some-clause-maps : goal.returns-in-Some-clause-maps
returns-in-Some-clause-maps g c =
    let m = c.args.m.now in
    let bits = g.N.Number.BITS in
    let row = map g.N.Number.value c.args.row.now in
    let f = λ (j : ℕ) (z : ℤ). cell_value c.args.op z (at row j) in
    let codes = g.G.Group.codes in
    let dictionary = g.G.Group.dictionary in
    let base = layout_of codes dictionary m in
    let old = parts_of codes dictionary m.parts in
    let misfit = c.in-Some.misfit in
    let done = rw (c.parts.ensures.parts, c.base_of-shape.ensures, c.in-Some.is, c.requires.plain) at
    c.in-Ok.ensures.done in
    subst (λ (b : Bool). fault_of bits (cond b m.cols m.rows) (cond b m.rows m.cols) (λ i j. f j (entry_as b base i j))
    ≡ Some (fault_of_misfit (cond b m.rows m.cols) misfit)) (sym c.requires.plain)
    (row_stops bits f base misfit c.parts.ensures.whole done.placed done.tells)
    ∙ ap (λ (e : OpFault). Some e) (ap (λ (n : ℕ). fault_of_misfit n misfit) (sym c.cols.ensures) ∙ sym c.fault.ensures)

pub returns-in-None-clause-maps : goal.returns-in-None-clause-maps
returns-in-None-clause-maps g c =
    let m = c.args.m.now in
    let bits = g.N.Number.BITS in
    let row = map g.N.Number.value c.args.row.now in
    let f = λ (j : ℕ) (z : ℤ). cell_value c.args.op z (at row j) in
    let codes = g.G.Group.codes in
    let dictionary = g.G.Group.dictionary in
    let base = layout_of codes dictionary m in
    let old = parts_of codes dictionary m.parts in
    let done = rw (c.parts.ensures.parts, c.base_of-shape.ensures, c.requires.plain) at c.in-Ok.ensures.done in
    let shape : Shape = record { rows = m.rows; cols = m.cols; flipped = false } in
    let tells : Tells (StopsInParts (stop_of bits f) (place_in shape) old (length old)) None =
    rw c.in-None.is at done.tells in
    let whole = c.parts.ensures.whole in
    let new = c.in-Ok.parts.items in
    rw (c.new.ensures, c.base_of-shape.ensures) (
      subst (λ (b : Bool). IsMappedTo codes dictionary (λ i j. integer_of (f j (entry_as b base i j)))
          (record { rows = m.rows; cols = m.cols; flipped = b; parts = m.parts })
          (record { rows = m.rows; cols = m.cols; flipped = b; parts = new }))
          (sym c.requires.plain) (row_mapped bits codes dictionary f m.rows m.cols m.parts new whole tells done.values),
      subst (λ (b : Bool). fault_of bits (cond b m.cols m.rows) (cond b m.rows m.cols)
          (λ i j. f j (entry_as b base i j)) ≡ None)
          (sym c.requires.plain) (row_goes bits f base whole tells),
      counts_are (values_of old) (values_of old * 1) c.in-Ok.first _ _ (omega arith) c.in-None.is done.counts,
    )
