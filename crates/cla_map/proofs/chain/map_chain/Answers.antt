use Rattle.std.proofs.Common.{◌≡◌, ℕ, length, map, refl, ap, sym, ◌∙◌, Some, None}
use Rattle.cla_num.specs.declared.fault.OpFault.{OpFault}
use Rattle.cla_coded.specs.Parts.{parts_of}
use Rattle.cla_coded.specs.Tables.{layout_of}
use Rattle.cla_map.specs.Steps.{step_cell}
use Rattle.cla_map.specs.Stops.{last_value, stop_from, fault_of_misfit, place_in}
use Rattle.cla_map.specs.FirstStops.{mapped_part, Tells, StopsInParts}
use Rattle.cla_map.proofs.Results.{mapped_whole}
use Rattle.cla_map.proofs.Ends.{chain_stops, chain_goes, chained, counts_are, last_ranged}
use Rattle.cla_map.proofs.chain.map_chain.Goals as goal

pub new-requires : goal.new-requires
new-requires g c =
    let m = c.args.m.now in
    let bits = g.N.Number.BITS in
    let fs = map (step_cell g.N.Number.value) c.args.steps.now in
    let old = parts_of g.G.Group.codes g.G.Group.dictionary m.parts in
    let done = c.in-Ok.ensures.done in
    let parts : parts_of g.G.Group.codes g.G.Group.dictionary c.in-Ok.parts.items
    ≡ map (mapped_part (λ j. last_value bits fs)) old =
    done.values ∙ ap (λ ps. map (mapped_part (λ j. last_value bits fs))
    (parts_of g.G.Group.codes g.G.Group.dictionary ps)) c.parts.ensures.parts in
    rw (c.base_of-shape.ensures, parts)
    (mapped_whole bits (λ j. last_value bits fs) (layout_of g.G.Group.codes g.G.Group.dictionary m)
    (λ j. last_ranged bits fs) c.parts.ensures.whole)

pub returns-in-Some-clause-maps : goal.returns-in-Some-clause-maps
returns-in-Some-clause-maps g c =
    let m = c.args.m.now in
    let base = layout_of g.G.Group.codes g.G.Group.dictionary m in
    let done = rw (c.parts.ensures.parts, c.base_of-shape.ensures, c.in-Some.is) at c.in-Ok.ensures.done in
    chain_stops g.N.Number.BITS (map (step_cell g.N.Number.value) c.args.steps.now) base m.flipped c.in-Some.misfit
    c.parts.ensures.whole done.placed done.tells
    ∙ ap (λ (f : OpFault). Some f) (ap (λ (n : ℕ). fault_of_misfit n c.in-Some.misfit) (sym c.cols.ensures)
    ∙ sym c.fault.ensures)

pub returns-in-None-clause-maps : goal.returns-in-None-clause-maps
returns-in-None-clause-maps g c =
    let m = c.args.m.now in
    let bits = g.N.Number.BITS in
    let fs = map (step_cell g.N.Number.value) c.args.steps.now in
    let base = layout_of g.G.Group.codes g.G.Group.dictionary m in
    let old = parts_of g.G.Group.codes g.G.Group.dictionary m.parts in
    let done = rw (c.parts.ensures.parts, c.base_of-shape.ensures) at c.in-Ok.ensures.done in
    let tells : Tells (StopsInParts (λ j. stop_from bits 0 fs)
    (place_in (record { rows = m.rows; cols = m.cols; flipped = m.flipped })) old (length old)) None =
    rw c.in-None.is at done.tells in
    rw (c.new.ensures, c.base_of-shape.ensures) (
      chained bits g.G.Group.codes g.G.Group.dictionary fs m c.in-Ok.parts.items c.parts.ensures.whole tells
          done.values,
      chain_goes bits fs base m.flipped c.parts.ensures.whole tells,
      counts_are _ _ c.in-Ok.first _ _ refl c.in-None.is done.counts,
    )
