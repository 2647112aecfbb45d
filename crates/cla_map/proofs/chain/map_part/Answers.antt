use Rattle.std.proofs.Common.{◌≡◌, ◌*◌, ℕ, ℤ, List, length, map, ap, subst, sym, ◌∙◌}
use Rattle.std.proofs.lemmas.List.{length-map}
use Rattle.cla_num.specs.Counts.{Counts}
use Rattle.cla_layout.specs.Tuples.{tuples_of}
use Rattle.cla_layout.proofs.Wholes.{same_width}
use Rattle.cla_coded.specs.Parts.{part_of}
use Rattle.cla_layout.specs.Layouts.{column_at}
use Rattle.cla_meaning.specs.Counts.{AreRaised}
use Rattle.cla_map.specs.FirstStops.{mapped_part}
use Rattle.cla_map.proofs.Results.{mapped_count, equal_parts}
use Rattle.cla_map.proofs.chain.map_part.Goals as goal

pub with_values-requires : goal.with_values-requires
with_values-requires g c =
    let tuples = g.G.Group.dictionary c.args.room.part.now.group in
    let columns = c.args.room.part.now.columns.items in
    let done = c.in_ok-first.ensures.done in
    let wide = same_width _ _ _ _ _ (g.met.G.Group.laws c.args.room.part.now.group) c.requires.shape.is.group in
    let h = λ (k : ℕ). g.M.Mapping.last c.args.mapping.now (column_at columns k) in
    let count : length c.map_tuples-found.new.values.items ≡ length tuples * length columns =
    sym (length-map c.map_tuples-found.new.values.items g.N.Number.value)
    ∙ ap (λ (xs : List ℤ). length xs) done.values
    ∙ mapped_count h (length columns) tuples (length tuples * length columns) in
    record { whole = count ∙ ap (λ (w : ℕ). length tuples * w) (sym wide) }

pub returns-clause-done : goal.returns-clause-done
returns-clause-done g c =
    let tuples = g.G.Group.dictionary c.args.room.part.now.group in
    let columns = c.args.room.part.now.columns.items in
    let part = part_of g.G.Group.codes g.G.Group.dictionary c.args.room.part.now in
    let last = g.M.Mapping.last c.args.mapping.now in
    let done = c.in_ok-first.ensures.done in
    let wide = same_width _ _ _ _ _ (g.met.G.Group.laws c.args.room.part.now.group) c.requires.shape.is.group in
    record {
      values = equal_parts _ (mapped_part last part) c.args.room.is.same c.in_ok-group.ensures.codes
          (c.in_ok-group.ensures.dictionary
          ∙ ap (λ (w : ℕ). tuples_of w (length tuples) (map g.N.Number.value c.map_tuples-found.new.values.items)) wide
          ∙ ap (tuples_of (length columns) (length tuples)) done.values);
      tells = done.tells;
      placed = done.placed;
      counts = subst (λ (m : Counts). AreRaised
          (length tuples * length columns * g.M.Mapping.steps c.args.mapping.now) c.in_ok-first.first m
          c.map_tuples-found.new.meter)
          c.replace-counts.ensures.value done.counts;
    }
