use Rattle.std.proofs.Common.{◌≡◌, ◌++◌, length, take, drop, ◌∙◌}
use Rattle.std.proofs.lemmas.List.{take_at}
use Rattle.cla_coded.proofs.dense.cells_of.Goals as goal

pub returns : goal.returns
returns g c =
    let cells = c.write_parts.new.cells in
    let len = c.in_ok-cells.cells.len in
    let old = c.in_ok-cells.cells.items in
    let kept : length cells ≡ len = c.write_parts.auto.cells ∙ c.deref_mut-2.ensures.len in
    let back : take len (cells ++ drop (length cells) old) ≡ cells = take_at cells (drop (length cells) old) len kept in
    rw back (record { count = kept ∙ c.in_ok-cells.ensures.len; entries = c.write_parts.ensures })
