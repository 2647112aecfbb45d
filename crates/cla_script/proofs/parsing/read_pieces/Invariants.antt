use Rattle.std.proofs.Common.{◌≡◌, ◌≤◌, ◌+◌, ◌-◌, length, drop}
use Rattle.cla_grammar.specs.Reader.{take_items}
use Rattle.cla_tokens.specs.Items.{items_from}
use Rattle.cla_script.specs.Reads.{reading_of}
use Rattle.cla_script.proofs.parsing.read_pieces.Given as goal

abbrev pub invariant-pieces : goal.invariant-pieces
invariant-pieces g l =
    (l.at ≤ length l.line)
    × (take_items g.N.Number.BITS (reading_of g.N.Number.value l.fn.reader)
    (items_from l.number 0 1 l.line) ≡ take_items g.N.Number.BITS
    (reading_of g.N.Number.value l.reader) (items_from l.number 0 (l.at + 1) (drop l.at l.line)))

abbrev pub decreases-pieces : goal.decreases-pieces
decreases-pieces g l = length l.line - l.at
