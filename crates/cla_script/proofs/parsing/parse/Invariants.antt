use Rattle.std.proofs.Common.{◌≡◌, ◌≤◌, ◌+◌, ◌^◌, length}
use Rattle.cla_grammar.specs.Reader.{take_items, read_script}
use Rattle.cla_spec.specs.Lines.{lines_of}
use Rattle.cla_tokens.specs.Items.{items_of_lines, items_of_text}
use Rattle.cla_script.specs.Reads.{reading_of}
use Rattle.cla_script.proofs.parsing.parse.Given as goal

abbrev pub invariant-lines : goal.invariant-lines
invariant-lines g l =
    (l.number + length l.rest ≤ 2 ^ 20 + 1)
    × (read_script g.N.Number.BITS (items_of_text l.text) ≡ take_items g.N.Number.BITS
    (reading_of g.N.Number.value l.reader)
    (items_of_lines l.number (lines_of l.rest)))

abbrev pub decreases-lines : goal.decreases-lines
decreases-lines g l = length l.rest
