use Rattle.std.proofs.Common.{◌+◌, [], ◌∷◌, length, refl, sym, subst, Result}
use Rattle.cla_grammar.specs.Faults.{Fault, End}
use Rattle.cla_grammar.specs.Reader.{Reading, take_items}
use Rattle.cla_tokens.specs.Items.{items_from, line_items, place_at}
use Rattle.cla_script.specs.Reads.{reading_of, Reads}
use Rattle.cla_script.proofs.LinePieces.{stops_all, goes_last}
use Rattle.cla_script.proofs.parsing.read_line.Goals as goal

pub returns-in-Err : goal.returns-in-Err
returns-in-Err g c = stops_all g.N.Number.value g.N.Number.BITS (reading_of g.N.Number.value c.args.reader)
    (items_from c.args.number 0 1 c.args.line.now) (End (place_at c.args.number (length c.args.line.now + 1)) ∷ [])
    (take_items g.N.Number.BITS (reading_of g.N.Number.value c.args.reader)
    (line_items c.args.number c.args.line.now)) c.in-Err.fault
    refl c.in-Err.ensures

pub returns : goal.returns
returns g c = subst (λ (t : Result Reading Fault). Reads g.N.Number.value c.take.result t)
    (sym (goes_last g.N.Number.BITS (reading_of g.N.Number.value c.args.reader)
    (reading_of g.N.Number.value c.in-Ok.reader)
    (items_from c.args.number 0 1 c.args.line.now)
    (End (place_at c.args.number (length c.args.line.now + 1))) c.in-Ok.ensures))
    c.take.ensures
