use Rattle.std.proofs.Common.{◌≡◌, ℕ, ◌+◌, ◌<◌, Ok, List, [], length, sym, ap, ◌∙◌, arith}
use Rattle.std.proofs.lemmas.List.{length-map}
use Rattle.std.proofs.lemmas.Bool.{eqb-true, eqb-false}
use Rattle.std.proofs.lemmas.List.{nil_from_length}
use Rattle.cla_script.specs.View.{statement_of}
use Rattle.cla_grammar.specs.Faults.{Item}
use Rattle.cla_grammar.specs.Reader.{take_items, read_script}
use Rattle.cla_spec.specs.Lines.{lines_of}
use Rattle.cla_spec.proofs.LineLemmas.{lines_of-nil}
use Rattle.cla_tokens.specs.Items.{line_items, items_of_lines, items_of_text}
use Rattle.cla_script.specs.Reads.{reading_of, statements_of}
use Rattle.cla_script.proofs.LinePieces.{stops_all, goes_all, next_line, shorter, failed, failed_computed, finished}
use Rattle.cla_tokens.specs.Scripts.{script_in, statements_read}
use Rattle.cla_tokens.proofs.FormedTexts.{script_formed}
use Rattle.cla_tokens.proofs.StatementCount.{script_few}
use Rattle.cla_script.proofs.parsing.parse.Goals as goal

pub returns-in-Err : goal.returns-in-Err
returns-in-Err g c =
    let apart = eqb-false _ _ (sym c.lines-test.ensures) in
    let some : 0 < length c.lines.rest.now = omega (arith, apart) in
    let value = g.N.Number.value in
    let bits = g.N.Number.BITS in
    let stopped =
    stops_all value bits (reading_of value c.lines.reader) (line_items c.lines.number c.cut_line.result.0.now)
    (items_of_lines (c.lines.number + 1) (lines_of c.cut_line.result.1.now))
    (read_script bits (items_of_text c.args.text.now))
    c.in-Err.fault
    (c.lines.invariant.1 ∙ ap (λ (l : List Item). take_items bits (reading_of value c.lines.reader) l)
    (next_line c.lines.number c.lines.rest.now c.cut_line.result.0.now c.cut_line.result.1.now some
    c.cut_line.ensures.front
    c.cut_line.ensures.back))
    c.in-Err.ensures in
    record {
      answer = failed value bits c.args.text.now c.in-Err.fault stopped;
      computed = failed_computed value bits c.args.text.now c.in-Err.fault stopped;
      formed = tt;
      few = tt;
    }

pub lines-smaller : goal.lines-smaller
lines-smaller g c =
    let apart = eqb-false _ _ (sym c.lines-test.ensures) in
    let some : 0 < length c.lines.rest.now = omega (arith, apart) in
    let same = ap (λ (l : List ℕ). length l) c.cut_line.ensures.back in
    omega (arith, same, shorter c.lines.rest.now some)

pub lines-preserved : goal.lines-preserved
lines-preserved g c =
    let apart = eqb-false _ _ (sym c.lines-test.ensures) in
    let some : 0 < length c.lines.rest.now = omega (arith, apart) in
    let same = ap (λ (l : List ℕ). length l) c.cut_line.ensures.back in
    let value = g.N.Number.value in
    let bits = g.N.Number.BITS in (
      omega (arith, same, shorter c.lines.rest.now some, c.lines.invariant.0),
      c.lines.invariant.1
          ∙ (ap (λ (l : List Item). take_items bits (reading_of value c.lines.reader) l)
          (next_line c.lines.number c.lines.rest.now c.cut_line.result.0.now c.cut_line.result.1.now some
          c.cut_line.ensures.front
          c.cut_line.ensures.back)
          ∙ goes_all bits (reading_of value c.lines.reader) (reading_of value c.in-Ok.reader)
          (line_items c.lines.number c.cut_line.result.0.now)
          (items_of_lines (c.lines.number + 1) (lines_of c.cut_line.result.1.now)) c.in-Ok.ensures),
    )

pub returns : goal.returns
returns g c =
    let empty : c.lines.rest.now ≡ [] = nil_from_length c.lines.rest.now (eqb-true _ _ (sym c.lines-test.ensures)) in
    let value = g.N.Number.value in
    let bits = g.N.Number.BITS in
    let text = c.args.text.now in
    let xs = statements_of value c.lines.reader.statements.items in
    let taken =
    λ (ls : List (List ℕ)). take_items bits (reading_of value c.lines.reader)
    (items_of_lines c.lines.number ls) in
    let read : read_script bits (items_of_text text) ≡ Ok (reading_of value c.lines.reader) =
    c.lines.invariant.1 ∙ (ap (λ (l : List ℕ). taken (lines_of l)) empty ∙ ap taken lines_of-nil) in
    let script : script_in bits text ≡ Ok xs = ap statements_read read in
    let count : length xs ≡ length c.lines.reader.statements.items =
    length-map c.lines.reader.statements.items (statement_of value) in
    record {
      answer = finished bits (items_of_text text) (reading_of value c.lines.reader) read;
      computed = script;
      formed = script_formed bits text xs script;
      few = omega (arith, script_few bits text xs script, count, c.requires.short);
    }
