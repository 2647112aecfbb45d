use Rattle.std.proofs.Common.{◌+◌, ◌≤◌, List, ap, ◌∙◌, refl, arith, length, length-drop, drop}
use Rattle.cla_grammar.specs.Faults.{Item, Tok, End}
use Rattle.cla_grammar.specs.Grammar.{at}
use Rattle.cla_grammar.specs.Reader.{take_items}
use Rattle.cla_tokens.specs.Pieces.{LineEnd, Blank, Semicolon, Found, BadByte, BadText}
use Rattle.cla_tokens.specs.Items.{items_from, place_at}
use Rattle.cla_tokens.specs.View.{kind_of}
use Rattle.cla_script.specs.Reads.{reading_of}
use Rattle.cla_script.proofs.LinePieces.{cut, whole_rest, goes, stops}
use Rattle.cla_script.proofs.parsing.read_pieces.Goals as goal

pub returns-in-LineEnd : goal.returns-in-LineEnd
returns-in-LineEnd g c = c.pieces.invariant.1
    ∙ ap (λ (l : List Item). take_items g.N.Number.BITS (reading_of g.N.Number.value c.pieces.reader) l)
    (cut LineEnd c.args.number 1 c.pieces.at c.args.line.now _ (whole_rest c.args.line.now c.pieces.at)
    (omega arith) refl
    (omega arith) c.in-LineEnd.ensures.value)

pub pieces-preserved-in-Blank : goal.pieces-preserved-in-Blank
pieces-preserved-in-Blank g c = (
  omega arith,
  c.pieces.invariant.1
      ∙ ap (λ (l : List Item). take_items g.N.Number.BITS (reading_of g.N.Number.value c.pieces.reader) l)
      (cut Blank c.args.number 1 c.pieces.at c.args.line.now _ (whole_rest c.args.line.now c.pieces.at)
      (omega arith) refl
      (omega arith) c.in-Blank.ensures.value),
)

pub returns-in-BadByte : goal.returns-in-BadByte
returns-in-BadByte g c =
    rw c.at.ensures (c.pieces.invariant.1
    ∙ ap (λ (l : List Item). take_items g.N.Number.BITS (reading_of g.N.Number.value c.pieces.reader) l)
    (cut BadByte c.args.number 1 c.pieces.at c.args.line.now _ (whole_rest c.args.line.now c.pieces.at)
    (omega arith) refl
    (omega arith) c.in-BadByte.ensures.value))

pub returns-in-BadText : goal.returns-in-BadText
returns-in-BadText g c =
    rw c.at-in-BadText.ensures (c.pieces.invariant.1
    ∙ ap (λ (l : List Item). take_items g.N.Number.BITS (reading_of g.N.Number.value c.pieces.reader) l)
    (cut BadText c.args.number 1 c.pieces.at c.args.line.now _ (whole_rest c.args.line.now c.pieces.at)
    (omega arith) refl
    (omega arith) c.in-BadText.ensures.value))

pub pieces-preserved-in-Semicolon : goal.pieces-preserved-in-Semicolon
pieces-preserved-in-Semicolon g c = (
  omega arith,
  c.pieces.invariant.1
      ∙ (ap (λ (l : List Item). take_items g.N.Number.BITS (reading_of g.N.Number.value c.pieces.reader) l)
      (cut Semicolon c.args.number 1 c.pieces.at c.args.line.now _ (whole_rest c.args.line.now c.pieces.at)
      (omega arith) refl
      (omega arith) c.in-Semicolon.ensures.value)
      ∙ goes g.N.Number.BITS (reading_of g.N.Number.value c.pieces.reader) (reading_of g.N.Number.value c.in-Ok.reader)
      (End (place_at c.args.number (c.pieces.at + 1)))
      (items_from c.args.number 0 (c.pieces.at + 1 + 1) (drop (c.pieces.at + 1) c.args.line.now)) c.in-Ok.ensures),
)

pub pieces-preserved : goal.pieces-preserved
pieces-preserved g c =
    let w = rw whole_rest at c.in-Found.ensures.within in
    let fits : c.pieces.at + c.in-Found.len ≤ length c.args.line.now =
    omega (arith, w, length-drop c.pieces.at c.args.line.now) in (
      fits,
      c.pieces.invariant.1
          ∙ (ap (λ (l : List Item). take_items g.N.Number.BITS (reading_of g.N.Number.value c.pieces.reader) l)
          (cut (Found (kind_of c.in-Found.kind) c.in-Found.len) c.args.number c.in-Found.len c.pieces.at
          c.args.line.now _
          (whole_rest c.args.line.now c.pieces.at) (omega arith) (omega (arith, w)) fits c.in-Found.ensures.value)
          ∙ goes g.N.Number.BITS (reading_of g.N.Number.value c.pieces.reader)
          (reading_of g.N.Number.value c.in-Ok-take.reader)
          (Tok (at (place_at c.args.number (c.pieces.at + 1)) (kind_of c.in-Found.kind)))
          (items_from c.args.number 0 (c.pieces.at + c.in-Found.len + 1)
          (drop (c.pieces.at + c.in-Found.len) c.args.line.now))
          c.in-Ok-take.ensures),
    )

pub returns-in-Err : goal.returns-in-Err
returns-in-Err g c = stops g.N.Number.value g.N.Number.BITS (reading_of g.N.Number.value c.pieces.reader)
    (End (place_at c.args.number (c.pieces.at + 1)))
    (items_from c.args.number 0 (c.pieces.at + 1 + 1) (drop (c.pieces.at + 1) c.args.line.now))
    (take_items g.N.Number.BITS (reading_of g.N.Number.value c.args.reader)
    (items_from c.args.number 0 1 c.args.line.now)) c.in-Err.fault
    (c.pieces.invariant.1
    ∙ ap (λ (l : List Item). take_items g.N.Number.BITS (reading_of g.N.Number.value c.pieces.reader) l)
    (cut Semicolon c.args.number 1 c.pieces.at c.args.line.now _ (whole_rest c.args.line.now c.pieces.at)
    (omega arith) refl
    (omega arith) c.in-Semicolon.ensures.value))
    c.in-Err.ensures

pub returns-in-Err-take : goal.returns-in-Err-take
returns-in-Err-take g c =
    let w = rw whole_rest at c.in-Found.ensures.within in
    let fits : c.pieces.at + c.in-Found.len ≤ length c.args.line.now =
    omega (arith, w, length-drop c.pieces.at c.args.line.now) in
    stops g.N.Number.value g.N.Number.BITS (reading_of g.N.Number.value c.pieces.reader)
    (Tok (at (place_at c.args.number (c.pieces.at + 1)) (kind_of c.in-Found.kind)))
    (items_from c.args.number 0 (c.pieces.at + c.in-Found.len + 1)
    (drop (c.pieces.at + c.in-Found.len) c.args.line.now))
    (take_items g.N.Number.BITS (reading_of g.N.Number.value c.args.reader)
    (items_from c.args.number 0 1 c.args.line.now))
    c.in-Err-take.fault
    (c.pieces.invariant.1
    ∙ ap (λ (l : List Item). take_items g.N.Number.BITS (reading_of g.N.Number.value c.pieces.reader) l)
    (cut (Found (kind_of c.in-Found.kind) c.in-Found.len) c.args.number c.in-Found.len c.pieces.at c.args.line.now _
    (whole_rest c.args.line.now c.pieces.at) (omega arith) (omega (arith, w)) fits c.in-Found.ensures.value))
    c.in-Err-take.ensures
