use Rattle.std.proofs.Common.{◌≡◌, ◌<◌, ℕ, length, sym, ap, subst, ◌∙◌, arith, rules, inl, inr}
use Rattle.std.specs.Prelude.{vec_len}
use Rattle.std.proofs.lemmas.Bool.{cases_lt}
use Rattle.std.proofs.lemmas.List.{get_or_read}
use Rattle.cla_layout.specs.Groups.{code_of, first_row_of}
use Rattle.cla_pack_reader.proofs.RestPlaces.{code_found, list_begins, row_before}
use Rattle.cla_pack_reader.proofs.list.GroupedListedRows.rest_code.Goals as goal

pub index-begin-requires : goal.index-begin-requires
index-begin-requires c =
    let w = c.requires in
    let starts = c.args.self.now.starts in
    let whole : vec_len starts ≡ length starts.items = search rules in
    let b = list_begins w.0 c.args.d c.args.first w.1 starts.items c.args.self.now.places.items w.2 w.3 c.loop-t.t
    (omega (arith, c.loop-t-test.true)) in
    omega (arith, whole, b.0)

pub index-row-requires : goal.index-row-requires
index-row-requires c =
    let w = c.requires in
    let t = c.loop-t.t in
    let starts = c.args.self.now.starts.items in
    let places = c.args.self.now.places in
    let whole : vec_len places ≡ length places.items = search rules in
    let b = list_begins w.0 c.args.d c.args.first w.1 starts places.items w.2 w.3 t
    (omega (arith, c.loop-t-test.true)) in
    let begin = get_or_read starts t c.index-begin.result.now b.0 c.index-begin.ensures 0 in
    omega (arith, whole, b.1, begin)

pub returns-then-row-first : goal.returns-then-row-first
returns-then-row-first c rows owners h s =
    let t = c.loop-t.t in
    let d = c.args.d in
    let first = c.args.first in
    let starts = c.args.self.now.starts.items in
    let places = c.args.self.now.places.items in
    let lt : t < d = omega (arith, c.loop-t-test.true) in
    let b = list_begins rows d first owners starts places h s t lt in
    let begin : c.index-begin.result.now ≡ code_of starts t =
    get_or_read starts t c.index-begin.result.now b.0 c.index-begin.ensures 0 in
    let row : c.index-row.result.now ≡ code_of places c.index-begin.result.now =
    get_or_read places c.index-begin.result.now c.index-row.result.now (omega (arith, b.1, begin)) c.index-row.ensures
    0 in
    let row_is : c.index-row.result.now ≡ first_row_of owners t = row ∙ ap (code_of places) begin ∙ b.2 in
    code_found rows d first owners h t (omega (arith, lt)) (c.loop-t.invariant rows owners h s)
    (λ below. omega (arith, c.if-row-first.true, row_is))

pub loop-t-init : goal.loop-t-init
loop-t-init c rows owners h s k lt = absurd (omega (arith, lt))

pub loop-t-preserved : goal.loop-t-preserved
loop-t-preserved c rows owners h s k below =
    let t = c.loop-t.t in
    let d = c.args.d in
    let first = c.args.first in
    let starts = c.args.self.now.starts.items in
    let places = c.args.self.now.places.items in
    let lt : t < d = omega (arith, c.loop-t-test.true) in
    let b = list_begins rows d first owners starts places h s t lt in
    let begin : c.index-begin.result.now ≡ code_of starts t =
    get_or_read starts t c.index-begin.result.now b.0 c.index-begin.ensures 0 in
    let row : c.index-row.result.now ≡ code_of places c.index-begin.result.now =
    get_or_read places c.index-begin.result.now c.index-row.result.now (omega (arith, b.1, begin)) c.index-row.ensures
    0 in
    let row_is : c.index-row.result.now ≡ first_row_of owners t = row ∙ ap (code_of places) begin ∙ b.2 in
    elim (cases_lt k t) [
      | inl before ↦ c.loop-t.invariant rows owners h s k before
      | inr last ↦
          let same : k ≡ t = omega (arith, below, last) in
          subst (λ (n : ℕ). first_row_of owners n < first) (sym same)
          (row_before rows d first owners h t lt (omega (arith, c.if-row-first.false, row_is)))
    ]

pub returns : goal.returns
returns c rows owners h s =
    let d = c.args.d in
    code_found rows d c.args.first owners h d (omega arith)
    (λ k lt. c.loop-t.invariant rows owners h s k (omega (arith, lt, c.loop-t-test.false)))
    (λ lt. absurd (omega (arith, lt)))
