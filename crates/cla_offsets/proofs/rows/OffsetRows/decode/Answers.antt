use Rattle.std.proofs.Common.{◌≡◌, ◌<◌, ℕ, List, length, cond, eqb, ap, sym, ◌∙◌, refl, arith}
use Rattle.std.specs.List.{list_any}
use Rattle.std.proofs.lemmas.List.{ext_get_or}
use Rattle.cla_layout.specs.Groups.{code_of}
use Rattle.cla_offsets.specs.Segments.{segment_of, list_of}
use Rattle.cla_offsets.proofs.ListedRows.{are_listed}
use Rattle.cla_offsets.proofs.SegmentRows.{segment_row}
use Rattle.cla_offsets.proofs.ToldCodes.{code_by_none, code_by_more, code_told}
use Rattle.cla_offsets.proofs.rows.OffsetRows.decode.Goals as goal

pub loop-k-init : goal.loop-k-init
loop-k-init c =
    let v = c.args.self.now in
    let are = rw c.self.view_is at c.self.invariant in
    let none = λ (j : ℕ). sym (code_by_none v.rest (list_of v c.args.s) j) in
    record {
      given = λ j there. c.fill_codes.ensures j (omega (arith, there, c.fill_codes.auto.codes)) ∙ are.rest_is
          ∙ none j;
    }

pub give_code-requires : goal.give_code-requires
give_code-requires c =
    let v = c.args.self.now in
    let are = are_listed (segment_of v.codes c.args.s) v.rest c.loop-k.k c.list.result.now c.list.ensures in
    record {
      within = λ n there. omega (
        arith,
        are.within n there,
        c.loop-k.auto.into,
        c.fill_codes.auto.codes,
        c.requires.rows,
      );
    }

pub loop-k-preserved : goal.loop-k-preserved
loop-k-preserved c =
    let v = c.args.self.now in
    let k = c.loop-k.k in
    let given = λ (j : ℕ) (list : List ℕ) (old : ℕ). cond (list_any (λ o. eqb o j) list) k old in
    record {
      given = λ j there.
          (let row : j < length c.loop-k.into = omega (arith, there, c.give_code.auto.codes) in
          c.give_code.ensures j row ∙ ap (λ (list : List ℕ). given j list (code_of c.loop-k.into j)) c.list.ensures
          ∙ ap (given j (list_of v c.args.s k)) (c.loop-k.invariant.given j row)
          ∙ sym (code_by_more v.rest (list_of v c.args.s) k j));
    }

pub returns : goal.returns
returns c =
    let v = c.args.self.now in
    let segment = segment_of v.codes c.args.s in
    let are = rw c.self.view_is at c.self.invariant in
    let count : length c.loop-k.into ≡ length segment =
    omega (arith, c.loop-k.auto.into, c.fill_codes.auto.codes, c.requires.rows) in
    ext_get_or 0 c.loop-k.into segment count (λ j there.
    (let row = segment_row v.codes c.args.s j (omega (arith, there, count)) in
    let below : code_of segment j < c.loop-k.k =
    omega (arith, row.2, are.in_tuples _ row.1, are.tuples_are, c.loop-k-test.false) in
    c.loop-k.invariant.given j there
    ∙ code_told segment v.rest (list_of v c.args.s) j c.loop-k.k (omega (arith, there, count)) below (λ k _. refl)))
