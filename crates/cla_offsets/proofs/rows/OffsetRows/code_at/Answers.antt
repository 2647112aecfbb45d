use Rattle.std.proofs.Common.{true, false, ◌≡◌, ◌-◌, ◌/◌, ◌%◌, ◌∙◌, ℕ, refl, ap, sym, arith}
use Rattle.cla_offsets.specs.Segments.{segment_rows, segment_of, list_of, code_by}
use Rattle.cla_offsets.proofs.ListedRows.{are_listed}
use Rattle.cla_offsets.proofs.ToldCodes.{code_by_none, told_step, row_told}
use Rattle.cla_offsets.proofs.rows.OffsetRows.code_at.Goals as goal

pub loop-k-init : goal.loop-k-init
loop-k-init c =
    let v = c.args.self.now in
    let are = rw c.self.view_is at c.self.invariant in
    let lists = list_of v (c.args.i / segment_rows) in
    record {
      told =
          rw are.tuples_are (row_told v lists c.args.i c.requires (are.in_tuples c.args.i c.requires) (λ k _. refl));
    }

pub has_offset-requires : goal.has_offset-requires
has_offset-requires c =
    let v = c.args.self.now in
    let segment = segment_of v.codes (c.args.i / segment_rows) in
    record { rising = (are_listed segment v.rest (c.loop-k.k - 1) c.list.result.now c.list.ensures).rising }

pub loop-k-preserved : goal.loop-k-preserved
loop-k-preserved c = record {
  told = told_step c.args.self.now.rest (list_of c.args.self.now (c.args.i / segment_rows)) (c.loop-k.k - 1) _ _ _ false
      (omega arith)
      c.list.ensures (sym c.has_offset.ensures ∙ c.if-has_offset.false) ∙ c.loop-k.invariant.told;
}

pub returns-then-has_offset : goal.returns-then-has_offset
returns-then-has_offset c =
    told_step c.args.self.now.rest (list_of c.args.self.now (c.args.i / segment_rows)) (c.loop-k.k - 1) _ _ _ true
    (omega arith)
    c.list.ensures (sym c.has_offset.ensures ∙ c.if-has_offset.true) ∙ c.loop-k.invariant.told

pub returns : goal.returns
returns c =
    let v = c.args.self.now in
    let j = c.args.i % segment_rows in
    let lists = list_of v (c.args.i / segment_rows) in
    let are = rw c.self.view_is at c.self.invariant in
    let last : c.loop-k.k ≡ 0 = omega arith in
    are.rest_is ∙ sym (code_by_none v.rest lists j) ∙ ap (λ (n : ℕ). code_by v.rest lists n j) (sym last)
    ∙ c.loop-k.invariant.told
