use Rattle.std.proofs.Common.{◌≡◌, ◌<◌, ℕ, Bool, false, cond, Option, Some, None, length, sym, ap, ◌∙◌, arith}
use Rattle.std.specs.Prelude.{not}
use Rattle.std.specs.List.{position_or_len}
use Rattle.std.proofs.lemmas.Bool.{lt-ltb, le-ltb}
use Rattle.std.proofs.lemmas.List.Sums.{position_or_len_is}
use Rattle.cla_layout.specs.Listed.{numbered_rest}
use Rattle.cla_pack_reader.proofs.cover.first_unlisted.Goals as goal

pub returns-then-not-has : goal.returns-then-not-has
returns-then-not-has c =
    let marks = c.args.marks.now in
    let row = c.loop-row.row in
    let n = length marks in
    let lt : row < n = omega arith in
    let first : position_or_len not marks ≡ row = position_or_len_is not marks row false (omega (arith, lt))
    (λ k below. ap not (c.loop-row.invariant k below)) (λ below. ap not (sym c.has.ensures ∙ c.if-not-has.true)) in
    sym (ap (numbered_rest n) first
    ∙ ap {A = Bool} {B = Option ℕ} (λ (b : Bool). cond b (Some row) None) (lt-ltb row n lt))

pub returns : goal.returns
returns c =
    let marks = c.args.marks.now in
    let n = length marks in
    let first : position_or_len not marks ≡ n = position_or_len_is not marks n false (omega arith)
    (λ k below. ap not (c.loop-row.invariant k (omega (arith, below)))) (λ below. absurd (omega (arith, below))) in
    sym (ap (numbered_rest n) first
    ∙ ap {A = Bool} {B = Option ℕ} (λ (b : Bool). cond b (Some n) None) (le-ltb n n (omega arith)))
