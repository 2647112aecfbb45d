use Rattle.std.proofs.Common.{◌++◌, [], ◌∷◌, ℕ, List, not, sym, ap, ◌∙◌, Vec}
use Rattle.std.specs.declared.alloc.Global.{Global}
use Rattle.cla_layout.proofs.Listings.{rows_where_yes, rows_where_no}
use Rattle.cla_grouping.specs.Sizes.{is_listed}
use Rattle.cla_cocode.proofs.listing.listed_rows.Goals.{then-not-is_zero+in_ok-push, else-not-is_zero}
use Rattle.cla_cocode.proofs.listing.listed_rows.Goals as goal

pub loop-i-preserved : goal.loop-i-preserved
loop-i-preserved c =
    let test = is_listed c.args.zero c.args.codes.now in
    let i = c.loop-i.i in
    let so_far = c.loop-i.invariant.rows in
    elim c.if-not-is_zero.branch [
      | then-not-is_zero+in_ok-push w ↦ record {
        rows = ap (λ (v : Vec ℕ Global). v.items) w.rows-is ∙ w.in_ok-push.ensures.items
            ∙ ap (λ (l : List ℕ). l ++ i ∷ []) so_far
            ∙ sym (rows_where_yes test i (ap not (sym c.is_zero.ensures ∙ w.if-not-is_zero.true)));
      }
      | else-not-is_zero w ↦ record {
        rows = ap (λ (v : Vec ℕ Global). v.items) w.rows-is ∙ so_far
            ∙ sym (rows_where_no test i (ap not (sym c.is_zero.ensures ∙ w.if-not-is_zero.false)));
      }
    ]
