use Rattle.std.proofs.Common.{◌≡◌, ◌+◌, ◌++◌, ◌∷◌, [], ℕ, sym, ap, ◌∙◌, arith}
use Rattle.std.specs.List.{range_with_len}
use Rattle.std.proofs.lemmas.List.{map-id}
use Rattle.std.proofs.lemmas.List.FromFn.{map-range_with_len_more}
use Rattle.cla_cocode.proofs.layouts.all_plain.Goals as goal

range_more : (n : ℕ) → range_with_len 0 n ++ n ∷ [] ≡ range_with_len 0 (n + 1)
range_more n =
    ap (λ l. l ++ n ∷ []) (sym (map-id (range_with_len 0 n)))
    ∙ sym (map-range_with_len_more (λ i. i) 0 n n (omega arith))
    ∙ map-id (range_with_len 0 (n + 1))

pub loop-column-preserved : goal.loop-column-preserved
loop-column-preserved c = record {
  columns = c.in_ok-push.ensures.items ∙ ap (λ l. l ++ c.loop-column.column ∷ []) c.loop-column.invariant.columns
      ∙ range_more c.loop-column.column;
}
