use Rattle.std.proofs.Common.{◌+◌, ◌++◌, ◌∷◌, [], ℕ, map, length, ap, sym, ◌∙◌, arith}
use Rattle.std.specs.List.{range_with_len}
use Rattle.std.proofs.lemmas.List.{map-append, length_push}
use Rattle.std.proofs.lemmas.List.FromFn.{map-range_with_len_more}
use Rattle.cla_spec.specs.Matrix.{entry}
use Rattle.cla_numbering.proofs.column.entries_of.Goals as goal

pub loop-i-preserved : goal.loop-i-preserved
loop-i-preserved g c =
    let value = g.N.Number.value in
    let at = λ (i : ℕ). entry c.args.m.now i c.args.column in
    let i = c.loop-i.i in
    let seen = map at (range_with_len 0 i) in
    record {
      entries = ap (map value) c.in_ok-push.ensures.items
          ∙ map-append value c.loop-i.items.items (c.entry.result ∷ [])
          ∙ ap (λ l. l ++ value c.entry.result ∷ []) c.loop-i.invariant.entries
          ∙ ap (λ z. seen ++ z ∷ []) c.entry.ensures
          ∙ sym (map-range_with_len_more at 0 i i (omega arith));
      count = ap length c.in_ok-push.ensures.items ∙ length_push c.loop-i.items.items c.entry.result
          ∙ ap (λ n. n + 1) c.loop-i.invariant.count;
    }
