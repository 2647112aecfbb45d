-- A list that was read is one more list of earlier tuples.
use Rattle.std.proofs.Common.{◌≡◌, ℕ, ◌+◌, ◌-◌, ◌<◌, eqb, List, [], sym, ap, ◌∙◌, arith, inl, inr}
use Rattle.std.specs.Prelude.{nat_lt, not}
use Rattle.std.proofs.lemmas.Bool.{cases_lt, lt-ltb, le-ltb, eq-eqb, ne_eqb}
use Rattle.cla_packed.specs.declared.fault.PackFault.{PackFault}
use Rattle.cla_packed.specs.Fields.{Place, Read, list_at}
use Rattle.cla_packed.specs.Offsets.{joined, segments, segment_at, offsets_at}
use Rattle.cla_pack_reader.proofs.Steps.{took_view, refused_view}
use Rattle.cla_pack_reader.specs.Places.{Places, Took, Refused}

pub last_one : (left n s : ℕ) → s < n → left ≡ n - 1 - s → eqb (s + 1) n ≡ not (nat_lt 0 left)
last_one left n s lt is = elim (cases_lt 0 left) [
  | inl more ↦ ne_eqb (s + 1) n (λ e. omega (arith, e, is, more)) ∙ ap not (sym (lt-ltb 0 left more))
  | inr none ↦ eq-eqb (s + 1) n (omega (arith, lt, is, none)) ∙ ap not (sym (le-ltb 0 left none))
]

module _ (rows group : ℕ) (earlier : List (List ℕ)) (b a : Places) where
  all_at : Place → Read (List (List ℕ))
  all_at = list_at (segment_at 32768 rows group earlier) (segments 32768 rows) []

  pub list_ends : (e : PackFault)
      → Refused b (list_at (segment_at 32768 rows group earlier) (segments 32768 rows) []) e
      → Refused b (offsets_at 32768 rows group earlier) e
  unfolding all_at
  list_ends e bad = refused_view joined all_at b b e bad

  pub list_reads : (segs : List (List ℕ))
      → Took b a (list_at (segment_at 32768 rows group earlier) (segments 32768 rows) []) segs
      → Took b a (offsets_at 32768 rows group earlier) (joined segs)
  unfolding all_at
  list_reads segs took = took_view joined all_at b a segs took
