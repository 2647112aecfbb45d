use Rattle.std.proofs.Common.{◌≡◌, false, ℕ, List, Result, Ok, Err, ◌<◌, ◌≤◌, length, eqb, sym, ◌∙◌, arith, inl, inr}
use Rattle.std.specs.List.{list_any}
use Rattle.std.specs.Prelude.{MatchResult, is_ok}
use Rattle.std.proofs.lemmas.Bool.{cases_lt, eq-eqb, ne_eqb}
use Rattle.std.proofs.lemmas.List.Elements.{All-from_get_or}
use Rattle.std.proofs.lemmas.List.Folds.{list_any_at, list_any_none}
use Rattle.std.proofs.lemmas.List.Sorted.{searched}
use Rattle.cla_layout.specs.Groups.{code_of}
use Rattle.cla_offsets.proofs.walks.has_offset.Goals as goal

-- where x stands, or else those before it are below it, and those after it above
abbrev IsFound : List ℕ → ℕ → Result ℕ ℕ → Type 0
IsFound xs x r = MatchResult r (λ i. (i < length xs) × (code_of xs i ≡ x))
    (λ i. (i ≤ length xs) × ((k : ℕ) → k < i → code_of xs k < x) × ((k : ℕ) → i ≤ k → k < length xs → x < code_of xs k))

found : (xs : List ℕ) (x : ℕ) (r : Result ℕ ℕ) → IsFound xs x r → is_ok r ≡ list_any (λ o. eqb o x) xs
found xs x (Ok i) is = sym (list_any_at (λ o. eqb o x) xs i 0 is.0 (eq-eqb _ _ is.1))
found xs x (Err i) is =
    let apart : (k : ℕ) → k < length xs → code_of xs k ≡ x → ⊥ = λ k there same. elim (cases_lt k i) [
      | inl before ↦ absurd (omega (arith, same, is.1 k before))
      | inr after ↦ absurd (omega (arith, same, is.2 k after there))
    ] in
    sym (list_any_none (λ o. eqb o x) xs
    (All-from_get_or (λ o. eqb o x ≡ false) xs 0 (λ k there. ne_eqb (code_of xs k) x (apart k there))))

pub returns : goal.returns
returns c =
    let list = c.args.list.now in
    let rise : (m n : ℕ) → m ≤ n → n < length list → code_of list m ≤ code_of list n =
    λ m n order there. elim (cases_lt m n) [
      | inl before ↦ omega (arith, c.requires.rising m n before there)
      | inr after ↦ (let same : m ≡ n = omega (arith, order, after) in rw same (omega arith))
    ] in
    let is = searched list c.args.offset c.binary_search.result c.binary_search.ensures.position rise in
    c.is_ok.ensures.value ∙ found list c.args.offset c.binary_search.result is
