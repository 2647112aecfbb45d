-- Lists that stand one after the other.
use Rattle.std.specs.Prelude.{ℕ, zero, suc, List, [], ◌∷◌, ◌++◌, length}

-- the first n of some lists, one after the other
unfoldable pub lists_to : (ℕ → List ℕ) → ℕ → List ℕ
lists_to f zero = []
lists_to f (suc n) = lists_to f n ++ f n

-- where each of them begins
abbrev pub begins_to : (ℕ → List ℕ) → ℕ → List ℕ
begins_to f n = lists_to (λ i. length (lists_to f i) ∷ []) n
