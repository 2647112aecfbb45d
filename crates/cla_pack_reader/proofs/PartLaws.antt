-- Groups one behind the other.
use Rattle.std.proofs.Common.{◌≡◌, ℕ, List, [], ◌∷◌, ◌++◌, sym, ap, ◌∙◌, append_assoc, append-nil}
use Rattle.std.specs.List.{AllByRecursion}
use Rattle.cla_packed.specs.Files.{PackedGroup, columns_of}

pub columns_more : (groups : List PackedGroup) (group : PackedGroup)
    → columns_of groups ++ group.columns ≡ columns_of (groups ++ group ∷ [])
columns_more [] group = sym (append-nil group.columns)
columns_more (g ∷ groups) group =
    append_assoc g.columns (columns_of groups) group.columns
    ∙ ap (λ (l : List ℕ). g.columns ++ l) (columns_more groups group)

pub all_more : {X : Type 0} (P : X → Type 0) (xs : List X) (x : X) → AllByRecursion P xs → P x
    → AllByRecursion P (xs ++ x ∷ [])
all_more P [] x h last = (last, tt)
all_more P (y ∷ xs) x h last = (h.0, all_more P xs x h.1 last)
