-- Texts that are put out piece by piece.
use Rattle.std.proofs.Common.{◌≡◌, ℕ, zero, suc, ◌+◌, ◌-◌, ◌<◌, List, [], ◌∷◌, ◌++◌, map, Option}
use Rattle.std.proofs.Common.{sym, ap, subst, ◌∙◌, append_assoc, arith}
use Rattle.std.specs.List.{range_with_len, concat}
use Rattle.std.proofs.lemmas.List.{append-nil}
use Rattle.std.proofs.lemmas.List.Folds.{concat-append}
use Rattle.std.proofs.lemmas.List.FromFn.{map-range_with_len_more}
use Rattle.cla_print.specs.Parting.{IsParted, HasFront}
use Rattle.cla_print.specs.Pieces.{pieces}
use Rattle.cla_print.proofs.PartLaws.{all_held, parted_on, front_on, front_longer}

pieces_more : (f : ℕ → List ℕ) (n : ℕ) → pieces f (n + 1) ≡ pieces f n ++ f n
pieces_more f n =
    ap concat (map-range_with_len_more f 0 n n (omega arith)) ∙ concat-append (map f (range_with_len 0 n)) (f n ∷ []) ∙
    ap (λ (t : List ℕ). pieces f n ++ t) (append-nil (f n))

-- the first pieces are a front of more
pieces_front : (f : ℕ → List ℕ) (n d : ℕ) → (rest : List ℕ) × (pieces f (n + d) ≡ pieces f n ++ rest)
pieces_front f n zero = ([], ap (pieces f) (omega arith) ∙ sym (append-nil (pieces f n)))
pieces_front f n (suc d) =
    let before = pieces_front f n d in
    let on : n + suc d ≡ (n + d) + 1 = omega arith in (
      before.0 ++ f (n + d),
      ap (pieces f) on ∙ pieces_more f (n + d) ∙ ap (λ (t : List ℕ). t ++ f (n + d)) before.1 ∙
          append_assoc (pieces f n) before.0 (f (n + d)),
    )

behind : (x : List ℕ) (f : ℕ → List ℕ) (n : ℕ) → (x ++ pieces f n) ++ f n ≡ x ++ pieces f (n + 1)
behind x f n = append_assoc x (pieces f n) (f n) ∙ ap (λ (t : List ℕ). x ++ t) (sym (pieces_more f n))

-- before the first piece
pub none_put : (x : List ℕ) (a : Option (List ℕ)) → IsParted (x ++ []) a a x
none_put x a = subst (λ (t : List ℕ). IsParted t a a x) (sym (append-nil x)) (all_held x a)

-- one piece more
pub piece_on : (x : List ℕ) (f : ℕ → List ℕ) (n : ℕ) (a b c : Option (List ℕ)) (y w : List ℕ)
    → IsParted (x ++ pieces f n) a b y → IsParted (y ++ f n) b c w → IsParted (x ++ pieces f (n + 1)) a c w
piece_on x f n a b c y w before now =
    subst (λ (t : List ℕ). IsParted t a c w) (behind x f n) (parted_on (x ++ pieces f n) (f n) a b c y w before now)

-- a piece that failed, before the last one
pub piece_fails : (x : List ℕ) (f : ℕ → List ℕ) (n m : ℕ) (a b c : Option (List ℕ)) (y : List ℕ) → n < m
    → IsParted (x ++ pieces f n) a b y → HasFront (y ++ f n) b c → HasFront (x ++ pieces f m) a c
piece_fails x f n m a b c y below before now =
    let rest = pieces_front f (n + 1) (m - (n + 1)) in
    let to : (n + 1) + (m - (n + 1)) ≡ m = omega arith in
    let here : HasFront (x ++ pieces f (n + 1)) a c =
    subst (λ (t : List ℕ). HasFront t a c) (behind x f n) (front_on (x ++ pieces f n) (f n) a b c y before now) in
    subst (λ (t : List ℕ). HasFront t a c)
    (append_assoc x (pieces f (n + 1)) rest.0 ∙ ap (λ (t : List ℕ). x ++ t) (sym rest.1 ∙ ap (pieces f) to))
    (front_longer (x ++ pieces f (n + 1)) rest.0 a c here)
