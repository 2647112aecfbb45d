-- The reader goes on from a place of a line, and from a line of a text.
use Rattle.std.proofs.Common.{◌≡◌, ℕ, ℤ, zero, suc, ◌+◌, ◌-◌, ◌<◌, ◌≤◌, List, [], ◌∷◌, ◌++◌, length, drop, take, refl}
use Rattle.std.proofs.Common.{sym, ap, subst}
use Rattle.std.proofs.Common.{◌∙◌, arith, length-drop, Result, Ok, Err}
use Rattle.std.proofs.Math.Seq.{take-length}
use Rattle.std.proofs.lemmas.List.{drop-drop}
use Rattle.cla_grammar.specs.Faults.{Item, Fault, IsScript}
use Rattle.cla_grammar.specs.Reader.{Reading, take_item, take_items, onward, read_script}
use Rattle.cla_grammar.proofs.FirstRefused.{script_read}
use Rattle.cla_grammar.specs.Laws.{Answers}
use Rattle.cla_tokens.specs.Pieces.{Piece, piece_at}
use Rattle.cla_tokens.specs.Items.{items_from, items_of, after_first, place_at, line_items, items_of_lines}
use Rattle.cla_tokens.specs.Items.{items_of_text}
use Rattle.cla_spec.specs.Lines.{is_lf, lines_of, first_line, after_line}
use Rattle.std.specs.List.{position_or_len}
use Rattle.cla_script.specs.Parses.{Parses, Gives}
use Rattle.cla_tokens.specs.Scripts.{script_in, statements_read}
use Rattle.cla_spec.proofs.LineLemmas.{lines_of-cons}
use Rattle.cla_script.specs.Reads.{Reads}
use Rattle.cla_script.specs.declared.fault.ScriptFault.{ScriptFault}
use Rattle.cla_script.specs.declared.fault.ScriptFault.TheVariants.{At, Memory}

pub skipped : (line k col : ℕ) (bs : List ℕ) → k ≤ length bs
    → items_from line k col bs ≡ items_from line 0 (col + k) (drop k bs)
skipped line zero col bs h = ap (λ (n : ℕ). items_from line 0 n bs) (let e : col ≡ col + 0 = omega arith in e)
skipped line (suc k) col [] h = absurd (omega arith)
skipped line (suc k) col (b ∷ bs) h = skipped line k (col + 1) bs (omega arith)
    ∙ ap (λ (n : ℕ). items_from line 0 n (drop k bs))
    (let e : col + 1 + k ≡ col + suc k = omega arith in e)

rest_same : (line m n col b : ℕ) (bs : List ℕ) → m + 1 ≡ n
    → items_from line 0 (col + 1 + m) (drop m bs) ≡ items_from line 0 (col + n)
    (drop n (b ∷ bs))
rest_same line m zero col b bs e = absurd (omega arith)
rest_same line m (suc n) col b bs e =
    let same : m ≡ n = omega arith in
    let place : col + 1 + m ≡ col + suc n = omega arith in
    ap (λ (k : ℕ). items_from line 0 (col + 1 + m) (drop k bs)) same
    ∙ ap (λ (k : ℕ). items_from line 0 k (drop n bs)) place

at_token : (p : Piece) (line n col : ℕ) (bs : List ℕ) → after_first p + 1 ≡ n → n ≤ length bs → 1 ≤ length bs
    → piece_at bs ≡ p
    → items_from line 0 col bs ≡ items_of p (place_at line col) (items_from line 0 (col + n) (drop n bs))
at_token p line n col [] e h one same = absurd (omega arith)
at_token p line n col (b ∷ bs) e h one same =
    ap (λ (q : Piece). items_of q (place_at line col) (items_from line (after_first q) (col + 1) bs)) same
    ∙ ap (λ (l : List Item). items_of p (place_at line col) l) (skipped line (after_first p) (col + 1) bs (omega arith)
    ∙ rest_same line (after_first p) n col b bs e)

-- the items from a place of a line on, where its piece is known
pub cut : (p : Piece) (line n at : ℕ) (bytes bs : List ℕ) → bs ≡ drop at bytes → at < length bytes
    → after_first p + 1 ≡ n
    → at + n ≤ length bytes → p ≡ piece_at bs
    → items_from line 0 (at + 1) (drop at bytes) ≡ items_of p (place_at line (at + 1))
    (items_from line 0 (at + n + 1) (drop (at + n) bytes))
cut p line n at bytes bs is less e within same =
    let one : 1 ≤ length (drop at bytes) = omega (arith, length-drop at bytes) in
    let fits : n ≤ length (drop at bytes) = omega (arith, length-drop at bytes) in
    let col : at + 1 + n ≡ at + n + 1 = omega arith in
    at_token p line n (at + 1) (drop at bytes) e fits one (sym (same ∙ ap piece_at is))
    ∙ ap (λ (l : List ℕ). items_of p (place_at line (at + 1)) (items_from line 0 (at + 1 + n) l)) (drop-drop n at bytes)
    ∙ ap (λ (k : ℕ). items_of p (place_at line (at + 1)) (items_from line 0 k (drop (at + n) bytes))) col

pub whole_rest : (line : List ℕ) (at : ℕ) → take (length line - at) (drop at line) ≡ drop at line
whole_rest line at = ap (λ (n : ℕ). take n (drop at line)) (sym (length-drop at line)) ∙ take-length (drop at line)

-- an item that is taken, and one that isn't
pub goes : (bits : ℕ) (r n : Reading) (i : Item) (items : List Item) → take_item bits r i ≡ Ok n
    → take_items bits r (i ∷ items) ≡ take_items bits n items
goes bits r n i items e = ap (λ (x : Result Reading Fault). onward x (λ (m : Reading). take_items bits m items)) e

pub stops : {N : Type 0} (value : N → ℤ) (bits : ℕ) (r : Reading) (i : Item) (items : List Item)
    (t : Result Reading Fault)
    (f : ScriptFault) → t ≡ take_items bits r (i ∷ items) → Reads {N = N} value (Err f) (take_item bits r i)
    → Reads {N = N} value (Err f) t
stops value bits r i items t Memory e h = tt
stops value bits r i items t (At p k) e h = e
    ∙ ap (λ (x : Result Reading Fault). onward x (λ (m : Reading). take_items bits m items)) h

onward_twice : (bits : ℕ) (x : Result Reading Fault) (a b : List Item)
    → ((n : Reading) → take_items bits n (a ++ b) ≡ onward (take_items bits n a) (λ (m : Reading). take_items bits m b))
    → onward x (λ (n : Reading). take_items bits n (a ++ b)) ≡ onward (onward x (λ (n : Reading). take_items bits n a))
    (λ (m : Reading). take_items bits m b)
onward_twice bits (Ok n) a b h = h n
onward_twice bits (Err f) a b h = refl

pub take_append : (bits : ℕ) (a b : List Item) (r : Reading) → take_items bits r (a ++ b) ≡ onward (take_items bits r a)
    (λ (n : Reading). take_items bits n b)
take_append bits [] b r = refl
take_append bits (i ∷ a) b r = onward_twice bits (take_item bits r i) a b (λ n. take_append bits a b n)

-- items that are taken, and such that aren't
pub goes_all : (bits : ℕ) (r n : Reading) (a b : List Item) → take_items bits r a ≡ Ok n
    → take_items bits r (a ++ b) ≡ take_items bits n b
goes_all bits r n a b e = take_append bits a b r
    ∙ ap (λ (x : Result Reading Fault). onward x (λ (m : Reading). take_items bits m b)) e

pub stops_all : {N : Type 0} (value : N → ℤ) (bits : ℕ) (r : Reading) (a b : List Item) (t : Result Reading Fault)
    (f : ScriptFault)
    → t ≡ take_items bits r (a ++ b) → Reads {N = N} value (Err f) (take_items bits r a) → Reads {N = N} value (Err f) t
stops_all value bits r a b t Memory e h = tt
stops_all value bits r a b t (At p k) e h = e
    ∙ (take_append bits a b r ∙ ap (λ (x : Result Reading Fault). onward x (λ (m : Reading). take_items bits m b)) h)

pub next_line : (n : ℕ) (text line back : List ℕ) → 0 < length text → line ≡ first_line text → back ≡ after_line text
    → items_of_lines n (lines_of text) ≡ line_items n line ++ items_of_lines (n + 1) (lines_of back)
next_line n text line back some front after =
    ap (λ (ls : List (List ℕ)). items_of_lines n ls) (lines_of-cons text some) ∙ cc

onward_ok : (bits : ℕ) (x : Result Reading Fault) → onward x (λ (n : Reading). take_items bits n []) ≡ x
onward_ok bits (Ok r) = refl
onward_ok bits (Err f) = refl

-- items that are taken, and then a last one
pub goes_last : (bits : ℕ) (r n : Reading) (a : List Item) (i : Item) → take_items bits r a ≡ Ok n
    → take_items bits r (a ++ i ∷ []) ≡ take_item bits n i
goes_last bits r n a i e = goes_all bits r n a (i ∷ []) e ∙ onward_ok bits (take_item bits n i)

pub shorter : (s : List ℕ) → 0 < length s → length (after_line s) < length s
unfolding after_line
shorter s h = omega (arith, length-drop (position_or_len is_lf s + 1) s)

pub failed : {N : Type 0} (value : N → ℤ) (bits : ℕ) (text : List ℕ) (f : ScriptFault)
    → Reads {N = N} value (Err f) (read_script bits (items_of_text text)) → Parses {N = N} bits value text (Err f)
failed value bits text Memory h = tt
failed value bits text (At p k) h = subst (λ (x : Result Reading Fault). Answers bits (items_of_text text) x) h
    (script_read bits (items_of_text text))

pub finished : (bits : ℕ) (items : List Item) (r : Reading) → read_script bits items ≡ Ok r
    → IsScript bits items r.statements
finished bits items r e = subst (λ (x : Result Reading Fault). Answers bits items x) e (script_read bits items)

pub failed_computed : {N : Type 0} (value : N → ℤ) (bits : ℕ) (text : List ℕ) (f : ScriptFault)
    → Reads {N = N} value (Err f) (read_script bits (items_of_text text))
    → Gives {N = N} value (Err f) (script_in bits text)
failed_computed value bits text Memory h = tt
failed_computed value bits text (At p k) h = ap statements_read h
