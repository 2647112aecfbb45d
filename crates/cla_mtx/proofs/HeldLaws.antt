-- Lines that are taken at once, of the bytes that are held.
use Rattle.std.proofs.Common.{◌≡◌, ℕ, ◌+◌, ◌-◌, ◌<◌, ◌≤◌, List, [], ◌++◌, length, take, drop, true, false, Option}
use Rattle.std.proofs.Common.{Some, None, Ok, refl, sym, subst, ap, ◌∙◌, arith, length-drop, length-take}
use Rattle.std.proofs.Common.{append_assoc}
use Rattle.std.proofs.lemmas.List.{drop-drop, take-append-drop, drop-append-le}
use Rattle.cla_spec.specs.Matrix.{Matrix}
use Rattle.cla_spec.specs.Lines.{first_line}
use Rattle.cla_text.specs.Words.{words_of}
use Rattle.cla_io.specs.Lines.{Progress, IsLfPlace, TakesLine, ahead_of, with_left}
use Rattle.cla_io.specs.Ahead.{AreLines, ahead_in_limit}
use Rattle.cla_io.proofs.TakenLines.{ends_at_lf, takes_held}
use Rattle.cla_io.proofs.AheadLaws.{lines_fit}
use Rattle.cla_market.specs.Entries.{Triple}
use Rattle.cla_market.specs.Texts.{AtEntries, with_line}
use Rattle.cla_mtx.specs.declared.entries.Entries.{Entries}
use Rattle.cla_mtx.specs.declared.phase.Phase.TheVariants as phases
use Rattle.cla_mtx.specs.Phases.{HasTriples, TakesTriple, EntriesDecide, DecidesOver}
use Rattle.cla_mtx.proofs.ReadingLaws.{goes_on}

moved : (bits limit a a' n n' : ℕ) (e : Entries Matrix) (b b' whole : Option (List ℕ)) → a ≡ a' → n ≡ n' → b ≡ b'
    → EntriesDecide bits limit a n e b whole → EntriesDecide bits limit a' n' e b' whole
moved bits limit a a' n n' e b b' whole at number bytes h = rw (← at, ← number, ← bytes) h

pub no_lines : (bits : ℕ) (e : Entries Matrix) (bytes : List ℕ) → DecidesOver bits e e bytes 0 0
no_lines bits e bytes limit at n left whole fits decides = moved bits limit at (at + 0) n (n + 0) e
    (with_left bytes left) (with_left bytes left) whole (omega arith) (omega arith) refl decides

-- one line more
pub line_more : (bits : ℕ) (old mid new : Entries Matrix) (bytes here : List ℕ) (count width place : ℕ)
    → here ≡ drop width bytes → width ≤ length bytes → IsLfPlace here (Some place)
    → ((number : ℕ) (ts : List Triple) → HasTriples mid ts → TakesTriple new
    (with_line bits number (AtEntries mid.banner mid.size ts) (words_of (first_line here))))
    → DecidesOver bits old mid bytes count width → DecidesOver bits old new bytes (count + 1) (width + (place + 1))
line_more bits old mid new bytes here count width place is within lf takes so_far limit at n left whole fits decides =
    let behind = drop (place + 1) here in
    let long : length here ≡ length (drop width bytes) = ap (λ (xs : List ℕ). length xs) is in
    let e = ends_at_lf here place lf.0 lf.1 in
    let p : Progress = record
    { ahead = here; at = at + width; limit = limit; line = []; lines = 0; ended = false } in
    let q : Progress = record {
      ahead = behind;
      at = at + width + (place + 1);
      limit = limit;
      line = first_line here;
      lines = 1;
      ended = false;
    } in
    let held : TakesLine p q here behind (Ok true) = (
      omega (arith, lf.0),
      refl,
      sym e.rest,
      omega (arith, e.is_width),
      omega (arith, fits, lf.0, long, length-drop width bytes, within),
    ) in
    let before = moved bits limit (at + width) (at + width) (n + count) (n + count) mid
    (with_left (drop width bytes) left) (with_left here left) whole refl refl
    (ap (λ (xs : List ℕ). with_left xs left) (sym is)) (so_far limit at n left whole fits decides) in
    let told = takes_held p q left place (Ok true) lf held in
    let next = goes_on bits limit (n + count) p q refl (phases.Entries mid) (phases.Entries new)
    (with_left here left) (with_left behind left) whole before told
    (λ ts has. takes (n + count) ts has) in
    moved bits limit (at + width + (place + 1)) (at + (width + (place + 1))) (n + count + 1) (n + (count + 1)) new
    (with_left behind left) (with_left (drop (width + (place + 1)) bytes) left) whole (omega arith) (omega arith)
    (ap (λ (xs : List ℕ). with_left xs left)
    (ap (drop (place + 1)) is ∙ drop-drop (place + 1) width bytes)) next

joined : (xs ys : List ℕ) (left : Option (List ℕ)) → with_left xs (with_left ys left) ≡ with_left (xs ++ ys) left
joined xs ys None = refl
joined xs ys (Some bytes) = ap Some (sym (append_assoc xs ys bytes))

-- what an input decides that took these lines
pub lines_taken : (bits : ℕ) (old new : Entries Matrix) (p : Progress) (count width : ℕ)
    (left whole : Option (List ℕ)) → p.at ≤ p.limit → AreLines (ahead_in_limit p) count width
    → DecidesOver bits old new (ahead_in_limit p) count width
    → EntriesDecide bits p.limit p.at (p.lines + 1) old (ahead_of p left) whole
    → EntriesDecide bits p.limit (p.at + width) (p.lines + count + 1) new (with_left (drop width p.ahead) left) whole
lines_taken bits old new p count width left whole in_limit lines over decides =
    let room = p.limit - p.at in
    let held = take room p.ahead in
    let rest = drop room p.ahead in
    let all : held ++ rest ≡ p.ahead = take-append-drop room p.ahead in
    let told : with_left held (with_left rest left) ≡ with_left p.ahead left = joined held rest left
    ∙ ap (λ (xs : List ℕ). with_left xs left) all in
    let before = moved bits p.limit p.at p.at (p.lines + 1) (p.lines + 1) old (ahead_of p left)
    (with_left held (with_left rest left)) whole refl refl (sym told) decides in
    let fits : p.at + length held ≤ p.limit = omega (arith, length-take room p.ahead, in_limit) in
    let next = over p.limit p.at (p.lines + 1) (with_left rest left) whole fits before in
    let within = (lines_fit held count width lines).0 in
    let behind : drop width held ++ rest ≡ drop width p.ahead = sym (drop-append-le width held rest within)
    ∙ ap (drop width) all in
    moved bits p.limit (p.at + width) (p.at + width) (p.lines + 1 + count) (p.lines + count + 1) new
    (with_left (drop width held) (with_left rest left)) (with_left (drop width p.ahead) left) whole refl
    (omega arith) (joined (drop width held) rest left ∙ ap (λ (xs : List ℕ). with_left xs left) behind) next

abbrev with_table : Entries Matrix → Matrix → Entries Matrix
with_table e table
    = record { banner = e.banner; size = e.size; count = e.count; next = e.next; table = table }

-- the same entries, with their tables in another form
pub same_tables : (bits : ℕ) (old new : Entries Matrix) (bytes : List ℕ) (count width : ℕ) (t u : Matrix)
    → t ≡ old.table → u ≡ new.table → DecidesOver bits (with_table old t) new bytes count width
    → DecidesOver bits old (with_table new u) bytes count width
same_tables bits old new bytes count width t u before after over =
    subst (λ (m : Matrix). DecidesOver bits old (with_table new m) bytes count width) (sym after)
    (subst (λ (m : Matrix). DecidesOver bits (with_table old m) new bytes count width) before over)
