use Rattle.std.proofs.Common.{◌≡◌, ◌≤◌, ◌+◌, ◌-◌, ℕ, List, length, take, drop, get_or, ap, ◌∙◌, arith}
use Rattle.std.proofs.lemmas.List.{get_or_read, length-append, length-drop, take_all}
use Rattle.cla_layout.specs.Groups.{code_of}
use Rattle.cla_rows.specs.Chains.{lists_to}
use Rattle.cla_rows.proofs.Chains.{lists_more, begin_at, list_within_all, list_part}
use Rattle.cla_offsets.specs.RowLists.{AreChained, IsPlaceIn}
use Rattle.cla_offsets.proofs.ListWalks.{starts_count}
use Rattle.cla_offsets.proofs.row_lists.list_from.Goals as goal

-- where a list ends
record IsEnd (f : ℕ → List ℕ) (k place end : ℕ) (places : List ℕ) : Type 0 where
  pub end_is : end ≡ length (lists_to f k) + length (f k)
  pub order : place ≤ end
  pub within : end ≤ length places

is_end : (f : ℕ → List ℕ) (count k j place end : ℕ) (starts places : List ℕ) → AreChained f count starts places →
    IsPlaceIn f count k j place → end ≡ get_or starts (k + 1) end → IsEnd f k place end places
is_end f count k j place end starts places are is read =
    let start : end ≡ code_of starts (k + 1) =
    get_or_read starts (k + 1) end (omega (arith, is.there, starts_count f count starts places are)) read 0 in
    let next = ap (λ (xs : List ℕ). code_of xs (k + 1)) are.starts_are
    ∙ begin_at f (k + 1) (count + 1) (omega (arith, is.there)) in
    let size = ap (λ (xs : List ℕ). length xs) (lists_more f k) ∙ length-append (lists_to f k) (f k) in
    let end_is : end ≡ length (lists_to f k) + length (f k) = omega (arith, start, next, size) in
    record {
      end_is = end_is;
      order = omega (arith, end_is, is.place_is, is.within);
      within =
          omega (
            arith,
            end_is,
            ap (λ (xs : List ℕ). length xs) are.places_are,
            list_within_all f k count is.there,
          );
    }

-- the rest of a list, cut out
list_cut : (f : ℕ → List ℕ) (count k j place end : ℕ) (starts places : List ℕ) → AreChained f count starts places →
    IsPlaceIn f count k j place → IsEnd f k place end places → take (end - place) (drop place places) ≡ drop j (f k)
list_cut f count k j place end starts places are is ends =
    let m = length (f k) - j in
    let size : end - place ≡ m = omega (arith, ends.end_is, is.place_is, is.within) in
    ap (λ (x : ℕ). take x (drop place places)) size
    ∙ ap (λ (x : ℕ). take m (drop x places)) is.place_is
    ∙ ap (λ (xs : List ℕ). take m (drop (length (lists_to f k) + j) xs)) are.places_are
    ∙ list_part f k count j m is.there (omega (arith, is.within))
    ∙ take_all m (drop j (f k)) (omega (arith, length-drop j (f k)))

pub index-requires : goal.index-requires
index-requires c = omega (arith, c.requires.4.there, starts_count _ _ _ _ c.requires.3)

pub slice_bounds-result-end : goal.slice_bounds-result-end
slice_bounds-result-end c =
    let is = is_end _ _ c.args.k _ c.args.place _ _ _ c.requires.3 c.requires.4 c.index.ensures in
    rw c.deref.ensures.value is.within

pub slice_bounds-result-count : goal.slice_bounds-result-count
slice_bounds-result-count c =
    let is = is_end _ _ c.args.k _ c.args.place _ _ _ c.requires.3 c.requires.4 c.index.ensures in
    omega (arith, is.order)

pub slice_bounds-result-start : goal.slice_bounds-result-start
slice_bounds-result-start c =
    let is = is_end _ _ c.args.k _ c.args.place _ _ _ c.requires.3 c.requires.4 c.index.ensures in
    omega (arith, is.order)

pub returns : goal.returns
returns c = λ f count j are is.
    (let end = c.index.result.now in
    let starts = c.args.lists.now.starts.items in
    let places = c.args.lists.now.places.items in
    let ends = is_end f count c.args.k j c.args.place end starts places are is c.index.ensures in
    rw c.deref.ensures.value (list_cut f count c.args.k j c.args.place end starts places are is ends))
