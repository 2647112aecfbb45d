-- What holds of chains.
use Rattle.std.proofs.Common.{◌≡◌, ℕ, zero, suc, ◌+◌, ◌<◌, ◌≤◌, List, length, map, set}
use Rattle.std.proofs.Common.{refl, sym, ap, ◌∙◌, arith, inl, inr}
use Rattle.std.proofs.Common.{eq-eqb, [], ◌∷◌, ◌++◌, subst}
use Rattle.std.proofs.Math.Seq.{map-set_same, get_or-append_seam}
use Rattle.std.specs.Prelude.{slice_index_or}
use Rattle.std.proofs.lemmas.Bool.{cases_eq, ne_eqb}
use Rattle.std.proofs.lemmas.List.{get_or-set_same, get_or-set_other, get_or-map, map-set, length-map}
use Rattle.std.proofs.lemmas.List.{length-set, length-append, map-append}
use Rattle.std.proofs.lemmas.List.{get_or_append_left, get_or_default}
use Rattle.cla_index.specs.declared.chains.Link.{Link}
use Rattle.cla_index.specs.Chains.{hash_at, hashes_of, bucket_of, up_to_last, AreChained, IsIndex}

module _ (m : ℕ) (hs : List ℕ) (b : ℕ) where
  here : (n : ℕ) → bucket_of m (hash_at hs n) ≡ b → up_to_last m hs b (suc n) ≡ suc n
  here n is = rw (eq-eqb (bucket_of m (hash_at hs n)) b is) refl

  elsewhere : (n : ℕ) → (bucket_of m (hash_at hs n) ≡ b → ⊥) → up_to_last m hs b (suc n) ≡ up_to_last m hs b n
  elsewhere n other = rw (ne_eqb (bucket_of m (hash_at hs n)) b other) refl

  pub at_most : (n : ℕ) → up_to_last m hs b n ≤ n
  at_most zero = omega arith
  at_most (suc n) = elim (cases_eq (bucket_of m (hash_at hs n)) b) [
    | inl is ↦ omega (arith, here n is)
    | inr other ↦ omega (arith, elsewhere n other, at_most n)
  ]

  -- behind the last one of a bucket there is none of it
  pub none_behind : (n k : ℕ) → up_to_last m hs b n ≤ k → k < n → bucket_of m (hash_at hs k) ≡ b → ⊥
  none_behind zero k from to is = omega (arith, to)
  none_behind (suc n) k from to is = elim (cases_eq (bucket_of m (hash_at hs n)) b) [
    | inl last ↦ omega (arith, from, to, here n last)
    | inr other ↦ elim (cases_eq k n) [
      | inl same ↦ other (ap (λ (j : ℕ). bucket_of m (hash_at hs j)) (sym same) ∙ is)
      | inr less ↦ none_behind n k (omega (arith, from, elsewhere n other)) (grind (arith, to, less)) is
    ]
  ]

  -- the last one is the last of those up to it
  pub last_of_those : (n : ℕ) → up_to_last m hs b n ≡ up_to_last m hs b (up_to_last m hs b n)
  last_of_those zero = refl
  last_of_those (suc n) = elim (cases_eq (bucket_of m (hash_at hs n)) b) [
    | inl is ↦ sym (ap (up_to_last m hs b) (here n is))
    | inr other ↦ elsewhere n other ∙ last_of_those n ∙ sym (ap (up_to_last m hs b) (elsewhere n other))
  ]

  -- so it is in the bucket
  pub last_within : (k : ℕ) → suc k ≡ up_to_last m hs b (suc k) → bucket_of m (hash_at hs k) ≡ b
  last_within k last = elim (cases_eq (bucket_of m (hash_at hs k)) b) [
    | inl is ↦ is
    | inr other ↦ (let none : ⊥ = omega (arith, last, elsewhere k other, at_most k) in elim none [ ])
  ]

same_hashes : (m : ℕ) (hs gs : List ℕ) (b n : ℕ) → ((k : ℕ) → k < n → hash_at hs k ≡ hash_at gs k)
    → up_to_last m hs b n ≡ up_to_last m gs b n
same_hashes m hs gs b zero same = refl
same_hashes m hs gs b (suc n) same =
    rw (same n (omega arith), same_hashes m hs gs b n (λ k lt. same k (omega (arith, lt)))) refl

earlier_at : List Link → ℕ → ℕ
earlier_at links k = slice_index_or (map (λ l. l.earlier) links) k 0

-- one hash more is chained
pub chain_more : (m n : ℕ) (latest : List ℕ) (links more : List Link) (hash place : ℕ) → AreChained m n latest links
    → ((k : ℕ) → k < n → hash_at (hashes_of more) k ≡ hash_at (hashes_of links) k)
    → ((k : ℕ) → k < n → slice_index_or (map (λ l. l.earlier) more) k 0
    ≡ slice_index_or (map (λ l. l.earlier) links) k 0)
    → hash_at (hashes_of more) n ≡ hash → place ≡ bucket_of m hash → place < length latest
    → slice_index_or (map (λ l. l.earlier) more) n 0 ≡ slice_index_or latest place 0
    → length latest ≡ m
    → AreChained m (suc n) (set latest place (suc n)) more
chain_more m n latest links more hash place chained hashes kept new is there earlier size =
    let hs = hashes_of links in
    let gs = hashes_of more in
    let first = λ (b : ℕ). same_hashes m hs gs b n (λ k lt. sym (hashes k lt)) in
    let bucket : bucket_of m (hash_at gs n) ≡ place = ap (bucket_of m) new ∙ sym is in
    record {
      last = λ b within. elim (cases_eq b place) [
        | inl same ↦ ap (λ (p : ℕ). slice_index_or (set latest place (suc n)) p 0) same
            ∙ get_or-set_same latest place (suc n) 0 there
            ∙ sym (ap (λ (p : ℕ). up_to_last m gs p (suc n)) same ∙ here m gs place n bucket)
        | inr other ↦ get_or-set_other latest place b (suc n) 0 other ∙ chained.last b within ∙ first b
            ∙ sym (elsewhere m gs b n (λ at. other (sym at ∙ bucket)))
      ];
      before = λ k lt. elim (cases_eq k n) [
        | inl same ↦ ap (λ (p : ℕ). slice_index_or (map (λ l. l.earlier) more) p 0) same ∙ earlier
            ∙ chained.last place (omega (arith, there, size)) ∙ first place
            ∙ ap (λ (p : ℕ). up_to_last m gs p n) (sym bucket)
            ∙ ap (λ (p : ℕ). up_to_last m gs (bucket_of m (hash_at gs p)) p) (sym same)
        | inr other ↦ (
            let less : k < n = grind (arith, lt, other) in
            kept k less ∙ chained.before k less
            ∙ ap (λ (h : ℕ). up_to_last m hs (bucket_of m h) k) (sym (hashes k less))
            ∙ same_hashes m hs gs (bucket_of m (hash_at gs k)) k (λ j lt. sym (hashes j (omega (arith, lt, less))))
            )
      ];
    }

-- a hash is chained in its place
pub chain_set : (m k : ℕ) (latest : List ℕ) (links : List Link) (none : Link) (place : ℕ) → AreChained m k latest links
    → k < length links → place ≡ bucket_of m (slice_index_or links k none).hash → place < length latest
    → length latest ≡ m → none.hash ≡ 0 → AreChained m (k + 1) (set latest place (k + 1)) (set links k record {
      hash = (slice_index_or links k none).hash;
      earlier = slice_index_or latest place 0;
    })
chain_set m k latest links none place chained lt is there size zero_hash =
    let e = slice_index_or latest place 0 in
    let link : Link = record {
      hash = (slice_index_or links k none).hash;
      earlier = e;
    } in
    let more = set links k link in
    let same : hashes_of more ≡ hashes_of links = map-set_same (λ l. l.hash) links k link none refl in
    let fresh : map (λ l. l.earlier) more ≡ set (map (λ l. l.earlier) links) k e = map-set (λ l. l.earlier) links k link
    in
    let next : suc k ≡ k + 1 = omega arith in
    subst (λ (j : ℕ). AreChained m j (set latest place j) more) next
    (chain_more m k latest links more (slice_index_or links k none).hash place chained
    (λ j before. ap (λ (hs : List ℕ). hash_at hs j) same)
    (λ j before. ap (λ (es : List ℕ). slice_index_or es j 0) fresh
    ∙ get_or-set_other (map (λ l. l.earlier) links) k j e 0 (λ at. omega (arith, before, at)))
    (ap (λ (hs : List ℕ). hash_at hs k) same ∙ get_or-map (λ l. l.hash) links k none 0 lt) is there
    (ap (λ (es : List ℕ). slice_index_or es k 0) fresh
    ∙ get_or-set_same (map (λ l. l.earlier) links) k e 0 (omega (arith, lt, length-map links (λ l. l.earlier))))
    size)

-- a hash is chained behind the others
pub chain_pushed : (latest : List ℕ) (links more : List Link) (hash place e count : ℕ) → IsIndex latest links
    → length links < 4294967295 → length links < length latest → place ≡ bucket_of (length latest) hash
    → place < length latest → e ≡ slice_index_or latest place e → more ≡ links ++ record {
      hash = hash;
      earlier = e;
    } ∷ [] → count ≡ length more → IsIndex (set latest place count) more
chain_pushed latest links more hash place e count index few room is there at_place pushed counted =
    let link : Link = record {
      hash = hash;
      earlier = e;
    } in
    let m = length latest in
    let n = length links in
    let one : length more ≡ suc n =
    omega (arith, ap (λ (ls : List Link). length ls) pushed, length-append links (link ∷ [])) in
    let hashes : hashes_of more ≡ hashes_of links ++ hash ∷ [] =
    ap (λ (ls : List Link). hashes_of ls) pushed ∙ map-append (λ l. l.hash) links (link ∷ []) in
    let earlier : map (λ l. l.earlier) more ≡ map (λ l. l.earlier) links ++ e ∷ [] =
    ap (λ (ls : List Link). map (λ l. l.earlier) ls) pushed ∙ map-append (λ l. l.earlier) links (link ∷ []) in
    let size : length (set latest place count) ≡ m = length-set latest place count in
    let chained : AreChained m (suc n) (set latest place (suc n)) more =
    chain_more m n latest links more hash place index.chained
    (λ k lt. ap (λ (hs : List ℕ). hash_at hs k) hashes
    ∙ get_or_append_left (hashes_of links) (hash ∷ []) 0 k (omega (arith, lt, length-map links (λ l. l.hash))))
    (λ k lt. ap (λ (es : List ℕ). slice_index_or es k 0) earlier
    ∙ get_or_append_left (map (λ l. l.earlier) links) (e ∷ []) 0 k
    (omega (arith, lt, length-map links (λ l. l.earlier))))
    (ap (λ (hs : List ℕ). hash_at hs n) hashes ∙ ap (hash_at (hashes_of links ++ hash ∷ []))
    (sym (length-map links (λ l. l.hash)))
    ∙ get_or-append_seam (hashes_of links) hash [] 0)
    is there
    (ap (λ (es : List ℕ). slice_index_or es n 0) earlier
    ∙ ap (hash_at (map (λ l. l.earlier) links ++ e ∷ [])) (sym (length-map links (λ l. l.earlier)))
    ∙ get_or-append_seam (map (λ l. l.earlier) links) e [] 0 ∙ at_place ∙ get_or_default latest place e 0 there)
    refl in
    record {
      few = omega (arith, one, few);
      room = omega (arith, one, room, size);
      chained = subst (λ (k : ℕ). AreChained (length (set latest place count)) k (set latest place count) more)
          (sym one)
          (subst (λ (k : ℕ). AreChained (length (set latest place k)) (suc n) (set latest place k) more)
          (sym (counted ∙ one))
          (subst (λ (b : ℕ). AreChained b (suc n) (set latest place (suc n)) more)
          (sym (length-set latest place (suc n))) chained));
    }

-- where a search goes on, a hash isn't behind: this far are the places up to the last one of its bucket
pub record IsFront (buckets : ℕ) (hs : List ℕ) (hash front n : ℕ) : Type 0 where
  pub within : front ≤ n
  pub last : front ≡ up_to_last buckets hs (bucket_of buckets hash) front
  pub behind : (k : ℕ) → front ≤ k → k < n → hash_at hs k ≡ hash → ⊥

module _ (latest : List ℕ) (links : List Link) (hs : List ℕ) (hash : ℕ) (index : IsIndex latest links)
    (are : hs ≡ hashes_of links) where
  abbrev buckets : ℕ
  buckets = length latest

  abbrev bucket : ℕ
  bucket = bucket_of buckets hash

  count : length hs ≡ length links
  count = ap (λ (h : List ℕ). length h) are ∙ length-map links (λ l. l.hash)

  front_of : (front n : ℕ) → front ≡ up_to_last buckets (hashes_of links) bucket n → IsFront buckets hs hash front n
  front_of front n is =
      let last : front ≡ up_to_last buckets hs bucket n =
      is ∙ ap (λ (h : List ℕ). up_to_last buckets h bucket n) (sym are) in
      record {
        within = omega (arith, last, at_most buckets hs bucket n);
        last = last ∙ last_of_those buckets hs bucket n ∙ ap (up_to_last buckets hs bucket) (sym last);
        behind = λ k from to same. none_behind buckets hs bucket n k (omega (arith, from, last)) to
            (ap (bucket_of buckets) same);
      }

  pub front_begins : (place front : ℕ) → place ≡ bucket → place < length latest
      → front ≡ slice_index_or latest place front → IsFront buckets hs hash front (length hs)
  front_begins place front is there at_place = front_of front (length hs)
      (at_place ∙ get_or_default latest place front 0 there ∙ index.chained.last place there
      ∙ ap (λ (b : ℕ). up_to_last buckets (hashes_of links) b (length links)) is
      ∙ ap (up_to_last buckets (hashes_of links) bucket) (sym count))

  pub front_goes_on : (front k : ℕ) (link : Link) → front ≤ length hs → front ≡ up_to_last buckets hs bucket front
      → front ≡ suc k → link ≡ slice_index_or links k link → IsFront buckets hs hash link.earlier k
  front_goes_on front k link within last is at_link =
      let there : k < length links = omega (arith, within, is, count) in
      let here : bucket_of buckets (hash_at hs k) ≡ bucket =
      last_within buckets hs bucket k (sym is ∙ last ∙ ap (up_to_last buckets hs bucket) is) in
      front_of link.earlier k
      (ap (λ (l : Link). l.earlier) at_link ∙ sym (get_or-map (λ l. l.earlier) links k link 0 there)
      ∙ index.chained.before k there
      ∙ ap (λ (h : List ℕ). up_to_last buckets (hashes_of links) (bucket_of buckets (hash_at h k)) k) (sym are)
      ∙ ap (λ (b : ℕ). up_to_last buckets (hashes_of links) b k) here)

  pub hash_here : (k : ℕ) (link : Link) → k < length hs → link ≡ slice_index_or links k link → hash_at hs k ≡ link.hash
  hash_here k link there at_link = ap (λ (h : List ℕ). hash_at h k) are
      ∙ get_or-map (λ l. l.hash) links k link 0 (omega (arith, there, count)) ∙ ap (λ (l : Link). l.hash) (sym at_link)
