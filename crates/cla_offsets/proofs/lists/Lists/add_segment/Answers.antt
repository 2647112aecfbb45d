use Rattle.std.proofs.Common.{rules, ◌≡◌, ◌+◌, ◌++◌, ◌∷◌, ◌∙◌, ℕ, List, [], length, map, ap, sym, ◌<◌, arith}
use Rattle.std.proofs.Common.{append_assoc, append-nil, length-append}
use Rattle.cla_offsets.specs.Segments.{listed}
use Rattle.cla_rows.specs.Chains.{lists_to, begins_to}
use Rattle.cla_rows.proofs.Chains.{lists_none, lists_more, begins_more}
use Rattle.cla_layout.specs.Groups.{code_of}
use Rattle.cla_layout.specs.Listed.{rows_of}
use Rattle.cla_offsets.proofs.ListedRows.{listed_few}
use Rattle.cla_offsets.proofs.ListedKeys.{keys_size, key_is, keys_few, row_within, place_within, listed_by_key}
use Rattle.cla_offsets.proofs.lists.Lists.add_segment.Goals as goal

pub loop-k-init : goal.loop-k-init
loop-k-init c =
    let old = c.args.self.now in
    let list = listed c.args.codes.now c.args.rest in
    let begin = λ (i : ℕ). length (lists_to list i) ∷ [] in
    record {
      bases = search (rules, c.in_ok-push.ensures.items);
      starts = sym (ap (λ (xs : List ℕ). old.starts.items ++ xs) (lists_none begin) ∙ append-nil old.starts.items);
      offsets = sym (ap (λ (xs : List ℕ). old.offsets.items ++ xs) (lists_none list) ∙ append-nil old.offsets.items);
    }

pub next_start-start-requires : goal.next_start-start-requires
next_start-start-requires c =
    let list = listed c.args.codes.now c.args.rest in
    let size = ap length c.loop-k.invariant.offsets
    ∙ length-append c.args.self.now.offsets.items (lists_to list c.loop-k.k) in
    record {
      past = omega (arith, c.len-base.ensures, size);
      few = omega (
        arith,
        c.len-base.ensures,
        size,
        listed_few c.args.codes.now c.args.rest c.loop-k.k,
        c.requires.rows,
      );
    }

pub group_places-requires-clause-below : goal.group_places-requires-clause-below
group_places-requires-clause-below c =
    let codes = c.args.codes.now in
    let rows = c.in_ok-listed.listed.rows.items in
    let keys = c.in_ok-listed.listed.keys.items in
    let are = c.in_ok-listed.ensures in
    rw c.deref.ensures.value (λ m there.
    (let row : m < length rows = omega (arith, there, keys_size codes c.args.rest rows keys are) in
    omega (
      arith,
      key_is codes c.args.rest rows keys are m there,
      c.requires.below (code_of rows m) (row_within codes c.args.rest rows keys are m row),
    )))

pub group_places-requires-clause-few : goal.group_places-requires-clause-few
group_places-requires-clause-few c =
    let listed = c.in_ok-listed.listed in
    rw c.deref.ensures.value (omega (
      arith,
      keys_few c.args.codes.now c.args.rest listed.rows.items listed.keys.items c.in_ok-listed.ensures,
      c.requires.rows,
    ))

pub push_offsets-requires-clause-places : goal.push_offsets-requires-clause-places
push_offsets-requires-clause-places c =
    let k = c.loop-k.k in
    let listed = c.in_ok-listed.listed in
    let places : c.places_of.result.now ≡ rows_of listed.keys.items k =
    c.places_of.ensures c.args.tuples c.deref.result.now c.in_ok-grouped.ensures c.loop-k-test.true
    ∙ ap (λ (xs : List ℕ). rows_of xs k) c.deref.ensures.value in
    rw (c.deref-in-loop-k.ensures.value, places) (place_within c.args.codes.now c.args.rest listed.rows.items
    listed.keys.items c.in_ok-listed.ensures k)

pub push_offsets-requires-clause-within : goal.push_offsets-requires-clause-within
push_offsets-requires-clause-within c =
    let listed = c.in_ok-listed.listed in
    rw c.deref-in-loop-k.ensures.value (λ n there.
    (let row = row_within c.args.codes.now c.args.rest listed.rows.items listed.keys.items c.in_ok-listed.ensures n
    there in
    omega (arith, row, c.requires.rows)))

pub loop-k-preserved : goal.loop-k-preserved
loop-k-preserved c =
    let old = c.args.self.now in
    let k = c.loop-k.k in
    let list = listed c.args.codes.now c.args.rest in
    let size = ap length c.loop-k.invariant.offsets ∙ length-append old.offsets.items (lists_to list k) in
    let start : c.next_start-start.result ≡ length (lists_to list k) =
    omega (arith, c.next_start-start.ensures, c.len-base.ensures, size) in
    let listed = c.in_ok-listed.listed in
    let added = map (code_of c.deref-in-loop-k.result.now) c.places_of.result.now in
    let places : c.places_of.result.now ≡ rows_of listed.keys.items k =
    c.places_of.ensures c.args.tuples c.deref.result.now c.in_ok-grouped.ensures c.loop-k-test.true
    ∙ ap (λ (xs : List ℕ). rows_of xs k) c.deref.ensures.value in
    let more : added ≡ list k =
    ap (λ (xs : List ℕ). map (code_of xs) c.places_of.result.now) c.deref-in-loop-k.ensures.value
    ∙ ap (map (code_of listed.rows.items)) places
    ∙ sym (listed_by_key c.args.codes.now c.args.rest k listed.rows.items listed.keys.items c.in_ok-listed.ensures) in
    record {
      bases = c.loop-k.invariant.bases;
      starts =
          c.in_ok-push-2.ensures.items ∙ ap (λ (xs : List ℕ). xs ++ c.next_start-start.result ∷ [])
          c.loop-k.invariant.starts
          ∙ append_assoc old.starts.items (begins_to list k) (c.next_start-start.result ∷ [])
          ∙ ap (λ (n : ℕ). old.starts.items ++ (begins_to list k ++ n ∷ [])) start
          ∙ ap (λ (xs : List ℕ). old.starts.items ++ xs) (sym (begins_more list k));
      offsets =
          c.in_ok-push_offsets.ensures ∙ ap (λ (xs : List ℕ). xs ++ added) c.loop-k.invariant.offsets
          ∙ append_assoc old.offsets.items (lists_to list k) added
          ∙ ap (λ (xs : List ℕ). old.offsets.items ++ (lists_to list k ++ xs)) more
          ∙ ap (λ (xs : List ℕ). old.offsets.items ++ xs) (sym (lists_more list k));
    }

pub next_start-end-requires : goal.next_start-end-requires
next_start-end-requires c =
    let list = listed c.args.codes.now c.args.rest in
    let size = ap length c.loop-k.invariant.offsets
    ∙ length-append c.args.self.now.offsets.items (lists_to list c.loop-k.k) in
    record {
      past = omega (arith, c.len-base.ensures, size);
      few = omega (
        arith,
        c.len-base.ensures,
        size,
        listed_few c.args.codes.now c.args.rest c.loop-k.k,
        c.requires.rows,
      );
    }

pub returns : goal.returns
returns c =
    let old = c.args.self.now in
    let k = c.loop-k.k in
    let list = listed c.args.codes.now c.args.rest in
    let last : k ≡ c.args.tuples = omega (arith, c.loop-k-test.false, c.loop-k.auto.k-end) in
    let size = ap length c.loop-k.invariant.offsets ∙ length-append old.offsets.items (lists_to list k) in
    let end : c.next_start-end.result ≡ length (lists_to list k) =
    omega (arith, c.next_start-end.ensures, c.len-base.ensures, size) in
    record {
      bases = c.loop-k.invariant.bases;
      starts =
          c.in_ok-push-3.ensures.items
          ∙ ap (λ (xs : List ℕ). xs ++ c.next_start-end.result ∷ []) c.loop-k.invariant.starts
          ∙ append_assoc old.starts.items (begins_to list k) (c.next_start-end.result ∷ [])
          ∙ ap (λ (n : ℕ). old.starts.items ++ (begins_to list k ++ n ∷ [])) end
          ∙ ap (λ (xs : List ℕ). old.starts.items ++ xs) (sym (begins_more list k))
          ∙ ap (λ (n : ℕ). old.starts.items ++ begins_to list (n + 1)) last;
      offsets = c.loop-k.invariant.offsets ∙ ap (λ (n : ℕ). old.offsets.items ++ lists_to list n) last;
    }
