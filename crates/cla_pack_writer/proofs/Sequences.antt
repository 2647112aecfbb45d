-- Things that are put one by one.
use Rattle.std.proofs.Common.{◌≡◌, ℕ, ◌+◌, ◌-◌, ◌<◌, ◌≤◌, Bool, List, [], ◌∷◌, ◌++◌, length, take, drop, get_or}
use Rattle.std.proofs.Common.{Option, sym, ap, ◌∙◌, arith}
use Rattle.std.specs.List.{flat_map, range_with_len}
use Rattle.std.proofs.lemmas.List.{take_more, take_all, flat_map_more, length-drop}
use Rattle.cla_pack_writer.specs.Outgoing.{Pending, Sent}
use Rattle.cla_pack_writer.proofs.Ranges.{range_more, range_next}
use Rattle.cla_pack_writer.proofs.Sending.{sent_as, sent_on, sent_more}

-- all things of a list, those before a place, and those from it on
pub all_of : {X : Type 0} (n : ℕ) (xs : List X) → n ≡ length xs → take (n - 0) (drop 0 xs) ≡ xs
all_of n xs same = take_all (n - 0) xs (omega (arith, same))

pub front_of : {X : Type 0} (n : ℕ) (xs : List X) → take (n - 0) (drop 0 xs) ≡ take n xs
front_of {X} n xs = let same : n - 0 ≡ n = omega arith in ap (λ (m : ℕ). take m xs) same

pub back_of : {X : Type 0} (a n : ℕ) (xs : List X) → n ≡ length xs → take (n - a) (drop a xs) ≡ drop a xs
back_of a n xs same = take_all (n - a) (drop a xs) (omega (arith, same, length-drop a xs))

module _ {O : Type 0} {told : O → Option (List ℕ)} {faults : O → ℕ} {steady : O → Bool} {kept : O → O
    → Type 0} {p q : Pending} {a b : O} where
  -- one more thing of a list
  pub item_sent : {r : Pending} {c : O} {X : Type 0} (f : X → List ℕ) (xs : List X) (d : X) (i : ℕ)
      → ((a b c : O) → kept a b → kept b c → kept a c) → i < length xs
      → Sent told faults steady kept (flat_map f (take i xs)) p a q b
      → Sent told faults steady kept (f (get_or xs i d)) q b r c
      → Sent told faults steady kept (flat_map f (take (i + 1) xs)) p a r c
  item_sent f xs d i on lt h k = sent_as (ap (flat_map f) (sym (take_more xs i d lt))) (sent_more f (take i xs) on h k)

  -- all things of a list
  pub list_sent : {X : Type 0} (f : X → List ℕ) (xs : List X) (i : ℕ) → length xs ≤ i
      → Sent told faults steady kept (flat_map f (take i xs)) p a q b
      → Sent told faults steady kept (flat_map f xs) p a q b
  list_sent f xs i le h = sent_as (ap (flat_map f) (take_all i xs le)) h

  -- one more number of a range
  pub next_sent : {r : Pending} {c : O} (f : ℕ → List ℕ) (from i : ℕ) → ((a b c : O) → kept a b → kept b c → kept a c)
      → from ≤ i
      → Sent told faults steady kept (flat_map f (range_with_len from (i - from))) p a q b
      → Sent told faults steady kept (f i) q b r c
      → Sent told faults steady kept (flat_map f (range_with_len from (i + 1 - from))) p a r c
  next_sent f from i on le h k =
      let at : i ≡ from + (i - from) = omega (arith, le) in
      let size : (i - from) + 1 ≡ i + 1 - from = omega (arith, le) in
      sent_as (ap (λ (n : ℕ). flat_map f (range_with_len from (i - from) ++ n ∷ [])) at
      ∙ ap (flat_map f) (sym (range_more from (i - from))) ∙ ap (λ (n : ℕ). flat_map f (range_with_len from n)) size)
      (sent_more f (range_with_len from (i - from)) on h k)

  -- one more number from 0 on
  pub count_sent : {r : Pending} {c : O} (f : ℕ → List ℕ) (i : ℕ) → ((a b c : O) → kept a b → kept b c → kept a c)
      → Sent told faults steady kept (flat_map f (range_with_len 0 i)) p a q b
      → Sent told faults steady kept (f i) q b r c
      → Sent told faults steady kept (flat_map f (range_with_len 0 (i + 1))) p a r c
  count_sent f i on h k = sent_as (ap (flat_map f) (range_next i)) (sent_more f (range_with_len 0 i) on h k)

  -- one more thing of a list, behind other bytes
  pub behind_sent : {r : Pending} {c : O} {X : Type 0} (z : List ℕ) (f : X → List ℕ) (xs : List X) (d : X) (i : ℕ)
      → ((a b c : O) → kept a b → kept b c → kept a c)
      → i < length xs → Sent told faults steady kept (z ++ flat_map f (take i xs)) p a q b
      → Sent told faults steady kept (f (get_or xs i d)) q b r c
      → Sent told faults steady kept (z ++ flat_map f (take (i + 1) xs)) p a r c
  behind_sent {X = X} z f xs d i on lt h k =
      sent_as (flat_map_more f z (take i xs) (get_or xs i d)
      ∙ ap (λ (t : List X). z ++ flat_map f t) (sym (take_more xs i d lt)))
      (sent_on on h k)
