-- A whole file: its header, its groups and its end.
use Rattle.std.proofs.Common.{◌≡◌, ℕ, ◌≤◌, true, false, List, [], ◌++◌, length, Option, Some, None, IsSome, Result}
use Rattle.std.proofs.Common.{Ok, Err, refl, sym, ap, subst, ◌∙◌, arith}
use Rattle.std.proofs.lemmas.Bool.{lt-ltb, le-ltb, eq-eqb, ne_eqb}
use Rattle.cla_spec.specs.Files.{Told}
use Rattle.cla_io.specs.Lines.{Progress, ahead_of}
use Rattle.cla_io.specs.State.{State, Reading, left, left_where_told}
use Rattle.cla_io.specs.Numbers as io
use Rattle.cla_io.specs.declared.stop.InFault.TheVariants as in_faults
use Rattle.cla_packed.specs.declared.fault.PackFault.{PackFault}
use Rattle.cla_packed.specs.declared.fault.PackFault.TheVariants.{Trailing, TooLong}
use Rattle.cla_packed.specs.Fields.{Place, Read, Gives, ended, list_at, start_of, whole_at, ◌>>=◌}
use Rattle.cla_packed.specs.Files.{PackedGroup, PackedLayout, IsFile, file_at, file_bytes, group_at}
use Rattle.cla_packed_laws.proofs.Files.{fields_form, file_form}
use Rattle.cla_packed_laws.proofs.Forms.{IsAt, ended_ok}
use Rattle.cla_pack_reader.specs.declared.header.Header.{Header}
use Rattle.cla_pack_reader.specs.Headers.{layout_with, GivesHeader}
use Rattle.cla_pack_reader.specs.Places.{place_at, place_of, places_of, Took, Refused}
use Rattle.cla_pack_reader.specs.Reading.{GivesFileWhereTold, IsEncodingWhereTold, HasLengthWhereTold}
use Rattle.cla_pack_reader.proofs.GroupForms.{zero_fits}
use Rattle.cla_pack_reader.proofs.LengthLaws.{end_from, file_kept}
use Rattle.cla_pack_reader.proofs.Loops.{fails_again}
use Rattle.cla_pack_reader.proofs.Steps.{Follows}
use Rattle.cla_pack_reader.proofs.ZeroLaws.{none_bytes}

-- ---- the end

module _ (old new : Progress) (l : PackedLayout) (near : old.at ≤ old.limit) where
  pub end_more : (l0 l1 : Option (List ℕ)) (n : ℕ) → IsSome l0
      → io.TakesNumberWhereTold 1 old (ahead_of old l0) (ahead_of new l1) (Ok (Some n))
      → ended (l, place_at old l0) ≡ Err (Trailing old.at)
  end_more None l1 n some t = cc
  end_more (Some x) None n some t = absurd t
  end_more (Some x) (Some y) n some t =
      let bytes = old.ahead ++ x in
      rw (ne_eqb (length bytes) 0 (λ e. omega (arith, e, t.0)), lt-ltb old.at old.limit (omega (arith, t.3))) refl

  pub end_here : (l0 l1 : Option (List ℕ)) → IsSome l0
      → io.TakesNumberWhereTold 1 old (ahead_of old l0) (ahead_of new l1) (Ok None)
      → ended (l, place_at old l0) ≡ Ok l
  end_here None l1 some t = cc
  end_here (Some x) None some t = absurd t
  end_here (Some x) (Some y) some t =
      let bytes = old.ahead ++ x in
      rw (eq-eqb (length bytes) 0 (omega (arith, t.0))) refl

  pub end_past : (l0 l1 : Option (List ℕ)) → IsSome l0
      → io.TakesNumberWhereTold 1 old (ahead_of old l0) (ahead_of new l1) (Err in_faults.TooLong)
      → ended (l, place_at old l0) ≡ Err TooLong
  end_past None l1 some t = cc
  end_past (Some x) None some t = absurd t
  end_past (Some x) (Some y) some t =
      let bytes = old.ahead ++ x in
      rw (
        ne_eqb (length bytes) 0 (λ e. omega (arith, e, t, near)),
        le-ltb old.at old.limit (omega (arith, t, near)),
      ) refl

-- ---- where the bytes are told

told_of : (told : Option Told) (r : Option Reading) → IsSome (left_where_told told r) → IsSome told
told_of None r h = cc
told_of (Some t) r h = refl

whole_is : (bits limit : ℕ) (bytes : List ℕ)
    → whole_at (file_at 8 bits) limit bytes ≡ (file_at 8 bits (start_of limit bytes) >>= ended)
unfolding whole_at
whole_is bits limit bytes = refl

-- the whole file ends where its end is known to be
length_told : (t : Progress) (l : Option (List ℕ)) (n : ℕ) → t.at ≡ 0 → (IsSome l → n ≡ end_from (place_at t l))
    → HasLengthWhereTold (ahead_of t l) n
length_told t None n start h = tt
length_told t (Some x) n start h = omega (arith, h refl, start)

-- what holds at the place that the files tell
at_bytes : {X : Type 0} (view : X → PackedLayout) (bits : ℕ) (t : Progress) (l : Option (List ℕ))
    (result : Result X PackFault) → t.at ≡ 0
    → (IsSome l → Gives view result (file_at 8 bits (place_at t l) >>= ended))
    → GivesFileWhereTold view bits t.limit (ahead_of t l) result
at_bytes view bits t None result start h = tt
at_bytes view bits t (Some x) result start h =
    let bytes = t.ahead ++ x in
    let same : place_at t (Some x) ≡ start_of t.limit bytes = λ i. record {
      offset = start i;
      limit = t.limit;
      rest = bytes;
    } in
    subst (λ (read : Result PackedLayout PackFault). Gives view result read)
    (ap (λ (p : Place). file_at 8 bits p >>= ended) same ∙ sym (whole_is bits t.limit bytes)) (h refl)

pub where_told : {X : Type 0} (view : X → PackedLayout) (bits : ℕ) (t : Progress) (s : State)
    (result : Result X PackFault) → t.at ≡ 0
    → ((p : Place) → places_of t s true p → Gives view result (file_at 8 bits p >>= ended))
    → GivesFileWhereTold view bits t.limit (ahead_of t (left s)) result
where_told view bits t s result start h =
    at_bytes view bits t (left s) result start (λ some. h (place_of t s) (told_of s.told s.reading some, refl))

pub no_header : {X : Type 0} (view : X → PackedLayout) (bits : ℕ) (t u : Progress) (s r : State) (e : PackFault)
    → t.at ≡ 0 → GivesHeader 8 bits (places_of t s) (places_of u r) (Err e)
    → GivesFileWhereTold view bits t.limit (ahead_of t (left s)) (Err e)
no_header view bits t u s r e start bad = where_told view bits t s (Err e) start
    (λ p h. fails_again e (file_at 8 bits p) (file_at 8 bits p >>= ended) (λ f is. rw is refl) (bad p h))

-- these groups behind a header
abbrev pub layout_from : Header → List PackedGroup → PackedLayout
layout_from h gs = record { rows = h.rows; cols = h.cols; groups = gs }

module _ (bits : ℕ) (t0 t1 : Progress) (s0 s1 : State) (h : Header) (start : t0.at ≡ 0)
    (header : GivesHeader 8 bits (places_of t0 s0) (places_of t1 s1) (Ok h))
    (f : Follows (places_of t0 s0) (places_of t1 s1)) where
  -- where the header was read, the groups decide
  at_groups : (p : Place) → places_of t0 s0 true p
      → (q : Place) × places_of t1 s1 true q × (file_at 8 bits p
      ≡ layout_with h.rows h.cols (list_at (group_at 8 bits h.rows h.cols) h.groups [] q))
  at_groups p here =
      let q = f.there p here in
      let x = header true q.0 q.1 in
      (q.0, q.1, ap (λ (r : Place). file_at 8 bits r) (f.same p x.0 here x.1) ∙ x.2)

  pub no_groups_read : {X : Type 0} (view : X → PackedLayout) (e : PackFault)
      → Refused (places_of t1 s1) (list_at (group_at 8 bits h.rows h.cols) h.groups []) e
      → GivesFileWhereTold view bits t0.limit (ahead_of t0 (left s0)) (Err e)
  no_groups_read view e bad = where_told view bits t0 s0 (Err e) start (λ p here.
      let x = at_groups p here in
      fails_again e (list_at (group_at 8 bits h.rows h.cols) h.groups [] x.0) (file_at 8 bits p >>= ended)
      (λ g is. rw x.2 (rw is refl)) (bad x.0 x.1))

  module _ (t2 : Progress) (s2 : State) (gs : List PackedGroup)
      (took : Took (places_of t1 s1) (places_of t2 s2) (list_at (group_at 8 bits h.rows h.cols) h.groups []) gs) where
    pub file_read : Took (places_of t0 s0) (places_of t2 s2) (file_at 8 bits) (layout_from h gs)
    file_read told q here =
        let one = took told q here in
        let two = header told one.0 one.1 in
        (two.0, two.1, two.2 ∙ ap (layout_with h.rows h.cols) one.2)

    -- the file is good, and its fields have so many bytes
    pub file_good : IsFile 8 bits (layout_from h gs) × (t2.at ≡ length (file_bytes 8 (layout_from h gs)))
        × (t2.at ≤ t2.limit) × (t2.limit ≡ t0.limit)
    file_good =
        let q : Place = record { offset = t2.at; limit = t2.limit; rest = [] } in
        let p = file_read false q (refl, refl, none_bytes) in
        let at : IsAt p.0 = record { fits = p.1.2; near = omega (arith, p.1.0, start) } in
        let t = (fields_form 8 bits (zero_fits bits)).takes p.0 q (layout_from h gs) at p.2 in
        (t.0, omega (arith, t.1.moved, p.1.0, start), t.1.within, t.1.same ∙ p.1.1)

    module _ (g : Follows (places_of t1 s1) (places_of t2 s2)) where
      at_end : (p : Place) → places_of t0 s0 true p
          → (q : Place) × places_of t2 s2 true q × (file_at 8 bits p ≡ Ok (layout_from h gs, q))
      at_end p here =
          let one = f.there p here in
          let q = g.there one.0 one.1 in
          let x = file_read true q.0 q.1 in
          (q.0, q.1, ap (λ (r : Place). file_at 8 bits r) (f.same p x.0 here x.1) ∙ x.2)

      -- the end decides
      pub file_gives : {X : Type 0} (view : X → PackedLayout) (result : Result X PackFault)
          → ((q : Place) → places_of t2 s2 true q → Gives view result (ended (layout_from h gs, q)))
          → GivesFileWhereTold view bits t0.limit (ahead_of t0 (left s0)) result
      file_gives view result end = where_told view bits t0 s0 result start (λ p here.
          let x = at_end p here in
          subst (λ (read : Result PackedLayout PackFault). Gives view result read)
          (sym (ap (λ (r : Read PackedLayout). r >>= ended) x.2)) (end x.0 x.1))

      -- where the end was met, the file has as many bytes as were taken
      pub file_length : ((q : Place) → places_of t2 s2 true q
          → ended (layout_from h gs, q) ≡ Ok (layout_from h gs))
          → HasLengthWhereTold (ahead_of t0 (left s0)) t2.at
      file_length end = length_told t0 (left s0) t2.at start (λ some.
          let p = place_of t0 s0 in
          let x = at_end p (told_of s0.told s0.reading some, refl) in
          let none = (ended_ok (layout_from h gs, x.0) (layout_from h gs) (end x.0 x.1)).0 in
          let here : x.0.offset ≡ t2.at = ap (λ (r : Place). r.offset) x.1.1 in
          omega (arith, none, here, file_kept 8 bits p x.0 (layout_from h gs) x.2))

-- what is told of a whole file are the bytes of its layout
pub encodes_told : (bits limit : ℕ) (l : PackedLayout) (told : Option (List ℕ))
    → GivesFileWhereTold (λ (x : PackedLayout). x) bits limit told (Ok l) → IsEncodingWhereTold told (file_bytes 8 l)
encodes_told bits limit l None h = tt
encodes_told bits limit l (Some bytes) h =
    λ fits. ((file_form 8 bits (zero_fits bits)).takes limit bytes l fits h).1
