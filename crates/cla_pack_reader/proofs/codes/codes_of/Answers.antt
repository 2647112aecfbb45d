use Rattle.std.proofs.Common.{rules, ◌≡◌, ℕ, ◌+◌, ◌-◌, ◌≤◌, ◌∷◌, ◌++◌, List, [], refl, sym, ap, subst, ◌∙◌, arith, eqb}
use Rattle.cla_packed.specs.declared.fault.FieldName.TheVariants.{Code}
use Rattle.cla_packed.specs.Codes.{different, fits_code}
use Rattle.cla_packed.specs.Fields.{field_at}
use Rattle.cla_packed_laws.proofs.Codes.{one_more, AreThoseBelow}
use Rattle.cla_pack_reader.specs.Places.{places_of}
use Rattle.cla_pack_reader.specs.Seen.{fits_seen, seen_with}
use Rattle.cla_pack_reader.proofs.CodeLaws.{none_different, none_seen, took_same, refused_same, last_row, seen_test}
use Rattle.cla_pack_reader.proofs.CodeLaws.{seen_more, seen_max, number_width}
use Rattle.cla_pack_reader.proofs.Steps.{follows, decides_none, decides_more, took_list, refused_list, Decides}
use Rattle.cla_pack_reader.proofs.codes.codes_of.Goals as goal

pub code_of-requires : goal.code_of-requires
code_of-requires g c = number_width c.args.k c.requires.width

pub push-requires : goal.push-requires
push-requires g c = rw c.loop-i.invariant.width (omega (arith, c.in-Ok.ensures.below, c.requires.fits))

pub loop-i-init : goal.loop-i-init
loop-i-init g c =
    let b = places_of c.args.input.now.taken (g.F.Files.state c.args.input.now.files.now) in
    let step = λ (left : ℕ) (so_far : List ℕ). field_at c.args.k (fits_code c.args.d left so_far) c.args.group Code in
    let none : [] ≡ c.new-codes.result.codes = sym c.new-codes.ensures.codes in
    record {
      same_reference = refl;
      frame = search rules;
      width = c.new-codes.ensures.width;
      no_fault = refl;
      seen = none_different ∙ ap (λ (l : List ℕ). different l) none;
      below = subst (λ (l : List ℕ). AreThoseBelow (different l) l) none none_seen;
      so_far = subst (λ (l : List ℕ). Decides b b step c.args.rows 0 l) none (decides_none b b step c.args.rows);
    }

pub returns-in-Err-clause-exact : goal.returns-in-Err-clause-exact
returns-in-Err-clause-exact g c =
    let old = c.args.input.now.taken in
    let s = g.F.Files.state c.args.input.now.files.now in
    let mid = c.loop-i.input.taken in
    let u = g.F.Files.state c.loop-i.input.files.now in
    let codes = c.loop-i.codes.codes in
    let rows = c.args.rows in
    let left = rows - 1 - c.loop-i.i in
    let step = λ (left : ℕ) (so_far : List ℕ). field_at c.args.k (fits_code c.args.d left so_far) c.args.group Code in
    let last = eqb (c.loop-i.i + 1) rows in
    let bad = refused_same c.args.k c.args.group Code (fits_seen c.args.d c.loop-i.seen last)
    (fits_code c.args.d left codes) (places_of mid u) c.in-Err.fault (λ m.
    ap (λ (n : ℕ). fits_seen c.args.d n last m) c.loop-i.invariant.seen
    ∙ seen_test codes c.loop-i.invariant.below c.args.d left m last
    (last_row left rows c.loop-i.i c.loop-i-test.true refl)) c.in-Err.ensures.exact in
    refused_list (places_of old s) (places_of mid u) step rows c.loop-i.i left codes c.in-Err.fault c.loop-i-test.true
    refl (follows old mid s u c.loop-i.invariant.frame.told) c.loop-i.invariant.so_far bad

pub loop-i-preserved : goal.loop-i-preserved
loop-i-preserved g c =
    let b = places_of c.args.input.now.taken (g.F.Files.state c.args.input.now.files.now) in
    let m = places_of c.loop-i.input.taken (g.F.Files.state c.loop-i.input.files.now) in
    let r = places_of c.code_of.new.input.taken (g.F.Files.state c.code_of.new.input.files.now) in
    let codes = c.loop-i.codes.codes in
    let code = c.in-Ok.code in
    let rows = c.args.rows in
    let left = rows - 1 - c.loop-i.i in
    let step = λ (left : ℕ) (so_far : List ℕ). field_at c.args.k (fits_code c.args.d left so_far) c.args.group Code in
    let last = eqb (c.loop-i.i + 1) rows in
    let items : c.push.new.self.codes ≡ codes ++ code ∷ [] = c.in-Ok-push.ensures.codes in
    let seen = c.loop-i.invariant.seen in
    let below = c.loop-i.invariant.below in
    let known : code ≤ different codes = omega (arith, c.in-Ok.ensures.known, seen) in
    let took = took_same c.args.k c.args.group Code (fits_seen c.args.d c.loop-i.seen last)
    (fits_code c.args.d left codes) m r code (λ n.
    ap (λ (x : ℕ). fits_seen c.args.d x last n) seen
    ∙ seen_test codes below c.args.d left n last (last_row left rows c.loop-i.i c.loop-i-test.true refl))
    c.in-Ok.ensures.exact in
    record {
      same_reference = search rules;
      frame = search rules;
      width = c.push.ensures.width ∙ c.loop-i.invariant.width;
      no_fault = search rules;
      seen = c.max-seen.ensures ∙ seen_max c.loop-i.seen code c.in-Ok.ensures.known
          ∙ ap (λ (x : ℕ). seen_with x code) seen ∙ sym (seen_more codes below code known)
          ∙ ap (λ (l : List ℕ). different l) (sym items);
      below = subst (λ (l : List ℕ). AreThoseBelow (different l) l) (sym items) (one_more codes code below known);
      so_far = subst (λ (l : List ℕ). Decides b r step rows (c.loop-i.i + 1) l) (sym items)
          (decides_more b m r step rows c.loop-i.i left codes code c.loop-i-test.true refl
          c.loop-i.invariant.so_far took);
    }

pub returns-clause-exact : goal.returns-clause-exact
returns-clause-exact g c =
    let b = places_of c.args.input.now.taken (g.F.Files.state c.args.input.now.files.now) in
    let m = places_of c.loop-i.input.taken (g.F.Files.state c.loop-i.input.files.now) in
    let step = λ (left : ℕ) (so_far : List ℕ). field_at c.args.k (fits_code c.args.d left so_far) c.args.group Code in
    took_list b m step c.args.rows c.loop-i.i c.loop-i.codes.codes c.loop-i-test.false c.loop-i.invariant.so_far
