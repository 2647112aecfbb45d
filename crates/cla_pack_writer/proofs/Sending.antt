-- How bytes go, piece by piece.
use Rattle.std.proofs.Common.{◌≡◌, ℕ, ◌≤◌, Bool, List, [], ◌∷◌, ◌++◌, Option, Result, Ok, Err, refl, sym, ap, subst}
use Rattle.std.proofs.Common.{◌∙◌, append_assoc, arith}
use Rattle.std.specs.List.{flat_map}
use Rattle.std.proofs.lemmas.List.{append-nil}
use Rattle.std.proofs.lemmas.List.Concat.{flat_map-append}
use Rattle.cla_io.specs.Counts.{HasCause}
use Rattle.cla_io.specs.Sinks.{PutsAll}
use Rattle.cla_io.specs.declared.stop.Stop.{Stop}
use Rattle.cla_io.specs.declared.stop.Stop.TheVariants.{Failed, Memory}
use Rattle.cla_print.specs.Parting.{IsParted, HasFront}
use Rattle.cla_print.proofs.PartLaws.{all_held, parted_on, front_on, front_longer, front_puts, flush_puts}
use Rattle.cla_pack_writer.specs.Outgoing.{Pending, wanting, Goes, HasGone, Sent, Puts, HasPut, Ends}

goes_on : (x y : List ℕ) (p q r : Pending) (a b c : Option (List ℕ)) → Goes x p a q b → Goes y q b r c
    → Goes (x ++ y) p a r c
goes_on x y (Ok held) (Ok more) (Ok most) a b c h k =
    subst (λ (t : List ℕ). IsParted t a c most) (append_assoc held x y) (parted_on (held ++ x) y a b c more most h k)
goes_on x y (Ok held) (Ok more) (Err stop) a b c h k =
    subst (λ (t : List ℕ). HasFront t a c) (append_assoc held x y) (front_on (held ++ x) y a b c more h k)
goes_on x y (Ok held) (Err stop) (Ok most) a b c h k = absurd k
goes_on x y (Ok held) (Err stop) (Err stop') a b c h k =
    subst (λ (t : List ℕ). HasFront t a c) (append_assoc held x y)
    (subst (λ (o : Option (List ℕ)). HasFront ((held ++ x) ++ y) a o) (sym k.1) (front_longer (held ++ x) y a b h))
goes_on x y (Err stop) (Ok more) r a b c h k = absurd h
goes_on x y (Err stop) (Err stop') (Ok most) a b c h k = absurd k
goes_on x y (Err stop) (Err stop') (Err stop'') a b c h k = (k.0 ∙ h.0, k.1 ∙ h.1)

same_cause : (state : Pending) (i j k : ℕ) → j ≡ i → HasCause j k state → HasCause i k state
same_cause state i j k same h = subst (λ (n : ℕ). HasCause n k state) same h

stays : (state : Pending) (i j k : ℕ) → k ≡ j → HasCause i j state → HasCause i k state
stays state i j k same h = subst (λ (n : ℕ). HasCause i n state) (sym same) h

gone_on : (x y : List ℕ) (p q r : Pending) (a b c : Option (List ℕ)) (i j k : ℕ) → Goes x p a q b → Goes y q b r c
    → HasGone p i q j → HasGone q j r k → HasGone p i r k
gone_on x y (Ok held) (Ok more) r a b c i j k g h one two = same_cause r i j k one two
gone_on x y (Ok held) (Err stop) (Ok most) a b c i j k g h one two = absurd h
gone_on x y (Ok held) (Err stop) (Err stop') a b c i j k g h one two =
    subst (λ (s : Stop). HasCause {T = List ℕ} i k (Err s)) (sym h.0) (stays (Err stop) i j k two one)
gone_on x y (Err stop) (Ok more) r a b c i j k g h one two = absurd g
gone_on x y (Err stop) (Err stop') r a b c i j k g h one two = two ∙ one

module _ {O : Type 0} {told : O → Option (List ℕ)} {faults : O → ℕ} {steady : O → Bool} {kept : O → O → Type 0} where
  -- one piece after another
  pub sent_on : {x y : List ℕ} {p q r : Pending} {a b c : O} → ((a b c : O) → kept a b → kept b c → kept a c)
      → Sent told faults steady kept x p a q b → Sent told faults steady kept y q b r c
      → Sent told faults steady kept (x ++ y) p a r c
  sent_on {x} {y} {p} {q} {r} {a} {b} {c} on h k = record {
    goes = goes_on x y p q r (told a) (told b) (told c) h.goes k.goes;
    later = omega (arith, h.later, k.later);
    steady_on = k.steady_on ∙ h.steady_on;
    kept_on = on a b c h.kept_on k.kept_on;
    cause = gone_on x y p q r (told a) (told b) (told c) (faults a) (faults b) (faults c) h.goes k.goes h.cause k.cause;
  }

  -- nothing was put yet
  pub sent_none : (p : Pending) (a : O) → kept a a → Sent told faults steady kept [] p a p a
  sent_none (Ok held) a same = record {
    goes = subst (λ (t : List ℕ). IsParted t (told a) (told a) held) (sym (append-nil held)) (all_held held (told a));
    later = omega arith;
    steady_on = refl;
    kept_on = same;
    cause = refl;
  }
  sent_none (Err stop) a same = record
      { goes = (refl, refl); later = omega arith; steady_on = refl; kept_on = same; cause = refl }

  -- the same bytes in other words
  pub sent_as : {x y : List ℕ} {p q : Pending} {a b : O} → x ≡ y → Sent told faults steady kept x p a q b
      → Sent told faults steady kept y p a q b
  sent_as {x} {y} {p} {q} {a} {b} same h = subst (λ (t : List ℕ). Sent told faults steady kept t p a q b) same h

  -- nothing more goes, whatever was to be put
  pub sent_wanting : (x : List ℕ) (p : Pending) (a : O) → kept a a → Sent told faults steady kept x p a (wanting p) a
  sent_wanting x (Ok held) a same = record {
    goes = (held ++ x, all_held (held ++ x) (told a));
    later = omega arith;
    steady_on = refl;
    kept_on = same;
    cause = refl;
  }
  sent_wanting x (Err stop) a same = record
      { goes = (refl, refl); later = omega arith; steady_on = refl; kept_on = same; cause = refl }

  -- what is put thing by thing
  pub sent_more : {X : Type 0} (f : X → List ℕ) (xs : List X) {x : X} {p q r : Pending} {a b c : O}
      → ((a b c : O) → kept a b → kept b c → kept a c) → Sent told faults steady kept (flat_map f xs) p a q b
      → Sent told faults steady kept (f x) q b r c → Sent told faults steady kept (flat_map f (xs ++ x ∷ [])) p a r c
  sent_more f xs {x} on h k =
      sent_as (sym (flat_map-append f xs (x ∷ []) ∙ ap (λ (t : List ℕ). flat_map f xs ++ t) (append-nil (f x))))
      (sent_on on h k)

-- an end: all bytes, or a front of them
puts_all : (x : List ℕ) (state : Pending) (a b c : Option (List ℕ)) (result : Result (Unit {0}) Stop)
    → Goes x (Ok []) a state b → Puts state b c result → PutsAll x a c result
puts_all x (Ok held) a b c result h put = flush_puts x a b c held result h put
puts_all x (Err stop) a b c (Ok u) h put = absurd put
puts_all x (Err stop) a b c (Err e) h put =
    subst (λ (o : Option (List ℕ)). PutsAll {U = Unit {0}} x a o (Err e)) (sym put.1) (front_puts x a b h)

-- a cause is one whatever is answered at Ok
retyped : (stop : Stop) (i j : ℕ) → HasCause {T = List ℕ} i j (Err stop) → HasCause {T = Unit {0}} i j (Err stop)
retyped Failed i j h = h
retyped Memory i j h = h

cause_all : (state : Pending) (a b : Option (List ℕ)) (i j k : ℕ) (result : Result (Unit {0}) Stop)
    → Puts state a b result → HasCause i j state → HasPut state j k result → HasCause i k result
cause_all (Ok held) a b i j k result put one two = subst (λ (n : ℕ). HasCause n k result) one two
cause_all (Err stop) a b i j k (Ok u) put one two = absurd put
cause_all (Err stop) a b i j k (Err e) put one two =
    subst (λ (s : Stop). HasCause {T = Unit {0}} i k (Err s)) (sym put.0)
    (retyped stop i k (subst (λ (n : ℕ). HasCause {T = List ℕ} i n (Err stop)) (sym two) one))

-- what was put from the start, and the end
pub record AllPut {O : Type 0} (told : O → Option (List ℕ)) (faults : O → ℕ) (steady : O → Bool)
    (kept : O → O → Type 0) (bytes : List ℕ) (a c : O) (result : Result (Unit {0}) Stop) : Type 0 where
  pub puts : PutsAll bytes (told a) (told c) result
  pub later : faults a ≤ faults c
  pub steady_on : steady c ≡ steady a
  pub kept_on : kept a c
  pub cause : HasCause (faults a) (faults c) result

pub all_put : {O : Type 0} {told : O → Option (List ℕ)} {faults : O → ℕ} {steady : O → Bool} {kept : O → O
    → Type 0} {x : List ℕ}
    {state : Pending} {a b c : O} {result : Result (Unit {0}) Stop} → ((a b c : O) → kept a b → kept b c → kept a c)
    → Sent told faults steady kept x (Ok []) a state b → Ends told faults steady kept state b c result
    → AllPut told faults steady kept x a c result
all_put {O} {told} {faults} {steady} {kept} {x} {state} {a} {b} {c} {result} on h e = record {
  puts = puts_all x state (told a) (told b) (told c) result h.goes e.puts;
  later = omega (arith, h.later, e.later);
  steady_on = e.steady_on ∙ h.steady_on;
  kept_on = on a b c h.kept_on e.kept_on;
  cause = cause_all state (told b) (told c) (faults a) (faults b) (faults c) result e.puts h.cause e.cause;
}
