-- How texts are parted, piece by piece.
use Rattle.std.proofs.Common.{◌≡◌, ℕ, List, [], ◌++◌, length, take, drop, Option, Some, None, Result, Ok, Err}
use Rattle.std.proofs.Common.{refl, sym, ap, subst, ◌∙◌, append_assoc}
use Rattle.std.proofs.lemmas.List.{take-append-drop, append-nil}
use Rattle.std.proofs.Math.Seq.{take-append_seam}
use Rattle.cla_spec.specs.Effects.{grown}
use Rattle.cla_io.specs.Sinks.{Grows, PutsAll}
use Rattle.cla_io.specs.declared.stop.Stop.{Stop}
use Rattle.cla_print.specs.Parting.{IsParted, HasFront}

-- two pieces, one after the other
grown_twice : (a : Option (List ℕ)) (x y : List ℕ) → grown (grown a x) y ≡ grown a (x ++ y)
grown_twice None x y = refl
grown_twice (Some a) x y = ap Some (append_assoc a x y)

grown_nothing : (a : Option (List ℕ)) → a ≡ grown a []
grown_nothing None = refl
grown_nothing (Some a) = ap Some (sym (append-nil a))

grows : (a b : Option (List ℕ)) (x : List ℕ) → Grows a b x → b ≡ grown a x
grows None b x h = h
grows (Some a) b x h = h

has_grown : (a b : Option (List ℕ)) (x : List ℕ) → b ≡ grown a x → Grows a b x
has_grown None b x h = h
has_grown (Some a) b x h = h

-- nothing was sent of what is held
pub all_held : (x : List ℕ) (a : Option (List ℕ)) → IsParted x a a x
all_held x a = record { sent = []; whole = refl; out = grown_nothing a }

-- more is held behind it
pub parted_longer : (x z : List ℕ) (a b : Option (List ℕ)) (y : List ℕ)
    → IsParted x a b y → IsParted (x ++ z) a b (y ++ z)
parted_longer x z a b y h = record
    { sent = h.sent; whole = ap (λ (t : List ℕ). t ++ z) h.whole ∙ append_assoc h.sent y z; out = h.out }

-- what is held and a piece behind it are parted again
pub parted_on : (x z : List ℕ) (a b c : Option (List ℕ)) (y w : List ℕ)
    → IsParted x a b y → IsParted (y ++ z) b c w → IsParted (x ++ z) a c w
parted_on x z a b c y w h k = record {
  sent = h.sent ++ k.sent;
  whole =
      ap (λ (t : List ℕ). t ++ z) h.whole ∙ append_assoc h.sent y z ∙ ap (λ (t : List ℕ). h.sent ++ t) k.whole ∙
      sym (append_assoc h.sent k.sent w);
  out = k.out ∙ ap (λ (o : Option (List ℕ)). grown o k.sent) h.out ∙ grown_twice a h.sent k.sent;
}

-- what is held was put out, and a piece behind it is held
pub all_put : (x z : List ℕ) (a b : Option (List ℕ)) → Grows a b x → IsParted (x ++ z) a b z
all_put x z a b h = record { sent = x; whole = refl; out = grows a b x h }

-- a front of what is held was put out
pub front_put : (x z : List ℕ) (a b : Option (List ℕ)) → (n : ℕ) × Grows a b (take n x) → HasFront (x ++ z) a b
front_put x z a b h = (
  drop h.0 x ++ z,
  record {
    sent = take h.0 x;
    whole = ap (λ (t : List ℕ). t ++ z) (sym (take-append-drop h.0 x)) ∙ append_assoc (take h.0 x) (drop h.0 x) z;
    out = grows a b (take h.0 x) h.1;
  },
)

-- a sink has a front of what is held and a piece behind it
pub front_on : (x z : List ℕ) (a b c : Option (List ℕ)) (y : List ℕ)
    → IsParted x a b y → HasFront (y ++ z) b c → HasFront (x ++ z) a c
front_on x z a b c y h k = (k.0, parted_on x z a b c y k.0 h k.1)

-- a front of a text is one of a longer text
pub front_longer : (x z : List ℕ) (a b : Option (List ℕ)) → HasFront x a b → HasFront (x ++ z) a b
front_longer x z a b h = (h.0 ++ z, parted_longer x z a b h.0 h.1)

-- a prefix that the sink has
pub front_puts : (x : List ℕ) (a b : Option (List ℕ)) → HasFront x a b → (n : ℕ) × Grows a b (take n x)
front_puts x a b h =
    let sent = h.1.sent in
    let front : take (length sent) x ≡ sent = ap (take (length sent)) h.1.whole ∙ take-append_seam sent h.0 in
    (length sent, has_grown a b (take (length sent) x) (h.1.out ∙ ap (grown a) (sym front)))

-- what is held is put out, and so all of the text
pub flush_puts : {U : Type 0} (x : List ℕ) (a b c : Option (List ℕ)) (y : List ℕ) (r : Result U Stop)
    → IsParted x a b y → PutsAll y b c r → PutsAll x a c r
flush_puts x a b c y (Ok u) h put =
    let more = ap (λ (o : Option (List ℕ)). grown o y) h.out ∙ grown_twice a h.sent y in
    has_grown a c x (grows b c y put ∙ more ∙ ap (grown a) (sym h.whole))
flush_puts x a b c y (Err e) h put =
    let front = front_on x [] a b c y h (front_put y [] b c put) in
    front_puts x a c (subst (λ (t : List ℕ). HasFront t a c) (append-nil x) front)
