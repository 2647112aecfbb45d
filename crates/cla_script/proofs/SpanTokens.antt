-- What the catch-all arms of the builder do.
use Rattle.std.proofs.Common.{◌≡◌, ℕ, ℤ, List, refl, Result, sym, ap, subst, ◌∙◌}
use Rattle.cla_grammar.specs.declared.place.Place.{Place}
use Rattle.cla_grammar.specs.Tree.{Tree, Every}
use Rattle.cla_grammar.specs.Tree as tree
use Rattle.cla_grammar.specs.Grammar.{at}
use Rattle.cla_grammar.specs.Machine as machine
use Rattle.cla_grammar.specs.Machine.{Frame, InSpan, ended, State}
use Rattle.cla_grammar.specs.Reader.{test}
use Rattle.cla_grammar.specs.declared.words.ScriptKind.{ScriptKind}
use Rattle.cla_tokens.specs.View.{kind_of}
use Rattle.cla_script.specs.Takes.{settled, seen_of, Tells}
use Rattle.cla_script.specs.declared.builder.Builder.{Builder}
use Rattle.cla_script.specs.declared.builder.Seen.{Seen}
use Rattle.cla_script.specs.declared.builder.Seen.TheVariants.{Nothing, Once}
use Rattle.cla_script.specs.declared.refusal.Refusal.{Refusal}
use Rattle.cla_tokens.specs.declared.token.TokenKind.{TokenKind}
use Rattle.cla_tokens.specs.declared.token.TokenKind.TheVariants.{Number, Colon}

number_is_all : (bits : ℕ) (q p : Place) (s : List Frame) (t : Tree) (part : machine.Part) (k : TokenKind)
    → ((d : _) → k ≡ Number d → ⊥)
    → test bits (InSpan p s t part machine.Nothing) (at q (kind_of k)) ≡ settled (ended (kind_of k) p s t part Every)
number_is_all bits q p s t part (Number d) h = absurd (h d refl)
number_is_all bits q p s t part _ h = refl

colon_is_all : (bits : ℕ) (q p : Place) (s : List Frame) (t : Tree) (part : machine.Part) (n : ℕ) (k : TokenKind)
    → (k ≡ Colon → ⊥)
    → test bits (InSpan p s t part (machine.Once n)) (at q (kind_of k)) ≡ settled
    (ended (kind_of k) p s t part (tree.One n))
colon_is_all bits q p s t part n Colon h = absurd (h refl)
colon_is_all bits q p s t part n _ h = refl

pub no_number : {N : Type 0} (value : N → ℤ) (bits : ℕ) (q p : Place) (s : List Frame) (t : Tree)
    (part : machine.Part) (seen : Seen)
    (k : TokenKind) (r : Result (Builder N) Refusal) → seen ≡ Nothing → ((d : _) → k ≡ Number d → ⊥)
    → Tells value r (settled (ended (kind_of k) p s t part Every))
    → Tells value r (test bits (InSpan p s t part (seen_of seen)) (at q (kind_of k)))
no_number value bits q p s t part seen k r is h f = subst (λ (x : Result State ScriptKind). Tells value r x)
    (sym (ap (λ (y : Seen). test bits (InSpan p s t part (seen_of y)) (at q (kind_of k))) is
    ∙ number_is_all bits q p s t part k h)) f

pub no_colon : {N : Type 0} (value : N → ℤ) (bits : ℕ) (q p : Place) (s : List Frame) (t : Tree) (part : machine.Part)
    (seen : Seen)
    (n : ℕ) (k : TokenKind) (r : Result (Builder N) Refusal) → seen ≡ Once n → (k ≡ Colon → ⊥)
    → Tells value r (settled (ended (kind_of k) p s t part (tree.One n)))
    → Tells value r (test bits (InSpan p s t part (seen_of seen)) (at q (kind_of k)))
no_colon value bits q p s t part seen n k r is h f = subst (λ (x : Result State ScriptKind). Tells value r x)
    (sym (ap (λ (y : Seen). test bits (InSpan p s t part (seen_of y)) (at q (kind_of k))) is
    ∙ colon_is_all bits q p s t part n k h)) f
