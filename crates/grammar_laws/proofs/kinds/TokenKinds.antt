-- What the kind of a token in the scopes tells of the token itself, and the other way.
use Rattle.std.proofs.Common.{◌≡◌, ℕ, Bool, true, false, ◌||◌, List, [], ◌∷◌, refl, ◌∙◌}
use Rattle.std.proofs.lemmas.Bool.{eqb-true}
use Rattle.std.specs.Prelude.{◌==◌, if◌then◌else◌}
use Rattle.model_grammar.specs.declared.grammar.Terminal.{Terminal}
use Rattle.model_grammar.specs.GrammarForm.{mem}
use Rattle.model_grammar.specs.NameScopes.{Scopes, kind, bracket_kind, is_closing, is_given, own_kind, closes, is_type}
use Rattle.model_grammar.specs.Terminals as k
use Rattle.grammar_laws.proofs.kinds.KindSets.{clash, mem_one}

-- a set with no kind of identifiers and of brackets inside attributes
abbrev pub Plain : List ℕ → Type 0
Plain F = (mem k.Name F ≡ false) × (mem k.TypedefName F ≡ false) × (mem k.DeclaredName F ≡ false) × (mem k.Closing F ≡ false) × (mem k.Stray F ≡ false)

outside_name : (F : List ℕ) (b x y : Bool) (j : ℕ) → Plain F → mem (if b then (if x then (if y then k.DeclaredName else k.TypedefName) else k.Name) else j) F ≡ true → mem j F ≡ true
outside_name F true true true j p h = absurd (clash _ h p.2)
outside_name F true true false j p h = absurd (clash _ h p.1)
outside_name F true false y j p h = absurd (clash _ h p.0)
outside_name F false x y j p h = h

outside_bracket : (F : List ℕ) (c d : Bool) (j n : ℕ) → (mem j F ≡ true → mem n F ≡ true) → Plain F → mem (if c then (if d then k.Closing else k.Stray) else j) F ≡ true → mem n F ≡ true
outside_bracket F true true j n o p h = absurd (clash _ h p.3)
outside_bracket F true false j n o p h = absurd (clash _ h p.4)
outside_bracket F false d j n o p h = o h

outside_given : (F : List ℕ) (c : Bool) (j : ℕ) → mem k.Stray F ≡ false → mem (if c then k.Stray else j) F ≡ true → mem j F ≡ true
outside_given F true j p h = absurd (clash _ h p)
outside_given F false j p h = h

no_bracket : (F : List ℕ) (brackets : List ℕ) (k : ℕ) → Plain F → mem (bracket_kind brackets k) F ≡ true → mem k F ≡ true
no_bracket F [] k p h = outside_given F (is_given k) k p.4 h
no_bracket F (last ∷ brackets) k p h = outside_bracket F (is_closing k) (closes last k) (own_kind k) k (outside_given F (is_given k) k p.4) p h

-- such a kind is the token's own
pub raw : (F : List ℕ) → Plain F → (s : Scopes) (t : Terminal) → mem (kind s t) F ≡ true → mem t.kind F ≡ true
raw F p s t h = no_bracket F s.brackets t.kind p (outside_name F (t.kind == k.Name) (is_type s.entries t.name) s.reading.typed (bracket_kind s.brackets t.kind) p h)

one : (b : Bool) → (b || false) ≡ true → b ≡ true
one true h = refl
one false h = h

pub is_it : (k : ℕ) → Plain (k ∷ []) → (s : Scopes) (t : Terminal) → mem (kind s t) (k ∷ []) ≡ true → (t.kind == k) ≡ true
unfolding mem
is_it k p s t h = one (t.kind == k) (raw (k ∷ []) p s t h)

-- a token of another kind of its own
choose : (F : List ℕ) (c d : Bool) (j : ℕ) → mem j F ≡ false → mem k.Closing F ≡ false → mem k.Stray F ≡ false → mem (if c then (if d then k.Closing else k.Stray) else j) F ≡ false
choose F true true j a b c = b
choose F true false j a b c = c
choose F false d j a b c = a

given : (F : List ℕ) (c : Bool) (j : ℕ) → mem j F ≡ false → mem k.Stray F ≡ false → mem (if c then k.Stray else j) F ≡ false
given F true j a b = b
given F false j a b = a

pub unseen : (F : List ℕ) (brackets : List ℕ) (j : ℕ) → mem j F ≡ false → mem k.Closing F ≡ false → mem k.Stray F ≡ false → mem (bracket_kind brackets j) F ≡ false
unseen F [] j a b c = given F (is_given j) j a c
unseen F (last ∷ brackets) j a b c = choose F (is_closing j) (closes last j) (own_kind j) (given F (is_given j) j a c) b c

pub unnamed : (F : List ℕ) (b x y : Bool) (j : ℕ) → b ≡ false → mem (if b then (if x then (if y then k.DeclaredName else k.TypedefName) else k.Name) else j) F ≡ true → mem j F ≡ true
unnamed F true x y j e h = absurd (cc)
unnamed F false x y j e h = h

pub decide : (b : Bool) → (b ≡ true → ⊥) → b ≡ false
decide true n = absurd (n refl)
decide false n = refl

pub absent : (F : List ℕ) (j : ℕ) → (j == k.Name) ≡ false → mem j F ≡ false → mem k.Closing F ≡ false → mem k.Stray F ≡ false → (s : Scopes) (t : Terminal)
    → mem (kind s t) F ≡ true → (t.kind == j) ≡ false
absent F j n a b c s t h = decide (t.kind == j) (λ e.
    let q : t.kind ≡ j = eqb-true t.kind j e in
    clash _ (unnamed F (t.kind == k.Name) (is_type s.entries t.name) s.reading.typed (bracket_kind s.brackets t.kind) (rw q n) h) (rw q (unseen F s.brackets j a b c)))

-- a token that is no identifier and no closing bracket is of its own kind in any scopes
itself : (k : ℕ) (brackets : List ℕ) → is_closing k ≡ false → is_given k ≡ false → bracket_kind brackets k ≡ k
itself k [] h g = rw g refl
itself k (last ∷ brackets) h g = rw (h, g) refl

pub own : (b x y : Bool) (j : ℕ) → b ≡ false → (if b then (if x then (if y then k.DeclaredName else k.TypedefName) else k.Name) else j) ≡ j
own true x y j h = absurd (cc)
own false x y j h = refl

pub of_kind : (j : ℕ) → (j == k.Name) ≡ false → is_closing j ≡ false → is_given j ≡ false → (s : Scopes) (t : Terminal) → (t.kind == j) ≡ true → kind s t ≡ j
of_kind j n c g s t e =
    let q : t.kind ≡ j = eqb-true t.kind j e in
    own (t.kind == k.Name) (is_type s.entries t.name) s.reading.typed (bracket_kind s.brackets t.kind) (rw q n) ∙ rw q (itself j s.brackets c g)

pub shown : (j : ℕ) → (j == k.Name) ≡ false → is_closing j ≡ false → is_given j ≡ false → (s : Scopes) (t : Terminal) → (t.kind == j) ≡ true → mem (kind s t) (j ∷ []) ≡ true
shown j n c g s t e = mem_one (kind s t) j (of_kind j n c g s t e)
