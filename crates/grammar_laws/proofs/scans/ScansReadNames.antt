-- The scans of the tokens ahead read of the scopes the names alone, and no test reads the frames.
use Rattle.std.proofs.Common.{◌≡◌, ℕ, Bool, true, false, not, ◌&&◌, ◌||◌, List, [], ◌∷◌, Option, Some, None, refl, sym, ap, ◌∙◌}
use Rattle.std.specs.Prelude.{◌==◌, if◌then◌else◌}
use Rattle.model_grammar.specs.declared.grammar.Rule.{Rule}
use Rattle.model_grammar.specs.declared.grammar.Test.{Test}
use Rattle.model_grammar.specs.declared.grammar.Test.TheVariants as test
use Rattle.model_grammar.specs.declared.grammar.Terminal.{Terminal}
use Rattle.model_grammar.specs.declared.grammar.Frame.{Frame}
use Rattle.model_grammar.specs.declared.grammar.Before.{Before}
use Rattle.model_grammar.specs.declared.grammar.Within.{Within}
use Rattle.model_grammar.specs.declared.grammar.Within.TheVariants.{Between, BehindColon, BehindHead, BehindTag, BehindTypeof, Attribute, Group}
use Rattle.model_grammar.specs.NameScopes.{Scopes, kind, bracket_kind, is_closing, is_given, closes, is_type}
use Rattle.model_grammar.specs.Terminals as k
use Rattle.grammar_laws.specs.ParserTests.{passes, goes_on, past_specifiers, specifier_step, names_declarator, declarator_step, is_name, declares, lacks_enumeration, waiting_behind, awaits_braces, opens_enumerators, are_enumerators, sees_name, sees_attribute}

-- two ways to go on that agree
pub on_alike : {A B : Type 0} → (o : Option A) (f g : A → B) (x : B) → ((next : A) → f next ≡ g next) → goes_on o f x ≡ goes_on o g x
on_alike (Some next) f g x h = h next
on_alike None f g x h = refl

pub step_alike : (rule : Rule) (place : Within) (s s' : Scopes) (t : Terminal) → s'.entries ≡ s.entries → specifier_step rule place s' t ≡ specifier_step rule place s t
unfolding specifier_step
step_alike rule (Between typed) s s' t q = rw q refl
step_alike rule BehindColon s s' t q = rw q refl
step_alike rule (BehindHead is_struct) s s' t q = refl
step_alike rule BehindTag s s' t q = refl
step_alike rule BehindTypeof s s' t q = refl
step_alike rule (Attribute is_struct n) s s' t q = refl
step_alike rule (Group n) s s' t q = refl

pub past_alike : (ts : List Terminal) (place : Within) (s s' : Scopes) → s'.entries ≡ s.entries → past_specifiers place s' ts ≡ past_specifiers place s ts
unfolding past_specifiers
past_alike [] place s s' q = refl
past_alike (t ∷ ts) place s s' q =
    rw (step_alike _ place s s' t q) (on_alike (specifier_step _ place s t) (λ next. past_specifiers next s' ts) (λ next. past_specifiers next s ts) (t ∷ ts) (λ next. past_alike ts next s s' q))

pub named_alike : (ts : List Terminal) (before : Before) (s s' : Scopes) → s'.entries ≡ s.entries → names_declarator before s' ts ≡ names_declarator before s ts
unfolding names_declarator
named_alike [] before s s' q = refl
named_alike (t ∷ ts) before s s' q =
    on_alike (declarator_step before t.kind (sees_attribute (t ∷ ts))) (λ next. names_declarator next s' ts) (λ next. names_declarator next s ts) (is_name before s' t)
    (λ next. named_alike ts next s s' q) ∙ ap
    (λ z. goes_on (declarator_step before t.kind (sees_attribute (t ∷ ts))) (λ next. names_declarator next s ts) (t.kind == k.Name && (not (is_type z t.name) || declares before))) q

-- the kind is that of an identifier that is no typedef name
no_name : (bs : List ℕ) (j : ℕ) → (j == k.Name) ≡ false → (bracket_kind bs j == k.Name) ≡ false
no_name [] j h = alone (is_given j) j h
  where
    alone : (g : Bool) (j : ℕ) → (j == k.Name) ≡ false → ((if g then k.Stray else j) == k.Name) ≡ false
    alone true j h = refl
    alone false j h = h
no_name (last ∷ bs) j h = both (is_closing j) (closes last j) (is_given j) j h
  where
    both : (c d g : Bool) (j : ℕ) → (j == k.Name) ≡ false → ((if c then (if d then k.Closing else k.Stray) else (if g then k.Stray else j)) == k.Name) ≡ false
    both true true g j h = refl
    both true false g j h = refl
    both false d true j h = refl
    both false d false j h = h

kind_named : (s : Scopes) (t : Terminal) → (kind s t == k.Name) ≡ ((t.kind == k.Name) && not (is_type s.entries t.name))
kind_named s t = by (t.kind == k.Name) (is_type s.entries t.name) s.reading.typed refl
  where
    by : (b x y : Bool) → (t.kind == k.Name) ≡ b → ((if b then (if x then (if y then k.DeclaredName else k.TypedefName) else k.Name) else bracket_kind s.brackets t.kind) == k.Name) ≡ (b && not x)
    by true true true q = refl
    by true true false q = refl
    by true false y q = refl
    by false x y q = no_name s.brackets t.kind q

pub name_alike : (ts : List Terminal) (s s' : Scopes) → s'.entries ≡ s.entries → sees_name s' ts ≡ sees_name s ts
name_alike [] s s' q = refl
name_alike (t ∷ ts) s s' q = kind_named s' t ∙ (ap (λ z. (t.kind == k.Name) && not (is_type z t.name)) q ∙ sym (kind_named s t))

enumerators_alike : (place : Within) (s s' : Scopes) (t : Terminal) (ts : List Terminal) → s'.entries ≡ s.entries → opens_enumerators place s' t ts ≡ opens_enumerators place s t ts
enumerators_alike place s s' t ts q = ap (λ z. (t.kind == k.OpenBrace) && are_enumerators place z) (name_alike ts s s' q)

pub lacks_alike : (ts : List Terminal) (w : ℕ) (place : Within) (s s' : Scopes) → s'.entries ≡ s.entries → lacks_enumeration w place s' ts ≡ lacks_enumeration w place s ts
unfolding lacks_enumeration
lacks_alike [] w place s s' q = refl
lacks_alike (t ∷ ts) w place s s' q =
    rw (enumerators_alike place s s' t ts q, step_alike _ place s s' t q)
    (ap (λ z. if (w == 0) && opens_enumerators place s t ts then true else z) (on_alike (specifier_step _ place s t) (λ next. lacks_enumeration (waiting_behind w (opens_enumerators place s t ts) (awaits_braces place t)) next s' ts) (λ next. lacks_enumeration (waiting_behind w (opens_enumerators place s t ts) (awaits_braces place t)) next s ts) false (λ next. lacks_alike ts _ next s s' q)))

-- the same scopes but for the frames
abbrev pub framed : List Frame → Scopes → Scopes
framed fs s = record s { frames = fs }

pub test_alike : (p : Test) (s : Scopes) (fs : List Frame) (ts : List Terminal) → passes p (framed fs s) ts ≡ passes p s ts
test_alike test.FunctionAhead s fs ts = rw (past_alike _ _ s (framed fs s) refl) refl
test_alike test.DeclaratorAhead s fs ts = named_alike ts _ s (framed fs s) refl
test_alike test.EnumeratorsAhead s fs [] = refl
test_alike test.EnumeratorsAhead s fs (t ∷ ts) = rw (lacks_alike ts s.reading.waiting (Between true) s (framed fs s) refl) refl
test_alike _ s fs ts = refl
