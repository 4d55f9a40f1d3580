-- A parameter's declarator and an abstract one begin alike up to the name.
use Rattle.std.proofs.Common.{◌≡◌, Bool, true, false, ◌&&◌, List, [], ◌∷◌, refl, sym, subst, ◌∙◌}
use Rattle.std.proofs.lemmas.Bool.{eqb-true}
use Rattle.std.specs.Prelude.{◌==◌}
use mathlib.Core.Logic.{◌⊎◌, inl, inr}
use Rattle.model_grammar.specs.declared.grammar.Rule.TheVariants as r
use Rattle.model_grammar.specs.declared.grammar.Act.TheVariants as act
use Rattle.model_grammar.specs.declared.grammar.Test.TheVariants as test
use Rattle.model_grammar.specs.declared.grammar.Terminal.{Terminal}
use Rattle.model_grammar.specs.declared.grammar.Before.{Before}
use Rattle.model_grammar.specs.declared.grammar.Before.TheVariants.{AtStart, BehindStar}
use Rattle.model_grammar.specs.declared.grammar.Tree.{Tree}
use Rattle.model_grammar.specs.GrammarForm.{Form, rule, when, maybe, many, loop, ◌then◌, ◌or◌, mem}
use Rattle.model_grammar.specs.Grammar.{grammar}
use Rattle.model_grammar.specs.NameScopes.{Scopes, kind, after}
use Rattle.model_grammar.specs.Derivation.{Derives, Begins}
use Rattle.model_grammar.specs.Terminals as k
use Rattle.grammar_laws.specs.FirstTokens.{first}
use Rattle.grammar_laws.specs.ParserWalk.{ahead}
use Rattle.grammar_laws.specs.ParserTable.{table}
use Rattle.grammar_laws.specs.ParserSets.{tables, firsts, follows, hollow}
use Rattle.grammar_laws.specs.ParserTests.{parsed, sees_attribute, names_declarator}
use Rattle.grammar_laws.proofs.kinds.KindSets.{clash}
use Rattle.grammar_laws.proofs.walks.DecidedDerivations.{entry, begun}
use Rattle.grammar_laws.proofs.walks.ParserDecided.{quiet, checked}
use Rattle.grammar_laws.proofs.kinds.TokenKinds.{Plain, is_it}
use Rattle.grammar_laws.proofs.derivations.ClearBrackets.{is_balanced, clear, parsed_clear}
use Rattle.grammar_laws.proofs.scans.NameOfDeclarator.{is_inside, is_star, is_behind, IsAt, at_star, at_parenthesis, over_loop, over_qualifiers}
use Rattle.grammar_laws.proofs.tests_lose_nothing.AbstractDeclarator.{IsLittle, inner, choice_begun, in_array, closed}
use Rattle.grammar_laws.proofs.scans.BehindAttributes.{missing, no_attribute, attribute_seen}
use Rattle.grammar_laws.proofs.tests_lose_nothing.LosesNothing.{TestsLoseNothing, begins_with, starts}
use Rattle.grammar_laws.proofs.tests_lose_nothing.ParameterDeclarator.{star, parenthesis, pointer, behind_star, moved, over_pointers, inside_parenthesis, name_found, declarator_named, closing_end, array_ends, second_bracket, no_attribute_there, listed_ends, listed_moves, abstract_unnamed}
use Rattle.grammar_laws.proofs.tests_lose_nothing.AbstractDeclarator.{abstract_begun, Opens, no_parenthesis, bracket_shown}
use Rattle.grammar_laws.proofs.tests_lose_nothing.TestedLoops.{Seen, looped, ahead_of}

plain_open_bracket : Plain (k.OpenBracket ∷ [])
unfolding mem
plain_open_bracket = (refl, refl, refl, refl, refl)

-- where only a `[` is read, what comes may be an attribute
pub attribute_little : {s : Scopes} {ts rest : List Terminal} → Begins parsed (rule r.Attr) s ts rest → (sees_attribute ts ≡ true) ⊎ IsLittle ts rest
unfolding table
attribute_little Begins.yet = inr IsLittle.unread
attribute_little (Begins.in_rule Begins.yet) = inr IsLittle.unread
attribute_little (Begins.in_rule (Begins.in_first Begins.yet)) = inr IsLittle.unread
attribute_little {s = s} (Begins.in_rule (Begins.in_first (Begins.in_word {t = t} e))) = inr (IsLittle.bracket (is_it k.OpenBracket plain_open_bracket s t e))
attribute_little {s = s} (Begins.in_rule (Begins.in_then (Derives.a_word {t = t} e) Begins.yet)) = inr (IsLittle.bracket (is_it k.OpenBracket plain_open_bracket s t e))
attribute_little {s = s} (Begins.in_rule (Begins.in_then (Derives.a_word {t = t} e) (Begins.in_first Begins.yet))) = inr (IsLittle.bracket (is_it k.OpenBracket plain_open_bracket s t e))
attribute_little {s = s} (Begins.in_rule (Begins.in_then (Derives.a_word {t = t} e) (Begins.in_first (Begins.in_word {t = u} e')))) =
    inl (rw (is_it k.OpenBracket plain_open_bracket s t e, is_it k.OpenBracket plain_open_bracket (after act.Keep s t) u e') refl)
attribute_little {s = s} (Begins.in_rule (Begins.in_then (Derives.a_word {t = t} e) (Begins.in_then (Derives.a_word {t = u} e') d))) =
    inl (rw (is_it k.OpenBracket plain_open_bracket s t e, is_it k.OpenBracket plain_open_bracket (after act.Keep s t) u e') refl)

pub seen : Seen test.AttributeAhead (rule r.Attr)
seen s new ts rest xs d = attribute_seen d

-- what may come behind the attributes of an abstract `*`
abbrev pub rest_of : Form
rest_of = many (rule r.Qual) then maybe (rule r.Abstract)

abbrev pub attributed : Form
attributed = loop test.AttributeAhead (rule r.Attr) then rest_of

by_bracket : (s : Scopes) (u : Terminal) (us : List Terminal) → (u.kind == k.OpenBracket) ≡ true → Begins parsed (rule r.Abstract) s (u ∷ us) us
unfolding table
by_bracket s u us h = Begins.in_rule (Begins.in_right (Begins.in_rule (Begins.in_first (Begins.in_other (closed u us (no_parenthesis u h)) (Begins.in_rule (Begins.in_left (Begins.in_first (Begins.in_word (bracket_shown s u h)))))))))

little_loop : {s : Scopes} {ts rest : List Terminal} → sees_attribute ts ≡ false → IsLittle ts rest → Begins parsed attributed s ts rest
little_loop b IsLittle.unread = Begins.yet
little_loop {s = s} b (IsLittle.bracket {t = t} {ts = us} h) = Begins.in_then (Derives.done b) (Begins.in_then Derives.stop (Begins.in_maybe (by_bracket s t us h)))

in_loop : {s : Scopes} {ts rest : List Terminal} (b : Bool) → sees_attribute ts ≡ b → Begins parsed (rule r.Attr) s ts rest → Begins parsed attributed s ts rest
in_loop true b d = Begins.in_first (Begins.in_again b d)
in_loop {ts = ts} false b d = elim (attribute_little d) [
  | inl h ↦ absurd (clash (sees_attribute ts) h b)
  | inr h ↦ little_loop b h
]

pub many_loop : {s : Scopes} {ts rest : List Terminal} → Begins parsed (many (rule r.Attr)) s ts rest → Begins parsed attributed s ts rest
many_loop Begins.yet = Begins.yet
many_loop {ts = ts} (Begins.in_turn d) = in_loop (sees_attribute ts) refl d
many_loop (Begins.in_later d e) = ahead_of test.AttributeAhead (rule r.Attr) rest_of seen d (many_loop e)

pub no_qualifier_attribute : (s : Scopes) (ts : List Terminal) → mem (ahead tables parsed s ts) (firsts r.Qual) ≡ true → sees_attribute ts ≡ false
unfolding firsts mem
no_qualifier_attribute s ts h = no_attribute ts (missing (firsts r.Qual) k.OpenBracket refl refl refl refl s ts h)

pub attributes_part : {s : Scopes} {ts rest : List Terminal} → Begins parsed (rule r.Attrs then many (rule r.Qual)) s ts rest → Begins parsed attributed s ts rest
unfolding table first
attributes_part Begins.yet = Begins.yet
attributes_part (Begins.in_first Begins.yet) = Begins.yet
attributes_part (Begins.in_first (Begins.in_rule d)) = many_loop d
attributes_part {s = s} {ts = ts} (Begins.in_then {mid = mid} {later = later} (Derives.a_rule m) q) = elim (entry tables parsed quiet checked q) [
  | inl z ↦ Begins.in_then (looped test.AttributeAhead (rule r.Attr) seen m (no_qualifier_attribute _ later z.begun)) (Begins.in_first q)
  | inr h ↦ subst (λ z. Begins parsed attributed s ts z) (sym h) (many_loop (begun tables parsed quiet checked m))
]

pointer_abstract : {s : Scopes} {ts rest : List Terminal} → Begins parsed pointer s ts rest → Begins parsed (rule r.Abstract) s ts rest
unfolding table
pointer_abstract Begins.yet = Begins.yet
pointer_abstract (Begins.in_first d) = Begins.in_rule (Begins.in_left (Begins.in_first d))
pointer_abstract (Begins.in_then e d) = Begins.in_rule (Begins.in_left (Begins.in_then e (attributes_part d)))

-- one more turn, begun
extended : {f : Form} {s mid : Scopes} {ts later rest : List Terminal} {xs : List Tree} → Derives parsed (many f) s ts xs mid later → Begins parsed f mid later rest → Begins parsed (many f) s ts rest
extended Derives.stop b = Begins.in_turn b
extended (Derives.turn d e _) b = Begins.in_later d (extended e b)

pub opens_no_attribute : (ts : List Terminal) → sees_attribute ts ≡ true → Opens ts → ⊥
opens_no_attribute [] h o = o
opens_no_attribute (t ∷ []) h o = cc
opens_no_attribute (t ∷ u ∷ ts) h o =
    let p : t.kind ≡ k.OpenBracket = eqb-true t.kind k.OpenBracket (left (t.kind == k.OpenBracket) (u.kind == k.OpenBracket) h) in
    let q : u.kind ≡ k.OpenBracket = eqb-true u.kind k.OpenBracket (right (t.kind == k.OpenBracket) (u.kind == k.OpenBracket) h) in
    clash _ o (rw (p, q) refl)
  where
    left : (a b : Bool) → (a && b) ≡ true → a ≡ true
    left true b h = refl
    left false b h = h

    right : (a b : Bool) → (a && b) ≡ true → b ≡ true
    right true b h = h
    right false b h = absurd (cc)

-- behind attributes with more to come
with_little : {s mid : Scopes} {ts later rest : List Terminal} {xs : List Tree} → Derives parsed (many (rule r.Attr)) s ts xs mid later → IsLittle later rest → Begins parsed attributed s ts rest
unfolding table
with_little m IsLittle.unread = many_loop (begun tables parsed quiet checked m)
with_little {mid = mid} m (IsLittle.bracket {t = t} h) = many_loop (extended m (Begins.in_rule (Begins.in_first (Begins.in_word (bracket_shown mid t h)))))

pub behind_many : {s mid m : Scopes} {ts later more rest : List Terminal} {xs ys : List Tree} (b : Bool) → sees_attribute later ≡ b
    → Derives parsed (many (rule r.Attr)) s ts xs mid later → Derives parsed (many (rule r.Qual)) mid later ys m more
    → Begins parsed (rule r.Abstract) m more rest → Begins parsed attributed s ts rest
unfolding hollow
behind_many false b m q d = Begins.in_then (looped test.AttributeAhead (rule r.Attr) seen m b) (Begins.in_then q (Begins.in_maybe d))
behind_many {later = later} true b m Derives.stop d = elim (abstract_begun d) [
  | inl o ↦ absurd (opens_no_attribute later b o)
  | inr h ↦ with_little m h
]
behind_many {mid = mid} {later = later} true b m (Derives.turn x y _) d = absurd (clash (sees_attribute later) b (no_qualifier_attribute mid later (begins_with refl x)))

prefixed : {s mid : Scopes} {ts later rest : List Terminal} {xs : List Tree} → Derives parsed pointer s ts xs mid later
    → Begins parsed (rule r.Abstract) mid later rest → Begins parsed (rule r.Abstract) s ts rest
unfolding table
prefixed (Derives.both (Derives.a_word e) (Derives.both {later = later} (Derives.a_rule m) q _) _) d =
    Begins.in_rule (Begins.in_left (Begins.in_then (Derives.a_word e) (behind_many (sees_attribute later) refl m q d)))

prefixes : {s mid : Scopes} {ts later rest : List Terminal} {xs : List Tree} → Derives parsed (many pointer) s ts xs mid later
    → Begins parsed (rule r.Abstract) mid later rest → Begins parsed (rule r.Abstract) s ts rest
prefixes Derives.stop d = d
prefixes (Derives.turn p e _) d = prefixed p (prefixes e d)

pointers_abstract : {s : Scopes} {ts rest : List Terminal} → Begins parsed (many pointer) s ts rest → Begins parsed (rule r.Abstract) s ts rest
pointers_abstract Begins.yet = Begins.yet
pointers_abstract (Begins.in_turn p) = pointer_abstract p
pointers_abstract (Begins.in_later p e) = prefixed p (pointers_abstract e)

-- in parentheses
in_parentheses : {s : Scopes} {ts rest : List Terminal} → Begins parsed (inner or rule r.Suffix) s ts rest → Begins parsed (rule r.Abstract) s ts rest
unfolding table
in_parentheses d = Begins.in_rule (Begins.in_right (Begins.in_rule (Begins.in_first (choice_begun d))))

declarator_front : (base : Scopes) (before : Before) {s : Scopes} {ts rest : List Terminal} → IsAt before base s → Begins parsed (rule r.Declarator) s ts rest
    → (names_declarator before base ts ≡ true) ⊎ Begins parsed (rule r.Abstract) s ts rest
unfolding table is_inside
declarator_front base before a Begins.yet = inr Begins.yet
declarator_front base before a (Begins.in_rule Begins.yet) = inr Begins.yet
declarator_front base before a (Begins.in_rule (Begins.in_first m)) = inr (pointers_abstract m)
declarator_front base before a (Begins.in_rule (Begins.in_then m Begins.yet)) = inr (prefixes m Begins.yet)
declarator_front base before a (Begins.in_rule (Begins.in_then m (Begins.in_rule Begins.yet))) = inr (prefixes m Begins.yet)
declarator_front base before a (Begins.in_rule (Begins.in_then m (Begins.in_rule (Begins.in_first Begins.yet)))) = inr (prefixes m Begins.yet)
declarator_front base before a (Begins.in_rule (Begins.in_then m (Begins.in_rule (Begins.in_first (Begins.in_left Begins.yet))))) = inr (prefixes m Begins.yet)
declarator_front base before a (Begins.in_rule (Begins.in_then m (Begins.in_rule (Begins.in_first (Begins.in_left (Begins.in_first Begins.yet)))))) = inr (prefixes m Begins.yet)
declarator_front base before a (Begins.in_rule (Begins.in_then {mid = mid} m (Begins.in_rule (Begins.in_first (Begins.in_left (Begins.in_first (Begins.in_word {t = t} {ts = us} e))))))) =
    let w = over_pointers base before a m in inl (w.same ∙ name_found base w.behind mid t us w.at e)
declarator_front base before a (Begins.in_rule (Begins.in_then {mid = mid} m (Begins.in_rule (Begins.in_first (Begins.in_left (Begins.in_then (Derives.a_word {t = t} {ts = us} e) d)))))) =
    let w = over_pointers base before a m in inl (w.same ∙ name_found base w.behind mid t us w.at e)
declarator_front base before a (Begins.in_rule (Begins.in_then m (Begins.in_rule (Begins.in_first (Begins.in_right Begins.yet))))) = inr (prefixes m Begins.yet)
declarator_front base before a (Begins.in_rule (Begins.in_then m (Begins.in_rule (Begins.in_first (Begins.in_right (Begins.in_first Begins.yet)))))) = inr (prefixes m Begins.yet)
declarator_front base before a (Begins.in_rule (Begins.in_then m (Begins.in_rule (Begins.in_first (Begins.in_right (Begins.in_first (Begins.in_word e))))))) = inr (prefixes m (in_parentheses (Begins.in_left (Begins.in_first (Begins.in_word e)))))
declarator_front base before a (Begins.in_rule (Begins.in_then m (Begins.in_rule (Begins.in_first (Begins.in_right (Begins.in_then (Derives.a_word e) Begins.yet)))))) = inr (prefixes m (in_parentheses (Begins.in_left (Begins.in_first (Begins.in_word e)))))
declarator_front base before a
    (Begins.in_rule (Begins.in_then {mid = mid} m (Begins.in_rule (Begins.in_first (Begins.in_right (Begins.in_then (Derives.a_word {t = t} {ts = us} e) (Begins.in_first d))))))) =
    let w = over_pointers base before a m in
    elim (declarator_front base (AtStart false) (inside_parenthesis base w.behind mid t w.at) d) [
      | inl h ↦ inl (w.same ∙ (at_parenthesis w.behind base t us w.at.outside (parenthesis mid t e) ∙ h))
      | inr h ↦ inr (prefixes m (in_parentheses (Begins.in_left (Begins.in_then (Derives.a_word e) (Begins.in_first h)))))
    ]
declarator_front base before a
    (Begins.in_rule (Begins.in_then {mid = mid} m (Begins.in_rule (Begins.in_first (Begins.in_right (Begins.in_then (Derives.a_word {t = t} {ts = us} e) (Begins.in_then d c))))))) =
    let w = over_pointers base before a m in
    inl (w.same ∙ (at_parenthesis w.behind base t us w.at.outside (parenthesis mid t e) ∙ declarator_named base (AtStart false) (inside_parenthesis base w.behind mid t w.at) d))
declarator_front base before a (Begins.in_rule (Begins.in_then {mid = mid} m (Begins.in_rule (Begins.in_then (Derives.left (Derives.both (Derives.a_word {t = t} {ts = us} e) d _)) c)))) =
    let w = over_pointers base before a m in inl (w.same ∙ name_found base w.behind mid t us w.at e)
declarator_front base before a
    (Begins.in_rule (Begins.in_then {mid = mid} m (Begins.in_rule (Begins.in_then (Derives.right (Derives.both (Derives.a_word {t = t} {ts = us} e) (Derives.both d x _) _)) c)))) =
    let w = over_pointers base before a m in
    inl (w.same ∙ (at_parenthesis w.behind base t us w.at.outside (parenthesis mid t e) ∙ declarator_named base (AtStart false) (inside_parenthesis base w.behind mid t w.at) d))

-- and the other way
attributes_of : {s : Scopes} {ts rest : List Terminal} → Begins parsed (loop test.AttributeAhead (rule r.Attr)) s ts rest → Begins parsed (many (rule r.Attr)) s ts rest
attributes_of Begins.yet = Begins.yet
attributes_of (Begins.in_again _ d) = Begins.in_turn d
attributes_of (Begins.in_further _ d e) = Begins.in_later d (attributes_of e)

unlooped : {s new : Scopes} {ts rest : List Terminal} {xs : List Tree} → Derives parsed (loop test.AttributeAhead (rule r.Attr)) s ts xs new rest → Derives parsed (many (rule r.Attr)) s ts xs new rest
unlooped (Derives.done _) = Derives.stop
unlooped (Derives.again _ d e q) = Derives.turn d (unlooped e) q

over_done : {s new : Scopes} {ts rest : List Terminal} {xs : List Tree} → Derives parsed (loop test.AttributeAhead (rule r.Attr)) s ts xs new rest → sees_attribute rest ≡ false
over_done (Derives.done h) = h
over_done (Derives.again _ d e q) = over_done e

prefixed_declarator : {s mid : Scopes} {ts later rest : List Terminal} {xs : List Tree} → Derives parsed pointer s ts xs mid later
    → Begins parsed (rule r.Declarator) mid later rest → Begins parsed (rule r.Declarator) s ts rest
unfolding table
prefixed_declarator p Begins.yet = Begins.in_rule (Begins.in_first (Begins.in_later p Begins.yet))
prefixed_declarator p (Begins.in_rule Begins.yet) = Begins.in_rule (Begins.in_first (Begins.in_later p Begins.yet))
prefixed_declarator p (Begins.in_rule (Begins.in_first m)) = Begins.in_rule (Begins.in_first (Begins.in_later p m))
prefixed_declarator p (Begins.in_rule (Begins.in_then m d)) = Begins.in_rule (Begins.in_then (Derives.turn p m refl) d)

by_pointer : {s : Scopes} {ts rest : List Terminal} → Begins parsed pointer s ts rest → Begins parsed (rule r.Declarator) s ts rest
unfolding table
by_pointer d = Begins.in_rule (Begins.in_first (Begins.in_turn d))

by_parenthesis : {s : Scopes} {t : Terminal} {us : List Terminal} → mem (kind s t) (k.OpenParenthesis ∷ []) ≡ true → Begins parsed (rule r.Declarator) s (t ∷ us) us
unfolding table
by_parenthesis e = Begins.in_rule (Begins.in_then Derives.stop (Begins.in_rule (Begins.in_first (Begins.in_right (Begins.in_first (Begins.in_word e))))))

-- an abstract declarator that has ended without a name: `*` alone, or more
abstract_front_derived : (base : Scopes) (before : Before) {s new : Scopes} {ts rest : List Terminal} {xs : List Tree} → IsAt before base s
    → Derives parsed (rule r.Abstract) s ts xs new rest → (names_declarator before base ts ≡ false) ⊎ Begins parsed (rule r.Declarator) s ts rest
unfolding table is_inside is_behind ahead
abstract_front_derived base before {s = s} a (Derives.a_rule (Derives.left (Derives.both e (Derives.both l (Derives.both q Derives.skip x) y) z))) =
    inr (by_pointer (Begins.in_then e (Begins.in_then (Derives.a_rule (unlooped l)) (begun tables parsed quiet checked q))))
abstract_front_derived base before {s = s} a (Derives.a_rule (Derives.left (Derives.both (Derives.a_word {t = t} {ts = us} e) (Derives.both {mid = mid} l (Derives.both q (Derives.take d) x) y) z))) =
    let b = behind_star base before s t a in
    let o = over_loop base b.clear l in
    let w = over_qualifiers base BehindStar refl (moved base BehindStar (after act.Pointer s t) mid o.state b) q in
    elim (abstract_front_derived base w.behind w.at d) [
      | inl h ↦ inl (at_star before base t us a.outside (star s t e) ∙ (o.scanned ∙ (w.same ∙ h)))
      | inr h ↦ inr (prefixed_declarator (Derives.both (Derives.a_word e) (Derives.both (Derives.a_rule (unlooped l)) q refl) refl) h)
    ]
abstract_front_derived base before {s = s} a
    (Derives.a_rule (Derives.right (Derives.a_rule (Derives.both (Derives.chosen b (Derives.both (Derives.a_word {t = t} {ts = us} e) (Derives.both {mid = mid} d (Derives.a_word {t = v} c) x) y)) m z)))) =
    inl (at_parenthesis before base t us a.outside (parenthesis s t e) ∙ abstract_unnamed base (AtStart false) (inside_parenthesis base before s t a) d (closing_end mid v c))
abstract_front_derived base before {s = s} a
    (Derives.a_rule (Derives.right (Derives.a_rule (Derives.both (Derives.other b (Derives.a_rule (Derives.left (Derives.both (Derives.a_word {t = t} {ts = us} e) d y)))) m z)))) =
    inl (array_ends base before s t us a e (no_attribute_there before (t ∷ us) (second_bracket t us (in_array d))))
abstract_front_derived base before {s = s} a
    (Derives.a_rule (Derives.right (Derives.a_rule (Derives.both (Derives.other b (Derives.a_rule (Derives.right (Derives.both (Derives.a_word {t = t} {ts = us} e) d y)))) m z)))) =
    inl (at_parenthesis before base t us a.outside (parenthesis s t e) ∙ listed_ends base (after act.OpenParameters s t) us refl a.entries (starts listed_moves d))

abstract_front : (base : Scopes) (before : Before) {s : Scopes} {ts rest : List Terminal} → IsAt before base s → (is_star before && sees_attribute ts) ≡ false
    → Begins parsed (rule r.Abstract) s ts rest → (names_declarator before base ts ≡ false) ⊎ Begins parsed (rule r.Declarator) s ts rest
unfolding table is_inside is_behind is_star ahead
abstract_front base before a g Begins.yet = inr Begins.yet
abstract_front base before a g (Begins.in_rule Begins.yet) = inr Begins.yet
abstract_front base before a g (Begins.in_rule (Begins.in_left Begins.yet)) = inr Begins.yet
abstract_front base before a g (Begins.in_rule (Begins.in_left (Begins.in_first d))) = inr (by_pointer (Begins.in_first d))
abstract_front base before a g (Begins.in_rule (Begins.in_left (Begins.in_then e Begins.yet))) = inr (by_pointer (Begins.in_then e Begins.yet))
abstract_front base before a g (Begins.in_rule (Begins.in_left (Begins.in_then e (Begins.in_first l)))) = inr (by_pointer (Begins.in_then e (Begins.in_first (Begins.in_rule (attributes_of l)))))
abstract_front base before a g (Begins.in_rule (Begins.in_left (Begins.in_then e (Begins.in_then l Begins.yet)))) =
    inr (by_pointer (Begins.in_then e (Begins.in_then (Derives.a_rule (unlooped l)) Begins.yet)))
abstract_front base before a g (Begins.in_rule (Begins.in_left (Begins.in_then e (Begins.in_then l (Begins.in_first q))))) =
    inr (by_pointer (Begins.in_then e (Begins.in_then (Derives.a_rule (unlooped l)) q)))
abstract_front base before a g (Begins.in_rule (Begins.in_left (Begins.in_then e (Begins.in_then l (Begins.in_then q Begins.yet))))) =
    inr (by_pointer (Begins.in_then e (Begins.in_then (Derives.a_rule (unlooped l)) (begun tables parsed quiet checked q))))
abstract_front base before {s = s} a g (Begins.in_rule (Begins.in_left (Begins.in_then (Derives.a_word {t = t} {ts = us} e) (Begins.in_then {mid = mid} l (Begins.in_then q (Begins.in_maybe d)))))) =
    let b = behind_star base before s t a in
    let o = over_loop base b.clear l in
    let w = over_qualifiers base BehindStar refl (moved base BehindStar (after act.Pointer s t) mid o.state b) q in
    elim (abstract_front base w.behind w.at (w.calm (over_done l)) d) [
      | inl h ↦ inl (at_star before base t us a.outside (star s t e) ∙ (o.scanned ∙ (w.same ∙ h)))
      | inr h ↦ inr (prefixed_declarator (Derives.both (Derives.a_word e) (Derives.both (Derives.a_rule (unlooped l)) q refl) refl) h)
    ]
abstract_front base before a g (Begins.in_rule (Begins.in_right Begins.yet)) = inr Begins.yet
abstract_front base before a g (Begins.in_rule (Begins.in_right (Begins.in_rule Begins.yet))) = inr Begins.yet
abstract_front base before a g (Begins.in_rule (Begins.in_right (Begins.in_rule (Begins.in_first Begins.yet)))) = inr Begins.yet
abstract_front base before a g (Begins.in_rule (Begins.in_right (Begins.in_rule (Begins.in_first (Begins.in_chosen b Begins.yet))))) = inr Begins.yet
abstract_front base before a g (Begins.in_rule (Begins.in_right (Begins.in_rule (Begins.in_first (Begins.in_chosen b (Begins.in_first Begins.yet)))))) = inr Begins.yet
abstract_front base before a g (Begins.in_rule (Begins.in_right (Begins.in_rule (Begins.in_first (Begins.in_chosen b (Begins.in_first (Begins.in_word e))))))) = inr (by_parenthesis e)
abstract_front base before a g (Begins.in_rule (Begins.in_right (Begins.in_rule (Begins.in_first (Begins.in_chosen b (Begins.in_then (Derives.a_word e) Begins.yet)))))) = inr (by_parenthesis e)
abstract_front base before {s = s} a g
    (Begins.in_rule (Begins.in_right (Begins.in_rule (Begins.in_first (Begins.in_chosen b (Begins.in_then (Derives.a_word {t = t} {ts = us} e) (Begins.in_first d))))))) =
    elim (abstract_front base (AtStart false) (inside_parenthesis base before s t a) refl d) [
      | inl h ↦ inl (at_parenthesis before base t us a.outside (parenthesis s t e) ∙ h)
      | inr h ↦ inr (Begins.in_rule (Begins.in_then Derives.stop (Begins.in_rule (Begins.in_first (Begins.in_right (Begins.in_then (Derives.a_word e) (Begins.in_first h)))))))
    ]
abstract_front base before {s = s} a g
    (Begins.in_rule (Begins.in_right (Begins.in_rule (Begins.in_first (Begins.in_chosen b (Begins.in_then (Derives.a_word {t = t} {ts = us} e) (Begins.in_then d Begins.yet))))))) =
    elim (abstract_front_derived base (AtStart false) (inside_parenthesis base before s t a) d) [
      | inl h ↦ inl (at_parenthesis before base t us a.outside (parenthesis s t e) ∙ h)
      | inr h ↦ inr (Begins.in_rule (Begins.in_then Derives.stop (Begins.in_rule (Begins.in_first (Begins.in_right (Begins.in_then (Derives.a_word e) (Begins.in_first h)))))))
    ]
abstract_front base before {s = s} a g
    (Begins.in_rule (Begins.in_right (Begins.in_rule (Begins.in_first (Begins.in_chosen b (Begins.in_then (Derives.a_word {t = t} {ts = us} e) (Begins.in_then {mid = mid} d (Begins.in_word {t = v} c)))))))) =
    inl (at_parenthesis before base t us a.outside (parenthesis s t e) ∙ abstract_unnamed base (AtStart false) (inside_parenthesis base before s t a) d (closing_end mid v c))
abstract_front base before a g (Begins.in_rule (Begins.in_right (Begins.in_rule (Begins.in_first (Begins.in_other b Begins.yet))))) = inr Begins.yet
abstract_front base before a g (Begins.in_rule (Begins.in_right (Begins.in_rule (Begins.in_first (Begins.in_other b (Begins.in_rule Begins.yet)))))) = inr Begins.yet
abstract_front base before a g (Begins.in_rule (Begins.in_right (Begins.in_rule (Begins.in_first (Begins.in_other b (Begins.in_rule (Begins.in_left Begins.yet))))))) = inr Begins.yet
abstract_front base before a g (Begins.in_rule (Begins.in_right (Begins.in_rule (Begins.in_first (Begins.in_other b (Begins.in_rule (Begins.in_left (Begins.in_first Begins.yet)))))))) = inr Begins.yet
abstract_front base before {s = s} a g (Begins.in_rule (Begins.in_right (Begins.in_rule (Begins.in_first (Begins.in_other b (Begins.in_rule (Begins.in_left (Begins.in_first (Begins.in_word {t = t} {ts = us} e))))))))) = inl (array_ends base before s t us a e g)
abstract_front base before {s = s} a g (Begins.in_rule (Begins.in_right (Begins.in_rule (Begins.in_first (Begins.in_other b (Begins.in_rule (Begins.in_left (Begins.in_then (Derives.a_word {t = t} {ts = us} e) d)))))))) = inl (array_ends base before s t us a e g)
abstract_front base before a g (Begins.in_rule (Begins.in_right (Begins.in_rule (Begins.in_first (Begins.in_other b (Begins.in_rule (Begins.in_right Begins.yet))))))) = inr Begins.yet
abstract_front base before a g (Begins.in_rule (Begins.in_right (Begins.in_rule (Begins.in_first (Begins.in_other b (Begins.in_rule (Begins.in_right (Begins.in_first Begins.yet)))))))) = inr Begins.yet
abstract_front base before a g (Begins.in_rule (Begins.in_right (Begins.in_rule (Begins.in_first (Begins.in_other b (Begins.in_rule (Begins.in_right (Begins.in_first (Begins.in_word e))))))))) = inr (by_parenthesis e)
abstract_front base before {s = s} a g (Begins.in_rule (Begins.in_right (Begins.in_rule (Begins.in_first (Begins.in_other b (Begins.in_rule (Begins.in_right (Begins.in_then (Derives.a_word {t = t} {ts = us} e) d)))))))) = elim (entry tables parsed quiet checked d) [
  | inl m ↦ inl (at_parenthesis before base t us a.outside (parenthesis s t e) ∙ listed_ends base (after act.OpenParameters s t) us refl a.entries m.begun)
  | inr h ↦ inr (subst (λ z. Begins parsed (rule r.Declarator) s (t ∷ us) z) (sym h) (by_parenthesis e))
]
abstract_front base before {s = s} a g
    (Begins.in_rule (Begins.in_right (Begins.in_rule (Begins.in_then (Derives.chosen b (Derives.both (Derives.a_word {t = t} {ts = us} e) (Derives.both {mid = mid} d (Derives.a_word {t = v} c) x) y)) m)))) =
    inl (at_parenthesis before base t us a.outside (parenthesis s t e) ∙ abstract_unnamed base (AtStart false) (inside_parenthesis base before s t a) d (closing_end mid v c))
abstract_front base before {s = s} a g
    (Begins.in_rule (Begins.in_right (Begins.in_rule (Begins.in_then (Derives.other b (Derives.a_rule (Derives.left (Derives.both (Derives.a_word {t = t} {ts = us} e) d y)))) m)))) =
    inl (array_ends base before s t us a e g)
abstract_front base before {s = s} a g
    (Begins.in_rule (Begins.in_right (Begins.in_rule (Begins.in_then (Derives.other b (Derives.a_rule (Derives.right (Derives.both (Derives.a_word {t = t} {ts = us} e) d y)))) m)))) =
    inl (at_parenthesis before base t us a.outside (parenthesis s t e) ∙ listed_ends base (after act.OpenParameters s t) us refl a.entries (starts listed_moves d))

-- the choice in a parameter
abbrev either : Form
either = rule r.Declared or rule r.Abstract

abbrev decided : Form
decided = when test.DeclaratorAhead (rule r.Declared) (rule r.Abstract)

pub at_specifiers : (s : Scopes) → s.reading.parameter ≡ true → s.brackets ≡ [] → IsAt (AtStart s.reading.typed) s s
unfolding is_inside
at_specifiers s p c = record { outside = refl; typed = refl; entries = refl; parameter = p; clear = c }

either_derived : {s new : Scopes} {ts rest : List Terminal} {xs : List Tree} → s.reading.parameter ≡ true → s.brackets ≡ []
    → mem (ahead tables parsed new rest) (k.Comma ∷ k.CloseParenthesis ∷ []) ≡ true → Derives parsed either s ts xs new rest
    → Derives parsed decided s ts xs new rest
unfolding table
either_derived {s = s} p c h (Derives.left (Derives.a_rule d)) = Derives.chosen (declarator_named s (AtStart s.reading.typed) (at_specifiers s p c) d) (Derives.a_rule d)
either_derived {s = s} p c h (Derives.right d) = Derives.other (abstract_unnamed s (AtStart s.reading.typed) (at_specifiers s p c) d h) d

either_begun : {s : Scopes} {ts rest : List Terminal} (b : Bool) → names_declarator (AtStart s.reading.typed) s ts ≡ b → s.reading.parameter ≡ true
    → s.brackets ≡ [] → Begins parsed either s ts rest → Begins parsed decided s ts rest
unfolding table is_star
either_begun b n p c Begins.yet = Begins.yet
either_begun b n p c (Begins.in_left Begins.yet) = Begins.yet
either_begun true n p c (Begins.in_left (Begins.in_rule d)) = Begins.in_chosen n (Begins.in_rule d)
either_begun {s = s} {ts = ts} false n p c (Begins.in_left (Begins.in_rule d)) = elim (declarator_front s (AtStart s.reading.typed) (at_specifiers s p c) d) [
  | inl h ↦ absurd (clash (names_declarator (AtStart s.reading.typed) s ts) h n)
  | inr h ↦ Begins.in_other n h
]
either_begun false n p c (Begins.in_right d) = Begins.in_other n d
either_begun {s = s} {ts = ts} true n p c (Begins.in_right d) = elim (abstract_front s (AtStart s.reading.typed) (at_specifiers s p c) refl d) [
  | inl h ↦ absurd (clash (names_declarator (AtStart s.reading.typed) s ts) n h)
  | inr h ↦ Begins.in_chosen n (Begins.in_rule h)
]

clear_attributes : clear (rule r.Attrs) true ≡ true
unfolding clear is_balanced
clear_attributes = refl

clear_specifiers : clear (rule r.ParamSpecs) true ≡ true
unfolding clear is_balanced
clear_specifiers = refl

pub specifiers_of : {s new : Scopes} {ts rest : List Terminal} {xs : List Tree} → Derives parsed (rule r.ParamSpecs) s ts xs new rest → new.reading.parameter ≡ true
specifiers_of (Derives.a_rule d) = refl

-- the scopes behind the specifiers of a parameter
clear_behind : {s mid m : Scopes} {ts later more : List Terminal} {xs ys : List Tree} → s.brackets ≡ [] → Derives parsed (rule r.Attrs) s ts xs mid later
    → Derives parsed (rule r.ParamSpecs) mid later ys m more → m.brackets ≡ []
clear_behind c a d = parsed_clear d true (λ _. parsed_clear a true (λ _. c) clear_attributes) clear_specifiers

derived : (s new : Scopes) (ts rest : List Terminal) (xs : List Tree) → s.brackets ≡ [] → Derives parsed (grammar r.Param) s ts xs new rest
    → mem (ahead tables parsed new rest) (k.Comma ∷ k.CloseParenthesis ∷ []) ≡ true → Derives parsed (table r.Param) s ts xs new rest
unfolding grammar table
derived s new ts rest xs c (Derives.both a (Derives.both d Derives.skip p) q) h = Derives.both a (Derives.both d Derives.skip p) q
derived s new ts rest xs c (Derives.both a (Derives.both d (Derives.take e) p) q) h = Derives.both a (Derives.both d (Derives.take (either_derived (specifiers_of d) (clear_behind c a d) h e)) p) q

fronts : (s : Scopes) (ts rest : List Terminal) → s.brackets ≡ [] → Begins parsed (grammar r.Param) s ts rest → Begins parsed (table r.Param) s ts rest
unfolding grammar table
fronts s ts rest c Begins.yet = Begins.yet
fronts s ts rest c (Begins.in_first a) = Begins.in_first a
fronts s ts rest c (Begins.in_then a Begins.yet) = Begins.in_then a Begins.yet
fronts s ts rest c (Begins.in_then a (Begins.in_first d)) = Begins.in_then a (Begins.in_first d)
fronts s ts rest c (Begins.in_then a (Begins.in_then d Begins.yet)) = Begins.in_then a (Begins.in_then d Begins.yet)
fronts s ts rest c (Begins.in_then a (Begins.in_then {mid = m} {later = more} d (Begins.in_maybe e))) =
    Begins.in_then a (Begins.in_then d (Begins.in_maybe (either_begun (names_declarator (AtStart m.reading.typed) m more) refl (specifiers_of d) (clear_behind c a d) e)))

pub parameter : TestsLoseNothing r.Param
unfolding is_balanced follows
parameter = record { derived = λ s new ts rest xs c d h. record { trees = xs; is = derived s new ts rest xs (c refl) d h }; begun = λ s ts rest c d. fronts s ts rest (c refl) d }
