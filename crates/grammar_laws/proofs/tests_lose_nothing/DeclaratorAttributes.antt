-- The test of the attributes behind the name of a declarator, and behind the `*` of an abstract one, loses nothing.
use Rattle.std.proofs.Common.{◌≡◌, Bool, true, false, List, [], ◌∷◌, refl}
use mathlib.Core.Logic.{inl, inr}
use Rattle.model_grammar.specs.declared.grammar.Rule.TheVariants as r
use Rattle.model_grammar.specs.declared.grammar.Act.TheVariants as act
use Rattle.model_grammar.specs.declared.grammar.Test.TheVariants as test
use Rattle.model_grammar.specs.declared.grammar.Terminal.{Terminal}
use Rattle.model_grammar.specs.declared.grammar.Tree.{Tree}
use Rattle.model_grammar.specs.GrammarForm.{Form, word, rule, many, loop, ◌then◌, ◌or◌, mem}
use Rattle.model_grammar.specs.Grammar.{grammar}
use Rattle.model_grammar.specs.Terminals as k
use Rattle.model_grammar.specs.NameScopes.{Scopes}
use Rattle.model_grammar.specs.Derivation.{Derives, Begins}
use Rattle.grammar_laws.specs.ParserWalk.{ahead}
use Rattle.grammar_laws.specs.ParserTable.{table}
use Rattle.grammar_laws.specs.ParserSets.{tables, follows, hollow}
use Rattle.grammar_laws.specs.ParserTests.{parsed, sees_attribute}
use Rattle.grammar_laws.proofs.kinds.KindSets.{clash}
use Rattle.grammar_laws.proofs.walks.DecidedDerivations.{begun}
use Rattle.grammar_laws.proofs.walks.ParserDecided.{quiet, checked}
use Rattle.grammar_laws.proofs.kinds.TokenKinds.{absent}
use Rattle.grammar_laws.proofs.scans.BehindAttributes.{missing, no_attribute, attribute_seen}
use Rattle.grammar_laws.proofs.tests_lose_nothing.AbstractDeclarator.{IsLittle, in_array, suffix_begun, abstract_opens, bracket_shown}
use Rattle.grammar_laws.proofs.tests_lose_nothing.ParameterDeclarator.{second_bracket}
use Rattle.grammar_laws.proofs.tests_lose_nothing.TestedLoops.{looped}
use Rattle.grammar_laws.proofs.tests_lose_nothing.Parameter.{attribute_little, seen, rest_of, attributed, many_loop, no_qualifier_attribute, attributes_part, opens_no_attribute, behind_many}
use Rattle.grammar_laws.proofs.tests_lose_nothing.LosesNothing.{TestsLoseNothing, begins_with}

-- a suffix begins with no attribute
pub suffix_unattributed : {s new : Scopes} {ts rest : List Terminal} {xs : List Tree} → Derives parsed (rule r.Suffix) s ts xs new rest → sees_attribute ts ≡ false
unfolding table mem
suffix_unattributed (Derives.a_rule (Derives.left (Derives.both (Derives.a_word {t = t} {ts = us} e) d p))) = second_bracket t us (in_array d)
suffix_unattributed {s = s} (Derives.a_rule (Derives.right (Derives.both (Derives.a_word {t = t} {ts = us} e) d p))) =
    no_attribute (t ∷ us) (absent (k.OpenParenthesis ∷ []) k.OpenBracket refl refl refl refl s t e)

direct_unattributed : (s : Scopes) (ts : List Terminal) → mem (ahead tables parsed s ts) (follows r.Direct) ≡ true → sees_attribute ts ≡ false
unfolding follows mem
direct_unattributed s ts h = no_attribute ts (missing (follows r.Direct) k.OpenBracket refl refl refl refl s ts h)

unattributed : {s new : Scopes} {ts rest : List Terminal} {xs : List Tree} → Derives parsed (many (rule r.Suffix)) s ts xs new rest
    → mem (ahead tables parsed new rest) (follows r.Direct) ≡ true → sees_attribute ts ≡ false
unattributed {s = s} {ts = ts} Derives.stop h = direct_unattributed s ts h
unattributed (Derives.turn d e q) h = suffix_unattributed d

-- attributes that are begun, or the bracket of an array behind them
pub data IsAttributed : Scopes → List Terminal → List Terminal → Type 0 where
  held : {s : Scopes} {ts rest : List Terminal} → Begins parsed (loop test.AttributeAhead (rule r.Attr)) s ts rest → IsAttributed s ts rest
  ended : {s mid : Scopes} {ts later rest : List Terminal} {xs : List Tree} → Derives parsed (loop test.AttributeAhead (rule r.Attr)) s ts xs mid later → IsLittle later rest → IsAttributed s ts rest

one_more : {s mid : Scopes} {ts later rest : List Terminal} {xs : List Tree} → Derives parsed (rule r.Attr) s ts xs mid later → IsAttributed mid later rest → IsAttributed s ts rest
one_more d (IsAttributed.held b) = IsAttributed.held (Begins.in_further (attribute_seen d) d b)
one_more d (IsAttributed.ended l h) = IsAttributed.ended (Derives.again (attribute_seen d) d l refl) h

one_begun : {s : Scopes} {ts rest : List Terminal} (b : Bool) → sees_attribute ts ≡ b → Begins parsed (rule r.Attr) s ts rest → IsAttributed s ts rest
one_begun true b d = IsAttributed.held (Begins.in_again b d)
one_begun {ts = ts} false b d = elim (attribute_little d) [
  | inl h ↦ absurd (clash (sees_attribute ts) h b)
  | inr h ↦ IsAttributed.ended (Derives.done b) h
]

pub attributes_begun : {s : Scopes} {ts rest : List Terminal} → Begins parsed (many (rule r.Attr)) s ts rest → IsAttributed s ts rest
attributes_begun Begins.yet = IsAttributed.held Begins.yet
attributes_begun {ts = ts} (Begins.in_turn d) = one_begun (sees_attribute ts) refl d
attributes_begun (Begins.in_later d e) = one_more d (attributes_begun e)

-- the bracket of one more array
pub suffixes_little : {s : Scopes} {ts rest : List Terminal} → IsLittle ts rest → Begins parsed (many (rule r.Suffix)) s ts rest
unfolding table
suffixes_little IsLittle.unread = Begins.yet
suffixes_little {s = s} (IsLittle.bracket {t = t} h) = Begins.in_turn (Begins.in_rule (Begins.in_left (Begins.in_first (Begins.in_word (bracket_shown s t h)))))

-- where an attribute comes, no more than its first bracket begins a suffix
pub little_suffix : {s : Scopes} {ts rest : List Terminal} → sees_attribute ts ≡ true → Begins parsed (many (rule r.Suffix)) s ts rest → IsLittle ts rest
little_suffix b Begins.yet = IsLittle.unread
little_suffix {ts = ts} b (Begins.in_turn d) = elim (suffix_begun d) [
  | inl o ↦ absurd (opens_no_attribute ts b o)
  | inr h ↦ h
]
little_suffix {ts = ts} b (Begins.in_later d e) = absurd (clash (sees_attribute ts) b (suffix_unattributed d))

pub little_attribute : {s : Scopes} {ts rest : List Terminal} → sees_attribute ts ≡ true → IsLittle ts rest → Begins parsed (loop test.AttributeAhead (rule r.Attr)) s ts rest
unfolding table
little_attribute b IsLittle.unread = Begins.yet
little_attribute {s = s} b (IsLittle.bracket {t = t} h) = Begins.in_again b (Begins.in_rule (Begins.in_first (Begins.in_word (bracket_shown s t h))))

pub behind_attributes : {s mid : Scopes} {ts later rest : List Terminal} {xs : List Tree} → Derives parsed (many (rule r.Attr)) s ts xs mid later
    → Begins parsed (loop test.AttributeAhead (rule r.Attr)) mid later rest → Begins parsed (loop test.AttributeAhead (rule r.Attr)) s ts rest
behind_attributes Derives.stop b = b
behind_attributes (Derives.turn d e q) b = Begins.in_further (attribute_seen d) d (behind_attributes e b)

-- a declarator's name or parenthesis, with the test and without
abbrev name : Form
name = word (k.Name ∷ k.DeclaredName ∷ []) act.DeclaratorName

abbrev nested : Form
nested = word (k.OpenParenthesis ∷ []) act.OpenDeclarator then rule r.Declarator then word (k.CloseParenthesis ∷ []) act.CloseDeclarator

abbrev tested : Form
tested = (name then loop test.AttributeAhead (rule r.Attr) or nested) then many (rule r.Suffix)

direct_derived : (s new : Scopes) (ts rest : List Terminal) (xs : List Tree) → Derives parsed (grammar r.Direct) s ts xs new rest
    → mem (ahead tables parsed new rest) (follows r.Direct) ≡ true → Derives parsed (table r.Direct) s ts xs new rest
unfolding grammar table
direct_derived s new ts rest xs (Derives.both (Derives.left (Derives.both w m p)) l q) h =
    Derives.both (Derives.left (Derives.both w (looped test.AttributeAhead (rule r.Attr) seen m (unattributed l h)) p)) l q
direct_derived s new ts rest xs (Derives.both (Derives.right d) l q) h = Derives.both (Derives.right d) l q

name_begun : {s mid : Scopes} {ts later rest : List Terminal} {xs : List Tree} → Derives parsed name s ts xs mid later → IsAttributed mid later rest → Begins parsed tested s ts rest
name_begun w (IsAttributed.held b) = Begins.in_first (Begins.in_left (Begins.in_then w b))
name_begun w (IsAttributed.ended l h) = Begins.in_then (Derives.left (Derives.both w l refl)) (suffixes_little h)

name_then : {s mid m : Scopes} {ts later more rest : List Terminal} {xs ys : List Tree} (b : Bool) → sees_attribute more ≡ b
    → Derives parsed name s ts xs mid later → Derives parsed (many (rule r.Attr)) mid later ys m more → Begins parsed (many (rule r.Suffix)) m more rest
    → Begins parsed tested s ts rest
name_then false b w d e = Begins.in_then (Derives.left (Derives.both w (looped test.AttributeAhead (rule r.Attr) seen d b) refl)) e
name_then true b w d e = Begins.in_first (Begins.in_left (Begins.in_then w (behind_attributes d (little_attribute b (little_suffix b e)))))

direct_begun : (s : Scopes) (ts rest : List Terminal) → Begins parsed (grammar r.Direct) s ts rest → Begins parsed (table r.Direct) s ts rest
unfolding grammar table
direct_begun s ts rest Begins.yet = Begins.yet
direct_begun s ts rest (Begins.in_first Begins.yet) = Begins.yet
direct_begun s ts rest (Begins.in_first (Begins.in_left Begins.yet)) = Begins.yet
direct_begun s ts rest (Begins.in_first (Begins.in_left (Begins.in_first w))) = Begins.in_first (Begins.in_left (Begins.in_first w))
direct_begun s ts rest (Begins.in_first (Begins.in_left (Begins.in_then w b))) = name_begun w (attributes_begun b)
direct_begun s ts rest (Begins.in_first (Begins.in_right d)) = Begins.in_first (Begins.in_right d)
direct_begun s ts rest (Begins.in_then {later = later} (Derives.left (Derives.both w d p)) e) = name_then (sees_attribute later) refl w d e
direct_begun s ts rest (Begins.in_then (Derives.right d) e) = Begins.in_then (Derives.right d) e

pub direct : TestsLoseNothing r.Direct
direct = record { derived = λ s new ts rest xs c d h. record { trees = xs; is = direct_derived s new ts rest xs d h }; begun = λ s ts rest c d. direct_begun s ts rest d }

-- behind the attributes of a `*`
star_unattributed : {s new : Scopes} {ts rest : List Terminal} {xs : List Tree} → Derives parsed rest_of s ts xs new rest
    → mem (ahead tables parsed new rest) (follows r.Abstract) ≡ true → sees_attribute ts ≡ false
unfolding follows mem hollow
star_unattributed {s = s} {ts = ts} (Derives.both (Derives.turn x y _) a p) h = no_qualifier_attribute s ts (begins_with refl x)
star_unattributed {ts = ts} (Derives.both Derives.stop (Derives.take a) p) h = no (sees_attribute ts) (λ b. opens_no_attribute ts b (abstract_opens a))
  where
    no : (b : Bool) → (b ≡ true → ⊥) → b ≡ false
    no true n = absurd (n refl)
    no false n = refl
star_unattributed {s = s} {ts = ts} (Derives.both Derives.stop Derives.skip p) h = no_attribute ts (missing (k.Comma ∷ k.CloseParenthesis ∷ []) k.OpenBracket refl refl refl refl s ts h)

abstract_derived : (s new : Scopes) (ts rest : List Terminal) (xs : List Tree) → Derives parsed (grammar r.Abstract) s ts xs new rest
    → mem (ahead tables parsed new rest) (follows r.Abstract) ≡ true → Derives parsed (table r.Abstract) s ts xs new rest
unfolding grammar table
abstract_derived s new ts rest xs (Derives.left (Derives.both w (Derives.both m e p) q)) h =
    Derives.left (Derives.both w (Derives.both (looped test.AttributeAhead (rule r.Attr) seen m (star_unattributed e h)) e p) q)
abstract_derived s new ts rest xs (Derives.right d) h = Derives.right d

star_begun : {s : Scopes} {ts rest : List Terminal} → Begins parsed (many (rule r.Attr) then rest_of) s ts rest → Begins parsed attributed s ts rest
unfolding table
star_begun Begins.yet = Begins.yet
star_begun (Begins.in_first d) = many_loop d
star_begun (Begins.in_then m Begins.yet) = attributes_part (Begins.in_then (Derives.a_rule m) Begins.yet)
star_begun (Begins.in_then m (Begins.in_first q)) = attributes_part (Begins.in_then (Derives.a_rule m) q)
star_begun (Begins.in_then m (Begins.in_then q Begins.yet)) = attributes_part (Begins.in_then (Derives.a_rule m) (begun tables parsed quiet checked q))
star_begun (Begins.in_then {later = later} m (Begins.in_then q (Begins.in_maybe d))) = behind_many (sees_attribute later) refl m q d

abstract_begun : (s : Scopes) (ts rest : List Terminal) → Begins parsed (grammar r.Abstract) s ts rest → Begins parsed (table r.Abstract) s ts rest
unfolding grammar table
abstract_begun s ts rest Begins.yet = Begins.yet
abstract_begun s ts rest (Begins.in_left Begins.yet) = Begins.yet
abstract_begun s ts rest (Begins.in_left (Begins.in_first w)) = Begins.in_left (Begins.in_first w)
abstract_begun s ts rest (Begins.in_left (Begins.in_then w d)) = Begins.in_left (Begins.in_then w (star_begun d))
abstract_begun s ts rest (Begins.in_right d) = Begins.in_right d

pub pointer : TestsLoseNothing r.Abstract
pointer = record { derived = λ s new ts rest xs c d h. record { trees = xs; is = abstract_derived s new ts rest xs d h }; begun = λ s ts rest c d. abstract_begun s ts rest d }
