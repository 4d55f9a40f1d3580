-- Attributes are the same by the grammar and by the parser's table, and leave the scopes as they were.
use Rattle.std.proofs.Common.{◌≡◌, true, List, [], refl, sym, subst}
use Rattle.model_grammar.specs.declared.grammar.Rule.{Rule}
use Rattle.model_grammar.specs.declared.grammar.Rule.TheVariants as r
use Rattle.model_grammar.specs.declared.grammar.Terminal.{Terminal}
use Rattle.model_grammar.specs.declared.grammar.Tree.{Tree}
use Rattle.model_grammar.specs.GrammarForm.{Form, rule, ◌then◌, ◌or◌}
use Rattle.model_grammar.specs.Grammar.{grammar}
use Rattle.model_grammar.specs.NameScopes.{Scopes}
use Rattle.model_grammar.specs.Derivation.{Derives, Begins}
use Rattle.grammar_laws.specs.ParserTable.{table}
use Rattle.grammar_laws.specs.ParserTests.{parsed}
use Rattle.grammar_laws.proofs.kinds.KindSets.{and_left, and_right}
use Rattle.grammar_laws.proofs.derivations.ClearBrackets.{over}
use Rattle.grammar_laws.proofs.scans.PastAttributes.{over_attributes}
use Rattle.grammar_laws.proofs.derivations.AttributesInAnyScopes.{attributed, is_attribute, inside}

same_body : (n : Rule) → is_attribute n ≡ true → grammar n ≡ table n
unfolding is_attribute grammar table
same_body r.Attrs h = refl
same_body r.Attr h = refl
same_body r.Balanced h = refl
same_body _ h = absurd (cc)

inside_grammar : (n : Rule) → is_attribute n ≡ true → attributed (grammar n) ≡ true
inside_grammar n h = subst (λ z. attributed z ≡ true) (sym (same_body n h)) (inside n h)

pub as_parsed : {f : Form} {s new : Scopes} {ts rest : List Terminal} {xs : List Tree} → Derives (over grammar) f s ts xs new rest → attributed f ≡ true → Derives parsed f s ts xs new rest
unfolding attributed
as_parsed (Derives.a_word e) h = Derives.a_word e
as_parsed {f = rule n} {s = s} {ts = ts} {rest = rest} (Derives.a_rule {new = mid} {xs = xs} d) h =
    Derives.a_rule (subst (λ z. Derives parsed z s ts xs mid rest) (same_body n h) (as_parsed d (inside_grammar n h)))
as_parsed Derives.nothing h = Derives.nothing
as_parsed {f = f then g} (Derives.both d e q) h = Derives.both (as_parsed d (and_left _ (attributed g) h)) (as_parsed e (and_right (attributed f) _ h)) q
as_parsed {f = f or g} (Derives.left d) h = Derives.left (as_parsed d (and_left _ (attributed g) h))
as_parsed {f = f or g} (Derives.right d) h = Derives.right (as_parsed d (and_right (attributed f) _ h))
as_parsed Derives.skip h = Derives.skip
as_parsed (Derives.take d) h = Derives.take (as_parsed d h)
as_parsed Derives.stop h = Derives.stop
as_parsed (Derives.turn d e q) h = Derives.turn (as_parsed d h) (as_parsed e h) q
as_parsed (Derives.chosen c d) h = absurd (cc)
as_parsed (Derives.other c d) h = absurd (cc)
as_parsed (Derives.done c) h = absurd (cc)
as_parsed (Derives.again c d e q) h = absurd (cc)

pub as_parsed_begun : {f : Form} {s : Scopes} {ts rest : List Terminal} → Begins (over grammar) f s ts rest → attributed f ≡ true → Begins parsed f s ts rest
unfolding attributed
as_parsed_begun Begins.yet h = Begins.yet
as_parsed_begun (Begins.in_word e) h = Begins.in_word e
as_parsed_begun {f = rule n} {s = s} {ts = ts} {rest = rest} (Begins.in_rule d) h = Begins.in_rule (subst (λ z. Begins parsed z s ts rest) (same_body n h) (as_parsed_begun d (inside_grammar n h)))
as_parsed_begun {f = f then g} (Begins.in_first d) h = Begins.in_first (as_parsed_begun d (and_left _ (attributed g) h))
as_parsed_begun {f = f then g} (Begins.in_then d e) h = Begins.in_then (as_parsed d (and_left _ (attributed g) h)) (as_parsed_begun e (and_right (attributed f) _ h))
as_parsed_begun {f = f or g} (Begins.in_left d) h = Begins.in_left (as_parsed_begun d (and_left _ (attributed g) h))
as_parsed_begun {f = f or g} (Begins.in_right d) h = Begins.in_right (as_parsed_begun d (and_right (attributed f) _ h))
as_parsed_begun (Begins.in_maybe d) h = Begins.in_maybe (as_parsed_begun d h)
as_parsed_begun (Begins.in_turn d) h = Begins.in_turn (as_parsed_begun d h)
as_parsed_begun (Begins.in_later d e) h = Begins.in_later (as_parsed d h) (as_parsed_begun e h)
as_parsed_begun (Begins.in_chosen c d) h = absurd (cc)
as_parsed_begun (Begins.in_other c d) h = absurd (cc)
as_parsed_begun (Begins.in_again c d) h = absurd (cc)
as_parsed_begun (Begins.in_further c d e) h = absurd (cc)

pub attributes_parsed : {s new : Scopes} {ts rest : List Terminal} {xs : List Tree} → Derives (over grammar) (rule r.Attrs) s ts xs new rest → Derives parsed (rule r.Attrs) s ts xs new rest
unfolding attributed is_attribute
attributes_parsed d = as_parsed d refl

pub attributes_parsed_begun : {s : Scopes} {ts rest : List Terminal} → Begins (over grammar) (rule r.Attrs) s ts rest → Begins parsed (rule r.Attrs) s ts rest
unfolding attributed is_attribute
attributes_parsed_begun d = as_parsed_begun d refl

pub attributes_scopes : {s new : Scopes} {ts rest : List Terminal} {xs : List Tree} → Derives (over grammar) (rule r.Attrs) s ts xs new rest → s.brackets ≡ [] → new ≡ s
attributes_scopes d b = (over_attributes b (attributes_parsed d)).state

-- likewise a qualifier
pub qualifier_parsed : {s new : Scopes} {ts rest : List Terminal} {xs : List Tree} → Derives (over grammar) (rule r.Qual) s ts xs new rest → Derives parsed (rule r.Qual) s ts xs new rest
unfolding grammar table
qualifier_parsed (Derives.a_rule (Derives.a_word e)) = Derives.a_rule (Derives.a_word e)
