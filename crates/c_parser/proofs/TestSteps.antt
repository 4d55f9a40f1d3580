-- What a step of a test shows.
use Rattle.std.proofs.Common.{◌≡◌, List, ◌∷◌, refl}
use Rattle.std.specs.Prelude.{Some}
use Rattle.model_grammar.specs.declared.grammar.Rule.TheVariants as r
use Rattle.model_grammar.specs.declared.grammar.Before.{Before}
use Rattle.model_grammar.specs.declared.grammar.Within.{Within}
use Rattle.model_grammar.specs.declared.grammar.Terminal.{Terminal}
use Rattle.model_grammar.specs.NameScopes.{Scopes}
use Rattle.grammar_laws.specs.ParserTests.{names_declarator, declarator_step, sees_attribute, past_specifiers, specifier_step}

pub names_on : (before next : Before) (s : Scopes) (all : List Terminal) (t : Terminal) (ts : List Terminal) → all ≡ t ∷ ts → declarator_step before t.kind (sees_attribute all) ≡ Some next → names_declarator before s all ≡ names_declarator next s ts
unfolding names_declarator
names_on before next s all t ts h e = rw h (rw (rw h at e) refl)

pub specifiers_on : (place next : Within) (s : Scopes) (all : List Terminal) (t : Terminal) (ts : List Terminal) → all ≡ t ∷ ts → specifier_step r.Specs place s t ≡ Some next → past_specifiers place s all ≡ past_specifiers next s ts
unfolding past_specifiers
specifiers_on place next s all t ts h e = rw (h, e) refl
