-- The parser's derivation of a unit is the grammar's preferred one, with the same parts.
use Rattle.std.proofs.Common.{◌≡◌, false, List, [], refl, ap, sym, subst, ◌∙◌}
use Rattle.model_grammar.specs.declared.grammar.Rule.TheVariants as r
use Rattle.model_grammar.specs.declared.grammar.Terminal.{Terminal}
use Rattle.model_grammar.specs.declared.grammar.Tree.{Tree}
use Rattle.model_grammar.specs.GrammarForm.{rule}
use Rattle.model_grammar.specs.NameScopes.{Scopes, start}
use Rattle.model_grammar.specs.SyntaxTree.{c_language}
use Rattle.model_grammar.specs.Derivation.{Derives}
use Rattle.grammar_laws.specs.DepthPlace.{marks, nothing_read}
use Rattle.grammar_laws.specs.Preferences.{Earlier, IsPreferred, choices}
use Rattle.grammar_laws.specs.ParserTests.{parsed}
use Rattle.grammar_laws.specs.UnitSyntax.{unit, HasParts}
use Rattle.grammar_laws.proofs.preferred_tree.ChoiceOrder.{one}
use Rattle.grammar_laws.proofs.preferred_tree.FormsWithoutTests.{opens}
use Rattle.grammar_laws.proofs.preferred_tree.ChoicesInGrammar.{IsOpened, open_choices, growth, opened_of}
use Rattle.grammar_laws.proofs.preferred_tree.ParsedIsPreferred.{comes_first}
use Rattle.grammar_laws.proofs.same_language.SharedTests.{bare, over_tests, without_tests, tested_choices, untested_choices, untested_parts}

of_unit : {ts : List Terminal} {xs : List Tree} {new : Scopes} (d : Derives parsed unit start ts xs new []) → IsOpened unit start ts xs new [] (open_choices d) (growth d)
unfolding opens
of_unit d = opened_of d

pub with_parts : (ts : List Terminal) (xs : List Tree) (new : Scopes) (d : Derives parsed unit start ts xs new []) → HasParts ts xs (marks parsed d)
unfolding bare
with_parts ts xs new d =
    let t = of_unit d in
    record {
      preferred = record {
        scopes = new;
        derived = without_tests t.is refl;
        first = λ ys new' o e. comes_first ts xs new d ys new' (over_tests o refl)
            (subst (λ z. Earlier z (open_choices d)) (sym (tested_choices o refl)) (subst (λ z. Earlier (choices c_language o) z) (untested_choices t.is refl ∙ t.takes) e));
      };
      parts = ap (λ z. z.marks) (untested_parts t.is refl false 0 nothing_read ∙ t.grows false 0 nothing_read);
    }

pub preferred : (ts : List Terminal) (xs : List Tree) (new : Scopes) → Derives parsed (rule r.Unit) start ts xs new [] → IsPreferred c_language (rule r.Unit) start ts xs
preferred ts xs new d = (with_parts ts xs new d).preferred

-- so the parser's table derives one tree at most
pub one_tree : (ts : List Terminal) (xs ys : List Tree) (new new' : Scopes) → Derives parsed (rule r.Unit) start ts xs new [] → Derives parsed (rule r.Unit) start ts ys new' [] → xs ≡ ys
one_tree ts xs ys new new' d e = one c_language unit start ts xs ys (preferred ts xs new d) (preferred ts ys new' e)
