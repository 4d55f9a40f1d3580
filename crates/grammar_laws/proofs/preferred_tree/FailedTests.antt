-- Where a test that the grammar leaves out fails, the alternative that is written first derives nothing.
use Rattle.std.proofs.Common.{◌≡◌, Bool, true, false, not, ◌&&◌, List, [], ◌∷◌, refl, ap}
use Rattle.model_grammar.specs.declared.grammar.Rule.{Rule}
use Rattle.model_grammar.specs.declared.grammar.Rule.TheVariants as r
use Rattle.model_grammar.specs.declared.grammar.Act.TheVariants as act
use Rattle.model_grammar.specs.declared.grammar.Test.{Test}
use Rattle.model_grammar.specs.declared.grammar.Test.TheVariants as test
use Rattle.model_grammar.specs.declared.grammar.Terminal.{Terminal}
use Rattle.model_grammar.specs.declared.grammar.Before.TheVariants.{AtStart}
use Rattle.model_grammar.specs.declared.grammar.Tree.{Tree}
use Rattle.model_grammar.specs.GrammarForm.{Form, word, rule, empty, ◌then◌, ◌or◌, maybe, many, when, loop, mem}
use Rattle.model_grammar.specs.Terminals as k
use Rattle.model_grammar.specs.Grammar.{token}
use Rattle.model_grammar.specs.NameScopes.{Scopes}
use Rattle.model_grammar.specs.Derivation.{Derives}
use Rattle.grammar_laws.specs.FirstTokens.{nullable, first}
use Rattle.grammar_laws.specs.apparatus.DecidedTable.{within}
use Rattle.grammar_laws.specs.ParserTable.{table}
use Rattle.grammar_laws.specs.ParserSets.{hollow}
use Rattle.grammar_laws.specs.ParserTests.{parsed, passes}
use Rattle.grammar_laws.proofs.derivations.ClearBrackets.{clear, is_balanced, holds}
use Rattle.grammar_laws.proofs.scans.BehindAttributes.{attribute_seen, specified, declared, alone}
use Rattle.grammar_laws.proofs.tests_lose_nothing.LosesNothing.{Clear, begins_with, starts}
use Rattle.grammar_laws.proofs.tests_lose_nothing.LastCommas.{seen, items, names}
use Rattle.grammar_laws.proofs.tests_lose_nothing.ParameterList.{seen as more_parameters}
use Rattle.grammar_laws.proofs.tests_lose_nothing.Parameter.{at_specifiers}
use Rattle.grammar_laws.proofs.tests_lose_nothing.ParameterDeclarator.{declarator_named}
use Rattle.grammar_laws.proofs.tests_lose_nothing.AbstractDeclarator.{test_true, is_parenthesis, abstract_opens, inner}
use Rattle.grammar_laws.proofs.tests_lose_nothing.Declaration.{named, asserted}
use Rattle.grammar_laws.proofs.tests_lose_nothing.BlockItems.{by_assertion, by_attributes, labelled}
use Rattle.grammar_laws.proofs.tests_lose_nothing.CastAndSizeof.{by_what_follows, no_brace, unary_no_cast}
use Rattle.grammar_laws.proofs.tests_lose_nothing.ParenthesizedExpression.{no_type}
use Rattle.grammar_laws.proofs.tests_lose_nothing.FunctionOrDeclaration.{function_seen}
use Rattle.grammar_laws.proofs.tests_lose_nothing.SuffixEnds.{is_suffix, ends_open}
use Rattle.grammar_laws.proofs.same_language.FormsOutsideLists.{in_list}
use Rattle.grammar_laws.proofs.preferred_tree.FormsWithoutTests.{opens, opens_when, opens_loop, stays}

-- the scopes are those behind the specifiers of a parameter, where c says so
abbrev pub Parameter : Bool → Scopes → Type 0
Parameter c s = c ≡ true → s.reading.parameter ≡ true

-- the specifiers of a parameter
unfoldable pub gives_parameter : Form → Bool
gives_parameter (rule r.ParamSpecs) = true
gives_parameter _ = false

-- the test holds wherever the form derives what comes
pub record IsTaken (p : Test) (f : Form) (b c : Bool) : Type 0 where
  pub holds : (s new : Scopes) (ts rest : List Terminal) (xs : List Tree) → Clear b s → Parameter c s → Derives parsed f s ts xs new rest → passes p s ts ≡ true

-- no test is left out of the form
unfoldable pub plain : Form → Bool
plain (word ks a) = true
plain (rule n) = true
plain empty = true
plain (f then g) = plain f && plain g
plain (f or g) = plain f && plain g
plain (maybe f) = plain f
plain (many f) = plain f
plain (when p f g) = stays p && (plain f && plain g)
plain (loop p f) = stays p && plain f

-- each test that is left out of the form holds wherever its first alternative derives what comes; no bracket is held
-- open before the form where b says so
pub data IsTested : Form → Bool → Bool → Type 0 where
  plainly : {f : Form} {b c : Bool} → plain f ≡ true → IsTested f b c
  in_then : {f g : Form} {b c : Bool} → IsTested f b c → IsTested g (clear (opens f) b) (gives_parameter f) → IsTested (f then g) b c
  in_or : {f g : Form} {b c : Bool} → IsTested f b c → IsTested g b c → IsTested (f or g) b c
  in_maybe : {f : Form} {b c : Bool} → IsTested f b c → IsTested (maybe f) b c
  in_many : {f : Form} {b c : Bool} → IsTested f b false → IsTested (many f) b c
  kept_when : {p : Test} {f g : Form} {b c : Bool} → stays p ≡ true → IsTested f b c → IsTested g b c → IsTested (when p f g) b c
  open_when : {p : Test} {f g : Form} {b c : Bool} → ends_open (opens f) ≡ false → IsTaken p (opens f) b c → IsTested f b c → IsTested g b c → IsTested (when p f g) b c
  open_loop : {p : Test} {f : Form} {b c : Bool} → ends_open (opens f) ≡ false → IsTaken p (opens f) b false → IsTested f b false → IsTested (loop p f) b c

function_taken : (c : Bool) → IsTaken test.FunctionAhead (rule r.Function) true c
unfolding table hollow
function_taken c = record { holds = λ s new ts rest xs b p d. by (b refl) d }
  where
    by : {s new : Scopes} {ts rest : List Terminal} {xs : List Tree} → s.brackets ≡ [] → Derives parsed (rule r.Function) s ts xs new rest → passes test.FunctionAhead s ts ≡ true
    by b (Derives.a_rule (Derives.both a (Derives.both d (Derives.both e x q3) q2) q1)) = function_seen b a d e (begins_with refl x)

named_taken : (c : Bool) → IsTaken test.SpecifiersAhead named true c
unfolding hollow
named_taken c = record { holds = λ s new ts rest xs b p d. by (b refl) d }
  where
    by : {s new : Scopes} {ts rest : List Terminal} {xs : List Tree} → s.brackets ≡ [] → Derives parsed named s ts xs new rest → passes test.SpecifiersAhead s ts ≡ true
    by b (Derives.both a (Derives.both d m q2) q1) = specified b a (begins_with refl d)

attributes_taken : (b c : Bool) → IsTaken test.AttributeAhead (rule r.Attr) b c
attributes_taken b c = record { holds = λ s new ts rest xs b p d. attribute_seen d }

pub enumerators_taken : (b c : Bool) → IsTaken test.EnumeratorAhead (token k.Comma then rule r.Enumr) b c
enumerators_taken b c = record { holds = λ s new ts rest xs b p d. seen test.EnumeratorAhead r.Enumr names s new ts rest xs d }

items_taken : (b c : Bool) → IsTaken test.ItemAhead (token k.Comma then rule r.Item) b c
items_taken b c = record { holds = λ s new ts rest xs b p d. seen test.ItemAhead r.Item items s new ts rest xs d }

parameters_taken : (b c : Bool) → IsTaken test.ParameterAhead (word (k.Comma ∷ []) act.NextParameter then rule r.Param) b c
parameters_taken b c = record { holds = λ s new ts rest xs b p d. more_parameters s new ts rest xs d }

declarator_taken : IsTaken test.DeclaratorAhead (rule r.Declared) true true
unfolding table
declarator_taken = record { holds = λ s new ts rest xs b p d. by (b refl) (p refl) d }
  where
    by : {s new : Scopes} {ts rest : List Terminal} {xs : List Tree} → s.brackets ≡ [] → s.reading.parameter ≡ true
        → Derives parsed (rule r.Declared) s ts xs new rest → passes test.DeclaratorAhead s ts ≡ true
    by {s = s} b p (Derives.a_rule d) = declarator_named s (AtStart s.reading.typed) (at_specifiers s p b) d

abstract_taken : (b c : Bool) → IsTaken test.AbstractAhead inner b c
abstract_taken b c = record { holds = λ s new ts rest xs b p d. by d }
  where
    by : {s new : Scopes} {ts rest : List Terminal} {xs : List Tree} → Derives parsed inner s ts xs new rest → passes test.AbstractAhead s ts ≡ true
    by {s = s} (Derives.both (Derives.a_word {t = t} {ts = us} e) (Derives.both d c p) q) = test_true t us (is_parenthesis s t e) (abstract_opens d)

declaration_taken : (c : Bool) → IsTaken test.DeclarationAhead (rule r.Declaration) true c
unfolding table hollow
declaration_taken c = record { holds = λ s new ts rest xs b p d. by (b refl) d }
  where
    by : {s new : Scopes} {ts rest : List Terminal} {xs : List Tree} → s.brackets ≡ [] → Derives parsed (rule r.Declaration) s ts xs new rest → passes test.DeclarationAhead s ts ≡ true
    by c (Derives.a_rule (Derives.chosen b (Derives.both a (Derives.both d m p) q))) = declared c a (begins_with refl d)
    by {s = s} {ts = ts} c (Derives.a_rule (Derives.other b (Derives.left d))) = by_assertion s ts (asserted s ts (begins_with refl d))
    by {s = s} {ts = ts} c (Derives.a_rule (Derives.other b (Derives.right (Derives.both d (Derives.both e (Derives.a_word w) p) q)))) = by_attributes s ts (alone c d e w)

abbrev cases : Form
cases = token k.Case then rule r.Cond or token k.Default

label_taken : (c : Bool) → IsTaken test.LabelAhead (rule r.Label) true c
unfolding table first nullable hollow
label_taken c = record { holds = λ s new ts rest xs b p d. by (b refl) d }
  where
    by : {s new : Scopes} {ts rest : List Terminal} {xs : List Tree} → s.brackets ≡ [] → Derives parsed (rule r.Label) s ts xs new rest → passes test.LabelAhead s ts ≡ true
    by c (Derives.a_rule (Derives.both a (Derives.both d w p) q)) = labelled c a (starts {f = cases} refl d)

abbrev cast : Form
cast = token k.OpenParenthesis then rule r.Typename then token k.CloseParenthesis then rule r.Cast

cast_taken : (c : Bool) → IsTaken test.CastAhead cast true c
unfolding hollow
cast_taken c = record { holds = λ s new ts rest xs b p d. by (b refl) d }
  where
    by : {s new : Scopes} {ts rest : List Terminal} {xs : List Tree} → s.brackets ≡ [] → Derives parsed cast s ts xs new rest → passes test.CastAhead s ts ≡ true
    by {s = s} c (Derives.both (Derives.a_word {t = t} e) (Derives.both d (Derives.both (Derives.a_word {ts = vs} w) x q) p) z) = by_what_follows s t false c e d w (no_brace _ vs (begins_with refl x))

operand_taken : (c : Bool) → IsTaken test.OperandAhead (rule r.Unary) true c
operand_taken c = record { holds = λ s new ts rest xs b p d. ap not (unary_no_cast (b refl) d) }

abbrev parenthesized : Form
parenthesized = token k.OpenParenthesis then rule r.Expr then token k.CloseParenthesis

parenthesized_taken : (b c : Bool) → IsTaken test.ParenthesizedExpression parenthesized b c
unfolding hollow
parenthesized_taken b c = record { holds = λ s new ts rest xs b p d. by d }
  where
    by : {s new : Scopes} {ts rest : List Terminal} {xs : List Tree} → Derives parsed parenthesized s ts xs new rest → passes test.ParenthesizedExpression s ts ≡ true
    by {s = s} (Derives.both (Derives.a_word {t = t} {ts = us} e) (Derives.both d c q) p) = no_type s t us (begins_with refl d)

-- of each production
pub tested : (n : Rule) → in_list n ≡ false → IsTested (table n) (not (is_balanced n)) false
unfolding in_list plain opens opens_when opens_loop stays table clear holds is_balanced gives_parameter within mem ends_open is_suffix
tested r.Unit h = IsTested.plainly refl
tested r.External h = IsTested.open_when refl (function_taken false) (IsTested.plainly refl) (IsTested.plainly refl)
tested r.Function h = IsTested.plainly refl
tested r.Declaration h = IsTested.open_when refl (named_taken false) (IsTested.plainly refl) (IsTested.plainly refl)
tested r.Sassert h = IsTested.plainly refl
tested r.Attrs h = IsTested.plainly refl
tested r.Attr h = IsTested.plainly refl
tested r.Specs h = absurd (cc)
tested r.Spec h = absurd (cc)
tested r.Storage h = absurd (cc)
tested r.Typespec h = absurd (cc)
tested r.Qual h = IsTested.plainly refl
tested r.Squals h = absurd (cc)
tested r.Struct h = absurd (cc)
tested r.Members h = IsTested.plainly refl
tested r.Member h = IsTested.plainly refl
tested r.Enum h = absurd (cc)
tested r.Enumr h = IsTested.plainly refl
tested r.Declarator h = IsTested.plainly refl
tested r.Direct h =
    IsTested.in_then
    (IsTested.in_or (IsTested.in_then (IsTested.plainly refl) (IsTested.open_loop refl (attributes_taken _ false) (IsTested.plainly refl))) (IsTested.plainly refl))
    (IsTested.plainly refl)
tested r.Suffix h =
    IsTested.in_or
    (IsTested.in_then (IsTested.plainly refl) (IsTested.in_then (IsTested.plainly refl) (IsTested.in_then (IsTested.plainly refl) (IsTested.open_loop refl (attributes_taken _ false) (IsTested.plainly refl)))))
    (IsTested.in_then (IsTested.plainly refl) (IsTested.in_then (IsTested.plainly refl) (IsTested.in_then (IsTested.plainly refl) (IsTested.open_loop refl (attributes_taken _ false) (IsTested.plainly refl)))))
tested r.Params h = IsTested.in_then (IsTested.plainly refl) (IsTested.in_then (IsTested.open_loop refl (parameters_taken _ false) (IsTested.plainly refl)) (IsTested.plainly refl))
tested r.Param h =
    IsTested.in_then (IsTested.plainly refl) (IsTested.in_then (IsTested.plainly refl) (IsTested.in_maybe (IsTested.open_when refl declarator_taken (IsTested.plainly refl) (IsTested.plainly refl))))
tested r.Typename h = IsTested.plainly refl
tested r.Abstract h =
    IsTested.in_or
    (IsTested.in_then (IsTested.plainly refl) (IsTested.in_then (IsTested.open_loop refl (attributes_taken _ false) (IsTested.plainly refl)) (IsTested.plainly refl)))
    (IsTested.plainly refl)
tested r.Adirect h = IsTested.in_then (IsTested.open_when refl (abstract_taken _ _) (IsTested.plainly refl) (IsTested.plainly refl)) (IsTested.plainly refl)
tested r.Initdecl h = IsTested.plainly refl
tested r.Init h = IsTested.plainly refl
tested r.Braces h =
    IsTested.in_then (IsTested.plainly refl)
    (IsTested.in_then (IsTested.in_maybe (IsTested.in_then (IsTested.plainly refl) (IsTested.in_then (IsTested.open_loop refl (items_taken _ false) (IsTested.plainly refl)) (IsTested.plainly refl)))) (IsTested.plainly refl))
tested r.Item h = IsTested.plainly refl
tested r.Desig h = IsTested.plainly refl
tested r.Block h =
    IsTested.in_then (IsTested.plainly refl)
    (IsTested.in_then (IsTested.in_many (IsTested.open_when refl (declaration_taken false) (IsTested.plainly refl) (IsTested.open_when refl (label_taken false) (IsTested.plainly refl) (IsTested.plainly refl)))) (IsTested.plainly refl))
tested r.Label h = IsTested.plainly refl
tested r.Statement h = IsTested.plainly refl
tested r.Expr h = IsTested.plainly refl
tested r.Assign h = IsTested.plainly refl
tested r.Cond h = IsTested.plainly refl
tested r.Oror h = IsTested.plainly refl
tested r.Andand h = IsTested.plainly refl
tested r.Bor h = IsTested.plainly refl
tested r.Bxor h = IsTested.plainly refl
tested r.Band h = IsTested.plainly refl
tested r.Equal h = IsTested.plainly refl
tested r.Rel h = IsTested.plainly refl
tested r.Shift h = IsTested.plainly refl
tested r.Sum h = IsTested.plainly refl
tested r.Product h = IsTested.plainly refl
tested r.Cast h = IsTested.open_when refl (cast_taken false) (IsTested.plainly refl) (IsTested.plainly refl)
tested r.Unary h =
    IsTested.in_or (IsTested.plainly refl)
    (IsTested.in_or (IsTested.plainly refl) (IsTested.in_or (IsTested.plainly refl) (IsTested.in_or (IsTested.in_then (IsTested.plainly refl) (IsTested.open_when refl (operand_taken false) (IsTested.plainly refl) (IsTested.plainly refl))) (IsTested.plainly refl))))
tested r.Postfix h = IsTested.plainly refl
tested r.Primary h =
    IsTested.in_or (IsTested.plainly refl)
    (IsTested.in_or (IsTested.plainly refl) (IsTested.in_or (IsTested.plainly refl) (IsTested.in_or (IsTested.plainly refl) (IsTested.open_when refl (parenthesized_taken _ _) (IsTested.plainly refl) (IsTested.plainly refl)))))
tested r.Literal h = IsTested.plainly refl
tested r.Balanced h = IsTested.plainly refl
tested r.Declared h = IsTested.plainly refl
tested r.ParamSpecs h = IsTested.plainly refl
tested r.Body h = IsTested.plainly refl
tested r.Typeof h = IsTested.plainly refl
tested r.If h = IsTested.plainly refl
tested r.For h = IsTested.plainly refl
