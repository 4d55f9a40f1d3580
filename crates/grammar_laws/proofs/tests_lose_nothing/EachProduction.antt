-- The index of the parser's tests: for each production of the grammar the tests that its right side has in the parser's
-- table, and the lemma that nothing is lost by them. A production that isn't named here is the grammar's own.
--
-- External      FunctionAhead                       FunctionOrDeclaration.external
-- Declaration   SpecifiersAhead                     Declaration.declaration
-- Block         DeclarationAhead, LabelAhead        BlockItems.block_items
-- Direct        AttributeAhead                      DeclaratorAttributes.direct
-- Suffix        AttributeAhead, twice               SuffixAttributes.suffix
-- Params        ParameterAhead                      ParameterList.parameters
-- Param         DeclaratorAhead                     Parameter.parameter, ParameterDeclarator
-- Abstract      AttributeAhead                      DeclaratorAttributes.pointer
-- Adirect       AbstractAhead                       AbstractDeclarator.abstract_declarator
-- Braces        ItemAhead                           LastCommas.braces
-- Cast          CastAhead                           CastAndSizeof.cast_expression
-- Unary         OperandAhead                        CastAndSizeof.unary_expression
-- Primary       ParenthesizedExpression             ParenthesizedExpression.primary
-- Struct        BraceAhead                          specifier_lists.PiecesParsed
-- Enum          EnumeratorsAhead, EnumeratorAhead   specifier_lists.PiecesParsed, LastCommas.names
--
-- Of the productions of a list of specifiers nothing is said by itself: same_language.DerivedByTable has the lemmas of a
-- whole list. The grammar has TypeAhead (Squals), HasParameters (Literal) and ElseAhead (If) itself.
use Rattle.std.proofs.Common.{◌≡◌, false, refl, subst}
use Rattle.model_grammar.specs.declared.grammar.Rule.{Rule}
use Rattle.model_grammar.specs.declared.grammar.Rule.TheVariants as r
use Rattle.model_grammar.specs.Derivation.{Derives, Begins}
use Rattle.model_grammar.specs.Grammar.{grammar}
use Rattle.grammar_laws.specs.ParserTable.{table}
use Rattle.grammar_laws.specs.ParserTests.{parsed}
use Rattle.grammar_laws.proofs.same_language.FormsOutsideLists.{in_list}
use Rattle.grammar_laws.proofs.tests_lose_nothing.LosesNothing.{TestsLoseNothing}
use Rattle.grammar_laws.proofs.tests_lose_nothing.SuffixEnds.{IsProduced, produced}
use Rattle.grammar_laws.proofs.tests_lose_nothing.SuffixAttributes.{suffix}
use Rattle.grammar_laws.proofs.tests_lose_nothing.DeclaratorAttributes.{direct, pointer}
use Rattle.grammar_laws.proofs.tests_lose_nothing.ParameterList.{parameters}
use Rattle.grammar_laws.proofs.tests_lose_nothing.ParenthesizedExpression.{primary}
use Rattle.grammar_laws.proofs.tests_lose_nothing.AbstractDeclarator.{abstract_declarator}
use Rattle.grammar_laws.proofs.tests_lose_nothing.LastCommas.{braces}
use Rattle.grammar_laws.proofs.tests_lose_nothing.Declaration.{declaration}
use Rattle.grammar_laws.proofs.tests_lose_nothing.BlockItems.{block_items}
use Rattle.grammar_laws.proofs.tests_lose_nothing.FunctionOrDeclaration.{external}
use Rattle.grammar_laws.proofs.tests_lose_nothing.Parameter.{parameter}
use Rattle.grammar_laws.proofs.tests_lose_nothing.CastAndSizeof.{cast_expression, unary_expression}

-- the grammar's own
unchanged : (n : Rule) → grammar n ≡ table n → TestsLoseNothing n
unchanged n q =
    record { derived = λ s new ts rest xs c d h. record { trees = xs; is = subst (λ f. Derives parsed f s ts xs new rest) q d }; begun = λ s ts rest c d. subst (λ f. Begins parsed f s ts rest) q d }

-- outside lists of specifiers what the productions of the grammar derive and begin those of the parser do
pub each : (n : Rule) → in_list n ≡ false → IsProduced n
unfolding in_list grammar table
each r.Specs h = absurd (cc)
each r.Spec h = absurd (cc)
each r.Storage h = absurd (cc)
each r.Typespec h = absurd (cc)
each r.Squals h = absurd (cc)
each r.Struct h = absurd (cc)
each r.Enum h = absurd (cc)
each r.Direct h = produced r.Direct direct
each r.Suffix h = suffix
each r.Params h = produced r.Params parameters
each r.Abstract h = produced r.Abstract pointer
each r.Adirect h = produced r.Adirect abstract_declarator
each r.Braces h = produced r.Braces braces
each r.Primary h = produced r.Primary primary
each r.Declaration h = produced r.Declaration declaration
each r.Block h = produced r.Block block_items
each r.External h = produced r.External external
each r.Param h = produced r.Param parameter
each r.Cast h = produced r.Cast cast_expression
each r.Unary h = produced r.Unary unary_expression
each n h = produced n (unchanged n refl)
