-- The unit by its forms: each derived unit has one.
use Rattle.std.proofs.Common.{◌≡◌, List, [], ◌∷◌, Option, Some, None, IsSome, true, false, refl, sym, ap, ◌∙◌, subst}
use Rattle.model_grammar.specs.declared.grammar.Rule.{Rule}
use Rattle.model_grammar.specs.declared.grammar.Tree.{Tree}
use Rattle.model_grammar.specs.Derivation.{Language, Derives, a_rule}
use Rattle.model_grammar.specs.GrammarForm.{rule}
use Rattle.model_grammar.specs.SyntaxActions.{tree_of}
use Rattle.model_grammar.specs.SyntaxForms.{External}
use Rattle.model_grammar.specs.TerminalsOf.{terminals_of}
use Rattle.model_tokens.specs.declared.tokens.CTok.{CTok}
use Rattle.grammar_laws.specs.UnitSyntax.{IsUnit}
use Rattle.grammar_laws.proofs.answers.AtMostOneAnswer.{exclude}
use Rattle.c_tree.proofs.SyntaxDerived.{derived_unit}
use Rattle.c_parser.specs.Answers as parser
use Rattle.cake_cli.specs.Verdict.{IsForm, HasForm}

-- a nonterminal is derived as one tree
one_tree : {L : Language} {r : Rule} {s new : L.State} {ts rest : List L.Token} {xs : List L.Tree} → Derives L (rule r) s ts xs new rest → (t : L.Tree) × (xs ≡ t ∷ [])
one_tree {L} {r} (a_rule {xs = ys} d) = (L.node r ys, refl)

is_some : (o : Option (List External)) → IsSome o → (unit : List External) × (o ≡ Some unit)
is_some (Some unit) h = (unit, refl)
is_some None h = absurd (let e : false ≡ true = h in cc)

tree_has_form : (tokens : List CTok) (t : Tree) → IsUnit (terminals_of tokens) (t ∷ []) → HasForm tokens
tree_has_form tokens t u = let some = is_some (tree_of tokens t) (derived_unit tokens u.preferred.derived) in (some.0, record { tree = t; derived = u; stands = some.1 })

pub unit_has_form : (tokens : List CTok) (xs : List Tree) → IsUnit (terminals_of tokens) xs → HasForm tokens
unit_has_form tokens xs u = let one = one_tree u.preferred.derived in tree_has_form tokens one.0 (subst (IsUnit (terminals_of tokens)) one.1 u)

-- and no other
pub one_form : (tokens : List CTok) (a b : List External) → IsForm tokens a → IsForm tokens b → a ≡ b
one_form tokens a b p q =
    let law = exclude (terminals_of tokens) in
    let trees : p.tree ∷ [] ≡ q.tree ∷ [] = law.one_unit (p.tree ∷ []) (q.tree ∷ []) p.derived q.derived in
    let same : p.tree ≡ q.tree = cc in
    let both : Some a ≡ Some b = sym p.stands ∙ ap (tree_of tokens) same ∙ q.stands in cc

-- that of the parser's answer
pub parsed_has_form : (tokens : List CTok) (unit : List External) → parser.IsTree tokens unit → HasForm tokens
parsed_has_form tokens unit is = (unit, record { tree = is.tree; derived = is.derived; stands = is.stands })
