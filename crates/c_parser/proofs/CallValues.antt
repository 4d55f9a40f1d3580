-- The value of a derived unit is a unit.
use Rattle.std.proofs.Common.{◌≡◌, List, Option, Some, None, IsSome, ap, ◌∙◌}
use Rattle.model_tokens.specs.declared.tokens.CTok.{CTok}
use Rattle.model_grammar.specs.SyntaxActions.{tree_of, unit_in}
use Rattle.model_grammar.specs.SyntaxForms.{External}
use Rattle.model_grammar.specs.TerminalsOf.{terminals_of}
use Rattle.c_tree.proofs.SyntaxDerived.{derived_unit}
use Rattle.syntax_meanings.specs.declared.meanings.Value.{Value}
use Rattle.syntax_meanings.specs.Meanings.{value_seen}
use Rattle.c_parser.specs.Parsing.{IsUnitValue}

unit_of_tree : (tokens : List CTok) (value : Value) (u : IsUnitValue tokens (terminals_of tokens) value) → unit_in (value_seen value).meaning ≡ tree_of tokens u.tree
unit_of_tree tokens value u = ap (λ v. unit_in v.meaning) u.stands

is_none : (o : Option (List External)) → IsSome o → None ≡ o → ⊥
is_none (Some x) h e = absurd (cc)
is_none None h e = absurd (cc)

-- there is one
pub never_none : (tokens : List CTok) (value : Value) → IsUnitValue tokens (terminals_of tokens) value → None ≡ unit_in (value_seen value).meaning → ⊥
never_none tokens value u e = is_none (tree_of tokens u.tree) (derived_unit tokens u.derived.preferred.derived) (e ∙ unit_of_tree tokens value u)
