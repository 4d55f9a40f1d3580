-- The unit that a derivation stands for: what each production makes of the symbols of its right side, from the leaves
-- up; and with it the tree, by its forms, of a list of tokens (ISO/IEC 9899:2024, 6.5 to 6.9).
use Rattle.std.specs.Prelude.{List, [], ◌∷◌, Option, Some, None}
use Rattle.model_grammar.specs.declared.grammar.Rule.{Rule}
use Rattle.model_grammar.specs.declared.grammar.Rule.TheVariants as r
use Rattle.model_grammar.specs.declared.grammar.Tree.{Tree, Leaf, Node', Row_of-Tree, end_of-Tree, more_of-Tree}
use Rattle.model_types.specs.declared.marks.Span.{Span}
use Rattle.model_tokens.specs.declared.tokens.CTok.{CTok}
use Rattle.model_grammar.specs.SyntaxForms as syntax
use Rattle.model_grammar.specs.SyntaxValues.{Meaning, nothing, some_specs, some_members, a_unit, Value, leaf_value, meanings, spanned, span_or, without_attributes}
use Rattle.model_grammar.specs.SyntaxExprActions as e
use Rattle.model_grammar.specs.SyntaxDeclarationActions as d
use Rattle.model_grammar.specs.SyntaxStatementActions as s

-- what stands alone on a right side stands for the left one
abbrev pub alone : List Meaning → Meaning
alone (symbol ∷ []) = symbol
alone _ = nothing

-- what a production makes of its symbols without attributes, whose tokens are the second span; the first is that of all
abbrev pub action : Rule → (all bare : Span) → List Meaning → Meaning
action r.Unit all bare xs = a_unit (d.externals_in xs)
action r.External all bare xs = d.external xs
action r.Function all bare xs = d.function_definition xs
action r.Declaration all bare xs = d.declaration xs
action r.Sassert all bare xs = d.static_assertion xs
action r.Attrs all bare xs = nothing
action r.Attr all bare xs = nothing
action r.Specs all bare xs = some_specs (d.specs_in xs)
action r.Spec all bare xs = d.one_spec xs
action r.Storage all bare xs = d.storage_spec xs
action r.Typespec all bare xs = d.type_spec xs
action r.Qual all bare xs = d.qualified xs
action r.Squals all bare xs = some_specs (d.specs_in xs)
action r.Struct all bare xs = d.structure xs
action r.Members all bare xs = some_members (d.members_in xs)
action r.Member all bare xs = d.member_declaration xs
action r.Enum all bare xs = d.enumeration xs
action r.Enumr all bare xs = d.enumerator xs
action r.Declarator all bare xs = d.declarator xs
action r.Direct all bare xs = d.direct xs
action r.Suffix all bare xs = d.suffix xs
action r.Params all bare xs = d.parameters xs
action r.Param all bare xs = d.parameter all.first xs
action r.Typename all bare xs = d.type_name xs
action r.Abstract all bare xs = d.declarator xs
action r.Adirect all bare xs = d.direct xs
action r.Initdecl all bare xs = d.init_declarator xs
action r.Init all bare xs = s.initializer xs
action r.Braces all bare xs = s.braces xs
action r.Item all bare xs = s.item xs
action r.Desig all bare xs = s.designator xs
action r.Block all bare xs = s.block bare xs
action r.Label all bare xs = s.label xs
action r.Statement all bare xs = s.statement bare xs
action r.Expr all bare xs = e.chained xs
action r.Assign all bare xs = e.assigned xs
action r.Cond all bare xs = e.conditional xs
action r.Oror all bare xs = e.chained xs
action r.Andand all bare xs = e.chained xs
action r.Bor all bare xs = e.chained xs
action r.Bxor all bare xs = e.chained xs
action r.Band all bare xs = e.chained xs
action r.Equal all bare xs = e.chained xs
action r.Rel all bare xs = e.chained xs
action r.Shift all bare xs = e.chained xs
action r.Sum all bare xs = e.chained xs
action r.Product all bare xs = e.chained xs
action r.Cast all bare xs = e.cast xs
action r.Unary all bare xs = e.unary xs
action r.Postfix all bare xs = e.postfixed xs
action r.Primary all bare xs = e.primary xs
action r.Literal all bare xs = e.literal xs
action r.Balanced all bare xs = nothing
action r.Declared all bare xs = alone xs
action r.ParamSpecs all bare xs = alone xs
action r.Body all bare xs = alone xs
action r.Typeof all bare xs = d.type_of_operand xs
action r.If all bare xs = s.if_statement bare xs
action r.For all bare xs = s.for_statement bare xs

abbrev pub of_bare : Rule → Option Span → List Value → Meaning
of_bare rule all bare = action rule (span_or all) (span_or (spanned bare)) (meanings bare)

abbrev pub node_value : Rule → List Value → Value
node_value rule values = record { meaning = of_bare rule (spanned values) (without_attributes values); tokens = spanned values }

abbrev mutual
  -- what a tree of the grammar stands for, over the tokens of its list
  pub value_of : List CTok → Tree → Value
  value_of tokens (Leaf t) = leaf_value tokens t
  value_of tokens (Node' rule shape trees) = node_value rule (values_of tokens trees)

  pub values_of : List CTok → {m : _} → Row_of-Tree m → List Value
  values_of tokens end_of-Tree = []
  values_of tokens (more_of-Tree tree rest) = value_of tokens tree ∷ values_of tokens rest

abbrev pub unit_in : Meaning → Option (List syntax.External)
unit_in (a_unit externals) = Some externals
unit_in _ = None

-- the unit that a tree of the grammar stands for, over the tokens of its list
abbrev pub tree_of : List CTok → Tree → Option (List syntax.External)
tree_of tokens tree = unit_in (value_of tokens tree).meaning
