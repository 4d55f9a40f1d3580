-- The tree of the grammar of `int f(int a) { return a + 1; }`, production by production, and the unit that it stands for.
use Rattle.std.specs.Prelude.{ℕ, false, pos, List, [], ◌∷◌, codes, refl}
use Rattle.cake_base.specs.declared.places.Place.{Place}
use Rattle.model_grammar.specs.declared.grammar.Rule.{Rule}
use Rattle.model_grammar.specs.declared.grammar.Rule.TheVariants as r
use Rattle.model_grammar.specs.declared.grammar.Tree.{Tree}
use Rattle.model_grammar.specs.declared.grammar.Tree.TheVariants as tree
use Rattle.model_types.specs.declared.marks.Span.{Span}
use Rattle.model_types.specs.declared.numbers.Basic.TheVariants.{Int}
use Rattle.model_types.specs.declared.numbers.BinOp.TheVariants.{Add}
use Rattle.model_grammar.specs.declared.syntax.Name.{Name}
use Rattle.model_grammar.specs.declared.syntax.TypeWord.TheVariants as type
use Rattle.model_tokens.specs.declared.tokens.CKind.TheVariants as content_of
use Rattle.model_tokens.specs.declared.tokens.CTok.{CTok}
use Rattle.model_grammar.specs.SyntaxForms as syntax
use Rattle.model_grammar.specs.Terminals as k

-- the place of the token of a rank
abbrev pub at : ℕ → Place
at rank = record { file = 0; line = 1; column = rank; order = rank }

abbrev pub from : ℕ → ℕ → Span
from first last = record { first = at first; last = at last }

abbrev pub name_at : List ℕ → ℕ → Name
name_at text rank = record { text = text; place = at rank }

abbrev pub word : ℕ → ℕ → CTok
word number rank = record { kind = content_of.Word number; place = at rank }

abbrev pub punctuator : ℕ → ℕ → CTok
punctuator number rank = record { kind = content_of.Punct number; place = at rank }

abbrev pub named : List ℕ → ℕ → CTok
named text rank = record { kind = content_of.Name text; place = at rank }

-- the tokens; `(` is the third punctuator, `)` the fourth, and so on
abbrev pub tokens : List CTok
tokens =
    word k.Int 0 ∷ named (codes "f") 1 ∷ punctuator 3 2 ∷ word k.Int 3 ∷ named (codes "a") 4 ∷ punctuator 4 5 ∷ punctuator 7 6
    ∷ word k.Return 7 ∷ named (codes "a") 8 ∷ punctuator 38 9
    ∷ record { kind = content_of.Integer (record { value = pos 1; basic = Int; in_range = refl }); place = at 10 }
    ∷ punctuator 2 11 ∷ punctuator 8 12 ∷ []

abbrev pub leaf : ℕ → ℕ → Tree
leaf kind rank = tree.Leaf (record { kind = kind; name = rank; rank = rank })

-- nonterminals of which each is the whole right side of the one before
abbrev pub through : List Rule → Tree → Tree
through [] inner = inner
through (rule ∷ rules) inner = tree.Node rule (through rules inner ∷ [])

abbrev pub no_attributes : Tree
no_attributes = tree.Node r.Attrs []

abbrev pub int_at : ℕ → Tree
int_at rank = through (r.Specs ∷ r.Spec ∷ r.Typespec ∷ []) (leaf k.Int rank)

-- the declarator of a name, with what stands behind it
abbrev pub declared : ℕ → List Tree → Tree
declared rank suffixes = through (r.Declared ∷ r.Declarator ∷ []) (tree.Node r.Direct (leaf k.Name rank ∷ no_attributes ∷ suffixes))

abbrev pub operand : Tree → Tree
operand = through (r.Product ∷ r.Cast ∷ r.Unary ∷ r.Postfix ∷ r.Primary ∷ [])

abbrev pub sum : Tree
sum = tree.Node r.Sum (operand (leaf k.Name 8) ∷ leaf k.Plus 9 ∷ operand (leaf k.Integer 10) ∷ [])

abbrev pub sum_expression : Tree
sum_expression = through (r.Expr ∷ r.Assign ∷ r.Cond ∷ r.Oror ∷ r.Andand ∷ r.Bor ∷ r.Bxor ∷ r.Band ∷ r.Equal ∷ r.Rel ∷ r.Shift ∷ []) sum

abbrev pub parameter_list : Tree
parameter_list = through (r.Params ∷ []) (tree.Node r.Param (no_attributes ∷ through (r.ParamSpecs ∷ []) (int_at 3) ∷ declared 4 [] ∷ []))

abbrev pub return_statement : Tree
return_statement = tree.Node r.Statement (no_attributes ∷ leaf k.Return 7 ∷ sum_expression ∷ leaf k.Semicolon 11 ∷ [])

abbrev pub whole_tree : Tree
whole_tree =
    through (r.Unit ∷ r.External ∷ []) (tree.Node r.Function (no_attributes ∷ int_at 0
    ∷ declared 1 (tree.Node r.Suffix (leaf k.OpenParenthesis 2 ∷ parameter_list ∷ leaf k.CloseParenthesis 5 ∷ no_attributes ∷ []) ∷ [])
    ∷ through (r.Body ∷ []) (tree.Node r.Block (leaf k.OpenBrace 6 ∷ return_statement ∷ leaf k.CloseBrace 12 ∷ [])) ∷ []))

-- and the unit

abbrev pub int_specs : ℕ → syntax.Specs
int_specs rank = syntax.more_specs (syntax.TypeSpec type.Int (at rank)) syntax.no_specs

abbrev pub parameter_a : syntax.Parameters
parameter_a = syntax.more_parameters (syntax.parameter (int_specs 3) (syntax.Named [] (name_at (codes "a") 4) syntax.no_suffixes) (at 3)) syntax.no_parameters

abbrev pub declarator_f : syntax.Declarator
declarator_f = syntax.Named [] (name_at (codes "f") 1) (syntax.more_suffixes (syntax.FunctionSuffix parameter_a false (at 2)) syntax.no_suffixes)

abbrev pub a_plus_1 : syntax.Expr
a_plus_1 = syntax.Binary Add (syntax.Identifier (name_at (codes "a") 8)) (syntax.Constant (pos 1) Int (at 10)) (at 9)

abbrev pub body : syntax.Block
body = syntax.block (syntax.more_block_items (syntax.StatementItem (syntax.Return (syntax.an_expr a_plus_1) (at 7) (from 7 11))) syntax.no_block_items) (from 6 12)

abbrev pub whole_unit : List syntax.External
whole_unit = syntax.FunctionDefinition (int_specs 0) declarator_f body ∷ []
