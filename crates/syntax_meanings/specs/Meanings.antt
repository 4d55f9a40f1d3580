-- The meanings of the code as those of the definitions.
use Rattle.std.specs.Prelude.{List, [], ◌∷◌}
use Rattle.model_grammar.specs.SyntaxForms as m
use Rattle.model_grammar.specs.SyntaxValues as v
use Rattle.c_tree.specs.SyntaxViews.{assertion_of, block_item_of, block_of, braces_of, declarator_of, designator_of, enumerator_of, external_of, externals_of, init_declarator_of, initializer_item_of, member_declaration_of, member_declarations_of, parameter_of, parameters_of, spec_of, suffix_of}
use Rattle.syntax_meanings.specs.declared.meanings.Meaning.{Meaning}
use Rattle.syntax_meanings.specs.declared.meanings.Meaning.TheVariants as a
use Rattle.syntax_meanings.specs.declared.meanings.Value.{Value}
use Rattle.syntax_meanings.specs.declared.symbols.Symbols.{Symbols}

abbrev pub meaning_of : Meaning → v.Meaning
meaning_of a.Nothing = v.nothing
meaning_of (a.Token kind token) = v.a_token kind token.now.kind token.now.place
meaning_of (a.Expr x) = v.an_expr x
meaning_of (a.TypeName x) = v.a_type_name x
meaning_of (a.Spec x) = v.a_spec (spec_of x)
meaning_of (a.Qualifier x) = v.a_qualifier x
meaning_of (a.Specs x) = v.some_specs x
meaning_of (a.Members xs) = v.some_members (member_declarations_of xs)
meaning_of (a.Member x) = v.a_member (member_declaration_of x)
meaning_of (a.Enumerator x) = v.an_enumerator (enumerator_of x)
meaning_of (a.Declarator x) = v.a_declarator (declarator_of x)
meaning_of (a.Suffix x) = v.a_suffix (suffix_of x)
meaning_of (a.Parameters x) = v.some_parameters (m.FunctionSuffix (parameters_of x.parameters) x.is_variadic)
meaning_of (a.Parameter x) = v.a_parameter (parameter_of x)
meaning_of (a.Initializer x) = v.an_initializer x
meaning_of (a.Braces x) = v.some_braces (braces_of x)
meaning_of (a.Item x) = v.an_item (initializer_item_of x)
meaning_of (a.Designator x) = v.a_designator (designator_of x)
meaning_of (a.Declaration x) = v.a_declaration x
meaning_of (a.InitDeclarator x) = v.an_init_declarator (init_declarator_of x)
meaning_of (a.Assertion x) = v.an_assertion (assertion_of x)
meaning_of (a.Statement x) = v.a_statement x
meaning_of (a.BlockItem x) = v.a_block_item (block_item_of x)
meaning_of (a.Block x) = v.a_block (block_of x)
meaning_of (a.External x) = v.an_external (external_of x)
meaning_of (a.Unit xs) = v.a_unit (externals_of xs)

abbrev pub meanings_seen : List Meaning → List v.Meaning
meanings_seen [] = []
meanings_seen (x ∷ xs) = meaning_of x ∷ meanings_seen xs

-- the symbols that are still to be read, in order
abbrev pub symbols_seen : Symbols → List v.Meaning
symbols_seen symbols = meanings_seen symbols.rest

abbrev pub value_seen : Value → v.Value
value_seen x = record { meaning = meaning_of x.meaning; tokens = x.tokens }

abbrev pub values_seen : List Value → List v.Value
values_seen [] = []
values_seen (x ∷ xs) = value_seen x ∷ values_seen xs
