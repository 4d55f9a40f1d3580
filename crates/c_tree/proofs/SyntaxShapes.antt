-- The meanings that the symbols of a form may have, attributes left out.
use Rattle.std.specs.Prelude.{ℕ, List, ◌∷◌}
use Rattle.cake_base.specs.declared.places.Place.{Place}
use Rattle.model_grammar.specs.declared.grammar.Act.{Act}
use Rattle.model_grammar.specs.declared.grammar.Rule.{Rule}
use Rattle.model_grammar.specs.declared.grammar.Test.{Test}
use Rattle.model_tokens.specs.declared.tokens.CKind.{CKind}
use Rattle.model_grammar.specs.GrammarForm.{Form, word, rule, empty, ◌then◌, ◌or◌, maybe, many, when, loop}
use Rattle.model_grammar.specs.declared.syntax.Qualifier.{Qualifier}
use Rattle.model_grammar.specs.SyntaxForms as syntax
use Rattle.c_tree.specs.SyntaxSorts.{Sort, sort_of, NoSort, ExprSort, TypeNameSort, SpecSort, QualifierSort, SpecsSort, MembersSort, MemberSort, EnumeratorSort, DeclaratorSort, SuffixSort, ParametersSort, ParameterSort, InitializerSort, BracesSort, ItemSort, DesignatorSort, DeclarationSort, InitDeclaratorSort, AssertionSort, StatementSort, BlockItemSort, BlockSort, ExternalSort, UnitSort}
use Rattle.model_grammar.specs.SyntaxValues.{Meaning, a_token, an_expr, a_type_name, a_spec, a_qualifier, some_specs, some_members, a_member, an_enumerator, a_declarator, a_suffix, some_parameters, a_parameter, an_initializer, some_braces, an_item, a_designator, a_declaration, an_init_declarator, an_assertion, a_statement, a_block_item, a_block, an_external, a_unit}

-- the meanings with one of a sort before the others, attributes left out
pub data Added : Sort → List Meaning → List Meaning → Type 0 where
  no_more : {others : List Meaning} → Added NoSort others others
  more_expr : {others : List Meaning} (x : syntax.Expr) → Added ExprSort (an_expr x ∷ others) others
  more_typename : {others : List Meaning} (x : syntax.TypeName) → Added TypeNameSort (a_type_name x ∷ others) others
  more_spec : {others : List Meaning} (x : syntax.Spec) → Added SpecSort (a_spec x ∷ others) others
  more_qualifier : {others : List Meaning} (x : Qualifier) → Added QualifierSort (a_qualifier x ∷ others) others
  more_specs : {others : List Meaning} (x : syntax.Specs) → Added SpecsSort (some_specs x ∷ others) others
  more_members : {others : List Meaning} (x : syntax.MemberDeclarations) → Added MembersSort (some_members x ∷ others) others
  more_member : {others : List Meaning} (x : syntax.MemberDeclaration) → Added MemberSort (a_member x ∷ others) others
  more_enumerator : {others : List Meaning} (x : syntax.Enumerator) → Added EnumeratorSort (an_enumerator x ∷ others) others
  more_declarator : {others : List Meaning} (x : syntax.Declarator) → Added DeclaratorSort (a_declarator x ∷ others) others
  more_suffix : {others : List Meaning} (x : syntax.Suffix) → Added SuffixSort (a_suffix x ∷ others) others
  more_parameters : {others : List Meaning} (x : Place → syntax.Suffix) → Added ParametersSort (some_parameters x ∷ others) others
  more_parameter : {others : List Meaning} (x : syntax.Parameter) → Added ParameterSort (a_parameter x ∷ others) others
  more_initializer : {others : List Meaning} (x : syntax.Initializer) → Added InitializerSort (an_initializer x ∷ others) others
  more_braces : {others : List Meaning} (x : syntax.Braces) → Added BracesSort (some_braces x ∷ others) others
  more_item : {others : List Meaning} (x : syntax.InitializerItem) → Added ItemSort (an_item x ∷ others) others
  more_designator : {others : List Meaning} (x : syntax.Designator) → Added DesignatorSort (a_designator x ∷ others) others
  more_declaration : {others : List Meaning} (x : syntax.Declaration) → Added DeclarationSort (a_declaration x ∷ others) others
  more_initdeclarator : {others : List Meaning} (x : syntax.InitDeclarator) → Added InitDeclaratorSort (an_init_declarator x ∷ others) others
  more_assertion : {others : List Meaning} (x : syntax.Assertion) → Added AssertionSort (an_assertion x ∷ others) others
  more_statement : {others : List Meaning} (x : syntax.Statement) → Added StatementSort (a_statement x ∷ others) others
  more_blockitem : {others : List Meaning} (x : syntax.BlockItem) → Added BlockItemSort (a_block_item x ∷ others) others
  more_block : {others : List Meaning} (x : syntax.Block) → Added BlockSort (a_block x ∷ others) others
  more_external : {others : List Meaning} (x : syntax.External) → Added ExternalSort (an_external x ∷ others) others
  more_unit : {others : List Meaning} (x : List syntax.External) → Added UnitSort (a_unit x ∷ others) others

-- Shape f all others: all are meanings of the symbols of f, and then the others
pub data Shape : Form → List Meaning → List Meaning → Type 0 where
  of_word : {kinds : List ℕ} {act : Act} {others : List Meaning} (kind : ℕ) (content : CKind) (place : Place) → Shape (word kinds act) (a_token kind content place ∷ others) others
  of_rule : {r : Rule} {all others : List Meaning} → Added (sort_of r) all others → Shape (rule r) all others
  of_nothing : {others : List Meaning} → Shape empty others others
  of_both : {f g : Form} {all some others : List Meaning} → Shape f all some → Shape g some others → Shape (f then g) all others
  of_left : {f g : Form} {all others : List Meaning} → Shape f all others → Shape (f or g) all others
  of_right : {f g : Form} {all others : List Meaning} → Shape g all others → Shape (f or g) all others
  of_none : {f : Form} {others : List Meaning} → Shape (maybe f) others others
  of_one : {f : Form} {all others : List Meaning} → Shape f all others → Shape (maybe f) all others
  of_end : {f : Form} {others : List Meaning} → Shape (many f) others others
  of_turn : {f : Form} {all some others : List Meaning} → Shape f all some → Shape (many f) some others → Shape (many f) all others
  of_first : {p : Test} {f g : Form} {all others : List Meaning} → Shape f all others → Shape (when p f g) all others
  of_second : {p : Test} {f g : Form} {all others : List Meaning} → Shape g all others → Shape (when p f g) all others
  of_last : {p : Test} {f : Form} {others : List Meaning} → Shape (loop p f) others others
  of_again : {p : Test} {f : Form} {all some others : List Meaning} → Shape f all some → Shape (loop p f) some others → Shape (loop p f) all others
