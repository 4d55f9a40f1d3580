-- What each production makes of its symbols is of the sort of its nonterminal.
use Rattle.std.specs.Prelude.{◌≡◌, refl, ℕ, List, [], ◌∷◌, Some, None}
use Rattle.cake_base.specs.declared.places.Place.{Place}
use Rattle.model_grammar.specs.declared.syntax.Name.{Name}
use Rattle.model_tokens.specs.declared.tokens.CKind.{CKind}
use Rattle.model_tokens.specs.declared.tokens.CKind.TheVariants as content_of
use Rattle.model_grammar.specs.SyntaxForms as syntax
use Rattle.model_grammar.specs.declared.grammar.Rule.{Rule}
use Rattle.model_grammar.specs.declared.grammar.Rule.TheVariants as r
use Rattle.model_grammar.specs.Grammar.{grammar}
use Rattle.model_grammar.specs.GrammarForm.{rule, many}
use Rattle.c_tree.specs.SyntaxSorts.{AssertionSort, BlockItemSort, BlockSort, BracesSort, DeclarationSort, DeclaratorSort, DesignatorSort, EnumeratorSort, ExprSort, ExternalSort, InitDeclaratorSort, InitializerSort, ItemSort, MemberSort, ParameterSort, QualifierSort, SpecSort, SpecsSort, StatementSort, SuffixSort, TypeNameSort, Sorted, sorted_nothing, sorted_expr, sorted_typename, sorted_spec, sorted_qualifier, sorted_specs, sorted_members, sorted_member, sorted_enumerator, sorted_declarator, sorted_suffix, sorted_parameters, sorted_parameter, sorted_initializer, sorted_braces, sorted_item, sorted_designator, sorted_declaration, sorted_initdeclarator, sorted_assertion, sorted_statement, sorted_blockitem, sorted_block, sorted_external, sorted_unit, sort_of}
use Rattle.c_tree.proofs.SyntaxShapes.{Added, no_more, more_expr, more_typename, more_spec, more_qualifier, more_specs, more_members, more_enumerator, more_declarator, more_suffix, more_parameters, more_initializer, more_braces, more_designator, more_declaration, more_assertion, more_statement, more_block, more_external, Shape, of_word, of_rule, of_both, of_left, of_right, of_none, of_one, of_nothing, of_end, of_turn, of_first, of_second}
use Rattle.model_grammar.specs.SyntaxValues.{Meaning, a_token, an_initializer}
use Rattle.model_grammar.specs.SyntaxExprActions as e
use Rattle.model_grammar.specs.SyntaxDeclarationActions as d
use Rattle.model_grammar.specs.SyntaxStatementActions as s
use Rattle.model_grammar.specs.SyntaxActions.{action, alone}
use Rattle.model_types.specs.declared.marks.Span.{Span}

chained_sorted : {ms others : List Meaning} → Added ExprSort ms others → Sorted ExprSort (e.chained ms)
chained_sorted (more_expr x) = sorted_expr _

expr_sorted : {ms : List Meaning} → Shape (grammar r.Expr) ms [] → Sorted ExprSort (e.chained ms)
unfolding grammar
expr_sorted (of_both (of_rule a) rest) = chained_sorted a

oror_sorted : {ms : List Meaning} → Shape (grammar r.Oror) ms [] → Sorted ExprSort (e.chained ms)
unfolding grammar
oror_sorted (of_both (of_rule a) rest) = chained_sorted a

andand_sorted : {ms : List Meaning} → Shape (grammar r.Andand) ms [] → Sorted ExprSort (e.chained ms)
unfolding grammar
andand_sorted (of_both (of_rule a) rest) = chained_sorted a

bor_sorted : {ms : List Meaning} → Shape (grammar r.Bor) ms [] → Sorted ExprSort (e.chained ms)
unfolding grammar
bor_sorted (of_both (of_rule a) rest) = chained_sorted a

bxor_sorted : {ms : List Meaning} → Shape (grammar r.Bxor) ms [] → Sorted ExprSort (e.chained ms)
unfolding grammar
bxor_sorted (of_both (of_rule a) rest) = chained_sorted a

band_sorted : {ms : List Meaning} → Shape (grammar r.Band) ms [] → Sorted ExprSort (e.chained ms)
unfolding grammar
band_sorted (of_both (of_rule a) rest) = chained_sorted a

equal_sorted : {ms : List Meaning} → Shape (grammar r.Equal) ms [] → Sorted ExprSort (e.chained ms)
unfolding grammar
equal_sorted (of_both (of_rule a) rest) = chained_sorted a

rel_sorted : {ms : List Meaning} → Shape (grammar r.Rel) ms [] → Sorted ExprSort (e.chained ms)
unfolding grammar
rel_sorted (of_both (of_rule a) rest) = chained_sorted a

shift_sorted : {ms : List Meaning} → Shape (grammar r.Shift) ms [] → Sorted ExprSort (e.chained ms)
unfolding grammar
shift_sorted (of_both (of_rule a) rest) = chained_sorted a

sum_sorted : {ms : List Meaning} → Shape (grammar r.Sum) ms [] → Sorted ExprSort (e.chained ms)
unfolding grammar
sum_sorted (of_both (of_rule a) rest) = chained_sorted a

product_sorted : {ms : List Meaning} → Shape (grammar r.Product) ms [] → Sorted ExprSort (e.chained ms)
unfolding grammar
product_sorted (of_both (of_rule a) rest) = chained_sorted a

external_sorted : {ms : List Meaning} → Shape (grammar r.External) ms [] → Sorted ExternalSort (d.external ms)
unfolding grammar
external_sorted (of_left (of_rule (more_external _))) = sorted_external _
external_sorted (of_right (of_rule (more_declaration _))) = sorted_external _

function_sorted : {ms : List Meaning} → Shape (grammar r.Function) ms [] → Sorted ExternalSort (d.function_definition ms)
unfolding grammar
function_sorted (of_both (of_rule no_more) (of_both (of_rule (more_specs _)) (of_both (of_rule (more_declarator _)) (of_rule (more_block _))))) = sorted_external _

declaration_sorted : {ms : List Meaning} → Shape (grammar r.Declaration) ms [] → Sorted DeclarationSort (d.declaration ms)
unfolding grammar
declaration_sorted (of_left (of_both (of_rule no_more) (of_both (of_rule (more_specs _)) rest))) = sorted_declaration _
declaration_sorted (of_right (of_left (of_rule (more_assertion _)))) = sorted_declaration _
declaration_sorted (of_right (of_right (of_both (of_rule no_more) (of_both (of_rule no_more) (of_word _ _ _))))) = sorted_declaration _

assertion_sorted : {ms : List Meaning} → Shape (grammar r.Sassert) ms [] → Sorted AssertionSort (d.static_assertion ms)
unfolding grammar
assertion_sorted (of_both (of_word _ _ _) (of_both (of_word _ _ _) (of_both (of_rule (more_expr _)) rest))) = sorted_assertion _

spec_sorted : {ms : List Meaning} → Shape (grammar r.Spec) ms [] → Sorted SpecSort (d.one_spec ms)
unfolding grammar
spec_sorted (of_left (of_rule (more_spec _))) = sorted_spec _
spec_sorted (of_right (of_left (of_rule (more_spec _)))) = sorted_spec _
spec_sorted (of_right (of_right (of_left (of_rule (more_qualifier _))))) = sorted_spec _
spec_sorted (of_right (of_right (of_right (of_word _ _ _)))) = sorted_spec _

storage_sorted : {ms : List Meaning} → Shape (grammar r.Storage) ms [] → Sorted SpecSort (d.storage_spec ms)
unfolding grammar
storage_sorted (of_left (of_word _ _ _)) = sorted_spec _
storage_sorted (of_right (of_word _ _ _)) = sorted_spec _

typespec_sorted : {ms : List Meaning} → Shape (grammar r.Typespec) ms [] → Sorted SpecSort (d.type_spec ms)
unfolding grammar
typespec_sorted (of_left (of_word _ _ _)) = sorted_spec _
typespec_sorted (of_right (of_left (of_rule (more_spec _)))) = sorted_spec _
typespec_sorted (of_right (of_right (of_left (of_rule (more_spec _))))) = sorted_spec _
typespec_sorted (of_right (of_right (of_right (of_left (of_word _ _ _))))) = sorted_spec _
typespec_sorted (of_right (of_right (of_right (of_right (of_rule (more_spec _)))))) = sorted_spec _

qualifier_sorted : {ms : List Meaning} → Shape (grammar r.Qual) ms [] → Sorted QualifierSort (d.qualified ms)
unfolding grammar
qualifier_sorted (of_word _ _ _) = sorted_qualifier _

struct_sorted : {ms : List Meaning} → Shape (grammar r.Struct) ms [] → Sorted SpecSort (d.structure ms)
unfolding grammar
struct_sorted (of_both (of_word _ _ _) (of_both (of_rule no_more) (of_left (of_both (of_word _ _ _) of_none)))) = sorted_spec _
struct_sorted (of_both (of_word _ _ _) (of_both (of_rule no_more) (of_left (of_both (of_word _ _ _) (of_one (of_rule (more_members _))))))) = sorted_spec _
struct_sorted (of_both (of_word _ _ _) (of_both (of_rule no_more) (of_right (of_rule (more_members _))))) = sorted_spec _

member_sorted : {ms : List Meaning} → Shape (grammar r.Member) ms [] → Sorted MemberSort (d.member_declaration ms)
unfolding grammar
member_sorted (of_left (of_both (of_rule no_more) (of_both (of_rule (more_specs _)) rest))) = sorted_member _
member_sorted (of_right (of_rule (more_assertion _))) = sorted_member _

enumerator_sorted : {ms : List Meaning} → Shape (grammar r.Enumr) ms [] → Sorted EnumeratorSort (d.enumerator ms)
unfolding grammar
enumerator_sorted (of_both (of_word _ _ _) (of_both (of_rule no_more) of_none)) = sorted_enumerator _
enumerator_sorted (of_both (of_word _ _ _) (of_both (of_rule no_more) (of_one (of_both (of_word _ _ _) (of_rule (more_expr _)))))) = sorted_enumerator _

-- attributes add nothing
attributes_added : {ms others : List Meaning} → Shape (many (rule r.Attr)) ms others → ms ≡ others
attributes_added of_end = refl
attributes_added (of_turn (of_rule no_more) rest) = attributes_added rest

suffix_sorted : {ms : List Meaning} → Shape (grammar r.Suffix) ms [] → Sorted SuffixSort (d.suffix ms)
unfolding grammar
suffix_sorted (of_left (of_both (of_word _ _ _) (of_both of_none (of_both (of_word _ _ _) rest)))) = rw (attributes_added rest) (sorted_suffix _)
suffix_sorted (of_left (of_both (of_word _ _ _) (of_both (of_one (of_rule (more_expr _))) (of_both (of_word _ _ _) rest)))) = rw (attributes_added rest) (sorted_suffix _)
suffix_sorted (of_right (of_both (of_word _ _ _) (of_both of_none (of_both (of_word _ _ _) rest)))) = rw (attributes_added rest) (sorted_suffix _)
suffix_sorted (of_right (of_both (of_word _ _ _) (of_both (of_one (of_rule (more_parameters _))) (of_both (of_word _ _ _) rest)))) = rw (attributes_added rest) (sorted_suffix _)

type_name_sorted : {ms : List Meaning} → Shape (grammar r.Typename) ms [] → Sorted TypeNameSort (d.type_name ms)
unfolding grammar
type_name_sorted (of_both (of_rule (more_specs _)) rest) = sorted_typename _

init_declarator_sorted : {ms : List Meaning} → Shape (grammar r.Initdecl) ms [] → Sorted InitDeclaratorSort (d.init_declarator ms)
unfolding grammar
init_declarator_sorted (of_both (of_rule (more_declarator _)) of_none) = sorted_initdeclarator _
init_declarator_sorted (of_both (of_rule (more_declarator _)) (of_one (of_both (of_word _ _ _) (of_rule (more_initializer _))))) = sorted_initdeclarator _

initializer_sorted : {ms : List Meaning} → Shape (grammar r.Init) ms [] → Sorted InitializerSort (s.initializer ms)
unfolding grammar
initializer_sorted (of_left (of_rule (more_expr _))) = sorted_initializer _
initializer_sorted (of_right (of_rule (more_braces _))) = sorted_initializer _

braces_sorted : {ms : List Meaning} → Shape (grammar r.Braces) ms [] → Sorted BracesSort (s.braces ms)
unfolding grammar
braces_sorted (of_both (of_word _ _ _) rest) = sorted_braces _

designator_sorted : {ms : List Meaning} → Shape (grammar r.Desig) ms [] → Sorted DesignatorSort (s.designator ms)
unfolding grammar
designator_sorted (of_left (of_both (of_word _ _ _) (of_both (of_rule (more_expr _)) (of_word _ _ _)))) = sorted_designator _
designator_sorted (of_right (of_both (of_word _ _ _) (of_word _ _ _))) = sorted_designator _

label_sorted : {ms : List Meaning} → Shape (grammar r.Label) ms [] → Sorted BlockItemSort (s.label ms)
unfolding grammar
label_sorted (of_both (of_rule no_more) (of_both (of_left (of_both (of_word _ _ _) (of_rule (more_expr _)))) (of_word _ _ _))) = sorted_blockitem _
label_sorted (of_both (of_rule no_more) (of_both (of_right (of_word _ _ _)) (of_word _ _ _))) = sorted_blockitem _

assign_sorted : {ms : List Meaning} → Shape (grammar r.Assign) ms [] → Sorted ExprSort (e.assigned ms)
unfolding grammar
assign_sorted (of_both (of_rule (more_expr _)) of_none) = sorted_expr _
assign_sorted (of_both (of_rule (more_expr _)) (of_one (of_both (of_word _ _ _) (of_rule (more_expr _))))) = sorted_expr _

cond_sorted : {ms : List Meaning} → Shape (grammar r.Cond) ms [] → Sorted ExprSort (e.conditional ms)
unfolding grammar
cond_sorted (of_both (of_rule (more_expr _)) of_none) = sorted_expr _
cond_sorted (of_both (of_rule (more_expr _)) (of_one (of_both (of_word _ _ _) (of_both (of_rule (more_expr _)) (of_both (of_word _ _ _) (of_rule (more_expr _))))))) = sorted_expr _

cast_sorted : {ms : List Meaning} → Shape (grammar r.Cast) ms [] → Sorted ExprSort (e.cast ms)
unfolding grammar
cast_sorted (of_left (of_both (of_word _ _ _) (of_both (of_rule (more_typename _)) (of_both (of_word _ _ _) (of_rule (more_expr _)))))) = sorted_expr _
cast_sorted (of_right (of_rule (more_expr _))) = sorted_expr _

unary_sorted : {ms : List Meaning} → Shape (grammar r.Unary) ms [] → Sorted ExprSort (e.unary ms)
unfolding grammar
unary_sorted (of_left (of_rule (more_expr _))) = sorted_expr _
unary_sorted (of_right (of_left (of_both (of_word _ _ _) (of_rule (more_expr _))))) = sorted_expr _
unary_sorted (of_right (of_right (of_left (of_both (of_word _ _ _) (of_rule (more_expr _)))))) = sorted_expr _
unary_sorted (of_right (of_right (of_right (of_left (of_both (of_word _ _ _) (of_left (of_rule (more_expr _)))))))) = sorted_expr _
unary_sorted (of_right (of_right (of_right (of_left (of_both (of_word _ _ _) (of_right (of_both (of_word _ _ _) (of_both (of_rule (more_typename _)) (of_word _ _ _))))))))) = sorted_expr _
unary_sorted (of_right (of_right (of_right (of_right (of_both (of_word _ _ _) (of_both (of_word _ _ _) (of_both (of_rule (more_typename _)) (of_word _ _ _)))))))) = sorted_expr _

postfix_sorted : {ms : List Meaning} → Shape (grammar r.Postfix) ms [] → Sorted ExprSort (e.postfixed ms)
unfolding grammar
postfix_sorted (of_both (of_rule (more_expr _)) rest) = sorted_expr _

primary_sorted : {ms : List Meaning} → Shape (grammar r.Primary) ms [] → Sorted ExprSort (e.primary ms)
unfolding grammar
primary_sorted (of_left (of_word _ _ _)) = sorted_expr _
primary_sorted (of_right (of_left (of_word _ _ _))) = sorted_expr _
primary_sorted (of_right (of_right (of_left (of_word _ _ _)))) = sorted_expr _
primary_sorted (of_right (of_right (of_right (of_left (of_word _ _ _))))) = sorted_expr _
primary_sorted (of_right (of_right (of_right (of_right (of_left (of_both (of_word _ _ _) (of_both (of_rule (more_expr _)) (of_word _ _ _)))))))) = sorted_expr _
primary_sorted (of_right (of_right (of_right (of_right (of_right (of_rule (more_expr _))))))) = sorted_expr _

literal_sorted : {ms : List Meaning} → Shape (grammar r.Literal) ms [] → Sorted ExprSort (e.literal ms)
unfolding grammar
literal_sorted (of_both (of_word _ _ _) (of_both (of_rule (more_typename _)) (of_both (of_word _ _ _) (of_first (of_rule (more_block _)))))) = sorted_expr _
literal_sorted (of_both (of_word _ _ _) (of_both (of_rule (more_typename _)) (of_both (of_word _ _ _) (of_second (of_rule (more_braces _)))))) = sorted_expr _

typeof_sorted : {ms : List Meaning} → Shape (grammar r.Typeof) ms [] → Sorted SpecSort (d.type_of_operand ms)
unfolding grammar
typeof_sorted (of_both (of_word _ _ _) (of_both (of_word _ _ _) (of_both (of_left (of_rule (more_expr _))) (of_word _ _ _)))) = sorted_spec _
typeof_sorted (of_both (of_word _ _ _) (of_both (of_word _ _ _) (of_both (of_right (of_rule (more_typename _))) (of_word _ _ _)))) = sorted_spec _

declared_sorted : {ms : List Meaning} → Shape (grammar r.Declared) ms [] → Sorted DeclaratorSort (alone ms)
unfolding grammar
declared_sorted (of_rule (more_declarator _)) = sorted_declarator _

param_specs_sorted : {ms : List Meaning} → Shape (grammar r.ParamSpecs) ms [] → Sorted SpecsSort (alone ms)
unfolding grammar
param_specs_sorted (of_rule (more_specs _)) = sorted_specs _

body_sorted : {ms : List Meaning} → Shape (grammar r.Body) ms [] → Sorted BlockSort (alone ms)
unfolding grammar
body_sorted (of_rule (more_block _)) = sorted_block _

statement_sorted : {ms : List Meaning} (span : Span) → Shape (grammar r.Statement) ms [] → Sorted StatementSort (s.statement span ms)
unfolding grammar
statement_sorted span (of_both (of_rule no_more) (of_left (of_rule (more_block _)))) = sorted_statement _
statement_sorted span (of_both (of_rule no_more) (of_right (of_left (of_both of_none (of_word _ _ _))))) = sorted_statement _
statement_sorted span (of_both (of_rule no_more) (of_right (of_left (of_both (of_one (of_rule (more_expr _))) (of_word _ _ _))))) = sorted_statement _
statement_sorted span (of_both (of_rule no_more) (of_right (of_right (of_left (of_rule (more_statement _)))))) = sorted_statement _
statement_sorted span (of_both (of_rule no_more) (of_right (of_right (of_right (of_left (of_both (of_word _ _ _) (of_both (of_word _ _ _) (of_both (of_rule (more_expr _)) (of_both (of_word _ _ _) (of_rule (more_statement _))))))))))) = sorted_statement _
statement_sorted span (of_both (of_rule no_more) (of_right (of_right (of_right (of_right (of_left (of_both (of_word _ _ _) (of_both (of_word _ _ _) (of_both (of_rule (more_expr _)) (of_both (of_word _ _ _) (of_rule (more_statement _)))))))))))) = sorted_statement _
statement_sorted span (of_both (of_rule no_more) (of_right (of_right (of_right (of_right (of_right (of_left (of_both (of_word _ _ _) (of_both (of_rule (more_statement _)) (of_both (of_word _ _ _) (of_both (of_word _ _ _) (of_both (of_rule (more_expr _)) (of_both (of_word _ _ _) (of_word _ _ _)))))))))))))) = sorted_statement _
statement_sorted span (of_both (of_rule no_more) (of_right (of_right (of_right (of_right (of_right (of_right (of_left (of_rule (more_statement _)))))))))) = sorted_statement _
statement_sorted span (of_both (of_rule no_more) (of_right (of_right (of_right (of_right (of_right (of_right (of_right (of_left (of_both (of_word _ _ _) (of_word _ _ _))))))))))) = sorted_statement _
statement_sorted span (of_both (of_rule no_more) (of_right (of_right (of_right (of_right (of_right (of_right (of_right (of_right (of_left (of_both (of_word _ _ _) (of_word _ _ _)))))))))))) = sorted_statement _
statement_sorted span (of_both (of_rule no_more) (of_right (of_right (of_right (of_right (of_right (of_right (of_right (of_right (of_right (of_left (of_both (of_word _ _ _) (of_both of_none (of_word _ _ _)))))))))))))) = sorted_statement _
statement_sorted span (of_both (of_rule no_more) (of_right (of_right (of_right (of_right (of_right (of_right (of_right (of_right (of_right (of_left (of_both (of_word _ _ _) (of_both (of_one (of_rule (more_expr _))) (of_word _ _ _)))))))))))))) = sorted_statement _
statement_sorted span (of_both (of_rule no_more) (of_right (of_right (of_right (of_right (of_right (of_right (of_right (of_right (of_right (of_right (of_both (of_word _ _ _) (of_rule (more_statement _)))))))))))))) = sorted_statement _

if_sorted : {ms : List Meaning} (span : Span) → Shape (grammar r.If) ms [] → Sorted StatementSort (s.if_statement span ms)
unfolding grammar
if_sorted span (of_both (of_word _ _ _) (of_both (of_word _ _ _) (of_both of_none (of_both (of_rule (more_expr _)) (of_both (of_word _ _ _) (of_both (of_rule (more_statement _)) (of_second of_nothing))))))) = sorted_statement _
if_sorted span (of_both (of_word _ _ _) (of_both (of_word _ _ _) (of_both of_none (of_both (of_rule (more_expr _)) (of_both (of_word _ _ _) (of_both (of_rule (more_statement _)) (of_first (of_both (of_word _ _ _) (of_rule (more_statement _)))))))))) = sorted_statement _
if_sorted span (of_both (of_word _ _ _) (of_both (of_word _ _ _) (of_both (of_one (of_rule (more_declaration _))) (of_both (of_rule (more_expr _)) (of_both (of_word _ _ _) (of_both (of_rule (more_statement _)) (of_second of_nothing))))))) = sorted_statement _
if_sorted span (of_both (of_word _ _ _) (of_both (of_word _ _ _) (of_both (of_one (of_rule (more_declaration _))) (of_both (of_rule (more_expr _)) (of_both (of_word _ _ _) (of_both (of_rule (more_statement _)) (of_first (of_both (of_word _ _ _) (of_rule (more_statement _)))))))))) = sorted_statement _

for_sorted : {ms : List Meaning} (span : Span) → Shape (grammar r.For) ms [] → Sorted StatementSort (s.for_statement span ms)
unfolding grammar
for_sorted span (of_both (of_word _ _ _) (of_both (of_word _ _ _) (of_both (of_left (of_rule (more_declaration _))) (of_both of_none (of_both (of_word _ _ _) (of_both of_none (of_both (of_word _ _ _) (of_rule (more_statement _))))))))) = sorted_statement _
for_sorted span (of_both (of_word _ _ _) (of_both (of_word _ _ _) (of_both (of_left (of_rule (more_declaration _))) (of_both of_none (of_both (of_word _ _ _) (of_both (of_one (of_rule (more_expr _))) (of_both (of_word _ _ _) (of_rule (more_statement _))))))))) = sorted_statement _
for_sorted span (of_both (of_word _ _ _) (of_both (of_word _ _ _) (of_both (of_left (of_rule (more_declaration _))) (of_both (of_one (of_rule (more_expr _))) (of_both (of_word _ _ _) (of_both of_none (of_both (of_word _ _ _) (of_rule (more_statement _))))))))) = sorted_statement _
for_sorted span (of_both (of_word _ _ _) (of_both (of_word _ _ _) (of_both (of_left (of_rule (more_declaration _))) (of_both (of_one (of_rule (more_expr _))) (of_both (of_word _ _ _) (of_both (of_one (of_rule (more_expr _))) (of_both (of_word _ _ _) (of_rule (more_statement _))))))))) = sorted_statement _
for_sorted span (of_both (of_word _ _ _) (of_both (of_word _ _ _) (of_both (of_right (of_both of_none (of_word _ _ _))) (of_both of_none (of_both (of_word _ _ _) (of_both of_none (of_both (of_word _ _ _) (of_rule (more_statement _))))))))) = sorted_statement _
for_sorted span (of_both (of_word _ _ _) (of_both (of_word _ _ _) (of_both (of_right (of_both of_none (of_word _ _ _))) (of_both of_none (of_both (of_word _ _ _) (of_both (of_one (of_rule (more_expr _))) (of_both (of_word _ _ _) (of_rule (more_statement _))))))))) = sorted_statement _
for_sorted span (of_both (of_word _ _ _) (of_both (of_word _ _ _) (of_both (of_right (of_both of_none (of_word _ _ _))) (of_both (of_one (of_rule (more_expr _))) (of_both (of_word _ _ _) (of_both of_none (of_both (of_word _ _ _) (of_rule (more_statement _))))))))) = sorted_statement _
for_sorted span (of_both (of_word _ _ _) (of_both (of_word _ _ _) (of_both (of_right (of_both of_none (of_word _ _ _))) (of_both (of_one (of_rule (more_expr _))) (of_both (of_word _ _ _) (of_both (of_one (of_rule (more_expr _))) (of_both (of_word _ _ _) (of_rule (more_statement _))))))))) = sorted_statement _
for_sorted span (of_both (of_word _ _ _) (of_both (of_word _ _ _) (of_both (of_right (of_both (of_one (of_rule (more_expr _))) (of_word _ _ _))) (of_both of_none (of_both (of_word _ _ _) (of_both of_none (of_both (of_word _ _ _) (of_rule (more_statement _))))))))) = sorted_statement _
for_sorted span (of_both (of_word _ _ _) (of_both (of_word _ _ _) (of_both (of_right (of_both (of_one (of_rule (more_expr _))) (of_word _ _ _))) (of_both of_none (of_both (of_word _ _ _) (of_both (of_one (of_rule (more_expr _))) (of_both (of_word _ _ _) (of_rule (more_statement _))))))))) = sorted_statement _
for_sorted span (of_both (of_word _ _ _) (of_both (of_word _ _ _) (of_both (of_right (of_both (of_one (of_rule (more_expr _))) (of_word _ _ _))) (of_both (of_one (of_rule (more_expr _))) (of_both (of_word _ _ _) (of_both of_none (of_both (of_word _ _ _) (of_rule (more_statement _))))))))) = sorted_statement _
for_sorted span (of_both (of_word _ _ _) (of_both (of_word _ _ _) (of_both (of_right (of_both (of_one (of_rule (more_expr _))) (of_word _ _ _))) (of_both (of_one (of_rule (more_expr _))) (of_both (of_word _ _ _) (of_both (of_one (of_rule (more_expr _))) (of_both (of_word _ _ _) (of_rule (more_statement _))))))))) = sorted_statement _

parameter_sorted : {ms : List Meaning} (span : Span) → Shape (grammar r.Param) ms [] → Sorted ParameterSort (d.parameter span.first ms)
unfolding grammar
parameter_sorted span (of_both (of_rule no_more) (of_both (of_rule (more_specs _)) rest)) = sorted_parameter _

-- behind any number of designators
turns_sorted : {ms : List Meaning} {kind : ℕ} {content : CKind} {place : Place} {x : syntax.Initializer} (front : syntax.Designators) → Shape (many (rule r.Desig)) ms (a_token kind content place ∷ an_initializer x ∷ []) → Sorted ItemSort (s.item_behind front ms)
turns_sorted front of_end = sorted_item _
turns_sorted front (of_turn (of_rule (more_designator d)) turns) = turns_sorted front turns

item_sorted : {ms : List Meaning} → Shape (grammar r.Item) ms [] → Sorted ItemSort (s.item ms)
unfolding grammar
item_sorted (of_both of_none (of_rule (more_initializer x))) = sorted_item _
item_sorted (of_both (of_one (of_both (of_rule (more_designator d)) (of_both turns (of_word k c p)))) (of_rule (more_initializer x))) = turns_sorted _ turns

direct_behind : {ms : List Meaning} (kind : ℕ) (content : CKind) (place : Place) → Shape (many (rule r.Suffix)) ms [] → Sorted DeclaratorSort (d.direct (a_token kind content place ∷ ms))
direct_behind kind content place of_end = sorted_declarator _
direct_behind kind content place (of_turn (of_rule (more_suffix x)) rest) = sorted_declarator _

direct_sorted : {ms : List Meaning} → Shape (grammar r.Direct) ms [] → Sorted DeclaratorSort (d.direct ms)
unfolding grammar
direct_sorted (of_both (of_left (of_both (of_word k c p) attributes)) rest) = rw (attributes_added attributes) (direct_behind k c p rest)
direct_sorted (of_both (of_right (of_both (of_word _ _ _) (of_both (of_rule (more_declarator _)) (of_word _ _ _)))) rest) = sorted_declarator _

adirect_sorted : {ms : List Meaning} → Shape (grammar r.Adirect) ms [] → Sorted DeclaratorSort (d.direct ms)
unfolding grammar
adirect_sorted (of_both (of_left (of_both (of_word _ _ _) (of_both (of_rule (more_declarator _)) (of_word _ _ _)))) rest) = sorted_declarator _
adirect_sorted (of_both (of_right (of_rule (more_suffix x))) rest) = sorted_declarator _

-- with a tag or without one, as the token behind the word is a name or none
tag_or_none : (ms : List Meaning) (word_kind kind : ℕ) (word_content content : CKind) (place at : Place) → ((name : Name) → Sorted SpecSort (d.enumeration_behind (Some name) place ms)) → Sorted SpecSort (d.enumeration_behind None place (a_token kind content at ∷ ms)) → Sorted SpecSort (d.enumeration (a_token word_kind word_content place ∷ a_token kind content at ∷ ms))
tag_or_none ms wk k wc (content_of.Name text) place at tagged untagged = tagged _
tag_or_none ms wk k wc (content_of.Word n) place at tagged untagged = untagged
tag_or_none ms wk k wc (content_of.Integer c) place at tagged untagged = untagged
tag_or_none ms wk k wc (content_of.Text text) place at tagged untagged = untagged
tag_or_none ms wk k wc (content_of.Punct n) place at tagged untagged = untagged

enumeration_sorted : {ms : List Meaning} → Shape (grammar r.Enum) ms [] → Sorted SpecSort (d.enumeration ms)
unfolding grammar
enumeration_sorted (of_both (of_word wk wc p) (of_both (of_rule no_more) (of_left (of_both of_none (of_both of_none (of_both (of_word k c at) (of_both (of_rule (more_enumerator x)) rest))))))) = tag_or_none _ wk k wc c p at (λ name. sorted_spec _) (sorted_spec _)
enumeration_sorted (of_both (of_word wk wc p) (of_both (of_rule no_more) (of_left (of_both of_none (of_both (of_one (of_both (of_word k c at) (of_rule (more_specs y)))) rest))))) = tag_or_none _ wk k wc c p at (λ name. sorted_spec _) (sorted_spec _)
enumeration_sorted (of_both (of_word wk wc p) (of_both (of_rule no_more) (of_left (of_both (of_one (of_word k c at)) (of_both of_none (of_both (of_word _ _ _) (of_both (of_rule (more_enumerator x)) rest))))))) = tag_or_none _ wk k wc c p at (λ name. sorted_spec _) (sorted_spec _)
enumeration_sorted (of_both (of_word wk wc p) (of_both (of_rule no_more) (of_left (of_both (of_one (of_word k c at)) (of_both (of_one (of_both (of_word _ _ _) (of_rule (more_specs y)))) (of_both (of_word _ _ _) rest)))))) = tag_or_none _ wk k wc c p at (λ name. sorted_spec _) (sorted_spec _)
enumeration_sorted (of_both (of_word wk wc p) (of_both (of_rule no_more) (of_right (of_both (of_word k c at) of_none)))) = tag_or_none _ wk k wc c p at (λ name. sorted_spec _) (sorted_spec _)
enumeration_sorted (of_both (of_word wk wc p) (of_both (of_rule no_more) (of_right (of_both (of_word k c at) (of_one (of_both (of_word _ _ _) (of_rule (more_specs y)))))))) = tag_or_none _ wk k wc c p at (λ name. sorted_spec _) (sorted_spec _)

-- what a production makes of its symbols
pub made_sorted : (x : Rule) {ms : List Meaning} (all bare : Span) → Shape (grammar x) ms [] → Sorted (sort_of x) (action x all bare ms)
made_sorted r.Unit all bare h = sorted_unit _
made_sorted r.External all bare h = external_sorted h
made_sorted r.Function all bare h = function_sorted h
made_sorted r.Declaration all bare h = declaration_sorted h
made_sorted r.Sassert all bare h = assertion_sorted h
made_sorted r.Attrs all bare h = sorted_nothing
made_sorted r.Attr all bare h = sorted_nothing
made_sorted r.Specs all bare h = sorted_specs _
made_sorted r.Spec all bare h = spec_sorted h
made_sorted r.Storage all bare h = storage_sorted h
made_sorted r.Typespec all bare h = typespec_sorted h
made_sorted r.Qual all bare h = qualifier_sorted h
made_sorted r.Squals all bare h = sorted_specs _
made_sorted r.Struct all bare h = struct_sorted h
made_sorted r.Members all bare h = sorted_members _
made_sorted r.Member all bare h = member_sorted h
made_sorted r.Enum all bare h = enumeration_sorted h
made_sorted r.Enumr all bare h = enumerator_sorted h
made_sorted r.Declarator all bare h = sorted_declarator _
made_sorted r.Direct all bare h = direct_sorted h
made_sorted r.Suffix all bare h = suffix_sorted h
made_sorted r.Params all bare h = sorted_parameters _
made_sorted r.Param all bare h = parameter_sorted all h
made_sorted r.Typename all bare h = type_name_sorted h
made_sorted r.Abstract all bare h = sorted_declarator _
made_sorted r.Adirect all bare h = adirect_sorted h
made_sorted r.Initdecl all bare h = init_declarator_sorted h
made_sorted r.Init all bare h = initializer_sorted h
made_sorted r.Braces all bare h = braces_sorted h
made_sorted r.Item all bare h = item_sorted h
made_sorted r.Desig all bare h = designator_sorted h
made_sorted r.Block all bare h = sorted_block _
made_sorted r.Label all bare h = label_sorted h
made_sorted r.Statement all bare h = statement_sorted bare h
made_sorted r.Expr all bare h = expr_sorted h
made_sorted r.Assign all bare h = assign_sorted h
made_sorted r.Cond all bare h = cond_sorted h
made_sorted r.Oror all bare h = oror_sorted h
made_sorted r.Andand all bare h = andand_sorted h
made_sorted r.Bor all bare h = bor_sorted h
made_sorted r.Bxor all bare h = bxor_sorted h
made_sorted r.Band all bare h = band_sorted h
made_sorted r.Equal all bare h = equal_sorted h
made_sorted r.Rel all bare h = rel_sorted h
made_sorted r.Shift all bare h = shift_sorted h
made_sorted r.Sum all bare h = sum_sorted h
made_sorted r.Product all bare h = product_sorted h
made_sorted r.Cast all bare h = cast_sorted h
made_sorted r.Unary all bare h = unary_sorted h
made_sorted r.Postfix all bare h = postfix_sorted h
made_sorted r.Primary all bare h = primary_sorted h
made_sorted r.Literal all bare h = literal_sorted h
made_sorted r.Balanced all bare h = sorted_nothing
made_sorted r.Declared all bare h = declared_sorted h
made_sorted r.ParamSpecs all bare h = param_specs_sorted h
made_sorted r.Body all bare h = body_sorted h
made_sorted r.Typeof all bare h = typeof_sorted h
made_sorted r.If all bare h = if_sorted bare h
made_sorted r.For all bare h = for_sorted bare h
