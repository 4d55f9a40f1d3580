-- What the productions of declarations make nothing of, or nothing more.
use Rattle.std.proofs.Common.{◌≡◌, refl, ℕ, List, [], ◌∷◌, Option, Some, None, false}
use Rattle.cake_base.specs.declared.places.Place.{Place}
use Rattle.model_tokens.specs.declared.tokens.CKind.{CKind}
use Rattle.model_grammar.specs.SyntaxForms as m
use Rattle.model_grammar.specs.declared.syntax.Name.{Name}
use Rattle.model_grammar.specs.declared.syntax.Qualifier.{Qualifier}
use Rattle.model_grammar.specs.SyntaxDeclarationActions as d
use Rattle.model_grammar.specs.SyntaxValues.{Meaning, nothing, a_declarator, a_qualifier, a_spec, a_token, a_type_name, an_assertion, an_expr, an_initializer, some_members, some_specs}
use Rattle.syntax_meanings.specs.FirstSymbols.{begins_with_assertion, begins_with_declarator, begins_with_expr, begins_with_initializer, begins_with_members, begins_with_qualifier, begins_with_spec, begins_with_specs, begins_with_token, begins_with_type_name, is_empty}

pub storage_spec_without_token : (rest : List Meaning) → begins_with_token rest ≡ false → d.storage_spec rest ≡ nothing
storage_spec_without_token (a_token k c p ∷ rest) e1 = absurd (cc)
storage_spec_without_token _ e1 = refl

pub storage_spec_token_and_more : (kind1 : ℕ) (content1 : CKind) (place1 : Place) (rest : List Meaning) → is_empty rest ≡ false → d.storage_spec (a_token kind1 content1 place1 ∷ rest) ≡ nothing
storage_spec_token_and_more kind1 content1 place1 [] e1 = absurd (cc)
storage_spec_token_and_more kind1 content1 place1 _ e1 = refl

pub qualified_without_token : (rest : List Meaning) → begins_with_token rest ≡ false → d.qualified rest ≡ nothing
qualified_without_token (a_token k c p ∷ rest) e1 = absurd (cc)
qualified_without_token _ e1 = refl

pub qualified_token_and_more : (kind1 : ℕ) (content1 : CKind) (place1 : Place) (rest : List Meaning) → is_empty rest ≡ false → d.qualified (a_token kind1 content1 place1 ∷ rest) ≡ nothing
qualified_token_and_more kind1 content1 place1 [] e1 = absurd (cc)
qualified_token_and_more kind1 content1 place1 _ e1 = refl

pub one_spec_without_spec_or_qualifier_or_token : (rest : List Meaning) → begins_with_spec rest ≡ false → begins_with_qualifier rest ≡ false → begins_with_token rest ≡ false → d.one_spec rest ≡ nothing
one_spec_without_spec_or_qualifier_or_token (a_spec x ∷ rest) e1 e2 e3 = absurd (cc)
one_spec_without_spec_or_qualifier_or_token (a_qualifier x ∷ rest) e1 e2 e3 = absurd (cc)
one_spec_without_spec_or_qualifier_or_token (a_token k c p ∷ rest) e1 e2 e3 = absurd (cc)
one_spec_without_spec_or_qualifier_or_token _ e1 e2 e3 = refl

pub one_spec_spec_and_more : (x1 : m.Spec) (rest : List Meaning) → is_empty rest ≡ false → d.one_spec (a_spec x1 ∷ rest) ≡ nothing
one_spec_spec_and_more x1 [] e1 = absurd (cc)
one_spec_spec_and_more x1 _ e1 = refl

pub one_spec_qualifier_and_more : (x1 : Qualifier) (rest : List Meaning) → is_empty rest ≡ false → d.one_spec (a_qualifier x1 ∷ rest) ≡ nothing
one_spec_qualifier_and_more x1 [] e1 = absurd (cc)
one_spec_qualifier_and_more x1 _ e1 = refl

pub one_spec_token_and_more : (kind1 : ℕ) (content1 : CKind) (place1 : Place) (rest : List Meaning) → is_empty rest ≡ false → d.one_spec (a_token kind1 content1 place1 ∷ rest) ≡ nothing
one_spec_token_and_more kind1 content1 place1 [] e1 = absurd (cc)
one_spec_token_and_more kind1 content1 place1 _ e1 = refl

pub type_spec_without_spec_or_token : (rest : List Meaning) → begins_with_spec rest ≡ false → begins_with_token rest ≡ false → d.type_spec rest ≡ nothing
type_spec_without_spec_or_token (a_spec x ∷ rest) e1 e2 = absurd (cc)
type_spec_without_spec_or_token (a_token k c p ∷ rest) e1 e2 = absurd (cc)
type_spec_without_spec_or_token _ e1 e2 = refl

pub type_spec_spec_and_more : (x1 : m.Spec) (rest : List Meaning) → is_empty rest ≡ false → d.type_spec (a_spec x1 ∷ rest) ≡ nothing
type_spec_spec_and_more x1 [] e1 = absurd (cc)
type_spec_spec_and_more x1 _ e1 = refl

pub type_spec_token_and_more : (kind1 : ℕ) (content1 : CKind) (place1 : Place) (rest : List Meaning) → is_empty rest ≡ false → d.type_spec (a_token kind1 content1 place1 ∷ rest) ≡ nothing
type_spec_token_and_more kind1 content1 place1 [] e1 = absurd (cc)
type_spec_token_and_more kind1 content1 place1 _ e1 = refl

pub type_of_operand_without_token : (rest : List Meaning) → begins_with_token rest ≡ false → d.type_of_operand rest ≡ nothing
type_of_operand_without_token (a_token k c p ∷ rest) e1 = absurd (cc)
type_of_operand_without_token _ e1 = refl

pub type_of_operand_token_without_token : (kind1 : ℕ) (content1 : CKind) (place1 : Place) (rest : List Meaning) → begins_with_token rest ≡ false → d.type_of_operand (a_token kind1 content1 place1 ∷ rest) ≡ nothing
type_of_operand_token_without_token kind1 content1 place1 (a_token k c p ∷ rest) e1 = absurd (cc)
type_of_operand_token_without_token kind1 content1 place1 _ e1 = refl

pub type_of_operand_token_token_without_expr_or_type_name : (kind1 : ℕ) (content1 : CKind) (place1 : Place) (kind2 : ℕ) (content2 : CKind) (place2 : Place) (rest : List Meaning) → begins_with_expr rest ≡ false → begins_with_type_name rest ≡ false → d.type_of_operand (a_token kind1 content1 place1 ∷ a_token kind2 content2 place2 ∷ rest) ≡ nothing
type_of_operand_token_token_without_expr_or_type_name kind1 content1 place1 kind2 content2 place2 (an_expr x ∷ rest) e1 e2 = absurd (cc)
type_of_operand_token_token_without_expr_or_type_name kind1 content1 place1 kind2 content2 place2 (a_type_name x ∷ rest) e1 e2 = absurd (cc)
type_of_operand_token_token_without_expr_or_type_name kind1 content1 place1 kind2 content2 place2 _ e1 e2 = refl

pub type_of_operand_token_token_expr_without_token : (kind1 : ℕ) (content1 : CKind) (place1 : Place) (kind2 : ℕ) (content2 : CKind) (place2 : Place) (x3 : m.Expr) (rest : List Meaning) → begins_with_token rest ≡ false → d.type_of_operand (a_token kind1 content1 place1 ∷ a_token kind2 content2 place2 ∷ an_expr x3 ∷ rest) ≡ nothing
type_of_operand_token_token_expr_without_token kind1 content1 place1 kind2 content2 place2 x3 (a_token k c p ∷ rest) e1 = absurd (cc)
type_of_operand_token_token_expr_without_token kind1 content1 place1 kind2 content2 place2 x3 _ e1 = refl

pub type_of_operand_token_token_expr_token_and_more : (kind1 : ℕ) (content1 : CKind) (place1 : Place) (kind2 : ℕ) (content2 : CKind) (place2 : Place) (x3 : m.Expr) (kind4 : ℕ) (content4 : CKind) (place4 : Place) (rest : List Meaning) → is_empty rest ≡ false → d.type_of_operand (a_token kind1 content1 place1 ∷ a_token kind2 content2 place2 ∷ an_expr x3 ∷ a_token kind4 content4 place4 ∷ rest) ≡ nothing
type_of_operand_token_token_expr_token_and_more kind1 content1 place1 kind2 content2 place2 x3 kind4 content4 place4 [] e1 = absurd (cc)
type_of_operand_token_token_expr_token_and_more kind1 content1 place1 kind2 content2 place2 x3 kind4 content4 place4 _ e1 = refl

pub type_of_operand_token_token_type_name_without_token : (kind1 : ℕ) (content1 : CKind) (place1 : Place) (kind2 : ℕ) (content2 : CKind) (place2 : Place) (x3 : m.TypeName) (rest : List Meaning) → begins_with_token rest ≡ false → d.type_of_operand (a_token kind1 content1 place1 ∷ a_token kind2 content2 place2 ∷ a_type_name x3 ∷ rest) ≡ nothing
type_of_operand_token_token_type_name_without_token kind1 content1 place1 kind2 content2 place2 x3 (a_token k c p ∷ rest) e1 = absurd (cc)
type_of_operand_token_token_type_name_without_token kind1 content1 place1 kind2 content2 place2 x3 _ e1 = refl

pub type_of_operand_token_token_type_name_token_and_more : (kind1 : ℕ) (content1 : CKind) (place1 : Place) (kind2 : ℕ) (content2 : CKind) (place2 : Place) (x3 : m.TypeName) (kind4 : ℕ) (content4 : CKind) (place4 : Place) (rest : List Meaning) → is_empty rest ≡ false → d.type_of_operand (a_token kind1 content1 place1 ∷ a_token kind2 content2 place2 ∷ a_type_name x3 ∷ a_token kind4 content4 place4 ∷ rest) ≡ nothing
type_of_operand_token_token_type_name_token_and_more kind1 content1 place1 kind2 content2 place2 x3 kind4 content4 place4 [] e1 = absurd (cc)
type_of_operand_token_token_type_name_token_and_more kind1 content1 place1 kind2 content2 place2 x3 kind4 content4 place4 _ e1 = refl

pub structure_without_token : (rest : List Meaning) → begins_with_token rest ≡ false → d.structure rest ≡ nothing
structure_without_token (a_token k c p ∷ rest) e1 = absurd (cc)
structure_without_token _ e1 = refl

pub structure_token_without_members_or_token : (kind1 : ℕ) (content1 : CKind) (place1 : Place) (rest : List Meaning) → begins_with_members rest ≡ false → begins_with_token rest ≡ false → d.structure (a_token kind1 content1 place1 ∷ rest) ≡ nothing
structure_token_without_members_or_token kind1 content1 place1 (some_members x ∷ rest) e1 e2 = absurd (cc)
structure_token_without_members_or_token kind1 content1 place1 (a_token k c p ∷ rest) e1 e2 = absurd (cc)
structure_token_without_members_or_token kind1 content1 place1 _ e1 e2 = refl

pub structure_token_members_and_more : (kind1 : ℕ) (content1 : CKind) (place1 : Place) (x2 : m.MemberDeclarations) (rest : List Meaning) → is_empty rest ≡ false → d.structure (a_token kind1 content1 place1 ∷ some_members x2 ∷ rest) ≡ nothing
structure_token_members_and_more kind1 content1 place1 x2 [] e1 = absurd (cc)
structure_token_members_and_more kind1 content1 place1 x2 _ e1 = refl

pub structure_token_token_without_members : (kind1 : ℕ) (content1 : CKind) (place1 : Place) (kind2 : ℕ) (content2 : CKind) (place2 : Place) (rest : List Meaning) → is_empty rest ≡ false → begins_with_members rest ≡ false → d.structure (a_token kind1 content1 place1 ∷ a_token kind2 content2 place2 ∷ rest) ≡ nothing
structure_token_token_without_members kind1 content1 place1 kind2 content2 place2 [] e1 e2 = absurd (cc)
structure_token_token_without_members kind1 content1 place1 kind2 content2 place2 (some_members x ∷ rest) e1 e2 = absurd (cc)
structure_token_token_without_members kind1 content1 place1 kind2 content2 place2 _ e1 e2 = refl

pub structure_token_token_members_and_more : (kind1 : ℕ) (content1 : CKind) (place1 : Place) (kind2 : ℕ) (content2 : CKind) (place2 : Place) (x3 : m.MemberDeclarations) (rest : List Meaning) → is_empty rest ≡ false → d.structure (a_token kind1 content1 place1 ∷ a_token kind2 content2 place2 ∷ some_members x3 ∷ rest) ≡ nothing
structure_token_token_members_and_more kind1 content1 place1 kind2 content2 place2 x3 [] e1 = absurd (cc)
structure_token_token_members_and_more kind1 content1 place1 kind2 content2 place2 x3 _ e1 = refl

pub member_declaration_without_specs_or_assertion : (rest : List Meaning) → begins_with_specs rest ≡ false → begins_with_assertion rest ≡ false → d.member_declaration rest ≡ nothing
member_declaration_without_specs_or_assertion (some_specs x ∷ rest) e1 e2 = absurd (cc)
member_declaration_without_specs_or_assertion (an_assertion x ∷ rest) e1 e2 = absurd (cc)
member_declaration_without_specs_or_assertion _ e1 e2 = refl

pub member_declaration_assertion_and_more : (x1 : m.Assertion) (rest : List Meaning) → is_empty rest ≡ false → d.member_declaration (an_assertion x1 ∷ rest) ≡ nothing
member_declaration_assertion_and_more x1 [] e1 = absurd (cc)
member_declaration_assertion_and_more x1 _ e1 = refl

pub enumeration_from_more : (tag : Name) (fixed : m.MaybeSpecs) (place : Place) (rest : List Meaning) → is_empty rest ≡ false → d.enumeration_from (Some tag) fixed place rest ≡ a_spec (m.Enum (Some tag) fixed (d.enumerators_in rest) place)
enumeration_from_more tag fixed place [] e1 = absurd (cc)
enumeration_from_more tag fixed place _ e1 = refl

pub enumeration_behind_without_token : (tag : Option Name) (place : Place) (rest : List Meaning) → begins_with_token rest ≡ false → d.enumeration_behind tag place rest ≡ d.enumeration_from tag m.none_of_specs place rest
enumeration_behind_without_token tag place (a_token k c p ∷ rest) e1 = absurd (cc)
enumeration_behind_without_token tag place _ e1 = refl

pub enumeration_behind_token_without_specs : (tag : Option Name) (place : Place) (kind1 : ℕ) (content1 : CKind) (place1 : Place) (rest : List Meaning) → begins_with_specs rest ≡ false → d.enumeration_behind tag place (a_token kind1 content1 place1 ∷ rest) ≡ d.enumeration_from tag m.none_of_specs place (a_token kind1 content1 place1 ∷ rest)
enumeration_behind_token_without_specs tag place kind1 content1 place1 (some_specs x ∷ rest) e1 = absurd (cc)
enumeration_behind_token_without_specs tag place kind1 content1 place1 _ e1 = refl

pub enumeration_without_token : (rest : List Meaning) → begins_with_token rest ≡ false → d.enumeration rest ≡ nothing
enumeration_without_token (a_token k c p ∷ rest) e1 = absurd (cc)
enumeration_without_token _ e1 = refl

pub enumeration_token_without_token : (kind1 : ℕ) (content1 : CKind) (place1 : Place) (rest : List Meaning) → begins_with_token rest ≡ false → d.enumeration (a_token kind1 content1 place1 ∷ rest) ≡ d.enumeration_behind None place1 rest
enumeration_token_without_token kind1 content1 place1 (a_token k c p ∷ rest) e1 = absurd (cc)
enumeration_token_without_token kind1 content1 place1 _ e1 = refl

pub enumerator_without_token : (rest : List Meaning) → begins_with_token rest ≡ false → d.enumerator rest ≡ nothing
enumerator_without_token (a_token k c p ∷ rest) e1 = absurd (cc)
enumerator_without_token _ e1 = refl

pub enumerator_token_without_token : (kind1 : ℕ) (content1 : CKind) (place1 : Place) (rest : List Meaning) → is_empty rest ≡ false → begins_with_token rest ≡ false → d.enumerator (a_token kind1 content1 place1 ∷ rest) ≡ nothing
enumerator_token_without_token kind1 content1 place1 [] e1 e2 = absurd (cc)
enumerator_token_without_token kind1 content1 place1 (a_token k c p ∷ rest) e1 e2 = absurd (cc)
enumerator_token_without_token kind1 content1 place1 _ e1 e2 = refl

pub enumerator_token_token_without_expr : (kind1 : ℕ) (content1 : CKind) (place1 : Place) (kind2 : ℕ) (content2 : CKind) (place2 : Place) (rest : List Meaning) → begins_with_expr rest ≡ false → d.enumerator (a_token kind1 content1 place1 ∷ a_token kind2 content2 place2 ∷ rest) ≡ nothing
enumerator_token_token_without_expr kind1 content1 place1 kind2 content2 place2 (an_expr x ∷ rest) e1 = absurd (cc)
enumerator_token_token_without_expr kind1 content1 place1 kind2 content2 place2 _ e1 = refl

pub enumerator_token_token_expr_and_more : (kind1 : ℕ) (content1 : CKind) (place1 : Place) (kind2 : ℕ) (content2 : CKind) (place2 : Place) (x3 : m.Expr) (rest : List Meaning) → is_empty rest ≡ false → d.enumerator (a_token kind1 content1 place1 ∷ a_token kind2 content2 place2 ∷ an_expr x3 ∷ rest) ≡ nothing
enumerator_token_token_expr_and_more kind1 content1 place1 kind2 content2 place2 x3 [] e1 = absurd (cc)
enumerator_token_token_expr_and_more kind1 content1 place1 kind2 content2 place2 x3 _ e1 = refl

pub declaration_without_specs_or_assertion_or_token : (rest : List Meaning) → begins_with_specs rest ≡ false → begins_with_assertion rest ≡ false → begins_with_token rest ≡ false → d.declaration rest ≡ nothing
declaration_without_specs_or_assertion_or_token (some_specs x ∷ rest) e1 e2 e3 = absurd (cc)
declaration_without_specs_or_assertion_or_token (an_assertion x ∷ rest) e1 e2 e3 = absurd (cc)
declaration_without_specs_or_assertion_or_token (a_token k c p ∷ rest) e1 e2 e3 = absurd (cc)
declaration_without_specs_or_assertion_or_token _ e1 e2 e3 = refl

pub declaration_assertion_and_more : (x1 : m.Assertion) (rest : List Meaning) → is_empty rest ≡ false → d.declaration (an_assertion x1 ∷ rest) ≡ nothing
declaration_assertion_and_more x1 [] e1 = absurd (cc)
declaration_assertion_and_more x1 _ e1 = refl

pub declaration_token_and_more : (kind1 : ℕ) (content1 : CKind) (place1 : Place) (rest : List Meaning) → is_empty rest ≡ false → d.declaration (a_token kind1 content1 place1 ∷ rest) ≡ nothing
declaration_token_and_more kind1 content1 place1 [] e1 = absurd (cc)
declaration_token_and_more kind1 content1 place1 _ e1 = refl

pub message_in_without_token : (rest : List Meaning) → begins_with_token rest ≡ false → d.message_in rest ≡ None
message_in_without_token (a_token k c p ∷ rest) e1 = absurd (cc)
message_in_without_token _ e1 = refl

pub message_in_token_without_token : (kind1 : ℕ) (content1 : CKind) (place1 : Place) (rest : List Meaning) → begins_with_token rest ≡ false → d.message_in (a_token kind1 content1 place1 ∷ rest) ≡ None
message_in_token_without_token kind1 content1 place1 (a_token k c p ∷ rest) e1 = absurd (cc)
message_in_token_without_token kind1 content1 place1 _ e1 = refl

pub static_assertion_without_token : (rest : List Meaning) → begins_with_token rest ≡ false → d.static_assertion rest ≡ nothing
static_assertion_without_token (a_token k c p ∷ rest) e1 = absurd (cc)
static_assertion_without_token _ e1 = refl

pub static_assertion_token_without_token : (kind1 : ℕ) (content1 : CKind) (place1 : Place) (rest : List Meaning) → begins_with_token rest ≡ false → d.static_assertion (a_token kind1 content1 place1 ∷ rest) ≡ nothing
static_assertion_token_without_token kind1 content1 place1 (a_token k c p ∷ rest) e1 = absurd (cc)
static_assertion_token_without_token kind1 content1 place1 _ e1 = refl

pub static_assertion_token_token_without_expr : (kind1 : ℕ) (content1 : CKind) (place1 : Place) (kind2 : ℕ) (content2 : CKind) (place2 : Place) (rest : List Meaning) → begins_with_expr rest ≡ false → d.static_assertion (a_token kind1 content1 place1 ∷ a_token kind2 content2 place2 ∷ rest) ≡ nothing
static_assertion_token_token_without_expr kind1 content1 place1 kind2 content2 place2 (an_expr x ∷ rest) e1 = absurd (cc)
static_assertion_token_token_without_expr kind1 content1 place1 kind2 content2 place2 _ e1 = refl

pub init_declarator_without_declarator : (rest : List Meaning) → begins_with_declarator rest ≡ false → d.init_declarator rest ≡ nothing
init_declarator_without_declarator (a_declarator x ∷ rest) e1 = absurd (cc)
init_declarator_without_declarator _ e1 = refl

pub init_declarator_declarator_without_token : (x1 : m.Declarator) (rest : List Meaning) → is_empty rest ≡ false → begins_with_token rest ≡ false → d.init_declarator (a_declarator x1 ∷ rest) ≡ nothing
init_declarator_declarator_without_token x1 [] e1 e2 = absurd (cc)
init_declarator_declarator_without_token x1 (a_token k c p ∷ rest) e1 e2 = absurd (cc)
init_declarator_declarator_without_token x1 _ e1 e2 = refl

pub init_declarator_declarator_token_without_initializer : (x1 : m.Declarator) (kind2 : ℕ) (content2 : CKind) (place2 : Place) (rest : List Meaning) → begins_with_initializer rest ≡ false → d.init_declarator (a_declarator x1 ∷ a_token kind2 content2 place2 ∷ rest) ≡ nothing
init_declarator_declarator_token_without_initializer x1 kind2 content2 place2 (an_initializer x ∷ rest) e1 = absurd (cc)
init_declarator_declarator_token_without_initializer x1 kind2 content2 place2 _ e1 = refl

pub init_declarator_declarator_token_initializer_and_more : (x1 : m.Declarator) (kind2 : ℕ) (content2 : CKind) (place2 : Place) (x3 : m.Initializer) (rest : List Meaning) → is_empty rest ≡ false → d.init_declarator (a_declarator x1 ∷ a_token kind2 content2 place2 ∷ an_initializer x3 ∷ rest) ≡ nothing
init_declarator_declarator_token_initializer_and_more x1 kind2 content2 place2 x3 [] e1 = absurd (cc)
init_declarator_declarator_token_initializer_and_more x1 kind2 content2 place2 x3 _ e1 = refl

pub ruleset of_storage_spec = (storage_spec_without_token, storage_spec_token_and_more)

pub ruleset of_qualified = (qualified_without_token, qualified_token_and_more)

pub ruleset of_one_spec = (one_spec_without_spec_or_qualifier_or_token, one_spec_spec_and_more, one_spec_qualifier_and_more, one_spec_token_and_more)

pub ruleset of_type_spec = (type_spec_without_spec_or_token, type_spec_spec_and_more, type_spec_token_and_more)

pub ruleset of_type_of_operand = (type_of_operand_without_token, type_of_operand_token_without_token, type_of_operand_token_token_without_expr_or_type_name, type_of_operand_token_token_expr_without_token, type_of_operand_token_token_expr_token_and_more, type_of_operand_token_token_type_name_without_token, type_of_operand_token_token_type_name_token_and_more)

pub ruleset of_structure = (structure_without_token, structure_token_without_members_or_token, structure_token_members_and_more, structure_token_token_without_members, structure_token_token_members_and_more)

pub ruleset of_member_declaration = (member_declaration_without_specs_or_assertion, member_declaration_assertion_and_more)

pub ruleset of_enumeration_from = (enumeration_from_more)

pub ruleset of_enumeration_behind = (enumeration_behind_without_token, enumeration_behind_token_without_specs)

pub ruleset of_enumeration = (enumeration_without_token, enumeration_token_without_token)

pub ruleset of_enumerator = (enumerator_without_token, enumerator_token_without_token, enumerator_token_token_without_expr, enumerator_token_token_expr_and_more)

pub ruleset of_declaration = (declaration_without_specs_or_assertion_or_token, declaration_assertion_and_more, declaration_token_and_more)

pub ruleset of_message_in = (message_in_without_token, message_in_token_without_token)

pub ruleset of_static_assertion = (static_assertion_without_token, static_assertion_token_without_token, static_assertion_token_token_without_expr)

pub ruleset of_init_declarator = (init_declarator_without_declarator, init_declarator_declarator_without_token, init_declarator_declarator_token_without_initializer, init_declarator_declarator_token_initializer_and_more)
