-- What the productions of declarations make of their symbols (ISO/IEC 9899:2024, 6.7, 6.9).
use Rattle.std.specs.Prelude.{ℕ, ◌==◌, Bool, true, false, if◌then◌else◌, List, [], ◌∷◌, ◌++◌, Option, Some, None}
use Rattle.cake_base.specs.declared.places.Place.{Place}
use Rattle.model_grammar.specs.declared.syntax.FunctionWord.TheVariants as function
use Rattle.model_grammar.specs.declared.syntax.Name.{Name}
use Rattle.model_grammar.specs.declared.syntax.Pointer.{Pointer}
use Rattle.model_grammar.specs.declared.syntax.Qualifier.{Qualifier}
use Rattle.model_grammar.specs.declared.syntax.QualifierWord.{QualifierWord}
use Rattle.model_grammar.specs.declared.syntax.QualifierWord.TheVariants as qualifier
use Rattle.model_grammar.specs.declared.syntax.StorageWord.{StorageWord}
use Rattle.model_grammar.specs.declared.syntax.StorageWord.TheVariants as storage
use Rattle.model_grammar.specs.declared.syntax.TypeofWord.{TypeofWord}
use Rattle.model_grammar.specs.declared.syntax.TypeofWord.TheVariants as typeof
use Rattle.model_grammar.specs.declared.syntax.TypeWord.{TypeWord}
use Rattle.model_grammar.specs.declared.syntax.TypeWord.TheVariants as type
use Rattle.model_tokens.specs.declared.tokens.CKind.{CKind}
use Rattle.model_tokens.specs.declared.tokens.CKind.TheVariants as content_of
use Rattle.model_grammar.specs.SyntaxForms as syntax
use Rattle.model_grammar.specs.SyntaxValues.{Meaning, nothing, a_token, an_expr, a_type_name, a_spec, a_qualifier, some_specs, some_members, a_member, an_enumerator, a_declarator, a_suffix, some_parameters, a_parameter, a_declaration, an_init_declarator, an_initializer, an_assertion, a_block, an_external, spelled}
use Rattle.model_grammar.specs.Terminals as k

-- specifiers

abbrev pub storage_word : ℕ → StorageWord
storage_word kind =
    if kind == k.Typedef then storage.Typedef
    else if kind == k.Extern then storage.Extern
    else if kind == k.Static then storage.Static
    else if kind == k.Auto then storage.Auto
    else if kind == k.Register then storage.Register
    else storage.Constexpr

abbrev pub type_word : ℕ → TypeWord
type_word kind =
    if kind == k.Void then type.Void
    else if kind == k.Char then type.Char
    else if kind == k.Short then type.Short
    else if kind == k.Int then type.Int
    else if kind == k.Long then type.Long
    else if kind == k.Signed then type.Signed
    else if kind == k.Unsigned then type.Unsigned
    else type.Bool

abbrev pub qualifier_word : ℕ → QualifierWord
qualifier_word kind =
    if kind == k.Const then qualifier.Const
    else if kind == k.Restrict then qualifier.Restrict
    else if kind == k.Owner then qualifier.Owner
    else if kind == k.View then qualifier.View
    else qualifier.Opt

abbrev pub typeof_word : ℕ → TypeofWord
typeof_word kind = if kind == k.Typeof then typeof.Typeof else typeof.TypeofUnqual

abbrev pub storage_spec : List Meaning → Meaning
storage_spec (a_token kind content place ∷ []) = a_spec (syntax.StorageSpec (storage_word kind) place)
storage_spec _ = nothing

abbrev pub qualified : List Meaning → Meaning
qualified (a_token kind content place ∷ []) = a_qualifier (record { word = qualifier_word kind; place = place })
qualified _ = nothing

-- a type specifier that is one token: a keyword, or a typedef name
abbrev pub type_token : ℕ → CKind → Place → syntax.Spec
type_token kind (content_of.Name text) place = syntax.TypedefName (spelled (content_of.Name text) place)
type_token kind _ place = syntax.TypeSpec (type_word kind) place

abbrev pub type_spec : List Meaning → Meaning
type_spec (a_token kind content place ∷ []) = a_spec (type_token kind content place)
type_spec (a_spec spec ∷ []) = a_spec spec
type_spec _ = nothing

abbrev pub one_spec : List Meaning → Meaning
one_spec (a_spec spec ∷ []) = a_spec spec
one_spec (a_qualifier q ∷ []) = a_spec (syntax.QualifierSpec q)
one_spec (a_token kind content place ∷ []) = a_spec (syntax.FunctionSpec (if kind == k.Inline then function.Inline else function.Noreturn) place)
one_spec _ = nothing

abbrev pub specs_in : List Meaning → syntax.Specs
specs_in (a_spec spec ∷ rest) = syntax.more_specs spec (specs_in rest)
specs_in (a_qualifier q ∷ rest) = syntax.more_specs (syntax.QualifierSpec q) (specs_in rest)
specs_in _ = syntax.no_specs

abbrev pub type_of_operand : List Meaning → Meaning
type_of_operand (a_token word content place ∷ a_token opening _ _ ∷ an_expr operand ∷ a_token closing _ _ ∷ []) = a_spec (syntax.TypeofExpr (typeof_word word) operand place)
type_of_operand (a_token word content place ∷ a_token opening _ _ ∷ a_type_name name ∷ a_token closing _ _ ∷ []) = a_spec (syntax.TypeofType (typeof_word word) name place)
type_of_operand _ = nothing

-- structures and enumerations

abbrev pub members_in : List Meaning → syntax.MemberDeclarations
members_in [] = syntax.no_members
members_in (a_member m ∷ rest) = syntax.more_members m (members_in rest)
members_in (_ ∷ rest) = members_in rest

abbrev pub structure : List Meaning → Meaning
structure (a_token word content place ∷ a_token kind name at ∷ []) = a_spec (syntax.StructTag (spelled name at) place)
structure (a_token word content place ∷ a_token kind name at ∷ some_members members ∷ []) = a_spec (syntax.Struct (Some (spelled name at)) members place)
structure (a_token word content place ∷ some_members members ∷ []) = a_spec (syntax.Struct None members place)
structure _ = nothing

abbrev pub declarators_in : List Meaning → syntax.Declarators
declarators_in [] = syntax.no_declarators
declarators_in (a_declarator d ∷ rest) = syntax.more_declarators d (declarators_in rest)
declarators_in (_ ∷ rest) = declarators_in rest

abbrev pub member_declaration : List Meaning → Meaning
member_declaration (some_specs specs ∷ rest) = a_member (syntax.MemberDeclarators specs (declarators_in rest))
member_declaration (an_assertion assertion ∷ []) = a_member (syntax.MemberAssertion assertion)
member_declaration _ = nothing

abbrev pub enumerators_in : List Meaning → syntax.Enumerators
enumerators_in [] = syntax.no_enumerators
enumerators_in (an_enumerator e ∷ rest) = syntax.more_enumerators e (enumerators_in rest)
enumerators_in (_ ∷ rest) = enumerators_in rest

-- an enumeration whose tag is read; behind it the specifiers of its type, and its braces
abbrev pub enumeration_from : Option Name → syntax.MaybeSpecs → Place → List Meaning → Meaning
enumeration_from (Some tag) fixed place [] = a_spec (syntax.EnumTag tag fixed place)
enumeration_from tag fixed place rest = a_spec (syntax.Enum tag fixed (enumerators_in rest) place)

abbrev pub enumeration_behind : Option Name → Place → List Meaning → Meaning
enumeration_behind tag place (a_token colon _ _ ∷ some_specs fixed ∷ rest) = enumeration_from tag (syntax.some_specs fixed) place rest
enumeration_behind tag place rest = enumeration_from tag syntax.none_of_specs place rest

abbrev pub enumeration : List Meaning → Meaning
enumeration (a_token word content place ∷ a_token kind (content_of.Name text) at ∷ rest) = enumeration_behind (Some (record { text = text; place = at })) place rest
enumeration (a_token word content place ∷ rest) = enumeration_behind None place rest
enumeration _ = nothing

abbrev pub enumerator : List Meaning → Meaning
enumerator (a_token kind name at ∷ []) = an_enumerator (syntax.enumerator (spelled name at) syntax.no_expr)
enumerator (a_token kind name at ∷ a_token sign _ _ ∷ an_expr value ∷ []) = an_enumerator (syntax.enumerator (spelled name at) (syntax.an_expr value))
enumerator _ = nothing

-- declarators

abbrev pub qualifiers_in : List Meaning → List Qualifier
qualifiers_in (a_qualifier q ∷ rest) = q ∷ qualifiers_in rest
qualifiers_in _ = []

-- the `*` of a declarator, each with the qualifiers behind it
abbrev pub pointers_in : List Meaning → List Pointer
pointers_in [] = []
pointers_in (a_token star content place ∷ rest) = record { star = place; qualifiers = qualifiers_in rest } ∷ pointers_in rest
pointers_in (_ ∷ rest) = pointers_in rest

-- `*` before a declarator
abbrev pub pointed : List Pointer → syntax.Declarator → syntax.Declarator
pointed pointers (syntax.Named inner name suffixes) = syntax.Named (pointers ++ inner) name suffixes
pointed pointers (syntax.Unnamed inner suffixes) = syntax.Unnamed (pointers ++ inner) suffixes
pointed pointers (syntax.Grouped inner d suffixes place) = syntax.Grouped (pointers ++ inner) d suffixes place

-- the declarator behind the `*`; none in an abstract declarator of `*` alone
abbrev pub declarator_in : List Meaning → syntax.Declarator
declarator_in [] = syntax.Unnamed [] syntax.no_suffixes
declarator_in (a_declarator d ∷ rest) = d
declarator_in (_ ∷ rest) = declarator_in rest

abbrev pub declarator : List Meaning → Meaning
declarator symbols = a_declarator (pointed (pointers_in symbols) (declarator_in symbols))

abbrev pub suffixes_in : List Meaning → syntax.Suffixes
suffixes_in (a_suffix suffix ∷ rest) = syntax.more_suffixes suffix (suffixes_in rest)
suffixes_in _ = syntax.no_suffixes

-- a name or a declarator in parentheses, or neither, with what stands behind it
abbrev pub direct : List Meaning → Meaning
direct (a_token opening content place ∷ a_declarator d ∷ a_token closing _ _ ∷ rest) = a_declarator (syntax.Grouped [] d (suffixes_in rest) place)
direct (a_token kind name at ∷ rest) = a_declarator (syntax.Named [] (spelled name at) (suffixes_in rest))
direct symbols = a_declarator (syntax.Unnamed [] (suffixes_in symbols))

abbrev pub suffix : List Meaning → Meaning
suffix (a_token opening content place ∷ an_expr length ∷ a_token closing _ _ ∷ []) = a_suffix (syntax.ArraySuffix (syntax.an_expr length) place)
suffix (a_token opening content place ∷ some_parameters of_place ∷ a_token closing _ _ ∷ []) = a_suffix (of_place place)
suffix (a_token opening content place ∷ a_token closing _ _ ∷ []) = a_suffix (if opening == k.OpenBracket then syntax.ArraySuffix syntax.no_expr place else syntax.FunctionSuffix syntax.no_parameters false place)
suffix _ = nothing

abbrev pub parameters_in : List Meaning → syntax.Parameters
parameters_in [] = syntax.no_parameters
parameters_in (a_parameter p ∷ rest) = syntax.more_parameters p (parameters_in rest)
parameters_in (_ ∷ rest) = parameters_in rest

-- `...` stands among the symbols
abbrev pub is_variadic : List Meaning → Bool
is_variadic [] = false
is_variadic (a_token kind content place ∷ rest) = if kind == k.Ellipsis then true else is_variadic rest
is_variadic (_ ∷ rest) = is_variadic rest

abbrev pub parameters : List Meaning → Meaning
parameters symbols = some_parameters (syntax.FunctionSuffix (parameters_in symbols) (is_variadic symbols))

-- a parameter whose first token stands at a place
abbrev pub parameter : Place → List Meaning → Meaning
parameter first (some_specs specs ∷ rest) = a_parameter (syntax.parameter specs (declarator_in rest) first)
parameter first _ = nothing

abbrev pub type_name : List Meaning → Meaning
type_name (some_specs specs ∷ rest) = a_type_name (syntax.type_name specs (declarator_in rest))
type_name _ = nothing

-- declarations

abbrev pub message_in : List Meaning → Option (List ℕ)
message_in (a_token comma _ _ ∷ a_token kind (content_of.Text bytes) _ ∷ rest) = Some bytes
message_in _ = None

abbrev pub static_assertion : List Meaning → Meaning
static_assertion (a_token word content place ∷ a_token opening _ _ ∷ an_expr condition ∷ rest) = an_assertion (syntax.asserted condition (message_in rest) place)
static_assertion _ = nothing

abbrev pub init_declarator : List Meaning → Meaning
init_declarator (a_declarator d ∷ []) = an_init_declarator (syntax.init_declarator d syntax.no_initializer)
init_declarator (a_declarator d ∷ a_token sign _ _ ∷ an_initializer i ∷ []) = an_init_declarator (syntax.init_declarator d (syntax.an_initializer i))
init_declarator _ = nothing

abbrev pub init_declarators_in : List Meaning → syntax.InitDeclarators
init_declarators_in [] = syntax.no_init_declarators
init_declarators_in (an_init_declarator d ∷ rest) = syntax.more_init_declarators d (init_declarators_in rest)
init_declarators_in (_ ∷ rest) = init_declarators_in rest

abbrev pub declaration : List Meaning → Meaning
declaration (some_specs specs ∷ rest) = a_declaration (syntax.SimpleDeclaration specs (init_declarators_in rest))
declaration (an_assertion assertion ∷ []) = a_declaration (syntax.AssertDeclaration assertion)
declaration (a_token semicolon _ _ ∷ []) = a_declaration syntax.AttributeDeclaration
declaration _ = nothing

abbrev pub function_definition : List Meaning → Meaning
function_definition (some_specs specs ∷ a_declarator d ∷ a_block body ∷ []) = an_external (syntax.FunctionDefinition specs d body)
function_definition _ = nothing

abbrev pub external : List Meaning → Meaning
external (an_external e ∷ []) = an_external e
external (a_declaration d ∷ []) = an_external (syntax.ExternalDeclaration d)
external _ = nothing

abbrev pub externals_in : List Meaning → List syntax.External
externals_in (an_external e ∷ rest) = e ∷ externals_in rest
externals_in _ = []
