-- What a declarator declares under its name (ISO/IEC 9899:2024, 6.2.2, 6.2.4, 6.7.1, 6.9.2, 6.9.3): an object, a function or
-- a type; with which linkage; whether it defines it; and for an object, whether its storage is automatic.
use Rattle.std.specs.Prelude.{ℕ, Bool, true, false, ◌&&◌, ◌||◌, not, List, [], ◌∷◌, Option, Some, None, if◌then◌else◌}
use Rattle.model_types.specs.Types.{CType, form_of_type}
use Rattle.model_core.specs.CoreTypes.{int_type}
use Rattle.model_core.specs.TypedParts.{is_function}
use Rattle.model_scopes.specs.declared.declarations.Kind.{Kind}
use Rattle.model_scopes.specs.declared.declarations.Kind.TheVariants.{Object, Function, TypeName, Enumerator, Tag}
use Rattle.model_scopes.specs.declared.declarations.Linkage.{Linkage}
use Rattle.model_scopes.specs.declared.declarations.Linkage.TheVariants.{Absent, Internal, External}
use Rattle.model_scopes.specs.Declarations.{Declaration}
use Rattle.model_scopes.specs.Scopes.{Scopes}
use Rattle.model_scopes.specs.Binding.{extern_linkage}
use Rattle.model_grammar.specs.declared.syntax.Name.{Name}
use Rattle.model_grammar.specs.SyntaxForms as syntax
use Rattle.model_checking.specs.Parts.{Storage}
use Rattle.model_checking.specs.DeclarationContexts.{Context, is_outermost}
use Rattle.model_checking.specs.Qualified.{made_const}
use Rattle.model_checking.specs.Derivations.{Derivation, is_function_step, outline}

-- what stands behind a declarator
pub data Ending : Type 0 where
  no_value : Ending
  an_initializer : Ending
  a_body : Ending

-- where a declarator stands, with which words of storage, and what stands behind it
pub record Setting : Type 0 where
  pub context : Context
  pub storage : Storage
  pub ending : Ending

abbrev pub gives_value : Ending → Bool
gives_value no_value = false
gives_value an_initializer = true
gives_value a_body = true

abbrev pub is_body : Ending → Bool
is_body no_value = false
is_body an_initializer = false
is_body a_body = true

-- ---- an object, a function or a type

abbrev pub kind_of : Storage → (is_function : Bool) → Kind
kind_of storage is_function = if storage.has_typedef then TypeName else if is_function then Function else Object

-- ---- linkage (6.2.2)

abbrev pub file_linkage : Storage → Linkage
file_linkage storage = if storage.has_static || storage.has_constexpr then Internal else External

abbrev pub object_linkage : Setting → List ℕ → Scopes → Linkage
object_linkage g name s =
    if g.storage.has_extern then extern_linkage name s
    else if is_outermost g.context then file_linkage g.storage
    else Absent

-- a function without a word of storage has the linkage of one with `extern`
abbrev pub function_linkage : Setting → List ℕ → Scopes → Linkage
function_linkage g name s = if g.storage.has_static then Internal else extern_linkage name s

abbrev pub linkage_of_kind : Kind → Setting → List ℕ → Scopes → Linkage
linkage_of_kind Object g name s = object_linkage g name s
linkage_of_kind Function g name s = function_linkage g name s
linkage_of_kind TypeName g name s = Absent
linkage_of_kind Enumerator g name s = Absent
linkage_of_kind Tag g name s = Absent

-- ---- definitions, tentative ones among them, and storage (6.9.2, 6.9.3, 6.2.4)

abbrev pub defines_kind : Kind → Setting → Bool
defines_kind Object g = not g.storage.has_extern || gives_value g.ending
defines_kind Function g = is_body g.ending
defines_kind TypeName g = false
defines_kind Enumerator g = false
defines_kind Tag g = false

abbrev pub is_automatic_kind : Kind → Setting → Bool
is_automatic_kind Object g = not (is_outermost g.context) && not g.storage.has_extern && not g.storage.has_static
is_automatic_kind Function g = false
is_automatic_kind TypeName g = false
is_automatic_kind Enumerator g = false
is_automatic_kind Tag g = false

-- ---- the declaration

-- a `constexpr` object is const (6.7.2)
abbrev pub type_as : Kind → Setting → CType → CType
type_as Object g type = if g.storage.has_constexpr then made_const type else type
type_as Function g type = type
type_as TypeName g type = type
type_as Enumerator g type = type
type_as Tag g type = type

abbrev pub declaration_as : Kind → Setting → Name → CType → Scopes → Declaration
declaration_as kind g name type s = record {
  name = name.text;
  kind = kind;
  linkage = linkage_of_kind kind g name.text s;
  ty = type_as kind g type;
  value = None;
  defines = defines_kind kind g;
  automatic = is_automatic_kind kind g;
  place = name.place;
}

abbrev pub declaration : Setting → Name → CType → Scopes → Declaration
declaration g name type s = declaration_as (kind_of g.storage (is_function (form_of_type type))) g name type s

-- ---- the same where the type isn't known: what is declared is a function where the declarator is one's, or where the
-- specifiers give a function type and the declarator adds nothing

abbrev pub is_function_if_any : Option CType → Bool
is_function_if_any None = false
is_function_if_any (Some type) = is_function (form_of_type type)

abbrev pub is_function_by : List Derivation → (given : Option CType) → Bool
is_function_by [] given = is_function_if_any given
is_function_by (d ∷ ds) given = is_function_step (d ∷ ds)

abbrev pub declares_function : (given : Option CType) → syntax.Declarator → Bool
declares_function given d = is_function_by (outline d) given

-- its type is left open
abbrev pub untyped_declaration : Setting → (given : Option CType) → syntax.Declarator → Name → Scopes → Declaration
untyped_declaration g given d name s = declaration_as (kind_of g.storage (declares_function given d)) g name int_type s
