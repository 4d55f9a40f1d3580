-- What a name is declared as in scopes, and why a declaration is refused.
use Rattle.std.specs.Prelude.{ℕ, Bool, true, false, List, Option}
use Rattle.std.specs.Option.{option_map}
use Rattle.model_types.specs.Types.{CType}
use Rattle.model_scopes.specs.Scopes.{Scopes}
use Rattle.model_scopes.specs.Binding.{look, here, declared_as}
use Rattle.model_grammar.specs.declared.syntax.Name.{Name}
use Rattle.model_grammar.specs.SyntaxForms as syntax
use Rattle.decl_scope.specs.declared.errors.ScopeError.{ScopeError}
use Rattle.decl_scope.specs.declared.errors.ScopeError.TheVariants as scope_error
use Rattle.check_base.specs.declared.errors.CheckError.{CheckError}
use Rattle.check_base.specs.declared.errors.CheckError.TheVariants as check_error

-- the id of a tag, one that stands alone in the innermost scope
abbrev pub id_found : (is_lone : Bool) → List ℕ → Scopes → Option ℕ
id_found true name s = here true name s
id_found false name s = look true name s

-- the type that it is declared with
abbrev pub type_found : (is_lone : Bool) → Name → Scopes → Option CType
type_found is_lone name s = option_map (λ d. d.latest.ty) (declared_as (id_found is_lone name.text s) s)

abbrev pub refused_as : ScopeError → CheckError
refused_as (scope_error.Fault fault) = check_error.Fault fault
refused_as scope_error.NoMemory = check_error.NoMemory

-- what stands among members declares some of them
abbrev pub is_of_members : syntax.MemberDeclaration → Bool
is_of_members (syntax.MemberDeclarators specs listed) = true
is_of_members (syntax.MemberAssertion assertion) = false
