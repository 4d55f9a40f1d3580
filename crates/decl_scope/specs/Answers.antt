-- What a declaration answers.
use Rattle.std.specs.Prelude.{◌≡◌, ℕ, Some, None, Result, Ok, Err}
use Rattle.model_types.specs.declared.marks.DeclId.{DeclId}
use Rattle.model_scopes.specs.Declarations.{Declaration}
use Rattle.model_scopes.specs.Scopes.{Scopes}
use Rattle.model_scopes.specs.DeclarationRules.{broken_rule, constraint_at}
use Rattle.model_scopes.specs.Declaring.{declare, id_of}
use Rattle.decl_scope.specs.declared.errors.ScopeError.{ScopeError}
use Rattle.decl_scope.specs.declared.errors.ScopeError.TheVariants as scope_error

-- A declaration that breaks no rule has its id and stands afterwards. A fault is the smallest rule that
-- it breaks, at the place of its name. After a refusal the scopes are as before.
abbrev pub Declares : Scopes → Declaration → Result DeclId ScopeError → Scopes → Type 0
Declares old d (Ok id) new = (broken_rule d old ≡ None) × (id.0 ≡ id_of d old) × (new ≡ declare d old)
Declares old d (Err (scope_error.Fault f)) new = (number : ℕ) × (broken_rule d old ≡ Some number) × (f ≡ constraint_at d.place number) × (new ≡ old)
Declares old d (Err scope_error.NoMemory) new = new ≡ old
