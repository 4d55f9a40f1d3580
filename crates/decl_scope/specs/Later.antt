-- A later declaration of an id, with what was made of the types before it.
use Rattle.std.specs.Prelude.{ℕ, Option}
use Rattle.model_types.specs.Types.{CType}
use Rattle.model_scopes.specs.Declarations.{Declaration}
use Rattle.model_scopes.specs.Scopes.{Declared}
use Rattle.model_scopes.specs.Declaring.{defined_at, or_place}

abbrev pub taken : Declaration → Option CType → (scope : ℕ) → Declared → Declared
taken entry before scope old = record {
  latest = entry;
  before = before;
  scope = scope;
  first = old.first;
  defining = or_place old.defining (defined_at entry);
  initialized = old.initialized;
  used = old.used;
}
