-- The scopes as contracts see them.
use Rattle.model_scopes.specs.Scopes as m
use Rattle.decl_scope.specs.declared.scopes.Scopes.TheInside.{Inside}

abbrev pub scopes_of : Inside → m.Scopes
scopes_of a = record {
  innermost = a.innermost;
  around = a.around;
  linked = a.linked;
  declared = a.table;
  structs = a.structs;
  ids = a.ids;
  entered = a.entered;
}
