-- The object of temporary lifetime that holds the value of a structure whose array member is asked for, as in
-- `f().a[0]` (ISO/IEC 9899:2024, 6.2.4).
use Rattle.std.specs.Prelude.{ℕ, Bool, true, false, [], None}
use Rattle.model_core.specs.CoreTypes.{type_of}
use Rattle.model_core.specs.SourceMarks.{expr_mark}
use Rattle.model_types.specs.declared.marks.Origin.TheVariants.{Implied}
use Rattle.model_core.specs.Core as unit
use Rattle.model_checking.specs.State.{Use, State}
use Rattle.model_checking.specs.Literals.{with_made, made_object, with_automatic}

abbrev pub held : (id : ℕ) → unit.Expr → unit.Lvalue
held id e = unit.Literal Implied id (type_of e) (unit.more_initials [] 0 (type_of e) e unit.no_initials) (expr_mark e)

-- such an object or a member of one is no lvalue
abbrev pub is_held : unit.Lvalue → Bool
is_held (unit.Literal Implied id type values mark) = true
is_held (unit.Field structure rank type name mark) = is_held structure
is_held _ = false

-- the state with that object, one of the innermost block
abbrev pub with_held : Use → unit.Expr → State → State
with_held usage e s =
    with_automatic usage s.scopes.ids (with_made (made_object usage s.scopes.ids (expr_mark e) (type_of e) None) s)
