-- Qualifiers of a type from outside, and of what a pointer points to (ISO/IEC 9899:2024, 6.5.16, 6.5.17.2, 6.7.4.1):
-- those of an array are its elements'.
use Rattle.std.specs.Prelude.{Bool, ◌&&◌, ◌||◌, not}
use Rattle.model_types.specs.declared.types.Quals.{Quals}
use Rattle.model_types.specs.Types.{CType, typed, Form, Array}
use Rattle.model_types.specs.Compatible.{same_bool}
use Rattle.model_core.specs.CoreTypes.{is_pointer, pointee}

abbrev pub outer_quals : CType → Quals
outer_quals (typed (Array type count) quals) = outer_quals type
outer_quals (typed form quals) = quals

-- those of what a pointer points to
abbrev pub quals_behind : Form → Quals
quals_behind pointer = outer_quals (pointee pointer)

-- each qualifier that one of the two has
abbrev pub joined_quals : Quals → Quals → Quals
joined_quals p q = record {
  has_const = p.has_const || q.has_const;
  has_restrict = p.has_restrict || q.has_restrict;
  has_owner = p.has_owner || q.has_owner;
  has_view = p.has_view || q.has_view;
  has_opt = p.has_opt || q.has_opt;
}

-- a type with more qualifiers
abbrev pub qualified_by : Quals → CType → CType
qualified_by q (typed (Array type count) quals) = typed (Array (qualified_by q type) count) quals
qualified_by q (typed form quals) = typed form (joined_quals quals q)

-- `const` or `_View` is lost, or `_Owner` or `_Opt` isn't the same
abbrev pub loses : (from to : Quals) → Bool
loses from to =
    from.has_const && not to.has_const || from.has_view && not to.has_view
    || not (same_bool from.has_owner to.has_owner) || not (same_bool from.has_opt to.has_opt)

-- the same of what two pointers point to; of other forms nothing is lost
abbrev pub loses_behind : (from to : Form) → Bool
loses_behind from to = is_pointer from && is_pointer to && loses (quals_behind from) (quals_behind to)
