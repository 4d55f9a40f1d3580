-- The type of a structure's member, and what may be assigned to (ISO/IEC 9899:2024, 6.3.3.1, 6.5.3.4, 6.7.4.1).
use Rattle.std.specs.Prelude.{ℕ, zero, suc, Bool, false, ◌&&◌, ◌||◌, not, List, Option, Some, None, slice_get}
use Rattle.std.specs.List.{list_any}
use Rattle.model_types.specs.declared.types.Quals.{Quals}
use Rattle.model_types.specs.declared.types.StructId.{StructId}
use Rattle.model_types.specs.Types.{CType, typed, Form, Array, Struct, quals_of_type, form_of_type}
use Rattle.model_types.specs.Structures.{Member, Structure, members_of}
use Rattle.model_types.specs.Layout.{complete_count, members_of_form}
use Rattle.model_core.specs.CoreTypes.{unqualified}
use Rattle.model_core.specs.SameTypes.{same_type}

-- the qualifiers of a member of an object: its own and the object's; what a view holds it doesn't own
abbrev pub member_quals : (structure member : Quals) → Quals
member_quals s m = record {
  has_const = s.has_const || m.has_const;
  has_restrict = s.has_restrict || m.has_restrict;
  has_owner = m.has_owner && not s.has_view;
  has_view = s.has_view || m.has_view;
  has_opt = m.has_opt;
}

-- the type of a member of an object with these qualifiers; those of an array are its elements'
abbrev pub member_type : (structure : Quals) → CType → CType
member_type s (typed (Array type count) quals) = typed (Array (member_type s type) count) quals
member_type s (typed form quals) = typed form (member_quals s quals)

abbrev pub member_in : (rank : ℕ) → Option (List Member) → Option Member
member_in rank None = None
member_in rank (Some members) = slice_get members rank

abbrev pub has_type : (structure : Quals) → CType → Option Member → Bool
has_type s type None = false
has_type s type (Some m) = same_type (member_type s m.ty) type

-- the member of a rank of an object of a structure has this type
abbrev pub member_is : List Structure → (structure : CType) → (rank : ℕ) → CType → Bool
member_is structs structure rank type =
    has_type (quals_of_type structure) type (member_in rank (members_of_form structs (form_of_type structure)))

abbrev pub has_value_type : CType → Option Member → Bool
has_value_type type None = false
has_value_type type (Some m) = same_type (unqualified m.ty) (unqualified type)

-- the member of a rank of a structure's value has this type
abbrev pub member_value_is : List Structure → (structure : CType) → (rank : ℕ) → CType → Bool
member_value_is structs structure rank type = has_value_type type (member_in rank (members_of_form structs (form_of_type structure)))

abbrev mutual
  -- a type that is const, or has const elements or members, by which structures have some
  pub holds_const : (StructId → Bool) → CType → Bool
  holds_const of_struct (typed form quals) = quals.has_const || form_holds_const of_struct form

  pub form_holds_const : (StructId → Bool) → Form → Bool
  form_holds_const of_struct (Array type count) = holds_const of_struct type
  form_holds_const of_struct (Struct id) = of_struct id
  form_holds_const of_struct form = false

abbrev pub members_hold_const : (StructId → Bool) → Option (List Member) → Bool
members_hold_const of_struct None = false
members_hold_const of_struct (Some members) = list_any (λ m. holds_const of_struct m.ty) members

-- a structure, where structures lie in one another at most this deep
abbrev pub struct_holds_const : (depth : ℕ) → List Structure → StructId → Bool
struct_holds_const zero structs id = false
struct_holds_const (suc depth) structs id = members_hold_const (struct_holds_const depth structs) (members_of structs id)

-- an object of the type isn't assigned to: it is const, or a member at any depth is
abbrev pub is_const_somewhere : List Structure → CType → Bool
is_const_somewhere structs = holds_const (struct_holds_const (complete_count structs) structs)
