-- What answers about ways stand for.
use Rattle.std.specs.Prelude.{ℕ, option_map, Bool, true, false, List, Option, Some, None}
use Rattle.model_types.specs.declared.types.Quals.{Quals}
use Rattle.model_types.specs.Types.{CType, Form, Array, Struct, form_of_type}
use Rattle.model_types.specs.Structures.{Structure, members_of}
use Rattle.model_core.specs.MemberTypes.{member_type, member_in}
use Rattle.model_checking.specs.Ways as w
use Rattle.model_checking.specs.Ways.{Step, reached, takes}
use Rattle.check_ways.specs.declared.takers.Bare.{Bare}
use Rattle.check_ways.specs.declared.takers.Bare.TheVariants as bare

-- a way, where one was found
abbrev pub as_way : Bool → List Step → Option (List Step)
as_way true way = Some way
as_way false way = None

-- the type of the element or member of a rank, by the form of its whole
abbrev pub part_of_form : List Structure → Quals → Form → (rank : ℕ) → Option CType
part_of_form structs quals (Array type length) rank = w.element_type type length rank
part_of_form structs quals (Struct id) rank = option_map (λ m. member_type quals m.ty) (member_in rank (members_of structs id))
part_of_form structs quals form rank = None

-- what stands without braces
abbrev pub bare_of : Bare → w.Bare
bare_of bare.String = w.a_string
bare_of (bare.ValueOf type) = w.a_value_of type

-- whether what stands without braces is for the subobject to which a way leads
abbrev pub is_taken : w.Bare → (object : CType) → List Step → Bool
is_taken bare object way = takes bare (form_of_type (reached object way))
