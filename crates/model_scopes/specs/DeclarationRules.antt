-- The constraints on a declaration of a name where others stand (ISO/IEC 9899:2024, 6.2.2, 6.2.7, 6.7,
-- 6.7.3.4), and the smallest rule that a declaration breaks.
use Rattle.std.specs.Prelude.{ℕ, Bool, true, false, ◌&&◌, ◌||◌, not, if◌then◌else◌, List, length, take, Option, Some, None, option_map, codes}
use Rattle.cake_base.specs.declared.places.Place.{Place}
use Rattle.cake_base.specs.declared.rules.Fault.{Fault}
use Rattle.cake_base.specs.declared.rules.Family.TheVariants.{C}
use Rattle.model_scopes.specs.declared.declarations.Kind.{Kind}
use Rattle.model_scopes.specs.declared.declarations.Kind.TheVariants.{Object, Function, TypeName, Enumerator, Tag}
use Rattle.model_scopes.specs.declared.declarations.Linkage.{Linkage}
use Rattle.model_scopes.specs.declared.declarations.Linkage.TheVariants.{Absent, Internal, External}
use Rattle.model_types.specs.Types as t
use Rattle.model_types.specs.Types.{CType, form_of_type}
use Rattle.model_types.specs.Compatible.{compatible, same_bool}
use Rattle.model_scopes.specs.SameTypedefs.{same_typedef}
use Rattle.model_core.specs.BuiltinTypes.{builtin_named, declared_type}
use Rattle.model_scopes.specs.Declarations.{Declaration, is_tag, is_typedef, linkage_of, has_linkage}
use Rattle.model_scopes.specs.Scopes.{Declared, Scopes, is_defined}
use Rattle.model_scopes.specs.Binding.{bound, here, declared_as}
use Rattle.model_types.specs.Texts.{same_text}

-- the id that a declaration shares with an earlier one: those of one name with linkage have one id, and
-- so have those of one tag, or of one name of a type, in one scope
abbrev pub linked_id : Declaration → Scopes → Option ℕ
linked_id d s = if has_linkage d then bound d.name s.linked else None

abbrev pub shared_by : Kind → Declaration → Scopes → Option ℕ
shared_by Object d s = linked_id d s
shared_by Function d s = linked_id d s
shared_by TypeName d s = here false d.name s
shared_by Enumerator d s = None
shared_by Tag d s = here true d.name s

abbrev pub shared_id : Declaration → Scopes → Option ℕ
shared_id d s = shared_by d.kind d s

-- what is declared already under the id that a declaration shares
abbrev pub earlier : Declaration → Scopes → Option Declared
earlier d s = declared_as (shared_id d s) s

-- ---- C01: the name begins with cake_

abbrev pub prefix : List ℕ
prefix = codes "cake_"

abbrev pub has_prefix : List ℕ → Bool
has_prefix name = same_text (take (length prefix) name) prefix

-- ---- C02: the name is declared in the scope and name space already, and not both declarations have
-- linkage, are of types or are of tags

-- what the innermost scope declares under the name already
abbrev pub standing : Declaration → Scopes → Option Declared
standing d s = declared_as (here (is_tag d.kind) d.name s) s

abbrev pub may_repeat : Declaration → Declaration → Bool
may_repeat old d = (has_linkage old && has_linkage d) || (is_typedef old.kind && is_typedef d.kind) || (is_tag old.kind && is_tag d.kind)

abbrev pub clashes_with : Declaration → Option Declared → Bool
clashes_with d None = false
clashes_with d (Some old) = not (may_repeat old.latest d)

-- ---- C03: the type isn't compatible with that of an earlier declaration with linkage, or not the same
-- as that of the type's name

abbrev pub compatible_if_any : Option CType → CType → Bool
compatible_if_any None t = true
compatible_if_any (Some u) t = compatible u t

abbrev pub agrees_as : Kind → Declared → CType → Bool
agrees_as Object old t = compatible old.latest.ty t && compatible_if_any old.before t
agrees_as Function old t = compatible old.latest.ty t && compatible_if_any old.before t
agrees_as TypeName old t = same_typedef old.latest.ty t
agrees_as Enumerator old t = true
agrees_as Tag old t = true

abbrev pub differs : Declaration → Option Declared → Bool
differs d None = false
differs d (Some old) = not (agrees_as d.kind old d.ty)

-- ---- C04: an earlier declaration has another linkage

abbrev pub same_linkage : Linkage → Linkage → Bool
same_linkage Absent Absent = true
same_linkage Internal Internal = true
same_linkage External External = true
same_linkage _ _ = false

abbrev pub links_otherwise : Declaration → Option Declared → Bool
links_otherwise d None = false
links_otherwise d (Some old) = has_linkage d && not (same_linkage (linkage_of old.latest) (linkage_of d))

-- ---- C06: the tag is of another kind, or has its braces twice

abbrev pub is_struct_form : t.Form → Bool
is_struct_form (t.Struct s) = true
is_struct_form _ = false

abbrev pub retags : Declaration → Option Declared → Bool
retags d None = false
retags d (Some old) =
    is_tag d.kind && (not (same_bool (is_struct_form (form_of_type old.latest.ty)) (is_struct_form (form_of_type d.ty))) || (is_defined old && d.defines))

-- ---- C07: a built-in function is defined, or is declared otherwise

abbrev pub is_external : Linkage → Bool
is_external Absent = false
is_external Internal = false
is_external External = true

abbrev pub is_otherwise : Declaration → Option CType → Bool
is_otherwise d None = false
is_otherwise d (Some t) = has_linkage d && (d.defines || not (is_external (linkage_of d)) || not (compatible t d.ty))

-- the type of the built-in function of a name
abbrev pub built_in_type : List ℕ → Option CType
built_in_type name = option_map declared_type (builtin_named name)

abbrev pub rebuilds : Declaration → Bool
rebuilds d = is_otherwise d (built_in_type d.name)

-- ---- the smallest rule that a declaration breaks, at the place of its name

abbrev pub broken_later : Declaration → (earlier : Option Declared) → Option ℕ
broken_later d earlier =
    if differs d earlier then Some 3
    else if links_otherwise d earlier then Some 4
    else if retags d earlier then Some 6
    else if rebuilds d then Some 7
    else None

abbrev pub broken_by : Declaration → (standing earlier : Option Declared) → Option ℕ
broken_by d standing earlier = if has_prefix d.name then Some 1 else if clashes_with d standing then Some 2 else broken_later d earlier

abbrev pub broken_rule : Declaration → Scopes → Option ℕ
broken_rule d s = broken_by d (standing d s) (earlier d s)

-- a rule of the family C at a place
abbrev pub constraint_at : Place → ℕ → Fault
constraint_at place number = record { place = place; rule = record { family = C; number = number } }
