-- Texts that give two exported structures one tag, or write another member.
use Rattle.std.proofs.Common.{◌≡◌, ℕ, List, [], ◌∷◌, map, Option, Some, None, arith, refl, sym, ap, subst, ◌∙◌, inr, lit<}
use Rattle.std.specs.Prelude.{codes}
use Rattle.std.specs.Option.{option_map}
use Rattle.model_types.specs.declared.types.StructId.{StructId}
use Rattle.model_core.specs.Types89.{Long, Struct, Type89, Based, int_type}
use Rattle.model_core.specs.Program89 as text
use Rattle.model_c89.specs.TargetLayout.{members_in}
use Rattle.c_model.specs.ExampleFaults.{struct_type}
use Rattle.c_model.specs.ExportedTypes.{by_name}
use Rattle.c_model.specs.ExampleExported.{exports_structure, exports_structures, structure_written, one_structure_written}
use Rattle.c_model.specs.ExampleTexts.{long89}
use Rattle.c_model.specs.WrittenType.{StructNames, written_type}
use Rattle.c_model.specs.Translation.{Holds23, Holds89, Exports}

abbrev tag_of : Type89 → List ℕ
tag_of (Based is_const (Struct name)) = name
tag_of type = []

abbrev tag_in : Option text.Outer → List ℕ
tag_in None = []
tag_in (Some o) = tag_of o.type

abbrev struct_of : ℕ → StructId
struct_of rank = record { 0 = rank }

-- the tag of a structure is that which the object of its type is written with
tag_there : (program : text.Program) (names : StructNames) (name : List ℕ) (rank : ℕ) → Holds89 program name (written_type names (struct_type rank)) →
    tag_in (text.external_object program.outers name) ≡ names (struct_of rank)
tag_there program names name rank held = ap tag_in held.named ∙ ap tag_of held.typed

abbrev x_is_held : Holds23 exports_structures (codes "x") (struct_type 0)
x_is_held = record { object = _; named = refl; defined = tt; typed = refl }

abbrev y_is_held : Holds23 exports_structures (codes "y") (struct_type 1)
y_is_held = record { object = _; named = refl; defined = tt; typed = refl }

two_structures : struct_of 0 ≡ struct_of 1 → ⊥
two_structures e = let ranks : 0 ≡ 1 = ap (λ (id : StructId). id.0) e in omega (arith, ranks)

pub one_tag_is_not_exported : Exports exports_structures one_structure_written → ⊥
one_tag_is_not_exported exports =
    let x : codes "s" ≡ exports.names (struct_of 0) =
    tag_there one_structure_written exports.names (codes "x") 0 ((exports.objects (codes "x")).0 (struct_type 0) x_is_held) in
    let y : codes "s" ≡ exports.names (struct_of 1) =
    tag_there one_structure_written exports.names (codes "y") 1 ((exports.objects (codes "y")).0 (struct_type 1) y_is_held) in
    two_structures (exports.tags (struct_of 0) (struct_of 1) (lit< tt) (lit< tt) (sym x ∙ y))

abbrev alone_is_held : Holds23 exports_structure (codes "x") (struct_type 0)
alone_is_held = record { object = _; named = refl; defined = tt; typed = refl }

abbrev IsOfLong : Option (List Type89) → Type 0
IsOfLong (Some (Based is_const Long ∷ types)) = Unit {0}
IsOfLong types = ⊥

-- the types of the members of a tag, in the text with a long
abbrev member_types : (tag : List ℕ) → Option (List Type89)
member_types tag = option_map (map (λ (d : text.Declaration). d.type)) (members_in (structure_written long89).structures tag)

not_of_long : member_types (codes "s") ≡ Some (int_type ∷ []) → ⊥
not_of_long e = subst IsOfLong e tt

pub another_member_is_not_exported : Exports exports_structure (structure_written long89) → ⊥
another_member_is_not_exported exports =
    let x : codes "s" ≡ exports.names (struct_of 0) =
    tag_there (structure_written long89) exports.names (codes "x") 0 ((exports.objects (codes "x")).0 (struct_type 0) alone_is_held) in
    not_of_long (ap member_types x ∙ exports.members (struct_type 0) (struct_of 0) (codes "x", inr alone_is_held) (by_name (struct_of 0) (0, lit< tt, refl)))
