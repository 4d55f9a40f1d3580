-- Units that export objects of structures, with texts that write these structures, well and otherwise.
use Rattle.std.specs.Prelude.{ℕ, true, false, List, [], ◌∷◌, codes, Some, None}
use Rattle.model_types.specs.Types.{CType}
use Rattle.model_types.specs.Structures.{Structure}
use Rattle.model_core.specs.CoreTypes.{int_type}
use Rattle.model_core.specs.Core.{Core, no_initials, Static, DeclaredObject}
use Rattle.model_core.specs.Types89 as type89
use Rattle.model_core.specs.Program89 as text
use Rattle.c_model.specs.ExampleParts.{automatic, stored_as, unit}
use Rattle.c_model.specs.ExampleFaults.{in_table, member, structure, struct_type, outer89}

-- an external object without initial values
abbrev pub exported : (id : ℕ) → (name : List ℕ) → CType → DeclaredObject
exported id name type = record (stored_as (Static no_initials) (automatic id type)) { name = Some name; is_external = true }

abbrev pub of_one_int : Structure
of_one_int = structure (member int_type ∷ [])

-- struct s { int m; } x;
abbrev pub exports_structure : Core
exports_structure = in_table (of_one_int ∷ []) (unit (exported 1 (codes "x") (struct_type 0) ∷ []) [])

-- struct s { int m; } x; struct t { int m; } y;
abbrev pub exports_structures : Core
exports_structures =
    in_table (of_one_int ∷ of_one_int ∷ []) (unit (exported 1 (codes "x") (struct_type 0) ∷ exported 2 (codes "y") (struct_type 1) ∷ []) [])

-- struct s NAME;
abbrev pub struct_object89 : (name : List ℕ) → text.Outer
struct_object89 name = outer89 text.Plainly (type89.Based false (type89.Struct (codes "s"))) name None

-- struct s { MEMBER m; }; and objects of it
abbrev pub struct_written : (member : type89.Type89) → List text.Outer → text.Program
struct_written member outers = record {
  structures = text.Members (codes "s") (record { type = member; name = codes "m" }) [] ∷ [];
  outers = outers;
  functions = [];
}

-- struct s { MEMBER m; }; struct s x;
abbrev pub structure_written : (member : type89.Type89) → text.Program
structure_written member = struct_written member (struct_object89 (codes "x") ∷ [])

-- struct s { int m; }; struct s x; struct s y;
abbrev pub one_structure_written : text.Program
one_structure_written = struct_written type89.int_type (struct_object89 (codes "x") ∷ struct_object89 (codes "y") ∷ [])
