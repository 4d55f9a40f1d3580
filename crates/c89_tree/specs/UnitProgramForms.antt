-- The declarations, functions and programs that the forms of a C89 program's nodes stand for.
use Rattle.std.specs.Prelude.{ℕ, ◌+◌, List, [], ◌∷◌, if◌then◌else◌}
use Rattle.model_core.specs.Program89 as m
use Rattle.c89_tree.specs.declared.unit_program.OutStorage.{OutStorage}
use Rattle.c89_tree.specs.declared.unit_program.OutStorage.TheVariants as o
use Rattle.c89_tree.specs.declared.unit_program.OutStructureForm.{OutStructureForm}
use Rattle.c89_tree.specs.declared.unit_program.OutStructureForm.TheVariants as s
use Rattle.c89_tree.specs.declared.unit_program.OutOuterForm.{OutOuterForm}
use Rattle.c89_tree.specs.declared.unit_program.OutFunctionForm.{OutFunctionForm}
use Rattle.c89_tree.specs.declared.unit_program.C89Form.{C89Form}

abbrev pub storage_of : OutStorage → m.Storage
storage_of o.Plainly = m.Plainly
storage_of o.Static = m.Static
storage_of o.Extern = m.Extern

-- the structure of a form
abbrev pub structure_of : OutStructureForm → m.Structure89
structure_of (s.Tag name) = m.Tag name
structure_of (s.Members name first others) = m.Members name first others

-- the declaration of its parts
abbrev pub outer_of : OutOuterForm → m.Outer
outer_of d = record { storage = storage_of d.storage; type = d.ty; name = d.name; init = d.init }

-- the function of its parts
abbrev pub function_of : OutFunctionForm → m.Function
function_of g = record {
  is_static = g.is_static;
  result = g.result;
  name = g.name;
  parameters = g.parameters;
  is_variadic = g.is_variadic;
  objects = g.objects;
  body = g.body;
}

-- the program of its parts
abbrev pub program_of : C89Form → m.Program
program_of p = record { structures = p.structures; outers = p.outers; functions = p.functions }

-- how many of the declarations are of objects
abbrev pub object_count_of : List m.Outer → ℕ
object_count_of [] = 0
object_count_of (first ∷ others) = (if m.is_object first.type then 1 else 0) + object_count_of others
