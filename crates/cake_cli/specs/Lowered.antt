-- The C89 program of a unit.
use Rattle.std.specs.Prelude.{false, [], ◌∷◌, codes, None}
use Rattle.model_core.specs.Types89.{Function as FunctionType, no_types, int_type}
use Rattle.model_core.specs.Program89.{Expr, Return, more_stats, no_stats, Plainly, Outer, Function, Program}

-- `main`, which returns this value
abbrev pub main_of : Expr → Function
main_of value = record {
  is_static = false;
  result = int_type;
  name = codes "main";
  parameters = [];
  is_variadic = false;
  objects = [];
  body = more_stats (Return value) no_stats;
}

-- the line that declares it
abbrev pub main_declared : Outer
main_declared = record { storage = Plainly; type = FunctionType int_type no_types false; name = codes "main"; init = None }

-- the program of it
abbrev pub program_of : Expr → Program
program_of value = record {
  structures = [];
  outers = main_declared ∷ [];
  functions = main_of value ∷ [];
}
