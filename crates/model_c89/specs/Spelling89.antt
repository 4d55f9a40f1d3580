-- The one spelling of a C89 program: its structures, what stands outside of functions, and its functions.
use Rattle.std.specs.Prelude.{ℕ, ◌+◌, ◌/◌, ◌%◌, ◌==◌, nat_le, Bool, true, false, ◌&&◌, ◌||◌, List, [], ◌∷◌, ◌++◌, codes, Option, Some, None, if◌then◌else◌}
use Rattle.model_c89.specs.Signs89.{storage_text, storage_of}
use Rattle.model_c89.specs.SpellingParts89.{declaration_text, expr_text, objects_text, stats_text}
use Rattle.model_core.specs.Program89 as text

-- a byte of a string: quotes, backslashes and question marks behind a backslash, other printed characters
-- as they are, the rest by three octal digits
abbrev pub byte_text : ℕ → List ℕ
byte_text byte =
    if (byte == 34) || (byte == 92) || (byte == 63) then 92 ∷ byte ∷ []
    else if nat_le 32 byte && nat_le byte 126 then byte ∷ []
    else 92 ∷ (48 + byte / 64) ∷ (48 + byte / 8 % 8) ∷ (48 + byte % 8) ∷ []

abbrev pub bytes_text : List ℕ → List ℕ
bytes_text [] = []
bytes_text (byte ∷ bytes) = byte_text byte ++ bytes_text bytes

abbrev mutual
  pub init_text : text.Init → List ℕ
  init_text (text.Value value) = expr_text value
  init_text (text.Text bytes) = codes "\"" ++ (bytes_text bytes ++ codes "\"")
  init_text (text.Braces first others) = codes "{" ++ (init_text first ++ (inits_text others ++ codes "}"))

  pub inits_text : text.Inits → List ℕ
  inits_text text.no_inits = []
  inits_text (text.more_inits first others) = codes ", " ++ (init_text first ++ inits_text others)

abbrev pub value_text : Option text.Init → List ℕ
value_text None = []
value_text (Some init) = codes " = " ++ init_text init

abbrev pub outer_text : text.Outer → List ℕ
outer_text outer = storage_text outer.storage ++ (declaration_text outer.type outer.name ++ (value_text outer.init ++ codes ";\n"))

abbrev pub outers_text : List text.Outer → List ℕ
outers_text [] = []
outers_text (outer ∷ outers) = outer_text outer ++ outers_text outers

abbrev pub structure_text : text.Structure89 → List ℕ
structure_text (text.Tag name) = codes "struct " ++ (name ++ codes ";\n")
structure_text (text.Members name first others) = codes "struct " ++ (name ++ (codes " {\n" ++ (objects_text 1 (first ∷ others) ++ codes "};\n")))

abbrev pub structures_text : List text.Structure89 → List ℕ
structures_text [] = []
structures_text (structure ∷ structures) = structure_text structure ++ structures_text structures

abbrev pub more_named_text : List text.Declaration → (is_variadic : Bool) → List ℕ
more_named_text [] false = []
more_named_text [] true = codes ", ..."
more_named_text (d ∷ ds) is_variadic = codes ", " ++ (declaration_text d.type d.name ++ more_named_text ds is_variadic)

-- parameters with their names
abbrev pub named_text : List text.Declaration → (is_variadic : Bool) → List ℕ
named_text [] is_variadic = codes "void"
named_text (d ∷ ds) is_variadic = declaration_text d.type d.name ++ more_named_text ds is_variadic

-- a function's name with its parameters
abbrev pub head_text : text.Function → List ℕ
head_text f = f.name ++ (codes "(" ++ (named_text f.parameters f.is_variadic ++ codes ")"))

abbrev pub function_text : text.Function → List ℕ
function_text f =
    storage_text (storage_of f.is_static)
    ++ (declaration_text f.result (head_text f) ++ (codes "\n{\n" ++ (objects_text 1 f.objects ++ (stats_text 1 f.body ++ codes "}\n"))))

-- each function stands behind an empty line
abbrev pub functions_text : List text.Function → List ℕ
functions_text [] = []
functions_text (f ∷ fs) = codes "\n" ++ (function_text f ++ functions_text fs)

abbrev pub canonical : text.Program → List ℕ
canonical program = structures_text program.structures ++ (outers_text program.outers ++ functions_text program.functions)
