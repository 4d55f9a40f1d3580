-- The spelling of the declarations, expressions and statements of a C89 program: a line for each declaration and statement, an indent of four blanks a
-- level, parentheses round each operation, and decimal constants.
use Rattle.std.specs.Prelude.{ℕ, zero, suc, Bool, true, false, List, [], ◌∷◌, ◌++◌, codes, Option, Some, None}
use Rattle.std.specs.Fmt.{decimal}
use Rattle.model_c89.specs.Signs89.{sign_text, logic_text, prefix_text, suffix_text, base_text}
use Rattle.model_core.specs.Types89.{Type89, Based, Pointer, Array, Function as FunctionType, Types89, no_types, more_types}
use Rattle.model_core.specs.Program89 as text

-- a blank before text, where there is some
abbrev pub blank_before : List ℕ → List ℕ
blank_before [] = []
blank_before (byte ∷ bytes) = 32 ∷ byte ∷ bytes

abbrev pub const_text : Bool → List ℕ
const_text true = codes "const "
const_text false = []

abbrev pub star_text : (is_const : Bool) → (inner : List ℕ) → List ℕ
star_text false inner = codes "*" ++ inner
star_text true inner = codes "*const" ++ blank_before inner

-- what a pointer to an array or a function is declared by stands in parentheses
abbrev pub pointer_text : (is_const : Bool) → (to : Type89) → (inner : List ℕ) → List ℕ
pointer_text is_const (Based c b) inner = star_text is_const inner
pointer_text is_const (Pointer c t) inner = star_text is_const inner
pointer_text is_const (Array n t) inner = codes "(" ++ (star_text is_const inner ++ codes ")")
pointer_text is_const (FunctionType r ps v) inner = codes "(" ++ (star_text is_const inner ++ codes ")")

abbrev pub count_text : Option ℕ → List ℕ
count_text None = codes "[]"
count_text (Some count) = codes "[" ++ (decimal count ++ codes "]")

abbrev mutual
  -- the declaration of what `inner` spells, with this type
  pub declaration_text : Type89 → (inner : List ℕ) → List ℕ
  declaration_text (Based is_const base) inner = const_text is_const ++ (base_text base ++ blank_before inner)
  declaration_text (Pointer is_const to) inner = declaration_text to (pointer_text is_const to inner)
  declaration_text (Array count of) inner = declaration_text of (inner ++ count_text count)
  declaration_text (FunctionType result parameters is_variadic) inner =
      declaration_text result (inner ++ (codes "(" ++ (parameters_text parameters is_variadic ++ codes ")")))

  pub parameters_text : Types89 → (is_variadic : Bool) → List ℕ
  parameters_text no_types is_variadic = codes "void"
  parameters_text (more_types first others) is_variadic = declaration_text first [] ++ others_text others is_variadic

  pub others_text : Types89 → (is_variadic : Bool) → List ℕ
  others_text no_types false = []
  others_text no_types true = codes ", ..."
  others_text (more_types first others) is_variadic = codes ", " ++ (declaration_text first [] ++ others_text others is_variadic)

abbrev mutual
  pub expr_text : text.Expr → List ℕ
  expr_text (text.Name name) = name
  expr_text (text.Constant number suffix) = decimal number ++ suffix_text suffix
  expr_text (text.Index left right) = expr_text left ++ (codes "[" ++ (expr_text right ++ codes "]"))
  expr_text (text.Dot structure name) = expr_text structure ++ (codes "." ++ name)
  expr_text (text.Arrow pointer name) = expr_text pointer ++ (codes "->" ++ name)
  expr_text (text.Call function arguments) = expr_text function ++ (codes "(" ++ (arguments_text arguments ++ codes ")"))
  expr_text (text.Unary op operand) = codes "(" ++ (prefix_text op ++ (expr_text operand ++ codes ")"))
  expr_text (text.Binary op left right) =
      codes "(" ++ (expr_text left ++ (codes " " ++ (sign_text op ++ (codes " " ++ (expr_text right ++ codes ")")))))
  expr_text (text.Logic op left right) =
      codes "(" ++ (expr_text left ++ (codes " " ++ (logic_text op ++ (codes " " ++ (expr_text right ++ codes ")")))))
  expr_text (text.Choice condition first second) =
      codes "(" ++ (expr_text condition ++ (codes " ? " ++ (expr_text first ++ (codes " : " ++ (expr_text second ++ codes ")")))))
  expr_text (text.Cast type operand) = codes "((" ++ (declaration_text type [] ++ (codes ")" ++ (expr_text operand ++ codes ")")))

  -- arguments, parted by commas
  pub arguments_text : text.Exprs → List ℕ
  arguments_text text.no_exprs = []
  arguments_text (text.more_exprs first others) = expr_text first ++ more_arguments_text others

  pub more_arguments_text : text.Exprs → List ℕ
  more_arguments_text text.no_exprs = []
  more_arguments_text (text.more_exprs first others) = codes ", " ++ (expr_text first ++ more_arguments_text others)

-- so many levels of four blanks
abbrev pub indent : (level : ℕ) → List ℕ
indent zero = []
indent (suc level) = codes "    " ++ indent level

-- lines that declare objects
abbrev pub objects_text : (level : ℕ) → List text.Declaration → List ℕ
objects_text level [] = []
objects_text level (d ∷ ds) = indent level ++ (declaration_text d.type d.name ++ (codes ";\n" ++ objects_text level ds))

abbrev pub label_text : (level : ℕ) → text.Label → List ℕ
label_text level (text.Case value) = indent level ++ (codes "case " ++ (expr_text value ++ codes ":\n"))
label_text level text.Default = indent level ++ codes "default:\n"

abbrev pub labels_text : (level : ℕ) → List text.Label → List ℕ
labels_text level [] = []
labels_text level (label ∷ labels) = label_text level label ++ labels_text level labels

abbrev mutual
  pub stat_text : (level : ℕ) → text.Stat → List ℕ
  stat_text level (text.Evaluate value) = indent level ++ (expr_text value ++ codes ";\n")
  stat_text level (text.Assign left right) = indent level ++ (expr_text left ++ (codes " = " ++ (expr_text right ++ codes ";\n")))
  stat_text level text.Empty = indent level ++ codes ";\n"
  stat_text level (text.Block objects body) =
      indent level ++ (codes "{\n" ++ (objects_text (suc level) objects ++ (stats_text (suc level) body ++ (indent level ++ codes "}\n"))))
  stat_text level (text.If condition objects body) =
      indent level
      ++ (codes "if (" ++ (expr_text condition ++ (codes ") {\n" ++ (objects_text (suc level) objects ++ (stats_text (suc level) body ++ (indent level ++ codes "}\n"))))))
  stat_text level (text.IfElse condition objects body other_objects other_body) =
      indent level
      ++ (codes "if ("
      ++ (expr_text condition
      ++ (codes ") {\n"
      ++ (objects_text (suc level) objects
      ++ (stats_text (suc level) body
      ++ (indent level
      ++ (codes "} else {\n"
      ++ (objects_text (suc level) other_objects ++ (stats_text (suc level) other_body ++ (indent level ++ codes "}\n"))))))))))
  stat_text level (text.Forever objects body) =
      indent level ++ (codes "for (;;) {\n" ++ (objects_text (suc level) objects ++ (stats_text (suc level) body ++ (indent level ++ codes "}\n"))))
  stat_text level (text.Switch value items) =
      indent level ++ (codes "switch (" ++ (expr_text value ++ (codes ") {\n" ++ (items_text (suc level) items ++ (indent level ++ codes "}\n")))))
  stat_text level text.Break = indent level ++ codes "break;\n"
  stat_text level text.Continue = indent level ++ codes "continue;\n"
  stat_text level text.ReturnNothing = indent level ++ codes "return;\n"
  stat_text level (text.Return value) = indent level ++ (codes "return " ++ (expr_text value ++ codes ";\n"))

  pub stats_text : (level : ℕ) → text.Stats → List ℕ
  stats_text level text.no_stats = []
  stats_text level (text.more_stats stat stats) = stat_text level stat ++ stats_text level stats

  pub items_text : (level : ℕ) → text.Items → List ℕ
  items_text level text.no_items = []
  items_text level (text.an_item labels stat items) = labels_text level labels ++ (stat_text level stat ++ items_text level items)
