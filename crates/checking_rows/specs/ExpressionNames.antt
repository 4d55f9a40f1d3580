-- Names in expressions: what isn't declared, what a function literal may not name, and which uses are noted.
use Rattle.std.specs.Prelude.{ℕ, pos, Bool, true, false, List, codes, Option, Some, None, Result, Ok, Err}
use Rattle.cake_base.specs.declared.rules.Fault.{Fault}
use Rattle.model_types.specs.declared.numbers.Basic.TheVariants as basic
use Rattle.model_grammar.specs.declared.syntax.PrefixOp.TheVariants as prefix
use Rattle.model_types.specs.Types.{CType}
use Rattle.model_core.specs.CoreTypes.{int_type}
use Rattle.model_scopes.specs.declared.declarations.Kind.{Kind}
use Rattle.model_scopes.specs.declared.declarations.Kind.TheVariants.{Object, Function, Enumerator, TypeName}
use Rattle.model_scopes.specs.declared.declarations.Linkage.TheVariants.{Absent, Internal}
use Rattle.model_scopes.specs.Declarations.{Value, Declaration}
use Rattle.model_scopes.specs.Scopes.{Scopes, file_scope, enter}
use Rattle.model_scopes.specs.Declaring.{declare}
use Rattle.model_scopes.specs.NotedUses.{unresolved}
use Rattle.model_checking.specs.State.{Use, Evaluated, Answer, start}
use Rattle.model_checking.specs.Meanings.{Meaning}
use Rattle.model_checking.specs.NamedObjects.{named}
use Rattle.model_checking.specs.UnaryRules.{note_taken}
use Rattle.checking_rows.specs.InitializerParts.{at, mark}
use Rattle.checking_rows.specs.ExpressionParts.{const, int_function, object, alone}
use Rattle.checking_rows.specs.ExpressionParts as parts

abbrev pub declaration : List ℕ → Kind → CType → Option Value → (automatic : Bool) → Declaration
declaration name kind type value automatic = record {
  name = name;
  kind = kind;
  linkage = Absent;
  ty = type;
  value = value;
  defines = true;
  automatic = automatic;
  place = at 0;
}

-- static int f(void);
abbrev pub internal_function : Declaration
internal_function = record (declaration (codes "f") Function int_function None false) { linkage = Internal; defines = false }

abbrev pub zero : Value
zero = record { value = pos 0; basic = basic.Int }

-- enum { red }; typedef int number; static int f(void); in a block: int x; static int s; constexpr int c = 0;
abbrev pub in_block : Scopes
in_block =
    declare (declaration (codes "c") Object (const int_type) (Some zero) true)
    (declare (declaration (codes "s") Object int_type None false)
    (declare (declaration (codes "x") Object int_type None true)
    (enter false
    (declare internal_function
    (declare (declaration (codes "number") TypeName int_type None false)
    (declare (declaration (codes "red") Enumerator int_type (Some zero) false) file_scope))))))

-- the same, in the body of a function literal of that block with a parameter y
abbrev pub in_literal : Scopes
in_literal = enter false (declare (declaration (codes "y") Object int_type None true) (enter true in_block))

abbrev pub use_of : Use → List ℕ → Scopes → Answer Meaning
use_of evaluation name scopes = named evaluation (parts.named name 7) (mark 7) (start scopes)

abbrev pub what : List ℕ → Scopes → Result Meaning Fault
what name scopes = alone (use_of Evaluated name scopes)

-- the first use of an internal function that isn't defined, behind the use of a name
abbrev pub unmet_after : Answer Meaning → Option Fault
unmet_after (Ok both) = unresolved both.state.scopes
unmet_after (Err fault) = None

-- the objects whose address is taken, behind `&x`
abbrev pub taken_by : Use → List ℕ
taken_by evaluation = (note_taken evaluation prefix.Address (object 3 int_type 1) (start in_block)).taken

-- and behind `*x`
abbrev pub taken_by_star : List ℕ
taken_by_star = (note_taken Evaluated prefix.Indirection (object 3 int_type 1) (start in_block)).taken
