-- Enumerations (ISO/IEC 9899:2024, 6.7.3.3, 6.7.3.4): by a tag, by their braces, and their enumerators one by one.
use Rattle.std.specs.Prelude.{ℕ, ℤ, pos, ◌+ℤ◌, Bool, true, false, not, Option, Some, None, is_some, Ok, Err, if◌then◌else◌}
use Rattle.std.specs.Option.{unwrap_or}
use Rattle.cake_base.specs.declared.places.Place.{Place}
use Rattle.cake_base.specs.declared.rules.Fault.{Fault}
use Rattle.model_types.specs.declared.numbers.Basic.{Basic}
use Rattle.model_types.specs.declared.numbers.Basic.TheVariants.{Int}
use Rattle.model_types.specs.Operations.{fits}
use Rattle.model_types.specs.Types as t
use Rattle.model_types.specs.Types.{CType, form_of_type}
use Rattle.model_core.specs.CoreTypes.{plain, int_type, basic_of}
use Rattle.model_scopes.specs.declared.declarations.Kind.TheVariants.{Enumerator}
use Rattle.model_scopes.specs.declared.declarations.Linkage.TheVariants.{Absent}
use Rattle.model_scopes.specs.Declarations.{Declaration}
use Rattle.model_scopes.specs.Scopes.{Declared}
use Rattle.model_scopes.specs.DeclarationRules.{has_prefix, broken_rule, is_struct_form}
use Rattle.model_scopes.specs.Declaring.{place_or, declare}
use Rattle.model_grammar.specs.declared.syntax.Name.{Name}
use Rattle.model_grammar.specs.SyntaxForms as syntax
use Rattle.c_tree.specs.SyntaxPlaces.{specs_first}
use Rattle.model_checking.specs.State.{State, Answer, gives, breaks, unless, then_do, in_scopes}
use Rattle.model_checking.specs.Parts.{Specified}
use Rattle.model_checking.specs.FaultsBeside.{fault_if, with_fault}
use Rattle.model_checking.specs.DeclaratorNames.{rule_at}
use Rattle.model_checking.specs.Tags.{tag_found, tag_here, tag_declaration, declared_tag}

-- ---- the fixed type: an integer type, of another enumeration its underlying one

abbrev pub fixed_by : Option CType → (first : Place) → State → Answer Basic
fixed_by None first s = breaks first 27
fixed_by (Some (t.typed (t.Integer basic) quals)) first s = gives basic s
fixed_by (Some (t.typed (t.Enum basic order) quals)) first s = gives basic s
fixed_by (Some (t.typed form quals)) first s = breaks first 27

-- C27 at the first token of the type; `place` is that of the word `enum`
abbrev pub fixed_type : (place : Place) → syntax.Specs → Answer Specified → Answer Basic
fixed_type place specs answer = then_do answer (λ given s. fixed_by given.type (place_or (specs_first specs) place) s)

-- the type of an enumeration, which is told apart by its word `enum`
abbrev pub enum_type : Option Basic → (place : Place) → CType
enum_type fixed place = plain (t.Enum (unwrap_or fixed Int) place.order)

-- ---- `enum` and a tag without braces: only a fixed type declares it

-- C06 at the tag, where it is that of a structure
abbrev pub as_enum : Name → CType → State → Answer CType
as_enum name type s = if is_struct_form (form_of_type type) then breaks name.place 6 else gives type s

abbrev pub enum_by : Option Declared → Name → Option Basic → (place : Place) → State → Answer CType
enum_by (Some d) name fixed place s = as_enum name d.latest.ty s
enum_by None name None place s = breaks name.place 5
enum_by None name (Some basic) place s = declared_tag (tag_declaration name (enum_type (Some basic) place) false) s

-- alone and with a fixed type it is that of the innermost scope
abbrev pub is_own : (is_lone : Bool) → Option Basic → Bool
is_own is_lone None = false
is_own is_lone (Some basic) = is_lone

abbrev pub enum_found : (is_lone : Bool) → Name → Option Basic → State → Option Declared
enum_found is_lone name fixed s = tag_found (is_own is_lone fixed) name s

-- C01 and C06 at the tag, where its fixed type is faulty
abbrev pub fixed_tag_rule : Option Declared → Name → Option ℕ
fixed_tag_rule (Some d) name = if is_struct_form (form_of_type d.latest.ty) then Some 6 else None
fixed_tag_rule None name = if has_prefix name.text then Some 1 else None

-- the answer is the fixed type, if there is one; the state is the one before it
abbrev pub enum_tag : (is_lone : Bool) → Name → (place : Place) → State → Answer (Option Basic) → Answer CType
enum_tag is_lone name place before (Ok both) = enum_by (enum_found is_lone name both.made both.state) name both.made place both.state
enum_tag is_lone name place before (Err fault) =
    with_fault (rule_at (fixed_tag_rule (tag_found is_lone name before)) (Some name)) (Err fault)

-- ---- before the enumerators

-- the type of an enumeration, and whether it was fixed
pub record Enumeration : Type 0 where
  pub type : CType
  pub is_fixed : Bool

abbrev pub begun_as : (is_fixed : Bool) → Answer CType → Answer Enumeration
begun_as is_fixed answer = then_do answer (λ type s. gives (record { type = type; is_fixed = is_fixed }) s)

-- a tag of this scope without braces was declared with a fixed type, which it keeps
abbrev pub begun_by : Option Declared → Name → Option Basic → (place : Place) → State → Answer Enumeration
begun_by None name fixed place s = begun_as (is_some fixed) (declared_tag (tag_declaration name (enum_type fixed place) true) s)
begun_by (Some d) name fixed place s =
    if is_struct_form (form_of_type d.latest.ty) then breaks name.place 6
    else begun_as true (declared_tag (tag_declaration name d.latest.ty true) s)

abbrev pub begun : Option Name → Option Basic → (place : Place) → State → Answer Enumeration
begun None fixed place s = gives (record { type = enum_type fixed place; is_fixed = is_some fixed }) s
begun (Some name) fixed place s = begun_by (tag_here name s) name fixed place s

abbrev pub braces_rule : (place : Place) → State → Name → Option ℕ
braces_rule place s name = broken_rule (tag_declaration name (enum_type None place) true) s.scopes

-- C01 and C06 at the tag, beside what its fixed type breaks; the state is the one before that
abbrev pub enum_begun : Option Name → (place : Place) → State → Answer (Option Basic) → Answer Enumeration
enum_begun tag place before answer =
    with_fault (rule_at (braces_rule place before) tag) (then_do answer (λ fixed s. begun tag fixed place s))

-- ---- an enumerator

-- its type is int, or that of its enumeration where that has a fixed type
abbrev pub enumerator_type : Enumeration → CType
enumerator_type e = if e.is_fixed then e.type else int_type

abbrev pub enumerator_declaration : Enumeration → Name → ℤ → Declaration
enumerator_declaration e name value = record {
  name = name.text;
  kind = Enumerator;
  linkage = Absent;
  ty = enumerator_type e;
  value = Some (record { value = value; basic = basic_of (form_of_type (enumerator_type e)) });
  defines = false;
  automatic = false;
  place = name.place;
}

-- C01 and C02 at the name
abbrev pub enumerator_rule : Enumeration → State → Name → Option ℕ
enumerator_rule e s name = broken_rule (enumerator_declaration e name (pos 0)) s.scopes

-- a value is the one that is given, else one more than that before it
abbrev pub value_behind : (previous given : Option ℤ) → ℤ
value_behind previous (Some value) = value
value_behind None None = pos 0
value_behind (Some value) None = value +ℤ pos 1

-- C30 at the name
abbrev pub range_fault : Enumeration → Name → ℤ → Option Fault
range_fault e name value = fault_if (not (fits (basic_of (form_of_type (enumerator_type e))) value)) name.place 30

abbrev pub with_enumerator : Enumeration → Name → ℤ → State → Answer ℤ
with_enumerator e name value s =
    with_fault (rule_at (enumerator_rule e s) (Some name))
    (unless (range_fault e name value) (gives value (in_scopes (declare (enumerator_declaration e name value) s.scopes) s)))

-- an enumerator behind one of a value: the answer is the constant that it is given, if any, and the state the one before
abbrev pub enumerator : Enumeration → (previous : Option ℤ) → Name → (before : State) → Answer (Option ℤ) → Answer ℤ
enumerator e previous name before answer =
    with_fault (rule_at (enumerator_rule e before) (Some name))
    (then_do answer (λ given s. with_enumerator e name (value_behind previous given) s))
