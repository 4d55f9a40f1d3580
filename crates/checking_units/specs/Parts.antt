-- What the trees of units of one line are made of, and what the definition of checking answers of such a unit.
use Rattle.std.specs.Prelude.{ℕ, Bool, ◌&&◌, is_none, if◌then◌else◌, List, [], ◌∷◌, Option, option_map, Result, Ok, Err}
use Rattle.std.specs.Result.{is_ok}
use Rattle.cake_base.specs.declared.places.Place.{Place}
use Rattle.cake_base.specs.declared.rules.Fault.{Fault}
use Rattle.model_types.specs.declared.marks.Span.{Span}
use Rattle.model_grammar.specs.declared.syntax.Name.{Name}
use Rattle.model_grammar.specs.declared.syntax.Qualifier.{Qualifier}
use Rattle.model_grammar.specs.declared.syntax.QualifierWord.{QualifierWord}
use Rattle.model_grammar.specs.declared.syntax.Pointer.{Pointer}
use Rattle.model_grammar.specs.SyntaxForms as syntax
use Rattle.model_core.specs.Core as unit
use Rattle.model_core.specs.TypedCore.{is_typed_core}
use Rattle.model_checking.specs.Units.{elab_unit, limit_of}

-- the token of this rank at a column of the line
abbrev pub at : (column order : ℕ) → Place
at column order = record { file = 0; line = 1; column = column; order = order }

abbrev pub span : (first last : Place) → Span
span first last = record { first = first; last = last }

abbrev pub name : List ℕ → Place → Name
name text place = record { text = text; place = place }

abbrev pub qualifier : QualifierWord → Place → Qualifier
qualifier word place = record { word = word; place = place }

abbrev pub pointer : Place → List Qualifier → Pointer
pointer star qualifiers = record { star = star; qualifiers = qualifiers }

-- ---- lists

abbrev pub specs : List syntax.Spec → syntax.Specs
specs [] = syntax.no_specs
specs (x ∷ xs) = syntax.more_specs x (specs xs)

abbrev pub suffixes : List syntax.Suffix → syntax.Suffixes
suffixes [] = syntax.no_suffixes
suffixes (x ∷ xs) = syntax.more_suffixes x (suffixes xs)

abbrev pub parameters : List syntax.Parameter → syntax.Parameters
parameters [] = syntax.no_parameters
parameters (x ∷ xs) = syntax.more_parameters x (parameters xs)

abbrev pub members : List syntax.MemberDeclaration → syntax.MemberDeclarations
members [] = syntax.no_members
members (x ∷ xs) = syntax.more_members x (members xs)

abbrev pub enumerators : List syntax.Enumerator → syntax.Enumerators
enumerators [] = syntax.no_enumerators
enumerators (x ∷ xs) = syntax.more_enumerators x (enumerators xs)

abbrev pub declared : List syntax.InitDeclarator → syntax.InitDeclarators
declared [] = syntax.no_init_declarators
declared (x ∷ xs) = syntax.more_init_declarators x (declared xs)

abbrev pub items : List syntax.InitializerItem → syntax.InitializerItems
items [] = syntax.no_items
items (x ∷ xs) = syntax.more_items x (items xs)

abbrev pub designators : List syntax.Designator → syntax.Designators
designators [] = syntax.no_designators
designators (x ∷ xs) = syntax.more_designators x (designators xs)

abbrev pub block_items : List syntax.BlockItem → syntax.BlockItems
block_items [] = syntax.no_block_items
block_items (x ∷ xs) = syntax.more_block_items x (block_items xs)

-- ---- what is answered

-- the unit has a core, which is typed, or it isn't; or it breaks a rule of the family C first at a column of its line
pub data Outcome : Type 0 where
  accepted : Outcome
  untyped : Outcome
  breaks : (rule column : ℕ) → Outcome

abbrev pub outcome_of : Result unit.Core Fault → Outcome
outcome_of (Ok core) = if is_typed_core core then accepted else untyped
outcome_of (Err fault) = breaks fault.rule.number fault.place.column

abbrev pub outcome : List syntax.External → Outcome
outcome externals = outcome_of (elab_unit externals)

-- the column of the first object whose initial values are too many, where no rule is broken
abbrev pub limit : List syntax.External → Option ℕ
limit externals = option_map (λ hit. hit.place.column) (limit_of externals)

-- no rule is broken, and no object has too many initial values: of units whose core is too large to be computed
abbrev pub is_within_limit : List syntax.External → Bool
is_within_limit externals = is_ok (elab_unit externals) && is_none (limit_of externals)
