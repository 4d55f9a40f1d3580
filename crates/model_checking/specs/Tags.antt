-- Structures and enumerations by their tags (ISO/IEC 9899:2024, 6.2.1, 6.7.3.2, 6.7.3.4). A tag is looked up where it is
-- used, and declared where it has its braces, where it stands alone with `;`, or where none is visible.
use Rattle.std.specs.Prelude.{ℕ, Bool, true, false, Option, Some, None}
use Rattle.model_types.specs.Types.{CType}
use Rattle.model_scopes.specs.declared.declarations.Kind.TheVariants.{Tag}
use Rattle.model_scopes.specs.declared.declarations.Linkage.TheVariants.{Absent}
use Rattle.model_scopes.specs.Declarations.{Declaration}
use Rattle.model_scopes.specs.Scopes.{Declared}
use Rattle.model_scopes.specs.Binding.{look, here, declared_as}
use Rattle.model_scopes.specs.DeclarationRules.{broken_rule}
use Rattle.model_scopes.specs.Declaring.{declare}
use Rattle.model_grammar.specs.declared.syntax.Name.{Name}
use Rattle.model_grammar.specs.SyntaxForms as syntax
use Rattle.model_checking.specs.State.{State, Answer, gives, breaks, in_scopes}

-- the declaration is this one specifier and `;`
abbrev pub is_lone : syntax.Specs → syntax.InitDeclarators → Bool
is_lone (syntax.more_specs first syntax.no_specs) syntax.no_init_declarators = true
is_lone _ _ = false

abbrev pub visible_tag : Name → State → Option Declared
visible_tag name s = declared_as (look true name.text s.scopes) s.scopes

abbrev pub tag_here : Name → State → Option Declared
tag_here name s = declared_as (here true name.text s.scopes) s.scopes

-- a tag that stands alone is that of the innermost scope
abbrev pub tag_found : (is_lone : Bool) → Name → State → Option Declared
tag_found true name s = tag_here name s
tag_found false name s = visible_tag name s

-- ---- a tag that is declared

abbrev pub tag_declaration : Name → CType → (has_braces : Bool) → Declaration
tag_declaration name type has_braces = record {
  name = name.text;
  kind = Tag;
  linkage = Absent;
  ty = type;
  value = None;
  defines = has_braces;
  automatic = false;
  place = name.place;
}

abbrev pub declared_unless : Option ℕ → Declaration → State → Answer CType
declared_unless (Some rule) d s = breaks d.place rule
declared_unless None d s = gives d.ty (in_scopes (declare d s.scopes) s)

-- C01 and C06 at the tag
abbrev pub declared_tag : Declaration → State → Answer CType
declared_tag d s = declared_unless (broken_rule d s.scopes) d s
