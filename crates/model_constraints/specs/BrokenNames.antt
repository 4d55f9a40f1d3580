-- What a name in an expression breaks (ISO/IEC 9899:2024, 6.5.2).
use Rattle.std.specs.Prelude.{ℕ, Bool, true, false, ◌&&◌, not, Option, Some, None, is_some}
use Rattle.model_scopes.specs.declared.declarations.Kind.{Kind}
use Rattle.model_scopes.specs.declared.declarations.Kind.TheVariants.{Object, Function, TypeName, Enumerator, Tag}
use Rattle.model_scopes.specs.Declarations.{Declaration}
use Rattle.model_scopes.specs.Binding.{look, declared_as, is_surrounding}
use Rattle.model_scopes.specs.Scopes.{Declared}
use Rattle.model_grammar.specs.declared.syntax.Name.{Name}
use Rattle.model_checking.specs.State.{State}
use Rattle.model_constraints.specs.Pairs.{Pairs, At, Beside}

-- what is declared is an object, a function, or an enumerator with its value
abbrev pub is_in_expressions : Kind → Declaration → Bool
is_in_expressions Object d = true
is_in_expressions Function d = true
is_in_expressions Enumerator d = is_some d.value
is_in_expressions TypeName d = false
is_in_expressions Tag d = false

abbrev pub is_object : Kind → Bool
is_object Object = true
is_object Function = false
is_object Enumerator = false
is_object TypeName = false
is_object Tag = false

-- C05: no object, function or enumerator; C26: in a function literal an automatic object of its surroundings
abbrev pub broken_bound : Name → Option ℕ → Option Declared → State → Pairs
broken_bound name (Some id) (Some d) s =
    Beside (At name.place 5 (not (is_in_expressions d.latest.kind d.latest)))
    (At name.place 26 (is_object d.latest.kind && d.latest.automatic && is_surrounding id s.scopes))
broken_bound name (Some id) None s = At name.place 5 true
broken_bound name None d s = At name.place 5 true

-- the innermost declaration of the name counts
abbrev pub broken_name : Name → State → Pairs
broken_name name s = broken_bound name (look false name.text s.scopes) (declared_as (look false name.text s.scopes) s.scopes) s
