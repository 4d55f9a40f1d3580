-- Names in expressions name the first constraint that they break.
use Rattle.std.proofs.Common.{◌≡◌, refl, ℕ, Bool, true, false, ◌&&◌, not, Option, Some, None, is_some}
use Rattle.model_grammar.specs.declared.syntax.Name.{Name}
use Rattle.model_grammar.specs.SyntaxForms as syntax
use Rattle.model_scopes.specs.declared.declarations.Kind.{Kind}
use Rattle.model_scopes.specs.declared.declarations.Kind.TheVariants.{Object, Function, TypeName, Enumerator, Tag}
use Rattle.model_scopes.specs.DeclarationRules.{constraint_at}
use Rattle.model_scopes.specs.Declarations.{Value, Declaration}
use Rattle.model_scopes.specs.Scopes.{Declared}
use Rattle.model_scopes.specs.Binding.{look, declared_as, is_surrounding}
use Rattle.model_checking.specs.State.{Use, Evaluated, Unevaluated, State}
use Rattle.model_checking.specs.Marks.{mark_of}
use Rattle.model_checking.specs.NamedObjects.{named_enumerator, named_as, named_by, named}
use Rattle.model_constraints.specs.Pairs.{At, Beside}
use Rattle.model_constraints.specs.BrokenNames.{is_in_expressions, is_object, broken_bound, broken_name}
use Rattle.first_broken_laws.specs.FirstNamed.{Answers}
use Rattle.first_broken_laws.proofs.PairLaws.{all_unbroken, at_unbroken, at_first, beside_unbroken, first_left, answers_right, wanted_alone}

twice : (b : Bool) → b ≡ not (not b)
twice true = refl
twice false = refl

enumerator_first : (d : Declaration) (name : Name) (value : Option Value) (s : State) →
    Answers (Beside (At name.place 5 (not (is_some value))) (At name.place 26 false)) (named_enumerator d (mark_of (syntax.Identifier name)) value s)
enumerator_first d name (Some value) s = beside_unbroken (At name.place 5 false) (At name.place 26 false) (at_unbroken name.place 5 false refl) (at_unbroken name.place 26 false refl)
enumerator_first d name None s =
    first_left (At name.place 5 true) (At name.place 26 false) (constraint_at name.place 5) (at_first name.place 5 true refl)
    (all_unbroken (constraint_at name.place 5) (At name.place 26 false) (at_unbroken name.place 26 false refl))

kind_first : (u : Use) (kind : Kind) (id : ℕ) (d : Declaration) (name : Name) (s : State) →
    Answers (Beside (At name.place 5 (not (is_in_expressions kind d))) (At name.place 26 (is_object kind && d.automatic && is_surrounding id s.scopes)))
    (named_as u kind id d (mark_of (syntax.Identifier name)) s)
kind_first u Object id d name s =
    let c = d.automatic && is_surrounding id s.scopes in
    answers_right (At name.place 5 false) (At name.place 26 c) _ (at_unbroken name.place 5 false refl) (wanted_alone name.place 26 c (not c) _ (twice c))
kind_first Evaluated Function id d name s =
    beside_unbroken (At name.place 5 false) (At name.place 26 false) (at_unbroken name.place 5 false refl) (at_unbroken name.place 26 false refl)
kind_first Unevaluated Function id d name s =
    beside_unbroken (At name.place 5 false) (At name.place 26 false) (at_unbroken name.place 5 false refl) (at_unbroken name.place 26 false refl)
kind_first u Enumerator id d name s = enumerator_first d name d.value s
kind_first u TypeName id d name s =
    first_left (At name.place 5 true) (At name.place 26 false) (constraint_at name.place 5) (at_first name.place 5 true refl)
    (all_unbroken (constraint_at name.place 5) (At name.place 26 false) (at_unbroken name.place 26 false refl))
kind_first u Tag id d name s =
    first_left (At name.place 5 true) (At name.place 26 false) (constraint_at name.place 5) (at_first name.place 5 true refl)
    (all_unbroken (constraint_at name.place 5) (At name.place 26 false) (at_unbroken name.place 26 false refl))

bound_first : (u : Use) (id : Option ℕ) (d : Option Declared) (name : Name) (s : State) → Answers (broken_bound name id d s) (named_by u id d (mark_of (syntax.Identifier name)) s)
bound_first u (Some id) (Some d) name s = kind_first u d.latest.kind id d.latest name s
bound_first u (Some id) None name s = at_first name.place 5 true refl
bound_first u None d name s = at_first name.place 5 true refl

pub name_first : (u : Use) (name : Name) (s : State) → Answers (broken_name name s) (named u name (mark_of (syntax.Identifier name)) s)
name_first u name s = bound_first u (look false name.text s.scopes) (declared_as (look false name.text s.scopes) s.scopes) name s
