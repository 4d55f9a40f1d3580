-- What a declarator gives, of its parts.
use Rattle.std.proofs.Common.{◌≡◌, ◌∙◌, ap, sym, List, Option, Result, Ok, Err, IfOk}
use Rattle.cake_base.specs.declared.places.Place.{Place}
use Rattle.model_types.specs.Structures.{Structure}
use Rattle.model_grammar.specs.declared.syntax.Name.{Name}
use Rattle.model_grammar.specs.SyntaxForms as syntax
use Rattle.model_checking.specs.State.{State, both}
use Rattle.model_checking.specs.Parts.{Specified}
use Rattle.model_checking.specs.Derivations.{Steps}
use Rattle.model_checking.specs.DeclaratorNames.{declarator_name}
use Rattle.model_checking.specs.DeclaratorTypes.{Typing, declared_by, steps_typing, declarator}
use Rattle.check_declarators.specs.declared.declared.Declared.{Declared}
use Rattle.check_declarators.specs.DeclaredViews.{declared_of}

pub declarator_from : {E : Type 0} (r : Result Declared E) (given : Specified) (first : Place) (d : syntax.Declarator) (name : Option Name) (structs : List Structure) (ds : Steps) (t : Typing)
    → name ≡ declarator_name d → t ≡ steps_typing structs first given.type ds → IfOk r (λ made. declared_of made ≡ declared_by given first name ds.steps t)
    → IfOk r (λ made. (before s : State) → before.scopes.structs ≡ structs → declarator given first d before (both ds s) ≡ both (declared_of made) s)
declarator_from (Ok made) given first d name structs ds t n e h = λ before s b.
    ap (λ y. both y s)
    (ap (λ x. declared_by given first (declarator_name d) ds.steps (steps_typing x first given.type ds)) b
    ∙ ap (λ x. declared_by given first x ds.steps (steps_typing structs first given.type ds)) (sym n)
    ∙ ap (λ x. declared_by given first name ds.steps x) (sym e)
    ∙ sym h)
declarator_from (Err e) given first d name structs ds t n is h = tt
