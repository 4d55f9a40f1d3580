use Rattle.std.proofs.Common.{◌≡◌, None, refl, sym, ◌∙◌, ap}
use Rattle.std.proofs.lemmas.Bool.{false_from_ne_true}
use Rattle.std.proofs.lemmas.Str.{IsUtf8-from_is_utf8, is_utf8-from_IsUtf8}
use Rattle.model_preprocessing.specs.Sources.{number_of}
use Rattle.pp_directives.proofs.ReadLaws.{reaches-self}
use Rattle.pp_directives.proofs.SearchLaws.{looks-asked, looked-on}
use Rattle.pp_directives.proofs.search.look_up.Goals as goal

pub returns-in-Ok : goal.returns-in-Ok
returns-in-Ok g c =
    let none : number_of c.args.full.now c.args.unit.now.held ≡ None = ap (λ s. number_of c.args.full.now s.held) (sym c.unit.view_is) ∙ sym c.find.ensures ∙ c.in_default.is in
    looks-asked _ _ c.args.at c.in-Ok.name.now c.args.full.now c.args.unit.now c.ask.new.unit c.ask.result c.in-Ok.ensures.cases.0 none (is_utf8-from_IsUtf8 _ c.in-Ok.ensures.cases.1) c.ask.ensures

pub returns-in-Err : goal.returns-in-Err
returns-in-Err g c =
    let none : number_of c.args.full.now c.args.unit.now.held ≡ None = ap (λ s. number_of c.args.full.now s.held) (sym c.unit.view_is) ∙ sym c.find.ensures ∙ c.in_default.is in
    λ onward. (reaches-self _ _ _ (looked-on c.args.at c.args.full.now c.args.unit.now onward none (false_from_ne_true _ (λ e. c.in-Err.ensures.cases.0 (IsUtf8-from_is_utf8 _ e)))), refl)
