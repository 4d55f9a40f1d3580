use Rattle.std.proofs.Common.{◌≡◌, ◌∙◌, ap, subst, Some, Ok, IfOk, IfErr, Result}
use Rattle.cake_base.specs.declared.rules.Fault.{Fault}
use Rattle.c_tree.specs.SyntaxViews.{specs_items}
use Rattle.model_checking.specs.Parts as parts
use Rattle.model_checking.specs.Words as w
use Rattle.model_checking.specs.SpecifierTypes as m
use Rattle.check_base.specs.Broken.{Broken}
use Rattle.check_specifiers.specs.Storages.{storage_in}
use Rattle.check_specifiers.specs.SpecifiedTypes.{specified_of, qualified_as}
use Rattle.check_specifiers.proofs.specified.with_type.Goals as goal

pub returns-clause-ok : goal.returns-clause-ok
returns-clause-ok c =
    let words = w.words_of (specs_items c.args.specs.now) in
    let e : qualified_as c.deref.result.now c.args.ty.now (storage_in c.storage_of.result) ≡ m.specified_by words (Some c.args.ty.now) =
    ap (λ qs. qualified_as qs c.args.ty.now (storage_in c.storage_of.result)) (c.deref.ensures.value ∙ c.in_ok-qualifiers.ensures)
    ∙ ap (qualified_as (w.qualifiers_of words) c.args.ty.now) c.storage_of.ensures in
    subst (λ (due : Result parts.Specified Fault). IfOk c.with_qualifiers.result (λ made. due ≡ Ok (specified_of made))) e c.with_qualifiers.ensures.ok

pub returns-clause-err : goal.returns-clause-err
returns-clause-err c =
    let words = w.words_of (specs_items c.args.specs.now) in
    let e : qualified_as c.deref.result.now c.args.ty.now (storage_in c.storage_of.result) ≡ m.specified_by words (Some c.args.ty.now) =
    ap (λ qs. qualified_as qs c.args.ty.now (storage_in c.storage_of.result)) (c.deref.ensures.value ∙ c.in_ok-qualifiers.ensures)
    ∙ ap (qualified_as (w.qualifiers_of words) c.args.ty.now) c.storage_of.ensures in
    subst (λ (due : Result parts.Specified Fault). IfErr c.with_qualifiers.result (λ e. Broken e due)) e c.with_qualifiers.ensures.err
