use Rattle.std.proofs.Common.{◌∙◌, ap, sym}
use Rattle.std.specs.Int.{w128}
use Rattle.std.proofs.lemmas.Int.{to_z-of_z}
use Rattle.model_scopes.specs.Declaring.{declare}
use Rattle.model_checking.specs.State.{gives, in_scopes}
use Rattle.model_checking.specs.Enumerations as m
use Rattle.check_specifiers.specs.EnumerationTypes.{enumeration_of}
use Rattle.check_tags.proofs.EnumLaws.{value_refused, value_declared, value_unbroken}
use Rattle.check_tags.proofs.enumerations.declare_enumerator.Goals as goal

pub returns-in-Some-clause-answer : goal.returns-in-Some-clause-answer
returns-in-Some-clause-answer c s =
    let e = enumeration_of c.args.enumeration.now in
    let v = to_z-of_z w128 c.args.value c.ranges.value in
    value_refused e c.args.name.now c.args.value c.args.scopes.now _ _ c.in-Some.fault c.in_ok-rule.ensures (c.range_fault.ensures ∙ ap (m.range_fault e c.args.name.now) v) c.in-Some.ensures s

pub returns-in-Ok-clause-answer : goal.returns-in-Ok-clause-answer
returns-in-Ok-clause-answer c s =
    let e = enumeration_of c.args.enumeration.now in
    let v = to_z-of_z w128 c.args.value c.ranges.value in
    value_declared e c.args.name.now c.args.value c.args.scopes.now c.declare.new.self _ _ c.in_ok-rule.ensures (c.range_fault.ensures ∙ ap (m.range_fault e c.args.name.now) v) c.in-None.ensures
    (c.in-Ok.ensures.answer.2 ∙ ap (λ d. declare d c.args.scopes.now) (c.in_ok-entry-in-None.ensures ∙ ap (m.enumerator_declaration e c.args.name.now) v)) s
    ∙ ap (λ x. gives x (in_scopes c.declare.new.self s)) (sym v)

pub returns-in-Err-clause-answer : goal.returns-in-Err-clause-answer
returns-in-Err-clause-answer c s =
    let e = enumeration_of c.args.enumeration.now in
    let v = to_z-of_z w128 c.args.value c.ranges.value in
    value_unbroken e c.args.name.now c.args.value c.in_ok-entry-in-None.entry c.args.scopes.now c.declare.new.self _ _ c.in-Err.e c.refusal.result c.in_ok-rule.ensures c.in-None.ensures
    (c.in_ok-entry-in-None.ensures ∙ ap (m.enumerator_declaration e c.args.name.now) v) c.in-Err.ensures.answer c.refusal.ensures s
