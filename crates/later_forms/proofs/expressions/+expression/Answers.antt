use Rattle.std.proofs.Common.{◌≡◌, ◌+◌, refl, arith}
use Rattle.model_grammar.specs.SyntaxForms as m
use Rattle.c_tree.specs.apparatus.SyntaxSizes as n
use Rattle.c_tree.specs.SyntaxViews as v
use Rattle.later_forms.proofs.Lists.{in_list}
use Rattle.later_forms.proofs.expressions.+expression.Goals as goal

pub in_exprs-in_expr-requires : goal.in_exprs-in_expr-requires
in_exprs-in_expr-requires t c =
    (omega (arith, c.decreases, in_list (λ xs. n.exprs_nodes (m.exprs xs)) (λ x. n.expr_nodes x) (λ x xs. refl) c.args.exprs.now c.loop-expr.expr-index c.expr-item.result c.loop-expr-test.true c.expr-item.is), tt)

pub in_spec_list-in_spec-requires : goal.in_spec_list-in_spec-requires
in_spec_list-in_spec-requires t c =
    (omega (arith, c.decreases, in_list (λ xs. n.specs_nodes (v.specs_items xs)) (λ x. n.spec_nodes (v.spec_of x)) (λ x xs. refl) c.args.specs.now c.loop-spec.spec-index c.spec-item.result c.loop-spec-test.true c.spec-item.is), tt)

pub in_member_declarations-in_member_declaration-requires : goal.in_member_declarations-in_member_declaration-requires
in_member_declarations-in_member_declaration-requires t c =
    (omega (arith, c.decreases, in_list (λ xs. n.member_declarations_nodes (v.member_declarations_of xs)) (λ x. n.member_declaration_nodes (v.member_declaration_of x)) (λ x xs. refl) c.args.members.now c.loop-member.member-index c.member-item.result c.loop-member-test.true c.member-item.is), tt)

pub in_enumerators-in_enumerator-requires : goal.in_enumerators-in_enumerator-requires
in_enumerators-in_enumerator-requires t c =
    (omega (arith, c.decreases, in_list (λ xs. n.enumerators_nodes (v.enumerators_of xs)) (λ x. n.enumerator_nodes (v.enumerator_of x)) (λ x xs. refl) c.args.enumerators.now c.loop-enumerator.enumerator-index c.enumerator-item.result c.loop-enumerator-test.true c.enumerator-item.is), tt)

pub in_declarators-in_declarator-requires : goal.in_declarators-in_declarator-requires
in_declarators-in_declarator-requires t c =
    (omega (arith, c.decreases, in_list (λ xs. n.declarators_nodes (m.declarators xs)) (λ x. n.declarator_nodes x) (λ x xs. refl) c.args.declarators.now c.loop-declarator.declarator-index c.declarator-item.result c.loop-declarator-test.true c.declarator-item.is), tt)

pub in_suffixes-in_suffix-requires : goal.in_suffixes-in_suffix-requires
in_suffixes-in_suffix-requires t c =
    (omega (arith, c.decreases, in_list (λ xs. n.suffixes_nodes (v.suffixes_of xs)) (λ x. n.suffix_nodes (v.suffix_of x)) (λ x xs. refl) c.args.suffixes.now c.loop-suffix.suffix-index c.suffix-item.result c.loop-suffix-test.true c.suffix-item.is), tt)

pub in_parameters-in_parameter-requires : goal.in_parameters-in_parameter-requires
in_parameters-in_parameter-requires t c =
    (omega (arith, c.decreases, in_list (λ xs. n.parameters_nodes (v.parameters_of xs)) (λ x. n.parameter_nodes (v.parameter_of x)) (λ x xs. refl) c.args.parameters.now c.loop-parameter.parameter-index c.parameter-item.result c.loop-parameter-test.true c.parameter-item.is), tt)

pub in_initializer_items-in_initializer_item-requires : goal.in_initializer_items-in_initializer_item-requires
in_initializer_items-in_initializer_item-requires t c =
    (omega (arith, c.decreases, in_list (λ xs. n.initializer_items_nodes (v.initializer_items_of xs)) (λ x. n.initializer_item_nodes (v.initializer_item_of x)) (λ x xs. refl) c.args.items.now c.loop-item.item-index c.item-item.result c.loop-item-test.true c.item-item.is), tt)

pub in_designators-in_designator-requires : goal.in_designators-in_designator-requires
in_designators-in_designator-requires t c =
    (omega (arith, c.decreases, in_list (λ xs. n.designators_nodes (v.designators_of xs)) (λ x. n.designator_nodes (v.designator_of x)) (λ x xs. refl) c.args.designators.now c.loop-designator.designator-index c.designator-item.result c.loop-designator-test.true c.designator-item.is), tt)
