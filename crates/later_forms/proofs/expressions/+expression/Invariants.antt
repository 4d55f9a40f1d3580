use Rattle.std.proofs.Common.{◌≡◌, ◌+◌, ◌*◌, drop}
use Rattle.model_grammar.specs.SyntaxForms as m
use Rattle.c_tree.specs.apparatus.SyntaxSizes as n
use Rattle.c_tree.specs.SyntaxTrees.{expr_tree, type_name_tree, specs_tree, declarator_tree, initializer_tree}
use Rattle.c_tree.specs.SyntaxViews as v
use Rattle.model_checking.specs.LaterForms as later
use Rattle.later_forms.proofs.expressions.+expression.Given as goal

abbrev pub decreases-in_expr : goal.decreases-in_expr
decreases-in_expr l = 8 * n.expr_nodes (expr_tree l.expr.now)

abbrev pub decreases-in_both : goal.decreases-in_both
decreases-in_both l = 8 * (n.expr_nodes (expr_tree l.left.now) + n.expr_nodes (expr_tree l.right.now)) + 4

abbrev pub decreases-in_conditional : goal.decreases-in_conditional
decreases-in_conditional l = 8 * (n.expr_nodes (expr_tree l.condition.now) + n.expr_nodes (expr_tree l.first.now) + n.expr_nodes (expr_tree l.second.now)) + 5

abbrev pub decreases-in_call : goal.decreases-in_call
decreases-in_call l = 8 * (n.expr_nodes (expr_tree l.function.now) + n.exprs_nodes (m.exprs l.arguments.now)) + 4

abbrev pub decreases-in_cast : goal.decreases-in_cast
decreases-in_cast l = 8 * (n.type_name_nodes (type_name_tree l.name.now) + n.expr_nodes (expr_tree l.operand.now)) + 4

abbrev pub decreases-in_literal : goal.decreases-in_literal
decreases-in_literal l = 8 * (n.type_name_nodes (type_name_tree l.name.now) + n.braces_nodes (v.braces_of l.values.now)) + 4

abbrev pub decreases-in_exprs : goal.decreases-in_exprs
decreases-in_exprs l = 8 * n.exprs_nodes (m.exprs l.exprs.now)

abbrev pub decreases-in_maybe_expr : goal.decreases-in_maybe_expr
decreases-in_maybe_expr l = 8 * n.maybe_expr_nodes (v.maybe_expr_of l.expr.now) + 1

abbrev pub decreases-in_type_name : goal.decreases-in_type_name
decreases-in_type_name l = 8 * n.type_name_nodes (type_name_tree l.name.now)

abbrev pub decreases-in_spec : goal.decreases-in_spec
decreases-in_spec l = 8 * n.spec_nodes (v.spec_of l.spec.now)

abbrev pub decreases-in_enum : goal.decreases-in_enum
decreases-in_enum l = 8 * (n.maybe_specs_nodes (v.maybe_specs_of l.fixed.now) + n.enumerators_nodes (v.enumerators_of l.enumerators.now)) + 4

abbrev pub decreases-in_specs : goal.decreases-in_specs
decreases-in_specs l = 8 * n.specs_nodes (specs_tree l.specs.now) + 1

abbrev pub decreases-in_spec_list : goal.decreases-in_spec_list
decreases-in_spec_list l = 8 * n.specs_nodes (v.specs_items l.specs.now)

abbrev pub decreases-in_maybe_specs : goal.decreases-in_maybe_specs
decreases-in_maybe_specs l = 8 * n.maybe_specs_nodes (v.maybe_specs_of l.specs.now) + 2

abbrev pub decreases-in_member_declaration : goal.decreases-in_member_declaration
decreases-in_member_declaration l = 8 * n.member_declaration_nodes (v.member_declaration_of l.member.now)

abbrev pub decreases-in_members : goal.decreases-in_members
decreases-in_members l = 8 * (n.specs_nodes (specs_tree l.specs.now) + n.declarators_nodes (m.declarators l.declarators.now)) + 4

abbrev pub decreases-in_member_declarations : goal.decreases-in_member_declarations
decreases-in_member_declarations l = 8 * n.member_declarations_nodes (v.member_declarations_of l.members.now)

abbrev pub decreases-in_enumerator : goal.decreases-in_enumerator
decreases-in_enumerator l = 8 * n.enumerator_nodes (v.enumerator_of l.enumerator.now)

abbrev pub decreases-in_enumerators : goal.decreases-in_enumerators
decreases-in_enumerators l = 8 * n.enumerators_nodes (v.enumerators_of l.enumerators.now)

abbrev pub decreases-in_declarator : goal.decreases-in_declarator
decreases-in_declarator l = 8 * n.declarator_nodes (declarator_tree l.declarator.now)

abbrev pub decreases-in_grouped : goal.decreases-in_grouped
decreases-in_grouped l = 8 * (n.declarator_nodes (declarator_tree l.inner.now) + n.suffixes_nodes (v.suffixes_of l.suffixes.now)) + 4

abbrev pub decreases-in_declarators : goal.decreases-in_declarators
decreases-in_declarators l = 8 * n.declarators_nodes (m.declarators l.declarators.now)

abbrev pub decreases-in_suffix : goal.decreases-in_suffix
decreases-in_suffix l = 8 * n.suffix_nodes (v.suffix_of l.suffix.now)

abbrev pub decreases-in_suffixes : goal.decreases-in_suffixes
decreases-in_suffixes l = 8 * n.suffixes_nodes (v.suffixes_of l.suffixes.now)

abbrev pub decreases-in_parameter : goal.decreases-in_parameter
decreases-in_parameter l = 8 * n.parameter_nodes (v.parameter_of l.parameter.now)

abbrev pub decreases-in_parameters : goal.decreases-in_parameters
decreases-in_parameters l = 8 * n.parameters_nodes (v.parameters_of l.parameters.now)

abbrev pub decreases-in_initializer : goal.decreases-in_initializer
decreases-in_initializer l = 8 * n.initializer_nodes (initializer_tree l.initializer.now)

abbrev pub decreases-in_braces : goal.decreases-in_braces
decreases-in_braces l = 8 * n.braces_nodes (v.braces_of l.values.now)

abbrev pub decreases-in_initializer_item : goal.decreases-in_initializer_item
decreases-in_initializer_item l = 8 * n.initializer_item_nodes (v.initializer_item_of l.item.now)

abbrev pub decreases-in_initializer_items : goal.decreases-in_initializer_items
decreases-in_initializer_items l = 8 * n.initializer_items_nodes (v.initializer_items_of l.items.now)

abbrev pub decreases-in_designator : goal.decreases-in_designator
decreases-in_designator l = 8 * n.designator_nodes (v.designator_of l.designator.now)

abbrev pub decreases-in_designators : goal.decreases-in_designators
decreases-in_designators l = 8 * n.designators_nodes (v.designators_of l.designators.now)

abbrev pub decreases-in_assertion : goal.decreases-in_assertion
decreases-in_assertion l = 8 * n.assertion_nodes (v.assertion_of l.assertion.now)

abbrev pub invariant-in_exprs-loop-expr : goal.invariant-in_exprs-loop-expr
invariant-in_exprs-loop-expr l = later.in_exprs (m.exprs (drop l.expr-index l.exprs)) ≡ later.in_exprs (m.exprs l.exprs)

abbrev pub invariant-in_spec_list-loop-spec : goal.invariant-in_spec_list-loop-spec
invariant-in_spec_list-loop-spec l = later.in_specs (v.specs_items (drop l.spec-index l.specs)) ≡ later.in_specs (v.specs_items l.specs)

abbrev pub invariant-in_member_declarations-loop-member : goal.invariant-in_member_declarations-loop-member
invariant-in_member_declarations-loop-member l = later.in_member_declarations (v.member_declarations_of (drop l.member-index l.members)) ≡ later.in_member_declarations (v.member_declarations_of l.members)

abbrev pub invariant-in_enumerators-loop-enumerator : goal.invariant-in_enumerators-loop-enumerator
invariant-in_enumerators-loop-enumerator l = later.in_enumerators (v.enumerators_of (drop l.enumerator-index l.enumerators)) ≡ later.in_enumerators (v.enumerators_of l.enumerators)

abbrev pub invariant-in_declarators-loop-declarator : goal.invariant-in_declarators-loop-declarator
invariant-in_declarators-loop-declarator l = later.in_declarators (m.declarators (drop l.declarator-index l.declarators)) ≡ later.in_declarators (m.declarators l.declarators)

abbrev pub invariant-in_suffixes-loop-suffix : goal.invariant-in_suffixes-loop-suffix
invariant-in_suffixes-loop-suffix l = later.in_suffixes (v.suffixes_of (drop l.suffix-index l.suffixes)) ≡ later.in_suffixes (v.suffixes_of l.suffixes)

abbrev pub invariant-in_parameters-loop-parameter : goal.invariant-in_parameters-loop-parameter
invariant-in_parameters-loop-parameter l = later.in_parameters (v.parameters_of (drop l.parameter-index l.parameters)) ≡ later.in_parameters (v.parameters_of l.parameters)

abbrev pub invariant-in_initializer_items-loop-item : goal.invariant-in_initializer_items-loop-item
invariant-in_initializer_items-loop-item l = later.in_initializer_items (v.initializer_items_of (drop l.item-index l.items)) ≡ later.in_initializer_items (v.initializer_items_of l.items)

abbrev pub invariant-in_designators-loop-designator : goal.invariant-in_designators-loop-designator
invariant-in_designators-loop-designator l = later.in_designators (v.designators_of (drop l.designator-index l.designators)) ≡ later.in_designators (v.designators_of l.designators)
