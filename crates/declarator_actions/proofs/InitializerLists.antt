-- Initializers with designators, and designators, that are read from the front.
use Rattle.std.proofs.Common.{◌≡◌, refl, ap, List, [], ◌∷◌, ◌++◌}
use Rattle.model_grammar.specs.SyntaxForms as syntax
use Rattle.c_tree.specs.SyntaxViews.{designator_of, designators_of, initializer_item_of, initializer_items_of}
use Rattle.c_tree.specs.declared.syntax_initializers.InitializerItem.{InitializerItem}
use Rattle.c_tree.specs.declared.syntax_initializers.Designator.{Designator}

abbrev pub items_onto : List InitializerItem → syntax.InitializerItems → syntax.InitializerItems
items_onto [] others = others
items_onto (x ∷ xs) others = syntax.more_items (initializer_item_of x) (items_onto xs others)

pub one_more_item : (xs : List InitializerItem) (x : InitializerItem) (others : syntax.InitializerItems) → items_onto (xs ++ x ∷ []) others ≡ items_onto xs (syntax.more_items (initializer_item_of x) others)
one_more_item [] x others = refl
one_more_item (y ∷ ys) x others = ap (syntax.more_items (initializer_item_of y)) (one_more_item ys x others)

pub no_more_items : (xs : List InitializerItem) → items_onto xs syntax.no_items ≡ initializer_items_of xs
no_more_items [] = refl
no_more_items (x ∷ xs) = ap (syntax.more_items (initializer_item_of x)) (no_more_items xs)

abbrev pub designators_onto : List Designator → syntax.Designators → syntax.Designators
designators_onto [] others = others
designators_onto (x ∷ xs) others = syntax.more_designators (designator_of x) (designators_onto xs others)

pub one_more_designator : (xs : List Designator) (x : Designator) (others : syntax.Designators) → designators_onto (xs ++ x ∷ []) others ≡ designators_onto xs (syntax.more_designators (designator_of x) others)
one_more_designator [] x others = refl
one_more_designator (y ∷ ys) x others = ap (syntax.more_designators (designator_of y)) (one_more_designator ys x others)

pub no_more_designators : (xs : List Designator) → designators_onto xs syntax.no_designators ≡ designators_of xs
no_more_designators [] = refl
no_more_designators (x ∷ xs) = ap (syntax.more_designators (designator_of x)) (no_more_designators xs)
