-- The items of a block that are read from the front.
use Rattle.std.proofs.Common.{◌≡◌, refl, ap, List, [], ◌∷◌, ◌++◌}
use Rattle.model_grammar.specs.SyntaxForms as syntax
use Rattle.c_tree.specs.SyntaxViews.{block_item_of, block_items_of}
use Rattle.c_tree.specs.declared.syntax_statements.BlockItem.{BlockItem}

abbrev pub block_items_onto : List BlockItem → syntax.BlockItems → syntax.BlockItems
block_items_onto [] others = others
block_items_onto (x ∷ xs) others = syntax.more_block_items (block_item_of x) (block_items_onto xs others)

pub one_more_block_item : (xs : List BlockItem) (x : BlockItem) (others : syntax.BlockItems) → block_items_onto (xs ++ x ∷ []) others ≡ block_items_onto xs (syntax.more_block_items (block_item_of x) others)
one_more_block_item [] x others = refl
one_more_block_item (y ∷ ys) x others = ap (syntax.more_block_items (block_item_of y)) (one_more_block_item ys x others)

pub no_more_block_items : (xs : List BlockItem) → block_items_onto xs syntax.no_block_items ≡ block_items_of xs
no_more_block_items [] = refl
no_more_block_items (x ∷ xs) = ap (syntax.more_block_items (block_item_of x)) (no_more_block_items xs)
