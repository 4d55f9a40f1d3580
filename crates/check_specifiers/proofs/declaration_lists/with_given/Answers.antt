use Rattle.std.proofs.Common.{◌∙◌, refl, ap}
use Rattle.c_tree.specs.SyntaxViews.{specs_items, init_declarators_of}
use Rattle.model_checking.specs.State.{gives}
use Rattle.model_checking.specs.Words as w
use Rattle.model_checking.specs.DeclarationSpecifiers as m
use Rattle.check_specifiers.specs.Contexts.{context_of}
use Rattle.check_specifiers.proofs.declaration_lists.with_given.Goals as goal

pub returns : goal.returns
returns c s =
    c.beside_declarators.ensures (gives c.args.given s) s refl
    (c.block_function_fault-shown.ensures
    ∙ ap (λ g. m.block_function_fault (context_of c.args.context) (w.words_of (specs_items c.args.specs.now)) g (init_declarators_of c.args.declarators.now)) c.as_ref.ensures.value)
