use Rattle.std.proofs.Common.{◌≡◌, sym, subst, Option, Err}
use Rattle.c_tree.specs.SyntaxViews.{specs_items, init_declarators_of}
use Rattle.model_types.specs.Types.{CType}
use Rattle.model_checking.specs.State.{Answer}
use Rattle.model_checking.specs.DeclarationSpecifiers as m
use Rattle.check_base.specs.Broken.{Broken}
use Rattle.check_base.specs.Answers.{Answers}
use Rattle.check_specifiers.specs.Contexts.{context_of}
use Rattle.check_specifiers.specs.SpecifiedTypes.{as_specified}
use Rattle.check_specifiers.proofs.declaration_lists.with_refusal.Goals as goal

pub returns-in-Fault : goal.returns-in-Fault
returns-in-Fault c due s h =
    let faulty : due ≡ Err c.in-Fault.fault = subst (λ e. Broken e due) c.in-Fault.is h in
    subst (λ (d : Answer (Option CType)).
    Answers (as_specified c.with_fault_given.result) (m.declaration_specifiers (context_of c.args.context) (specs_items c.args.specs.now) (init_declarators_of c.args.declarators.now) d) s)
    (sym faulty) (c.with_fault_given.ensures s)
