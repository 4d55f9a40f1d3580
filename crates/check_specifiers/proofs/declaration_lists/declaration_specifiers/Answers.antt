use Rattle.std.proofs.Common.{subst, Option, Result}
use Rattle.model_types.specs.Types.{CType}
use Rattle.check_base.specs.declared.errors.CheckError.{CheckError}
use Rattle.check_base.specs.Answers.{Answers}
use Rattle.check_specifiers.proofs.declaration_lists.declaration_specifiers.Goals as goal

pub returns-in-Err : goal.returns-in-Err
returns-in-Err c due s h = c.with_refusal.ensures due s (subst (λ (r : Result (Option CType) CheckError). Answers r due s) c.in-Err.is h)
