use Rattle.std.proofs.Common.{◌≡◌, ap, sym, subst, Some, IfOk}
use Rattle.std.specs.Option.{option_copied}
use Rattle.model_checking.specs.State.{State, in_scopes}
use Rattle.model_checking.specs.DeclaratorNames.{rule_at}
use Rattle.model_checking.specs.Enumerations as m
use Rattle.check_tags.proofs.enumerations.braces_fault.Goals as goal

pub returns-in-Some : goal.returns-in-Some
returns-in-Some c =
    let e : option_copied c.args.tag ≡ Some c.in-Some.name.now = ap option_copied c.in-Some.is in
    subst (λ o. IfOk c.named_braces_fault.result (λ fault. (s : State) → fault ≡ rule_at (m.braces_rule c.args.place (in_scopes c.args.scopes.now s)) o)) (sym e) c.named_braces_fault.ensures
