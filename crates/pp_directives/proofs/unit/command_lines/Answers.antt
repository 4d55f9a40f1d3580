use Rattle.pp_directives.proofs.OptionLaws.{define-step}
use Rattle.pp_directives.proofs.unit.command_lines.Goals as goal

pub loop-at-preserved : goal.loop-at-preserved
loop-at-preserved c =
    define-step c.args.options.now.defines c.loop-at.at c.in-Some-Some.name.now c.in-Some-Some.value.now c.loop-at.text c.push_define.new.text _ c.in-Some-Some.ensures c.in-Some-Some.ensures' c.in_ok-push_define.ensures c.loop-at.invariant
