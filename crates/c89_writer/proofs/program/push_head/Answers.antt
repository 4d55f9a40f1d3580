use Rattle.std.proofs.Common.{arith}
use Rattle.std.proofs.lemmas.Grind.{common_steps}
use Rattle.c89_tree.specs.UnitProgramForms.{function_of}
use Rattle.c89_writer.proofs.SideLaws.{head_written}
use Rattle.c89_writer.proofs.program.push_head.Goals as goal

pub returns : goal.returns
returns c = rw (head_written (function_of c.args.form.now)) (grind (arith, common_steps))
