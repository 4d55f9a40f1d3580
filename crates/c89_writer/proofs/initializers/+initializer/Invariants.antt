use Rattle.std.proofs.Common.{◌≡◌, ◌++◌, ◌*◌, drop}
use Rattle.c89_tree.specs.ProgramNodes89.{inits}
use Rattle.model_c89.specs.Spelling89.{inits_text}
use Rattle.c89_tree.specs.apparatus.UnitSizes.{init_nodes, inits_nodes}
use Rattle.c89_writer.proofs.initializers.+initializer.Given as goal

abbrev pub decreases-push_init : goal.decreases-push_init
decreases-push_init l = 2 * init_nodes l.init.now

abbrev pub decreases-push_inits : goal.decreases-push_inits
decreases-push_inits l = 2 * inits_nodes (inits l.others.now)

abbrev pub invariant-push_inits-loop-other : goal.invariant-push_inits-loop-other
invariant-push_inits-loop-other l = l.out ++ inits_text (inits (drop l.other-index l.others)) ≡ l.initial.out ++ inits_text (inits l.others)
