use Rattle.c_types.proofs.tests.structures_are_completed_and_copied.Goals as goal

pub complete-requires-clause-complete : goal.complete-requires-clause-complete
complete-requires-clause-complete g c = c.in-Ok.ensures.complete _
