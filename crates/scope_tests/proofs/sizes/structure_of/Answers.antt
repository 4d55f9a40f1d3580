use Rattle.scope_tests.proofs.sizes.structure_of.Goals as goal

-- src/sizes.rt:95:5
pub complete-requires-clause-complete : goal.complete-requires-clause-complete
complete-requires-clause-complete c = c.requires.complete _
