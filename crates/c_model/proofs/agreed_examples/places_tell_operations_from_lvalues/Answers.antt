use Rattle.c_model.proofs.Refused.{operation_where_lvalue_stands as law}
use Rattle.c_model.proofs.agreed_examples.places_tell_operations_from_lvalues.Goals as goal

pub returns-clause-places : goal.returns-clause-places
returns-clause-places c = law
