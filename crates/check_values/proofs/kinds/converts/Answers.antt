use Rattle.model_types.specs.Types.{form_of_type}
use Rattle.check_values.proofs.TypeTests.{integer_taken}
use Rattle.check_values.proofs.kinds.converts.Goals as goal

pub returns-in-Integer : goal.returns-in-Integer
returns-in-Integer c =
    integer_taken c.integer_takes.result c.args.is_null (form_of_type c.args.from.now) (form_of_type c.args.to.now) _ (cc) c.integer_takes.ensures
