-- What values, bodies and ranges of ids stand for.
use Rattle.std.specs.Prelude.{ℕ}
use Rattle.core_tree.specs.CoreNodes.{initials}
use Rattle.core_tree.specs.CoreStatForms.{ids}
use Rattle.model_checking.specs.State as m
use Rattle.check_state.specs.declared.values.Valued.{Valued}
use Rattle.check_state.specs.declared.values.Body.{Body}
use Rattle.check_state.specs.declared.values.IdRange.{IdRange}

abbrev pub valued_of : Valued → m.Valued
valued_of v = record { id = v.id.0; type = v.ty; values = initials v.values }

abbrev pub body_of : Body → m.Body
body_of b = record { id = b.id.0; literal = b.literal; type = b.ty; parameters = ids b.parameters; body = b.body }

abbrev pub range_of : IdRange → ℕ × ℕ
range_of r = (r.from, r.to)
