use Rattle.model_macros.specs.Macros.{found}
use Rattle.pp_definitions.proofs.TableLaws.{defines-same, defines-new, standing-none}
use Rattle.pp_definitions.proofs.table.MacroTable.define.Goals as goal

pub returns-in-Some-true : goal.returns-in-Some-true
returns-in-Some-true c = defines-same c.args.self.now c.args.def c.in-Some-true.field-0 c.in-Some-true.ensures c.in-Some-true.field-0-test

pub returns-in-Ok : goal.returns-in-Ok
returns-in-Ok c = defines-new c.args.self.now c.args.def c.add.new.self (standing-none c.args.def (found c.args.def.name c.args.self.now.entries) c.in-None.ensures) c.in-Ok.ensures.ok
