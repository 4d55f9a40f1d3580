use Rattle.std.proofs.Common.{◌∙◌, ap}
use Rattle.model_macros.specs.Macros.{found}
use Rattle.pp_definitions.proofs.TableLaws.{found-lookup}
use Rattle.pp_definitions.proofs.table.MacroTable.find.Goals as goal

pub returns : goal.returns
returns c = c.get.ensures.value ∙ found-lookup (λ k. k.items) c.args.name.now c.self.inside.macros.entries ∙ ap (λ t. found c.args.name.now t.entries) c.self.view_is
