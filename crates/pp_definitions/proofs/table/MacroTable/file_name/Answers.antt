use Rattle.std.proofs.Common.{◌∙◌, ap, sym}
use Rattle.model_macros.specs.Macros.{file_name}
use Rattle.pp_definitions.proofs.TableLaws.{or_empty, file_name-lookup, same_pairs}
use Rattle.pp_definitions.proofs.table.MacroTable.file_name.Goals as goal

pub returns-in-Some : goal.returns-in-Some
returns-in-Some c = c.as_bytes.ensures.value ∙ c.as_str.ensures ∙ ap or_empty c.in-Some.ensures.value ∙ file_name-lookup c.args.file c.self.inside.files.entries
    ∙ ap (file_name c.args.file) (sym (same_pairs c.self.inside.files.entries)) ∙ ap (λ t. file_name c.args.file t.files) c.self.view_is

pub returns-in-None : goal.returns-in-None
returns-in-None c = ap or_empty c.in-None.ensures.value ∙ file_name-lookup c.args.file c.self.inside.files.entries
    ∙ ap (file_name c.args.file) (sym (same_pairs c.self.inside.files.entries)) ∙ ap (λ t. file_name c.args.file t.files) c.self.view_is
