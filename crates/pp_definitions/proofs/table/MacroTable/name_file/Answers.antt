use Rattle.std.proofs.Common.{◌∙◌, ap, sym, List, ℕ}
use Rattle.model_macros.specs.Macros.{with_file}
use Rattle.pp_definitions.proofs.TableLaws.{added-file, same_pairs, table-parts}
use Rattle.pp_definitions.proofs.table.MacroTable.name_file.Goals as goal

pub returns-clause-ok : goal.returns-clause-ok
returns-clause-ok c = table-parts _ _ _ _
    (ap (λ t. t.entries) c.self.view_is)
    (same_pairs c.insert.new.self.entries ∙ c.in_ok-insert.ensures.entries ∙ added-file c.args.file c.in_ok-name.name c.self.inside.files.entries
    ∙ ap (λ (z : List ℕ). with_file c.args.file z c.self.inside.files.entries) c.in_ok-name.ensures
    ∙ ap (with_file c.args.file c.args.name.now) (sym (same_pairs c.self.inside.files.entries)) ∙ ap (λ t. with_file c.args.file c.args.name.now t.files) c.self.view_is)
