use Rattle.std.proofs.Common.{◌≡◌, Ok, refl, sym, ◌∙◌, ap, subst}
use Rattle.model_preprocessing.specs.Sources.{number_of}
use Rattle.model_preprocessing.specs.Included.{all_candidates}
use Rattle.model_preprocessing.specs.FileSearch.{searched, built_in_header}
use Rattle.pp_directives.specs.Looks.{Looks}
use Rattle.pp_directives.proofs.SearchLaws.{found-built-in}
use Rattle.pp_directives.proofs.search.find.Goals as goal

pub returns-in-Absent : goal.returns-in-Absent
returns-in-Absent g c =
    let a = g.F.Files.shows c.args.files.now in
    let b = g.F.Files.shows c.find_held.new.files in
    let p = searched c.args.at c.args.header.now.name (all_candidates c.args.options.now.dirs c.args.file c.args.header.now c.args.unit.now) c.args.unit.now in
    let q = built_in_header c.args.at c.args.header.now.name c.args.unit.now (number_of c.args.header.now.name c.args.unit.now.built_in) in
    let absent = subst (λ z. Looks a b p q (Ok z) c.args.unit.now c.find_held.new.unit) c.in-Absent.is c.in_ok-found.ensures in
    let key = c.as_slice.ensures ∙ ap (λ h. h.name) c.header.view_is in
    found-built-in a b c.args.at c.args.header.now.name c.as_slice.result.now p c.args.unit.now c.find_held.new.unit c.find_built_in.new.unit c.find_built_in.result absent.0 absent.1 key c.find_built_in.ensures
