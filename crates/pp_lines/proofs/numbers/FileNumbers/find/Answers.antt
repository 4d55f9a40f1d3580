use Rattle.std.proofs.Common.{◌≡◌, ap, ◌∙◌}
use Rattle.model_preprocessing.specs.Sources.{number_of}
use Rattle.pp_lines.specs.Numbers.{texts}
use Rattle.pp_lines.proofs.NumberLaws.{number-lookup}
use Rattle.pp_lines.proofs.numbers.FileNumbers.find.Goals as goal

pub returns : goal.returns
returns c =
    let looked = number-lookup (λ k. k.items) c.args.name.now c.self.inside.map.entries in
    let seen : number_of c.args.name.now (texts (λ k. k.items) c.self.inside.map.entries) ≡ number_of c.args.name.now c.args.self.now = ap (number_of c.args.name.now) c.self.view_is in
    c.copied.ensures ∙ c.get.ensures.value ∙ looked ∙ seen
