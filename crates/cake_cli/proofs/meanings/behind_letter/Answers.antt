use Rattle.std.proofs.lemmas.Str.Pattern.{strip_prefix_char}
use Rattle.cake_cli.proofs.WordLaws.{behind_is}
use Rattle.cake_cli.proofs.meanings.behind_letter.Goals as goal

pub returns : goal.returns
returns c = behind_is c.args.letter c.args.text.now _ (strip_prefix_char c.args.letter c.args.text.now _ c.strip_prefix.ensures.cases c.requires)
