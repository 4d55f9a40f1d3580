use Rattle.cake_cli.proofs.MadeReports.{text_delivers}
use Rattle.cake_cli.proofs.report.unit_text.Goals as goal

pub returns-in-Translate : goal.returns-in-Translate
returns-in-Translate c = text_delivers _ c.args.mode c.args.value.now c.in-Translate.is c.text_of.ensures
