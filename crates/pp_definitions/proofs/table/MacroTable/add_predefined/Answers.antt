use Rattle.model_macros.specs.Macros.{first_table}
use Rattle.pp_definitions.proofs.TableLaws.{one_more_macro}
use Rattle.pp_definitions.proofs.table.MacroTable.add_predefined.Goals as goal

pub returns : goal.returns
unfolding first_table
returns c =
    let one = one_more_macro _ _ _ _ c.requires c.in_ok-add_token.ensures in
    let two = one_more_macro _ _ _ _ one c.in_ok-add_token-2.ensures in
    let three = one_more_macro _ _ _ _ two c.in_ok-add_token-3.ensures in
    let four = one_more_macro _ _ _ _ three c.in_ok-add_token-4.ensures in
    let five = one_more_macro _ _ _ _ four c.in_ok-add_token-5.ensures in
    one_more_macro _ _ _ _ five c.in_ok-add_token-6.ensures
