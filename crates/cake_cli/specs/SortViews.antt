-- The code's sorts, as the definitions have them.
use Rattle.cake_cli.specs.declared.sorts.Sort.{Sort}
use Rattle.cake_cli.specs.declared.sorts.Sort.TheVariants as code
use Rattle.cake_cli.specs.Sorts as spec

abbrev pub sort_view : Sort → spec.Sort
sort_view code.IntWord = spec.IntWord
sort_view code.MainName = spec.MainName
sort_view code.OpenParenthesis = spec.OpenParenthesis
sort_view code.VoidWord = spec.VoidWord
sort_view code.CloseParenthesis = spec.CloseParenthesis
sort_view code.OpenBrace = spec.OpenBrace
sort_view code.ReturnWord = spec.ReturnWord
sort_view (code.Constant number) = spec.Constant number.value
sort_view (code.Sign op) = spec.Sign op
sort_view code.Semicolon = spec.Semicolon
sort_view code.CloseBrace = spec.CloseBrace
sort_view code.Other = spec.Other
