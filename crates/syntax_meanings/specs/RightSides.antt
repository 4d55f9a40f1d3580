-- What a right side that is read stands for.
use Rattle.std.specs.Prelude.{◌≡◌, List}
use Rattle.model_grammar.specs.SyntaxValues as v
use Rattle.syntax_meanings.specs.declared.right_sides.RightSide.{RightSide}
use Rattle.syntax_meanings.specs.Meanings.{symbols_seen}

-- the symbols without attributes, and the tokens of all, of a right side of these values
pub record IsRightSide (right : RightSide) (values : List v.Value) : Type 0 where
  pub symbols : symbols_seen right.symbols ≡ v.meanings (v.without_attributes values)
  pub all : right.all ≡ v.spanned values
  pub bare : right.bare ≡ v.spanned (v.without_attributes values)
