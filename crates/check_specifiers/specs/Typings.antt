-- What the twin of a typing stands for.
use Rattle.model_checking.specs.DeclaratorTypes as m
use Rattle.check_specifiers.specs.declared.derivations.Typing.{Typing}

abbrev pub typing_of : Typing → m.Typing
typing_of x = m.typing x.ty x.fault
