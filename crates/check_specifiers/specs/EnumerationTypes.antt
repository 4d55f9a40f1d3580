-- The type of an enumeration, as the code keeps it.
use Rattle.model_checking.specs.Enumerations as m
use Rattle.check_specifiers.specs.declared.enumerations.Enumeration.{Enumeration}

abbrev pub enumeration_of : Enumeration → m.Enumeration
enumeration_of e = record { type = e.ty; is_fixed = e.is_fixed }
