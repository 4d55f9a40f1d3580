-- The words of storage among specifiers, as the code keeps them.
use Rattle.std.specs.Prelude.{◌||◌}
use Rattle.model_checking.specs.Parts as m
use Rattle.check_specifiers.specs.declared.words.Storage.{Storage}

-- what they stand for
abbrev pub storage_in : Storage → m.Storage
storage_in s = record {
  has_typedef = s.has_typedef;
  has_extern = s.has_extern;
  has_static = s.has_static;
  has_auto = s.has_auto;
  has_register = s.has_register;
  has_constexpr = s.has_constexpr;
  has_inline = s.has_inline;
}

-- those of two lists
abbrev pub with_storage : m.Storage → m.Storage → m.Storage
with_storage s r = record {
  has_typedef = s.has_typedef || r.has_typedef;
  has_extern = s.has_extern || r.has_extern;
  has_static = s.has_static || r.has_static;
  has_auto = s.has_auto || r.has_auto;
  has_register = s.has_register || r.has_register;
  has_constexpr = s.has_constexpr || r.has_constexpr;
  has_inline = s.has_inline || r.has_inline;
}
