-- What the twin of what a declarator gives stands for.
use Rattle.model_checking.specs.Parts as m
use Rattle.check_specifiers.specs.Storages.{storage_in}
use Rattle.check_declarators.specs.declared.declared.Declared.{Declared}

abbrev pub declared_of : Declared → m.Declared
declared_of d = record {
  name = d.name;
  place = d.place;
  type = d.ty;
  storage = storage_in d.storage;
  first = d.first;
  parameters = d.parameters;
  fault = d.fault;
}
