-- The forms of the code as those of the definitions.
use Rattle.c_parser.specs.declared.forms.Form as f
use Rattle.model_grammar.specs.GrammarForm.{Form, word, rule, empty, ◌then◌, ◌or◌, maybe, many, when, loop}

abbrev pub form : f.Form → Form
form (f.Word ks a) = word ks.now a
form (f.Rule r) = rule r
form f.Empty = empty
form (f.Then' _ x _ y) = form x then form y
form (f.Or' _ x _ y) = form x or form y
form (f.Maybe' _ x) = maybe (form x)
form (f.Many' _ x) = many (form x)
form (f.When' t _ x _ y) = when t (form x) (form y)
form (f.Loop' t _ x) = loop t (form x)
