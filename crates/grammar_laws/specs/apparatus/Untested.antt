-- A table without its tests of the tokens ahead: both alternatives stand where such a test chooses. The tests that the
-- grammar has stay.
use Rattle.model_grammar.specs.declared.grammar.Test.{Test}
use Rattle.model_grammar.specs.declared.grammar.Test.TheVariants as test
use Rattle.model_grammar.specs.GrammarForm.{Form, word, rule, empty, ◌then◌, ◌or◌, maybe, many, when, loop}

-- either, where the second may be nothing
unfoldable pub either : Form → Form → Form
either f empty = maybe f
either f g = f or g

-- what a test chose between
unfoldable pub open_choice : Test → Form → Form → Form
open_choice test.HasParameters f g = when test.HasParameters f g
open_choice test.ElseAhead f g = when test.ElseAhead f g
open_choice _ f g = either f g

-- what a test repeated
unfoldable pub open_loop : Test → Form → Form
open_loop test.TypeAhead f = loop test.TypeAhead f
open_loop _ f = many f

unfoldable pub untested : Form → Form
untested (word ks a) = word ks a
untested (rule r) = rule r
untested empty = empty
untested (f then g) = untested f then untested g
untested (f or g) = untested f or untested g
untested (maybe f) = maybe (untested f)
untested (many f) = many (untested f)
untested (when p f g) = open_choice p (untested f) (untested g)
untested (loop p f) = open_loop p (untested f)
