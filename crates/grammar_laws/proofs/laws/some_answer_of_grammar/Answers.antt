use Rattle.grammar_laws.proofs.answers.AtLeastOneAnswer.{answered}
use Rattle.grammar_laws.proofs.laws.some_answer_of_grammar.Goals as goal

pub returns : goal.returns
returns c = answered
