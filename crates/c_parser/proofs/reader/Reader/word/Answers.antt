use Rattle.c_parser.proofs.ReaderSteps.{word_faults, end_faults, word_meets, word_reads}
use Rattle.c_parser.proofs.reader.Reader.word.Goals as goal

pub returns-then-not-is_one : goal.returns-then-not-is_one
returns-then-not-is_one c = word_faults _ _ _ _ _ _ c.in-Some.rest.now c.in-Some.token c.in-Some.ensures (cc)

pub returns-in-None : goal.returns-in-None
returns-in-None c = end_faults _ _ _ _ _ _ c.in-None.ensures

pub returns-then-is_too_deep : goal.returns-then-is_too_deep
returns-then-is_too_deep c = word_meets _ _ _ _ _ _ c.in-Some.rest.now c.in-Some.token _ c.in-Some.ensures (cc) c.is_too_deep.ensures c.if-is_too_deep.true

pub returns-in_ok-put_leaf-in-Some : goal.returns-in_ok-put_leaf-in-Some
returns-in_ok-put_leaf-in-Some c = word_reads _ _ _ _ _ _ _ _ _ c.in-Some.token _ c.in-Some.ensures (cc) c.in_ok-after-in-Some.ensures c.is_too_deep.ensures c.if-is_too_deep.false c.behind_token-self.ensures c.in_ok-put_leaf-in-Some.ensures
