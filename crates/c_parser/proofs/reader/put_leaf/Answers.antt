use Rattle.c_parser.proofs.PutValues.{push_seen}
use Rattle.c_parser.proofs.reader.put_leaf.Goals as goal

pub returns-in_ok-push : goal.returns-in_ok-push
returns-in_ok-push c = push_seen _ _ _ _ _ c.if-builds.true c.in_ok-push.ensures.ok c.in_ok-made.ensures
