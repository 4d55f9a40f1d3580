use Rattle.std.proofs.Common.{◌≡◌, ◌++◌, drop, take}
use Rattle.model_tokens.specs.JoinedLines.{bytes}
use Rattle.c_tokens.proofs.text.take_text.Given as goal

abbrev pub invariant-loop-left : goal.invariant-loop-left
invariant-loop-left l = record {
  rest : drop l.left l.from ≡ drop l.n l.initial.from;
  text : l.text ++ take l.left (bytes l.from) ≡ take l.n (bytes l.initial.from);
}

abbrev pub decreases-loop-left : goal.decreases-loop-left
decreases-loop-left l = l.left
