-- Waiting parts, as the reader of conditions has them.
use Rattle.std.specs.Prelude.{ℕ, Bool, true, false, nat_le, List, [], ◌∷◌, Option, Some, None}
use Rattle.model_conditions.specs.ConditionGrammar.{kind_of}
use Rattle.model_conditions.specs.ConditionValues.{Valued, of_unary, of_binary, of_choice}
use Rattle.model_conditions.specs.apparatus.ConditionReader as reader
use Rattle.pp_conditions.specs.declared.frames.Frame.{Frame}
use Rattle.pp_conditions.specs.declared.frames.Frame.TheVariants.{Parenthesis, Prefix, Left, Question, Colon}

abbrev pub one : Frame → reader.Frame Valued
one Parenthesis = reader.parenthesis
one (Prefix op) = reader.prefix op
one (Left op left) = reader.left op left
one (Question test) = reader.question test
one (Colon test first) = reader.colon test first

abbrev pub all : List Frame → List (reader.Frame Valued)
all [] = []
all (f ∷ fs) = one f ∷ all fs

-- a part that takes an operand of that kind
abbrev pub is_tight_frame : ℕ → Frame → Bool
is_tight_frame kind Parenthesis = false
is_tight_frame kind (Prefix op) = true
is_tight_frame kind (Left op left) = nat_le kind (kind_of op)
is_tight_frame kind (Question test) = false
is_tight_frame kind (Colon test first) = nat_le kind 0

abbrev pub is_tight : ℕ → List Frame → Bool
is_tight kind [] = false
is_tight kind (f ∷ fs) = is_tight_frame kind f

-- the operand put into a part
abbrev pub put : Frame → Valued → Valued
put Parenthesis a = a
put (Prefix op) a = of_unary op a
put (Left op left) a = of_binary op left a
put (Question test) a = a
put (Colon test first) a = of_choice test first a
