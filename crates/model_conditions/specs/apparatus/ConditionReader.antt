-- A reader of conditions, which says of any tokens whether they are a condition. It computes as it
-- reads, in any algebra of conditions. No meaning rests on it: it shows that each list of tokens is
-- one tree at most, and that there is a judgement for each.
use Rattle.std.specs.Prelude.{ℕ, nat_le, if◌then◌else◌, List, [], ◌∷◌, Option, Some, None}
use Rattle.model_conditions.specs.declared.conditions.ConditionToken.{ConditionToken}
use Rattle.model_conditions.specs.declared.conditions.ConditionToken.TheVariants as token
use Rattle.model_conditions.specs.declared.conditions.Infix.{Infix}
use Rattle.model_conditions.specs.declared.conditions.Infix.TheVariants.{Integer}
use Rattle.model_conditions.specs.declared.conditions.Prefix.{Prefix}
use Rattle.model_conditions.specs.declared.conditions.Prefix.TheVariants.{Plus, Minus, Complement, Not}
use Rattle.model_conditions.specs.declared.conditions.WideNumber.{WideNumber}
use Rattle.model_types.specs.declared.numbers.BinOp.TheVariants.{Add, Sub}
use Rattle.model_conditions.specs.ConditionGrammar.{Condition, constant, unary, binary, choice, kind_of}

-- what the four forms of a condition give
pub record Algebra (A : Type 0) : Type 0 where
  pub of_constant : WideNumber → A
  pub of_unary : Prefix → A → A
  pub of_binary : Infix → A → A → A
  pub of_choice : A → A → A → A

-- what a whole condition gives
abbrev pub folded : {A : Type 0} → Algebra A → Condition → A
folded alg (constant n) = alg.of_constant n
folded alg (unary op e) = alg.of_unary op (folded alg e)
folded alg (binary op l r) = alg.of_binary op (folded alg l) (folded alg r)
folded alg (choice c l r) = alg.of_choice (folded alg c) (folded alg l) (folded alg r)

-- a part that waits for the operand that is read now
pub data Frame (A : Type 0) : Type 0 where
  parenthesis : Frame A
  prefix : Prefix → Frame A
  left : Infix → A → Frame A
  question : A → Frame A
  colon : A → A → Frame A

-- the frames, the innermost first, and the operand behind which reading stands; none where one has to come
pub record Reading (A : Type 0) : Type 0 where
  pub frames : List (Frame A)
  pub operand : Option A

-- frames with an operand
pub record Filled (A : Type 0) : Type 0 where
  pub frames : List (Frame A)
  pub operand : A

-- the operand put into the frames that are as tight as this kind of expression
abbrev pub filled : {A : Type 0} → Algebra A → ℕ → List (Frame A) → A → Filled A
filled alg kind [] a = record { frames = []; operand = a }
filled alg kind (parenthesis ∷ fs) a = record { frames = parenthesis ∷ fs; operand = a }
filled alg kind (question c ∷ fs) a = record { frames = question c ∷ fs; operand = a }
filled alg kind (prefix op ∷ fs) a = filled alg kind fs (alg.of_unary op a)
filled alg kind (left op l ∷ fs) a =
    if nat_le kind (kind_of op) then filled alg kind fs (alg.of_binary op l a) else record { frames = left op l ∷ fs; operand = a }
filled alg kind (colon c l ∷ fs) a =
    if nat_le kind 0 then filled alg kind fs (alg.of_choice c l a) else record { frames = colon c l ∷ fs; operand = a }

abbrev pub waiting : {A : Type 0} → Frame A → List (Frame A) → Option (Reading A)
waiting f fs = Some (record { frames = f ∷ fs; operand = None })

abbrev pub standing : {A : Type 0} → List (Frame A) → A → Option (Reading A)
standing fs a = Some (record { frames = fs; operand = Some a })

-- ---- where an operand has to come

-- `+` and `-` as unary operators
abbrev pub signed : {A : Type 0} → Infix → List (Frame A) → Option (Reading A)
signed (Integer Add) fs = waiting (prefix Plus) fs
signed (Integer Sub) fs = waiting (prefix Minus) fs
signed op fs = None

abbrev pub begun : {A : Type 0} → Algebra A → List (Frame A) → ConditionToken → Option (Reading A)
begun alg fs (token.Constant n) = standing fs (alg.of_constant n)
begun alg fs token.Open = waiting parenthesis fs
begun alg fs token.Complement = waiting (prefix Complement) fs
begun alg fs token.Not = waiting (prefix Not) fs
begun alg fs (token.Operator op) = signed op fs
begun alg fs token.Close = None
begun alg fs token.Question = None
begun alg fs token.Colon = None

-- ---- behind an operand

abbrev pub closed : {A : Type 0} → List (Frame A) → A → Option (Reading A)
closed (parenthesis ∷ fs) a = standing fs a
closed fs a = None

abbrev pub parted : {A : Type 0} → List (Frame A) → A → Option (Reading A)
parted (question c ∷ fs) a = waiting (colon c a) fs
parted fs a = None

abbrev pub continued : {A : Type 0} → Algebra A → List (Frame A) → A → ConditionToken → Option (Reading A)
continued alg fs a (token.Operator op) = let f = filled alg (kind_of op) fs a in waiting (left op f.operand) f.frames
continued alg fs a token.Question = let f = filled alg 1 fs a in waiting (question f.operand) f.frames
continued alg fs a token.Colon = let f = filled alg 0 fs a in parted f.frames f.operand
continued alg fs a token.Close = let f = filled alg 0 fs a in closed f.frames f.operand
continued alg fs a (token.Constant n) = None
continued alg fs a token.Open = None
continued alg fs a token.Complement = None
continued alg fs a token.Not = None

-- ---- the whole

abbrev pub next : {A : Type 0} → Algebra A → Option A → List (Frame A) → ConditionToken → Option (Reading A)
next alg None fs t = begun alg fs t
next alg (Some a) fs t = continued alg fs a t

-- the operand, where no frame waits any longer
abbrev pub alone : {A : Type 0} → List (Frame A) → A → Option A
alone [] a = Some a
alone (f ∷ fs) a = None

abbrev pub whole : {A : Type 0} → Filled A → Option A
whole f = alone f.frames f.operand

abbrev pub ended : {A : Type 0} → Algebra A → List (Frame A) → Option A → Option A
ended alg fs None = None
ended alg fs (Some a) = whole (filled alg 0 fs a)

-- what the tokens give from there on; nothing where they are no condition
abbrev pub read_from : {A : Type 0} → Algebra A → Option (Reading A) → List ConditionToken → Option A
read_from alg None ts = None
read_from alg (Some s) [] = ended alg s.frames s.operand
read_from alg (Some s) (t ∷ ts) = read_from alg (next alg s.operand s.frames t) ts

abbrev pub read : {A : Type 0} → Algebra A → List ConditionToken → Option A
read alg ts = read_from alg (Some (record { frames = []; operand = None })) ts
