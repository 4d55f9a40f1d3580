-- What is an expression by the grammar is read as one, behind whatever frames it stands.
use Rattle.std.proofs.Common.{◌≡◌, ℕ, suc, ◌<◌, ◌≤◌, true, false, nat_le, List, [], ◌∷◌, ◌++◌, Option, Some, None, refl, ap, ◌∙◌, subst, arith, append_assoc, cond}
use Rattle.std.proofs.lemmas.Bool.Decides.{nat_tests}
use Rattle.model_conditions.specs.declared.conditions.ConditionToken.{ConditionToken}
use Rattle.model_conditions.specs.declared.conditions.ConditionToken.TheVariants as token
use Rattle.model_conditions.specs.declared.conditions.Infix.{Infix}
use Rattle.model_conditions.specs.declared.conditions.Infix.TheVariants.{Integer, Logic}
use Rattle.model_types.specs.declared.numbers.BinOp.TheVariants.{Mul, Div, Rem, Add, Sub, ShiftLeft, ShiftRight, Less, Greater, LessEqual, GreaterEqual, Equal, NotEqual, BitAnd, BitXor, BitOr}
use Rattle.model_types.specs.declared.operators.LogicOp.TheVariants.{And, Or}
use Rattle.model_conditions.specs.declared.conditions.Prefix.{Prefix}
use Rattle.model_conditions.specs.declared.conditions.Prefix.TheVariants.{Plus, Minus, Complement, Not}
use Rattle.model_conditions.specs.ConditionGrammar.{Condition, kind_of, sign_of, Derives, constants, parentheses, tighter, signed, operation, chosen}
use Rattle.model_conditions.specs.apparatus.ConditionReader.{Algebra, folded, Frame, parenthesis, prefix, left, question, colon, Reading, Filled, filled, waiting, begun, closed, parted, read_from}

-- an expression of this kind can begin behind these frames
abbrev pub Admits : {A : Type 0} → ℕ → List (Frame A) → Type 0
Admits kind [] = Unit {0}
Admits kind (parenthesis ∷ fs) = Unit {0}
Admits kind (question c ∷ fs) = Unit {0}
Admits kind (colon c l ∷ fs) = Unit {0}
Admits kind (prefix op ∷ fs) = 10 < kind
Admits kind (left op l ∷ fs) = kind_of op < kind

pub Admits-tighter : {A : Type 0} (kind : ℕ) (fs : List (Frame A)) → Admits kind fs → Admits (suc kind) fs
Admits-tighter kind [] a = tt
Admits-tighter kind (parenthesis ∷ fs) a = tt
Admits-tighter kind (question c ∷ fs) a = tt
Admits-tighter kind (colon c l ∷ fs) a = tt
Admits-tighter kind (prefix op ∷ fs) a = omega arith
Admits-tighter kind (left op l ∷ fs) a = omega arith

tight : (k n : ℕ) → k ≤ n → nat_le k n ≡ true
tight k n h = grind (arith, nat_tests)

loose : (k n : ℕ) → n < k → nat_le k n ≡ false
loose k n h = grind (arith, nat_tests)

pub kind_of-bounds : (op : Infix) → (0 < kind_of op) × (kind_of op ≤ 10)
kind_of-bounds (Logic Or) = (omega arith, omega arith)
kind_of-bounds (Logic And) = (omega arith, omega arith)
kind_of-bounds (Integer Mul) = (omega arith, omega arith)
kind_of-bounds (Integer Div) = (omega arith, omega arith)
kind_of-bounds (Integer Rem) = (omega arith, omega arith)
kind_of-bounds (Integer Add) = (omega arith, omega arith)
kind_of-bounds (Integer Sub) = (omega arith, omega arith)
kind_of-bounds (Integer ShiftLeft) = (omega arith, omega arith)
kind_of-bounds (Integer ShiftRight) = (omega arith, omega arith)
kind_of-bounds (Integer Less) = (omega arith, omega arith)
kind_of-bounds (Integer Greater) = (omega arith, omega arith)
kind_of-bounds (Integer LessEqual) = (omega arith, omega arith)
kind_of-bounds (Integer GreaterEqual) = (omega arith, omega arith)
kind_of-bounds (Integer Equal) = (omega arith, omega arith)
kind_of-bounds (Integer NotEqual) = (omega arith, omega arith)
kind_of-bounds (Integer BitAnd) = (omega arith, omega arith)
kind_of-bounds (Integer BitXor) = (omega arith, omega arith)
kind_of-bounds (Integer BitOr) = (omega arith, omega arith)

begun-sign : {A : Type 0} (alg : Algebra A) (fs : List (Frame A)) (op : Prefix) → begun alg fs (sign_of op) ≡ waiting (prefix op) fs
begun-sign alg fs Plus = refl
begun-sign alg fs Minus = refl
begun-sign alg fs Complement = refl
begun-sign alg fs Not = refl

module _ {A : Type 0} (alg : Algebra A) where
  -- frames that admit an expression of a kind aren't as tight as it is
  pub filled-none : {kind : ℕ} (fs : List (Frame A)) (a : A) → 0 < kind → kind ≤ 10 → Admits kind fs → filled alg kind fs a ≡ record { frames = fs; operand = a }
  filled-none [] a h g m = refl
  filled-none (parenthesis ∷ fs) a h g m = refl
  filled-none (question c ∷ fs) a h g m = refl
  filled-none {kind} (colon c l ∷ fs) a h g m =
      ap (λ t. cond t (filled alg kind fs (alg.of_choice c l a)) (record { frames = colon c l ∷ fs; operand = a })) (loose kind 0 h)
  filled-none {kind} (left op l ∷ fs) a h g m =
      ap (λ t. cond t (filled alg kind fs (alg.of_binary op l a)) (record { frames = left op l ∷ fs; operand = a })) (loose kind (kind_of op) m)
  filled-none (prefix op ∷ fs) a h g m = absurd (omega arith)

  pub filled-left : {kind : ℕ} (op : Infix) (l : A) (fs : List (Frame A)) (a : A) → kind ≤ kind_of op →
      filled alg kind (left op l ∷ fs) a ≡ filled alg kind fs (alg.of_binary op l a)
  filled-left {kind} op l fs a h =
      ap (λ t. cond t (filled alg kind fs (alg.of_binary op l a)) (record { frames = left op l ∷ fs; operand = a })) (tight kind (kind_of op) h)

  pub filled-colon : {kind : ℕ} (c l : A) (fs : List (Frame A)) (a : A) → kind ≤ 0 →
      filled alg kind (colon c l ∷ fs) a ≡ filled alg kind fs (alg.of_choice c l a)
  filled-colon {kind} c l fs a h =
      ap (λ t. cond t (filled alg kind fs (alg.of_choice c l a)) (record { frames = colon c l ∷ fs; operand = a })) (tight kind 0 h)

  -- what is read where an operand has to come behind these frames, and what is behind one
  abbrev pub from : List (Frame A) → List ConditionToken → Option A
  from fs ts = read_from alg (Some (record { frames = fs; operand = None })) ts

  abbrev pub behind : List (Frame A) → A → List ConditionToken → Option A
  behind fs a ts = read_from alg (Some (record { frames = fs; operand = Some a })) ts

  -- the frames and the operand behind which reading stands when the tokens are read, as good as the value a
  pub record Stands (kind : ℕ) (fs : List (Frame A)) (a : A) (ts rest : List ConditionToken) : Type 0 where
    pub frames : List (Frame A)
    pub operand : A
    pub reads : from fs (ts ++ rest) ≡ behind frames operand rest
    pub fills : (k : ℕ) → k ≤ kind → filled alg k frames operand ≡ filled alg k fs a

  pub stands : {kind : ℕ} {ts : List ConditionToken} {e : Condition} → Derives kind ts e →
      (fs : List (Frame A)) → Admits kind fs → (rest : List ConditionToken) → Stands kind fs (folded alg e) ts rest
  stands (constants n q) fs m rest = record {
    frames = fs;
    operand = alg.of_constant n;
    reads = ap (λ (z : List ConditionToken). from fs (z ++ rest)) q;
    fills = λ k h. refl;
  }
  stands (parentheses {e = e} inner d q) fs m rest =
      let s = stands d (parenthesis ∷ fs) tt (token.Close ∷ rest) in
      record {
        frames = fs;
        operand = folded alg e;
        reads = ap (λ (z : List ConditionToken). from fs (z ++ rest)) q
            ∙ ap (λ (z : List ConditionToken). from (parenthesis ∷ fs) z) (append_assoc inner (token.Close ∷ []) rest)
            ∙ s.reads
            ∙ ap (λ (f : Filled A). read_from alg (closed f.frames f.operand) rest) (s.fills 0 (omega arith));
        fills = λ k h. refl;
      }
  stands (tighter d) fs m rest =
      let s = stands d fs (Admits-tighter _ fs m) rest in
      record { frames = s.frames; operand = s.operand; reads = s.reads; fills = λ k h. s.fills k (omega arith) }
  stands (signed op operand d q) fs m rest =
      let s = stands d (prefix op ∷ fs) (omega arith) rest in
      record {
        frames = s.frames;
        operand = s.operand;
        reads = ap (λ (z : List ConditionToken). from fs (z ++ rest)) q
            ∙ ap (λ (o : Option (Reading A)). read_from alg o (operand ++ rest)) (begun-sign alg fs op)
            ∙ s.reads;
        fills = s.fills;
      }
  stands (operation {l = l} {r = r} op ls rs qk dl dr q) fs m rest =
      let s = stands dl fs m (token.Operator op ∷ (rs ++ rest)) in
      let u = stands dr (left op (folded alg l) ∷ fs) (omega (arith, qk)) rest in
      let b = kind_of-bounds op in
      record {
        frames = u.frames;
        operand = u.operand;
        reads = ap (λ (z : List ConditionToken). from fs (z ++ rest)) q
            ∙ ap (λ (z : List ConditionToken). from fs z) (append_assoc ls (token.Operator op ∷ rs) rest)
            ∙ s.reads
            ∙ ap (λ (f : Filled A). read_from alg (waiting (left op f.operand) f.frames) (rs ++ rest))
            (s.fills (kind_of op) (omega (arith, qk)) ∙ filled-none fs (folded alg l) b.0 b.1 (subst (λ (k : ℕ). Admits k fs) qk m))
            ∙ u.reads;
        fills = λ k h. u.fills k (omega arith) ∙ filled-left op (folded alg l) fs (folded alg r) (omega (arith, qk));
      }
  stands (chosen {c = c} {l = l} {r = r} cs ls rs dc dl dr q) fs m rest =
      let s = stands dc fs (Admits-tighter _ fs m) (token.Question ∷ ((ls ++ token.Colon ∷ rs) ++ rest)) in
      let u = stands dl (question (folded alg c) ∷ fs) tt (token.Colon ∷ (rs ++ rest)) in
      let v = stands dr (colon (folded alg c) (folded alg l) ∷ fs) tt rest in
      record {
        frames = v.frames;
        operand = v.operand;
        reads = ap (λ (z : List ConditionToken). from fs (z ++ rest)) q
            ∙ ap (λ (z : List ConditionToken). from fs z) (append_assoc cs (token.Question ∷ (ls ++ token.Colon ∷ rs)) rest)
            ∙ s.reads
            ∙ ap (λ (f : Filled A). read_from alg (waiting (question f.operand) f.frames) ((ls ++ token.Colon ∷ rs) ++ rest))
            (s.fills 1 (omega arith) ∙ filled-none fs (folded alg c) (omega arith) (omega arith) (Admits-tighter _ fs m))
            ∙ ap (λ (z : List ConditionToken). from (question (folded alg c) ∷ fs) z) (append_assoc ls (token.Colon ∷ rs) rest)
            ∙ u.reads
            ∙ ap (λ (f : Filled A). read_from alg (parted f.frames f.operand) (rs ++ rest)) (u.fills 0 (omega arith))
            ∙ v.reads;
        fills = λ k h. v.fills k h ∙ filled-colon (folded alg c) (folded alg l) fs (folded alg r) h;
      }
