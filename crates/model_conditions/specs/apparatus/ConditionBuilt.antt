-- What is read as a condition is one by the grammar: the frames are built of the tokens that are read.
use Rattle.std.proofs.Common.{◌≡◌, ℕ, zero, suc, ◌≤◌, true, false, nat_le, List, [], ◌∷◌, ◌++◌, Option, Some, None, refl, sym, ap, ◌∙◌, subst, arith, append_assoc, append-nil, cond}
use Rattle.std.proofs.lemmas.Bool.Decides.{nat_tests}
use Rattle.model_conditions.specs.declared.conditions.ConditionToken.{ConditionToken}
use Rattle.model_conditions.specs.declared.conditions.ConditionToken.TheVariants as token
use Rattle.model_conditions.specs.declared.conditions.Infix.{Infix}
use Rattle.model_conditions.specs.declared.conditions.Infix.TheVariants.{Integer}
use Rattle.model_conditions.specs.declared.conditions.Prefix.{Prefix}
use Rattle.model_conditions.specs.declared.conditions.Prefix.TheVariants.{Plus, Minus, Complement, Not}
use Rattle.model_types.specs.declared.numbers.BinOp.TheVariants.{Add, Sub}
use Rattle.model_conditions.specs.ConditionGrammar.{Condition, constant, unary, binary, choice, kind_of, sign_of, Derives, constants, parentheses, tighter, signed, operation, chosen}
use Rattle.model_conditions.specs.apparatus.ConditionReader.{Algebra, folded, Frame, parenthesis, prefix, left, question, colon, Reading, filled, begun, continued, closed, parted, alone, next, ended, read_from}
use Rattle.model_conditions.specs.apparatus.ConditionReader as reader
use Rattle.model_conditions.specs.apparatus.ConditionFrames.{Admits, Admits-tighter, kind_of-bounds}

loosen : {ts : List ConditionToken} {e : Condition} (k n : ℕ) → k ≤ n → Derives n ts e → Derives k ts e
loosen {ts} {e} k zero h d = let q : 0 ≡ k = omega arith in subst (λ (n : ℕ). Derives n ts e) q d
loosen {ts} {e} k (suc n) h d =
    elim (nat_le k n) as (λ t. nat_le k n ≡ t → Derives k ts e) [
      | true ↦ λ q. loosen k n (grind (arith, nat_tests)) (tighter d)
      | false ↦ λ q. let w : suc n ≡ k = grind (arith, nat_tests) in subst (λ (m : ℕ). Derives m ts e) w d
    ] refl

-- a unary expression can begin behind any frames
Admits-unary : {A : Type 0} (fs : List (Frame A)) → Admits 11 fs
Admits-unary [] = tt
Admits-unary (parenthesis ∷ fs) = tt
Admits-unary (question c ∷ fs) = tt
Admits-unary (colon c l ∷ fs) = tt
Admits-unary (prefix op ∷ fs) = omega arith
Admits-unary (left op l ∷ fs) = let b = kind_of-bounds op in omega (arith, b.1)

Admits-conditional : {A : Type 0} (fs : List (Frame A)) → Admits 1 fs → Admits 0 fs
Admits-conditional [] a = tt
Admits-conditional (parenthesis ∷ fs) a = tt
Admits-conditional (question c ∷ fs) a = tt
Admits-conditional (colon c l ∷ fs) a = tt
Admits-conditional (prefix op ∷ fs) a = absurd (omega arith)
Admits-conditional (left op l ∷ fs) a = let b = kind_of-bounds op in absurd (omega (arith, b.0))

module _ {A : Type 0} (alg : Algebra A) where
  -- these frames wait behind these tokens
  pub data Built : List (Frame A) → List ConditionToken → Type 0 where
    bare : {ts : List ConditionToken} → ts ≡ [] → Built [] ts
    at_parenthesis : {fs : List (Frame A)} {ts : List ConditionToken} → (front : List ConditionToken) → Built fs front →
        ts ≡ front ++ token.Open ∷ [] → Built (parenthesis ∷ fs) ts
    at_prefix : {op : Prefix} {fs : List (Frame A)} {ts : List ConditionToken} → (front : List ConditionToken) → Built fs front →
        ts ≡ front ++ sign_of op ∷ [] → Built (prefix op ∷ fs) ts
    at_left : {op : Infix} {v : A} {fs : List (Frame A)} {ts : List ConditionToken} → (front ls : List ConditionToken) (l : Condition) → Built fs front →
        Admits (kind_of op) fs → Derives (kind_of op) ls l → v ≡ folded alg l →
        ts ≡ front ++ (ls ++ token.Operator op ∷ []) → Built (left op v ∷ fs) ts
    at_question : {v : A} {fs : List (Frame A)} {ts : List ConditionToken} → (front cs : List ConditionToken) (c : Condition) → Built fs front →
        Admits 1 fs → Derives 1 cs c → v ≡ folded alg c →
        ts ≡ front ++ (cs ++ token.Question ∷ []) → Built (question v ∷ fs) ts
    at_colon : {v w : A} {fs : List (Frame A)} {ts : List ConditionToken} → (front cs ls : List ConditionToken) (c l : Condition) → Built fs front →
        Admits 1 fs → Derives 1 cs c → Derives 0 ls l → v ≡ folded alg c → w ≡ folded alg l →
        ts ≡ front ++ (cs ++ token.Question ∷ (ls ++ token.Colon ∷ [])) → Built (colon v w ∷ fs) ts

  -- an operand of this kind stands behind the frames, and ends the tokens
  pub record Ends (kind : ℕ) (fs : List (Frame A)) (a : A) (ts : List ConditionToken) : Type 0 where
    pub front : List ConditionToken
    pub last : List ConditionToken
    pub e : Condition
    pub built : Built fs front
    pub derives : Derives kind last e
    pub admits : Admits kind fs
    pub value : a ≡ folded alg e
    pub parts : ts ≡ front ++ last

  -- an operand as tight as k, put into the frames that are as tight as the kind
  fills : (kind : ℕ) → kind ≤ 11 → (fs : List (Frame A)) (front : List ConditionToken) → Built fs front → (k : ℕ) → kind ≤ k → Admits k fs →
      (last : List ConditionToken) (e : Condition) → Derives k last e → (a : A) → a ≡ folded alg e → (ts : List ConditionToken) → ts ≡ front ++ last →
      Ends kind (filled alg kind fs a).frames (filled alg kind fs a).operand ts
  fills kind g [] front b k h m last e d a v ts p =
      record { front = front; last = last; e = e; built = b; derives = loosen kind k h d; admits = tt; value = v; parts = p }
  fills kind g (parenthesis ∷ fs) front b k h m last e d a v ts p =
      record { front = front; last = last; e = e; built = b; derives = loosen kind k h d; admits = tt; value = v; parts = p }
  fills kind g (question c ∷ fs) front b k h m last e d a v ts p =
      record { front = front; last = last; e = e; built = b; derives = loosen kind k h d; admits = tt; value = v; parts = p }
  fills kind g (prefix op ∷ fs) front (at_prefix before b q) k h m last e d a v ts p =
      fills kind g fs before b 11 g (Admits-unary fs) (sign_of op ∷ last) (unary op e) (signed op last (loosen 11 k m d) refl)
      (alg.of_unary op a) (ap (alg.of_unary op) v) ts
      (p ∙ ap (λ (z : List ConditionToken). z ++ last) q ∙ append_assoc before (sign_of op ∷ []) last)
  fills kind g (left op w ∷ fs) front (at_left before ls l b n dl vl q) k h m last e d a v ts p =
      elim (nat_le kind (kind_of op)) as (λ t. nat_le kind (kind_of op) ≡ t →
      Ends kind (cond t (filled alg kind fs (alg.of_binary op w a)) (record { frames = left op w ∷ fs; operand = a })).frames
      (cond t (filled alg kind fs (alg.of_binary op w a)) (record { frames = left op w ∷ fs; operand = a })).operand ts) [
        | true ↦ λ c. fills kind g fs before b (kind_of op) (grind (arith, nat_tests)) n (ls ++ token.Operator op ∷ last) (binary op l e)
            (operation op ls last refl dl (loosen (suc (kind_of op)) k m d) refl)
            (alg.of_binary op w a) (ap (λ (z : A). alg.of_binary op z a) vl ∙ ap (alg.of_binary op (folded alg l)) v) ts
            (p ∙ ap (λ (z : List ConditionToken). z ++ last) q ∙ simp append_assoc)
        | false ↦ λ c. record {
          front = front;
          last = last;
          e = e;
          built = at_left before ls l b n dl vl q;
          derives = loosen kind k h d;
          admits = grind (arith, nat_tests);
          value = v;
          parts = p;
        }
      ] refl
  fills kind g (colon w x ∷ fs) front (at_colon before cs ls c l b n dc dl vc vl q) k h m last e d a v ts p =
      elim (nat_le kind 0) as (λ t. nat_le kind 0 ≡ t →
      Ends kind (cond t (filled alg kind fs (alg.of_choice w x a)) (record { frames = colon w x ∷ fs; operand = a })).frames
      (cond t (filled alg kind fs (alg.of_choice w x a)) (record { frames = colon w x ∷ fs; operand = a })).operand ts) [
        | true ↦ λ i. fills kind g fs before b 0 (grind (arith, nat_tests)) (Admits-conditional fs n)
            (cs ++ token.Question ∷ (ls ++ token.Colon ∷ last)) (choice c l e)
            (chosen cs ls last dc dl (loosen 0 k (omega arith) d) refl)
            (alg.of_choice w x a)
            (ap (λ (z : A). alg.of_choice z x a) vc ∙ ap (λ (z : A). alg.of_choice (folded alg c) z a) vl ∙ ap (alg.of_choice (folded alg c) (folded alg l)) v) ts
            (p ∙ ap (λ (z : List ConditionToken). z ++ last) q ∙ simp append_assoc)
        | false ↦ λ i. record {
          front = front;
          last = last;
          e = e;
          built = at_colon before cs ls c l b n dc dl vc vl q;
          derives = loosen kind k h d;
          admits = tt;
          value = v;
          parts = p;
        }
      ] refl

  -- the tokens are read up to frames, and maybe an operand behind them
  abbrev pub Sound : List (Frame A) → Option A → List ConditionToken → Type 0
  Sound fs None ts = Built fs ts
  Sound fs (Some a) ts = Ends 12 fs a ts

  same : (r s : Reading A) → Some r ≡ Some s → (ts : List ConditionToken) → Sound r.frames r.operand ts → Sound s.frames s.operand ts
  same r s q ts h = let w : r ≡ s = cc in subst (λ (z : Reading A). Sound z.frames z.operand ts) w h

  -- ---- where an operand has to come

  signs : (fs : List (Frame A)) (ts : List ConditionToken) → Built fs ts → (op : Infix) (s : Reading A) → reader.signed op fs ≡ Some s →
      Sound s.frames s.operand (ts ++ token.Operator op ∷ [])
  signs fs ts b (Integer Add) s = λ q. same _ s q _ (at_prefix {op = Plus} ts b refl)
  signs fs ts b (Integer Sub) s = λ q. same _ s q _ (at_prefix {op = Minus} ts b refl)
  signs fs ts b op s = λ q. cc

  begins : (fs : List (Frame A)) (ts : List ConditionToken) → Built fs ts → (t : ConditionToken) (s : Reading A) → begun alg fs t ≡ Some s →
      Sound s.frames s.operand (ts ++ t ∷ [])
  begins fs ts b (token.Constant n) s = λ q. same _ s q _ (record {
    front = ts;
    last = token.Constant n ∷ [];
    e = constant n;
    built = b;
    derives = constants n refl;
    admits = Admits-tighter 11 fs (Admits-unary fs);
    value = refl;
    parts = refl;
  })
  begins fs ts b token.Open s = λ q. same _ s q _ (at_parenthesis ts b refl)
  begins fs ts b token.Complement s = λ q. same _ s q _ (at_prefix {op = Complement} ts b refl)
  begins fs ts b token.Not s = λ q. same _ s q _ (at_prefix {op = Not} ts b refl)
  begins fs ts b (token.Operator op) s = λ q. signs fs ts b op s q
  begins fs ts b token.Close s = λ q. cc
  begins fs ts b token.Question s = λ q. cc
  begins fs ts b token.Colon s = λ q. cc

  -- ---- behind an operand

  parts : (fs : List (Frame A)) (front : List ConditionToken) → Built fs front → (last : List ConditionToken) (e : Condition) → Derives 0 last e →
      (a : A) → a ≡ folded alg e → (ts : List ConditionToken) → ts ≡ front ++ last → (s : Reading A) → parted fs a ≡ Some s →
      Sound s.frames s.operand (ts ++ token.Colon ∷ [])
  parts (question w ∷ fs) front (at_question before cs c b n dc vc q) last e d a v ts p s = λ r. same _ s r _
      (at_colon before cs last c e b n dc d vc v (ap (λ (z : List ConditionToken). z ++ token.Colon ∷ []) (p ∙ ap (λ (z : List ConditionToken). z ++ last) q) ∙ simp append_assoc))
  parts fs front b last e d a v ts p s = λ r. cc

  closes : (fs : List (Frame A)) (front : List ConditionToken) → Built fs front → (last : List ConditionToken) (e : Condition) → Derives 0 last e →
      (a : A) → a ≡ folded alg e → (ts : List ConditionToken) → ts ≡ front ++ last → (s : Reading A) → closed fs a ≡ Some s →
      Sound s.frames s.operand (ts ++ token.Close ∷ [])
  closes (parenthesis ∷ fs) front (at_parenthesis before b q) last e d a v ts p s = λ r. same _ s r _ (record {
    front = before;
    last = token.Open ∷ (last ++ token.Close ∷ []);
    e = e;
    built = b;
    derives = parentheses last d refl;
    admits = Admits-tighter 11 fs (Admits-unary fs);
    value = v;
    parts = ap (λ (z : List ConditionToken). z ++ token.Close ∷ []) (p ∙ ap (λ (z : List ConditionToken). z ++ last) q) ∙ simp append_assoc;
  })
  closes fs front b last e d a v ts p s = λ r. cc

  fill : (kind : ℕ) → kind ≤ 11 → (fs : List (Frame A)) (a : A) (ts : List ConditionToken) → Ends 12 fs a ts → Ends kind (filled alg kind fs a).frames (filled alg kind fs a).operand ts
  fill kind g fs a ts x = fills kind g fs x.front x.built 12 (omega arith) x.admits x.last x.e x.derives a x.value ts x.parts

  goes_on : (fs : List (Frame A)) (a : A) (ts : List ConditionToken) → Ends 12 fs a ts → (t : ConditionToken) (s : Reading A) → continued alg fs a t ≡ Some s →
      Sound s.frames s.operand (ts ++ t ∷ [])
  goes_on fs a ts x (token.Operator op) s = λ q.
      let b = kind_of-bounds op in
      let f = fill (kind_of op) (omega (arith, b.1)) fs a ts x in
      same _ s q _ (at_left f.front f.last f.e f.built f.admits f.derives f.value
      (ap (λ (z : List ConditionToken). z ++ token.Operator op ∷ []) f.parts ∙ append_assoc f.front f.last (token.Operator op ∷ [])))
  goes_on fs a ts x token.Question s = λ q.
      let f = fill 1 (omega arith) fs a ts x in
      same _ s q _ (at_question f.front f.last f.e f.built f.admits f.derives f.value
      (ap (λ (z : List ConditionToken). z ++ token.Question ∷ []) f.parts ∙ append_assoc f.front f.last (token.Question ∷ [])))
  goes_on fs a ts x token.Colon s = λ q.
      let f = fill 0 (omega arith) fs a ts x in
      parts (filled alg 0 fs a).frames f.front f.built f.last f.e f.derives (filled alg 0 fs a).operand f.value ts f.parts s q
  goes_on fs a ts x token.Close s = λ q.
      let f = fill 0 (omega arith) fs a ts x in
      closes (filled alg 0 fs a).frames f.front f.built f.last f.e f.derives (filled alg 0 fs a).operand f.value ts f.parts s q
  goes_on fs a ts x (token.Constant n) s = λ q. cc
  goes_on fs a ts x token.Open s = λ q. cc
  goes_on fs a ts x token.Complement s = λ q. cc
  goes_on fs a ts x token.Not s = λ q. cc

  -- ---- the whole

  -- a condition that the tokens are, and what it gives
  pub record Found (v : A) (ts : List ConditionToken) : Type 0 where
    pub e : Condition
    pub derives : Derives 0 ts e
    pub value : v ≡ folded alg e

  ends : (fs : List (Frame A)) (front : List ConditionToken) → Built fs front → (last : List ConditionToken) (e : Condition) → Derives 0 last e →
      (a : A) → a ≡ folded alg e → (ts : List ConditionToken) → ts ≡ front ++ last → (v : A) → alone fs a ≡ Some v → Found v ts
  ends [] front (bare q) last e d a w ts p v = λ r.
      let t : ts ≡ last = p ∙ ap (λ (z : List ConditionToken). z ++ last) q in
      let u : v ≡ a = cc in
      record { e = e; derives = subst (λ (z : List ConditionToken). Derives 0 z e) (sym t) d; value = u ∙ w }
  ends (f ∷ fs) front b last e d a w ts p v = λ r. cc

  finishes : (fs : List (Frame A)) (o : Option A) (ts : List ConditionToken) → Sound fs o ts → (v : A) → ended alg fs o ≡ Some v → Found v ts
  finishes fs None ts x v = λ q. cc
  finishes fs (Some a) ts x v = λ q.
      let f = fill 0 (omega arith) fs a ts x in
      ends (filled alg 0 fs a).frames f.front f.built f.last f.e f.derives (filled alg 0 fs a).operand f.value ts f.parts v q

  steps : (fs : List (Frame A)) (o : Option A) (ts : List ConditionToken) → Sound fs o ts → (t : ConditionToken) (s : Reading A) → next alg o fs t ≡ Some s →
      Sound s.frames s.operand (ts ++ t ∷ [])
  steps fs None ts x t s q = begins fs ts x t s q
  steps fs (Some a) ts x t s q = goes_on fs a ts x t s q

  pub finds : (s : Reading A) (ts : List ConditionToken) → Sound s.frames s.operand ts → (rest : List ConditionToken) (v : A) →
      read_from alg (Some s) rest ≡ Some v → Found v (ts ++ rest)
  finds s ts x [] v = λ q. subst (λ (z : List ConditionToken). Found v z) (sym (append-nil ts)) (finishes s.frames s.operand ts x v q)
  finds s ts x (t ∷ rest) v =
      elim (next alg s.operand s.frames t) as (λ o. next alg s.operand s.frames t ≡ o → read_from alg o rest ≡ Some v → Found v (ts ++ t ∷ rest)) [
        | None ↦ λ i q. cc
        | Some r ↦ λ i q. subst (λ (z : List ConditionToken). Found v z) (append_assoc ts (t ∷ []) rest)
            (finds r (ts ++ t ∷ []) (steps s.frames s.operand ts x t r i) rest v q)
      ] refl
