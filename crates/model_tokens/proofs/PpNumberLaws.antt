-- What stands at the front of a text is the longest preprocessing number that it begins with.
use Rattle.std.proofs.Common.{◌≡◌, ℕ, zero, suc, ◌+◌, ◌≤◌, Bool, true, false, ◌&&◌, ◌||◌, ◌==◌, if◌then◌else◌, List, [], ◌∷◌, ◌++◌, length, take, drop, slice_index, ◌⊎◌, inl, inr, refl, sym, ap, ◌∙◌, subst, arith, append_assoc, length-append}
use Rattle.std.proofs.lemmas.List.{take-append-drop, length-take-le, append-nil}
use Rattle.std.specs.Char.{is_ascii_digit, is_ascii_alphanumeric}
use Rattle.model_tokens.specs.declared.steps.LinePart.{LinePart}
use Rattle.model_tokens.specs.declared.steps.Step.TheVariants.{Token}
use Rattle.model_tokens.specs.declared.tokens.PpKind.TheVariants.{Number}
use Rattle.model_tokens.specs.PpSteps.{number_rest, is_word_byte, is_exponent, step_at}
use Rattle.model_tokens.specs.PpNumbers.{PpNumber, digit, point_digit, word_byte, point, separator, sign, is_sign, StandsNumber}

-- ---- bytes of a class

both_ways : (x y : Bool) → x ≡ true → y ≡ false → x ≡ y → ⊥
both_ways x y is isnt same = let h : true ≡ false = sym is ∙ same ∙ isnt in cc

differs : (class : ℕ → Bool) (b k : ℕ) → class b ≡ true → class k ≡ false → (b == k) ≡ false
differs class b k is isnt = split (b == k) refl
  where
    split : (t : Bool) → (b == k) ≡ t → t ≡ false
    split false e = refl
    split true e = let same : b ≡ k = grind arith in absurd (both_ways (class b) (class k) is isnt (ap class same))

one_of : (p q : Bool) → (p || q) ≡ true → (p ≡ true) ⊎ (q ≡ true)
one_of true q e = inl refl
one_of false q e = inr e

both_of : (p q : Bool) → (p && q) ≡ true → (p ≡ true) × (q ≡ true)
both_of true q e = (refl, e)
both_of false q e = absurd (let h : false ≡ true = e in cc)

alone_equal : (b k : ℕ) → (b == k) ≡ true → b ≡ k
alone_equal b k e = grind arith

sign_is : (b : ℕ) → is_sign b ≡ true → (b ≡ 43) ⊎ (b ≡ 45)
sign_is b s = elim (one_of (b == 43) (b == 45) s) [ inl e ↦ inl (alone_equal b 43 e) | inr e ↦ inr (alone_equal b 45 e) ]

exponent_is_word : (b : ℕ) → is_exponent b ≡ true → is_word_byte b ≡ true
exponent_is_word b e = elim (one_of (b == 101) (b == 69 || (b == 112 || b == 80)) e) [
  | inl h ↦ ap is_word_byte (alone_equal b 101 h)
  | inr h ↦ elim (one_of (b == 69) (b == 112 || b == 80) h) [
    | inl g ↦ ap is_word_byte (alone_equal b 69 g)
    | inr g ↦ elim (one_of (b == 112) (b == 80) g) [
      | inl f ↦ ap is_word_byte (alone_equal b 112 f)
      | inr f ↦ ap is_word_byte (alone_equal b 80 f)
    ]
  ]
]

alphanumeric_is_word : (b : ℕ) → is_ascii_alphanumeric b ≡ true → is_word_byte b ≡ true
alphanumeric_is_word b a = ap (λ p. p || b == 95) a

digit_is_word : (b : ℕ) → is_ascii_digit b ≡ true → is_word_byte b ≡ true
digit_is_word b d = rw (d) refl

no_digit_exponent : (b : ℕ) → is_ascii_digit b ≡ true → is_exponent b ≡ true → ⊥
no_digit_exponent b d ex = elim (one_of (b == 101) (b == 69 || (b == 112 || b == 80)) ex) [
  | inl h ↦ both_ways (is_ascii_digit b) (is_ascii_digit 101) d refl (ap is_ascii_digit (alone_equal b 101 h))
  | inr h ↦ elim (one_of (b == 69) (b == 112 || b == 80) h) [
    | inl g ↦ both_ways (is_ascii_digit b) (is_ascii_digit 69) d refl (ap is_ascii_digit (alone_equal b 69 g))
    | inr g ↦ elim (one_of (b == 112) (b == 80) g) [
      | inl f ↦ both_ways (is_ascii_digit b) (is_ascii_digit 112) d refl (ap is_ascii_digit (alone_equal b 112 f))
      | inr f ↦ both_ways (is_ascii_digit b) (is_ascii_digit 80) d refl (ap is_ascii_digit (alone_equal b 80 f))
    ]
  ]
]

-- ---- one byte more

word_goes : (x b : ℕ) (more : List ℕ) → is_word_byte b ≡ true → number_rest x (b ∷ more) ≡ suc (number_rest (if x == 39 then 0 else b) more)
word_goes x b more w = rw (w) refl

word_after : (x b : ℕ) (more : List ℕ) → (x == 39) ≡ false → is_word_byte b ≡ true → number_rest x (b ∷ more) ≡ suc (number_rest b more)
word_after x b more plain w = word_goes x b more w ∙ ap (λ t. suc (number_rest (if t then 0 else b) more)) plain

point_after : (x : ℕ) (more : List ℕ) → (x == 39) ≡ false → number_rest x (46 ∷ more) ≡ suc (number_rest 46 more)
point_after x more plain = ap (λ t. suc (number_rest (if t then 0 else 46) more)) plain

sign_after : (e b : ℕ) (more : List ℕ) → is_exponent e ≡ true → is_sign b ≡ true → number_rest e (b ∷ more) ≡ suc (number_rest b more)
sign_after e b more ex s = elim (sign_is b s) [
  | inl is ↦ subst (λ k. number_rest e (k ∷ more) ≡ suc (number_rest k more)) (sym is) (rw (ex) refl)
  | inr is ↦ subst (λ k. number_rest e (k ∷ more) ≡ suc (number_rest k more)) (sym is) (rw (ex) refl)
]

separator_after : (x b : ℕ) (more : List ℕ) → is_ascii_alphanumeric b ≡ true → number_rest x (39 ∷ b ∷ more) ≡ suc (suc (number_rest 0 more))
separator_after x b more a =
    let first : number_rest x (39 ∷ b ∷ more) ≡ suc (number_rest 39 (b ∷ more)) = rw (a) refl in
    first ∙ ap suc (word_goes 39 b more (alphanumeric_is_word b a))

-- ---- where a number begins

at_digit : (line : LinePart) (b : ℕ) (more : List ℕ) → is_ascii_digit b ≡ true → step_at line (b ∷ more) ≡ Token Number (suc (number_rest b more))
unfolding step_at
at_digit line b more d =
    rw (differs is_ascii_digit b 10 d refl, differs is_ascii_digit b 32 d refl, differs is_ascii_digit b 9 d refl, differs is_ascii_digit b 11 d refl, differs is_ascii_digit b 12 d refl, differs is_ascii_digit b 47 d refl, d) refl

at_point : (line : LinePart) (b : ℕ) (more : List ℕ) → is_ascii_digit b ≡ true → step_at line (46 ∷ b ∷ more) ≡ Token Number (suc (number_rest 46 (b ∷ more)))
unfolding step_at
at_point line b more d = rw (d) refl

-- ---- what is read is a preprocessing number

record Ready (text : List ℕ) (before : ℕ) : Type 0 where
  number : PpNumber text
  plain : (before == 39) ≡ false
  letter : is_exponent before ≡ true → (front : List ℕ) × (text ≡ front ++ before ∷ []) × PpNumber front

abbrev Sound : List ℕ → ℕ → List ℕ → Type 0
Sound more before text = PpNumber (text ++ take (number_rest before more) more)

-- the text and a number of bytes behind it, the first of which is known
with_byte : (text more : List ℕ) (b n : ℕ) → PpNumber ((text ++ b ∷ []) ++ take n more) → PpNumber (text ++ take (suc n) (b ∷ more))
with_byte text more b n p = subst PpNumber (append_assoc text (b ∷ []) (take n more)) p

taken : (text more : List ℕ) (b n m : ℕ) → n ≡ suc m → PpNumber ((text ++ b ∷ []) ++ take m more) → PpNumber (text ++ take n (b ∷ more))
taken text more b n m e p = subst (λ k. PpNumber (text ++ take k (b ∷ more))) (sym e) (with_byte text more b m p)

none_taken : (text more : List ℕ) (n : ℕ) → n ≡ 0 → PpNumber text → PpNumber (text ++ take n more)
none_taken text more n e p = subst (λ k. PpNumber (text ++ take k more)) (sym e) (subst PpNumber (sym (append-nil text)) p)

-- what a byte is to a number
data Part (before b : ℕ) (more : List ℕ) : Type 0 where
  of_word : is_word_byte b ≡ true → Part before b more
  of_point : b ≡ 46 → Part before b more
  of_sign : is_sign b ≡ true → is_exponent before ≡ true → Part before b more
  of_separator : (c : ℕ) (rest : List ℕ) → b ≡ 39 → more ≡ c ∷ rest → is_ascii_alphanumeric c ≡ true → Part before b more
  of_none : number_rest before (b ∷ more) ≡ 0 → Part before b more

part_last : (before b : ℕ) (more : List ℕ) (t : Bool) → (is_word_byte b || b == 46) ≡ false → (is_sign b && is_exponent before) ≡ false → (b == 39 && is_ascii_alphanumeric (slice_index more 0)) ≡ t → Part before b more
part_last before b more false w s e = of_none (rw (w, s, e) refl)
part_last before b [] true w s e = absurd (both_ways (is_ascii_alphanumeric 0) false ((both_of (b == 39) (is_ascii_alphanumeric 0) e).1) refl refl)
part_last before b (c ∷ rest) true w s e =
    let h = both_of (b == 39) (is_ascii_alphanumeric c) e in
    of_separator c rest (alone_equal b 39 h.0) refl h.1

part_second : (before b : ℕ) (more : List ℕ) (t : Bool) → (is_word_byte b || b == 46) ≡ false → (is_sign b && is_exponent before) ≡ t → Part before b more
part_second before b more true w s = let h = both_of (is_sign b) (is_exponent before) s in of_sign h.0 h.1
part_second before b more false w s = part_last before b more (b == 39 && is_ascii_alphanumeric (slice_index more 0)) w s refl

part_first : (before b : ℕ) (more : List ℕ) (t : Bool) → (is_word_byte b || b == 46) ≡ t → Part before b more
part_first before b more true w = elim (one_of (is_word_byte b) (b == 46) w) [ inl h ↦ of_word h | inr h ↦ of_point (alone_equal b 46 h) ]
part_first before b more false w = part_second before b more (is_sign b && is_exponent before) w refl

part_of : (before b : ℕ) (more : List ℕ) → Part before b more
part_of before b more = part_first before b more (is_word_byte b || b == 46) refl

abbrev Sounds : ℕ → Type 0
Sounds n = (more text : List ℕ) (before : ℕ) → length more ≤ n → Ready text before → Sound more before text

no_exponent : (b : ℕ) → is_sign b ≡ true → is_exponent b ≡ true → ⊥
no_exponent b s ex = elim (sign_is b s) [
  | inl is ↦ both_ways (is_exponent b) (is_exponent 43) ex refl (ap is_exponent is)
  | inr is ↦ both_ways (is_exponent b) (is_exponent 45) ex refl (ap is_exponent is)
]

step_on : (n : ℕ) (more text : List ℕ) (before b : ℕ) → length more ≤ n → Ready text before → Sounds n → Part before b more → Sound (b ∷ more) before text
step_on n more text before b within r ih (of_none none) = none_taken text (b ∷ more) (number_rest before (b ∷ more)) none r.number
step_on n more text before b within r ih (of_word w) =
    taken text more b (number_rest before (b ∷ more)) (number_rest b more) (word_after before b more r.plain w)
    (ih more (text ++ b ∷ []) b within (record { number = word_byte (text ++ b ∷ []) text b r.number refl w; plain = differs is_word_byte b 39 w refl; letter = λ ex. (text, refl, r.number) }))
step_on n more text before b within r ih (of_point is) =
    subst (λ k. PpNumber (text ++ take (number_rest before (k ∷ more)) (k ∷ more))) (sym is)
    (taken text more 46 (number_rest before (46 ∷ more)) (number_rest 46 more) (point_after before more r.plain)
    (ih more (text ++ 46 ∷ []) 46 within (record { number = point (text ++ 46 ∷ []) text r.number refl; plain = refl; letter = λ ex. (text, refl, r.number) })))
step_on n more text before b within r ih (of_sign s ex) =
    let found = r.letter ex in
    taken text more b (number_rest before (b ∷ more)) (number_rest b more) (sign_after before b more ex s)
    (ih more (text ++ b ∷ []) b within (record {
      number = sign (text ++ b ∷ []) found.0 before b found.2 (ap (λ z. z ++ b ∷ []) found.1 ∙ append_assoc found.0 (before ∷ []) (b ∷ [])) ex s;
      plain = differs is_sign b 39 s refl;
      letter = λ again. absurd (no_exponent b s again);
    }))
step_on n more text before b within r ih (of_separator c rest is is_more a) =
    let short : length rest ≤ n = omega (arith, ap length is_more, within) in
    let ready : Ready ((text ++ 39 ∷ []) ++ c ∷ []) 0 = record {
      number = separator ((text ++ 39 ∷ []) ++ c ∷ []) text c r.number (append_assoc text (39 ∷ []) (c ∷ [])) a;
      plain = refl;
      letter = λ ex. absurd (both_ways (is_exponent 0) false ex refl refl);
    } in
    subst (λ z. Sound (b ∷ z) before text) (sym is_more)
    (subst (λ k. Sound (k ∷ c ∷ rest) before text) (sym is)
    (taken text (c ∷ rest) 39 (number_rest before (39 ∷ c ∷ rest)) (suc (number_rest 0 rest)) (separator_after before c rest a)
    (with_byte (text ++ 39 ∷ []) rest c (number_rest 0 rest) (ih rest ((text ++ 39 ∷ []) ++ c ∷ []) 0 short ready))))

sound : (n : ℕ) → Sounds n
sound n [] text before within r = subst PpNumber (sym (append-nil text)) r.number
sound zero (b ∷ more) text before within r = absurd (omega arith)
sound (suc n) (b ∷ more) text before within r = step_on n more text before b (omega arith) r (sound n) (part_of before b more)

-- ---- each preprocessing number is read to its end, whatever follows

-- a number stands at the front as far as it is read
abbrev Stands : LinePart → ℕ → List ℕ → Type 0
Stands line first more = (step_at line (first ∷ more) ≡ Token Number (suc (number_rest first more))) × PpNumber (first ∷ take (number_rest first more) more)

stands_digit : (line : LinePart) (b : ℕ) (more : List ℕ) → is_ascii_digit b ≡ true → Stands line b more
stands_digit line b more d = (
  at_digit line b more d,
  sound (length more) more (b ∷ []) b (omega arith) (record {
    number = digit (b ∷ []) b refl d;
    plain = differs is_ascii_digit b 39 d refl;
    letter = λ ex. absurd (no_digit_exponent b d ex);
  }),
)

stands_point : (line : LinePart) (b : ℕ) (more : List ℕ) → is_ascii_digit b ≡ true → Stands line 46 (b ∷ more)
stands_point line b more d = (
  at_point line b more d,
  taken (46 ∷ []) more b (number_rest 46 (b ∷ more)) (number_rest b more) (word_after 46 b more refl (digit_is_word b d))
      (sound (length more) more (46 ∷ b ∷ []) b (omega arith) (record {
        number = point_digit (46 ∷ b ∷ []) b refl d;
        plain = differs is_ascii_digit b 39 d refl;
        letter = λ ex. absurd (no_digit_exponent b d ex);
      })),
)

record Reading (text : List ℕ) : Type 0 where
  first : ℕ
  rest : List ℕ
  before : ℕ
  is : text ≡ first ∷ rest
  plain : (before == 39) ≡ false
  goes : (more : List ℕ) → number_rest first (rest ++ more) ≡ length rest + number_rest before more
  at_front : (line : LinePart) (more : List ℕ) → Stands line first (rest ++ more)

longer_by : (rest xs : List ℕ) (n : ℕ) → length rest + (length xs + n) ≡ length (rest ++ xs) + n
longer_by rest xs n = rw (length-append) (omega arith)

extended : (text front xs : List ℕ) (before : ℕ) → Reading front → text ≡ front ++ xs → (before == 39) ≡ false →
    ((x : ℕ) → (x == 39) ≡ false → (more : List ℕ) → number_rest x (xs ++ more) ≡ length xs + number_rest before more) → Reading text
extended text front xs before r is plain goes = record {
  first = r.first;
  rest = r.rest ++ xs;
  before = before;
  is = is ∙ ap (λ z. z ++ xs) r.is;
  plain = plain;
  goes = λ more. ap (number_rest r.first) (append_assoc r.rest xs more) ∙ r.goes (xs ++ more) ∙ ap (λ n. length r.rest + n) (goes r.before r.plain more) ∙ longer_by r.rest xs (number_rest before more);
  at_front = λ line more. subst (λ z. Stands line r.first z) (sym (append_assoc r.rest xs more)) (r.at_front line (xs ++ more));
}

one : (n : ℕ) → suc n ≡ 1 + n
one n = omega arith

two : (n : ℕ) → suc (suc n) ≡ 2 + n
two n = omega arith

reading : (text : List ℕ) → PpNumber text → Reading text
reading text (digit t b is d) = record {
  first = b;
  rest = [];
  before = b;
  is = is;
  plain = differs is_ascii_digit b 39 d refl;
  goes = λ more. omega arith;
  at_front = λ line more. stands_digit line b more d;
}
reading text (point_digit t b is d) = record {
  first = 46;
  rest = b ∷ [];
  before = b;
  is = is;
  plain = differs is_ascii_digit b 39 d refl;
  goes = λ more. word_after 46 b more refl (digit_is_word b d) ∙ one (number_rest b more);
  at_front = λ line more. stands_point line b more d;
}
reading text (word_byte t front b p is w) =
    extended text front (b ∷ []) b (reading front p) is (differs is_word_byte b 39 w refl) (λ x plain more. word_after x b more plain w ∙ one (number_rest b more))
reading text (point t front p is) =
    extended text front (46 ∷ []) 46 (reading front p) is refl (λ x plain more. point_after x more plain ∙ one (number_rest 46 more))
reading text (separator t front b p is a) =
    extended text front (39 ∷ b ∷ []) 0 (reading front p) is refl (λ x plain more. separator_after x b more a ∙ two (number_rest 0 more))
reading text (sign t front e b p is ex s) =
    extended text front (e ∷ b ∷ []) b (reading front p) is (differs is_sign b 39 s refl)
    (λ x plain more. word_after x e (b ∷ more) plain (exponent_is_word e ex) ∙ ap suc (sign_after e b more ex s) ∙ two (number_rest b more))

-- ---- the longest

pub longest_number : (line : LinePart) (text : List ℕ) (m : ℕ) → m ≤ length text → PpNumber (take m text) → StandsNumber line text m
longest_number line text m within p =
    let r = reading (take m text) p in
    let more : List ℕ = r.rest ++ drop m text in
    let whole : r.first ∷ (r.rest ++ drop m text) ≡ text = sym (ap (λ z. z ++ drop m text) r.is) ∙ take-append-drop m text in
    let size : suc (length r.rest) ≡ m = sym (ap length r.is) ∙ length-take-le m text within in
    let reaches : number_rest r.first (r.rest ++ drop m text) ≡ length r.rest + number_rest r.before (drop m text) = r.goes (drop m text) in
    let front = r.at_front line (drop m text) in (
      suc (number_rest r.first (r.rest ++ drop m text)),
      ap (step_at line) (sym whole) ∙ front.0,
      omega (arith, size, reaches),
      subst (λ z. PpNumber (take (suc (number_rest r.first (r.rest ++ drop m text))) z)) whole front.1,
    )
