-- Two initial values with one spelling are the same.
use Rattle.std.proofs.Common.{◌≡◌, ℕ, ◌+◌, ◌-◌, ◌*◌, ◌/◌, ◌%◌, ◌<◌, ◌==◌, List, [], ◌∷◌, ◌++◌, Bool, true, false, ◌&&◌, ◌||◌, Option, Some, None, if◌then◌else◌, refl, sym, ap, ◌∙◌, arith, append_assoc}
use Rattle.std.specs.Prelude.{codes, nat_le}
use Rattle.std.proofs.lemmas.Bool.Decides.{nat_tests}
use Rattle.model_c89.specs.Spelling89.{byte_text, bytes_text, init_text, inits_text, value_text}
use Rattle.model_c89.specs.Written89.{WrittenBytes, WrittenInit, WrittenInits, WrittenValue}
use Rattle.model_core.specs.Program89.{Init, Value, Text, Braces, Inits, no_inits, more_inits}
use Rattle.model_c89.proofs.UniqueWords.{strip}
use Rattle.model_c89.proofs.ExpressionFronts.{first_of}
use Rattle.model_c89.proofs.UniqueExpressions.{Quiet, one_expr}
use Rattle.model_c89.proofs.UniqueLines.{cancel, heads}

-- bytes of strings

abbrev is_octal : ℕ → Bool
is_octal c = nat_le 48 c && nat_le c 51

abbrev octal_end : (c d : ℕ) → List ℕ → Option (ℕ × List ℕ)
octal_end c d [] = None
octal_end c d (e ∷ r) = Some ((c - 48) * 64 + (d - 48) * 8 + (e - 48), r)

abbrev octal : (c : ℕ) → List ℕ → Option (ℕ × List ℕ)
octal c [] = None
octal c (d ∷ r) = octal_end c d r

abbrev escape : List ℕ → Option (ℕ × List ℕ)
escape [] = None
escape (c ∷ r) = if is_octal c then octal c r else Some (c, r)

-- the first byte of a string, and what stands behind it
abbrev decode : List ℕ → Option (ℕ × List ℕ)
decode [] = None
decode (b ∷ r) = if b == 92 then escape r else if b == 34 then None else Some (b, r)

abbrev is_special : ℕ → Bool
is_special b = (b == 34) || (b == 92) || (b == 63)

abbrev is_printed : ℕ → Bool
is_printed b = nat_le 32 b && nat_le b 126

abbrev digits : ℕ → List ℕ
digits b = 92 ∷ (48 + b / 64) ∷ (48 + b / 8 % 8) ∷ (48 + b % 8) ∷ []

special_is_no_octal : (b : ℕ) → is_special b ≡ true → is_octal b ≡ false
special_is_no_octal b h = grind (arith, nat_tests)

others_are_plain : (b : ℕ) → is_special b ≡ false → ((b == 92) ≡ false) × ((b == 34) ≡ false)
others_are_plain b h = (grind (arith, nat_tests), grind (arith, nat_tests))

begins_octal : (b : ℕ) → b < 256 → is_octal (48 + b / 64) ≡ true
begins_octal b h = grind (arith, nat_tests)

octal_value : (b : ℕ) → b < 256 → (48 + b / 64 - 48) * 64 + (48 + b / 8 % 8 - 48) * 8 + (48 + b % 8 - 48) ≡ b
octal_value b h = omega (arith, h)

decoded : (b : ℕ) (z : List ℕ) → b < 256 → decode (byte_text b ++ z) ≡ Some (b, z)
decoded b z h = special (is_special b) refl
  where
    printed : (t : Bool) → is_printed b ≡ t → is_special b ≡ false → decode ((if is_printed b then b ∷ [] else digits b) ++ z) ≡ Some (b, z)
    printed true e n =
        ap (λ t. decode ((if t then b ∷ [] else digits b) ++ z)) e ∙ ap (λ t. if t then escape z else if b == 34 then None else Some (b, z)) (others_are_plain b n).0 ∙ ap (λ t. if t then None else Some (b, z)) (others_are_plain b n).1
    printed false e n =
        ap (λ t. decode ((if t then b ∷ [] else digits b) ++ z)) e
        ∙ ap (λ t. if t then octal (48 + b / 64) ((48 + b / 8 % 8) ∷ (48 + b % 8) ∷ z) else Some (48 + b / 64, (48 + b / 8 % 8) ∷ (48 + b % 8) ∷ z)) (begins_octal b h)
        ∙ ap (λ v. Some (v, z)) (octal_value b h)

    special : (t : Bool) → is_special b ≡ t → decode (byte_text b ++ z) ≡ Some (b, z)
    special true e =
        ap (λ t. decode ((if t then 92 ∷ b ∷ [] else if is_printed b then b ∷ [] else digits b) ++ z)) e ∙ ap (λ t. if t then octal b z else Some (b, z)) (special_is_no_octal b e)
    special false e = ap (λ t. decode ((if t then 92 ∷ b ∷ [] else if is_printed b then b ∷ [] else digits b) ++ z)) e ∙ printed (is_printed b) refl e

no_byte : {A : Type 0} (b : ℕ × List ℕ) → None ≡ Some b → A
no_byte b h = absurd (let f : None ≡ Some b = h in cc)

abbrev byte_with : ℕ → List ℕ → Option (ℕ × List ℕ)
byte_with b text = Some (b, text)

same_byte : (b c : ℕ) (y z : List ℕ) → byte_with b y ≡ byte_with c z → (b ≡ c) × (y ≡ z)
same_byte b c y z e = (ap byte e, ap behind e)
  where
    byte : Option (ℕ × List ℕ) → ℕ
    byte None = 0
    byte (Some p) = p.0

    behind : Option (ℕ × List ℕ) → List ℕ
    behind None = []
    behind (Some p) = p.1

bytes_whole : (b : ℕ) (bs x : List ℕ) → bytes_text (b ∷ bs) ++ (34 ∷ x) ≡ byte_text b ++ (bytes_text bs ++ (34 ∷ x))
bytes_whole b bs x = append_assoc (byte_text b) (bytes_text bs) (34 ∷ x)

one_bytes : (bs cs x y : List ℕ) → WrittenBytes bs → WrittenBytes cs → bytes_text bs ++ (34 ∷ x) ≡ bytes_text cs ++ (34 ∷ y) → (bs ≡ cs) × (x ≡ y)
one_bytes [] [] x y p q e = (refl, cancel (34 ∷ []) x y e)
one_bytes [] (c ∷ cs) x y p q e = no_byte _ (ap decode (e ∙ bytes_whole c cs y) ∙ decoded c _ q.0)
one_bytes (b ∷ bs) [] x y p q e = no_byte _ (ap decode (sym e ∙ bytes_whole b bs x) ∙ decoded b _ p.0)
one_bytes (b ∷ bs) (c ∷ cs) x y p q e =
    let first = same_byte b c _ _ (sym (decoded b (bytes_text bs ++ (34 ∷ x)) p.0) ∙ ap decode (sym (bytes_whole b bs x) ∙ e ∙ bytes_whole c cs y) ∙ decoded c (bytes_text cs ++ (34 ∷ y)) q.0) in
    let rest = one_bytes bs cs x y p.1 q.1 first.1 in
    (ap (λ k. k ∷ bs) first.0 ∙ ap (λ l. c ∷ l) rest.0, rest.1)

-- initial values

inits_quiet : (is : Inits) (x : List ℕ) → Quiet (inits_text is ++ (codes "}" ++ x))
inits_quiet no_inits x = record { no_word = refl; no_index = refl; no_member = refl; no_arrow = refl; no_call = refl }
inits_quiet (more_inits i is) x = record { no_word = refl; no_index = refl; no_member = refl; no_arrow = refl; no_call = refl }

text_whole : (bytes x : List ℕ) → init_text (Text bytes) ++ x ≡ 34 ∷ (bytes_text bytes ++ (34 ∷ x))
text_whole bytes x = ap (λ r. 34 ∷ r) (append_assoc (bytes_text bytes) (codes "\"") x)

braces_whole : (i : Init) (is : Inits) (x : List ℕ) → init_text (Braces i is) ++ x ≡ codes "{" ++ (init_text i ++ (inits_text is ++ (codes "}" ++ x)))
braces_whole i is x = ap (λ r. codes "{" ++ r) (append_assoc (init_text i) _ x ∙ ap (λ r. init_text i ++ r) (append_assoc (inits_text is) (codes "}") x))

none_some : {A : Type 0} (t : List ℕ) → None ≡ Some t → A
none_some t h = absurd (let f : None ≡ Some t = h in cc)

inits_whole : (i : Init) (is : Inits) (x : List ℕ) → inits_text (more_inits i is) ++ (codes "}" ++ x) ≡ codes ", " ++ (init_text i ++ (inits_text is ++ (codes "}" ++ x)))
inits_whole i is x = ap (λ r. codes ", " ++ r) (append_assoc (init_text i) (inits_text is) (codes "}" ++ x))

mutual
  pub one_init : (i j : Init) (x y : List ℕ) → WrittenInit i → WrittenInit j → Quiet x → Quiet y → init_text i ++ x ≡ init_text j ++ y → (i ≡ j) × (x ≡ y)
  one_init (Value a) (Value b) x y p q m n e =
      let one = one_expr a b x y p q m n e in
      (ap Value one.0, one.1)
  one_init (Value a) (Text bs) x y p q m n e = none_some _ (sym (first_of a x p).no_quote ∙ ap (strip (codes "\"")) e)
  one_init (Value a) (Braces j js) x y p q m n e = none_some _ (sym (first_of a x p).no_brace ∙ ap (strip (codes "{")) e)
  one_init (Text bs) (Value a) x y p q m n e = none_some _ (sym (first_of a y q).no_quote ∙ ap (strip (codes "\"")) (sym e))
  one_init (Braces j js) (Value a) x y p q m n e = none_some _ (sym (first_of a y q).no_brace ∙ ap (strip (codes "{")) (sym e))
  one_init (Text bs) (Text cs) x y p q m n e =
      let one = one_bytes bs cs x y p q (cancel (34 ∷ []) _ _ (sym (text_whole bs x) ∙ e ∙ text_whole cs y)) in
      (ap Text one.0, one.1)
  one_init (Text bs) (Braces j js) x y p q m n e = absurd (omega (arith, heads 34 123 _ _ e))
  one_init (Braces j js) (Text bs) x y p q m n e = absurd (omega (arith, heads 123 34 _ _ e))
  one_init (Braces i is) (Braces j js) x y p q m n e =
      let first = one_init i j _ _ p.0 q.0 (inits_quiet is x) (inits_quiet js y) (cancel (codes "{") _ _ (sym (braces_whole i is x) ∙ e ∙ braces_whole j js y)) in
      let rest = one_inits is js x y p.1 q.1 first.1 in
      (ap (λ k. Braces k is) first.0 ∙ ap (Braces j) rest.0, rest.1)

  one_inits : (is js : Inits) (x y : List ℕ) → WrittenInits is → WrittenInits js → inits_text is ++ (codes "}" ++ x) ≡ inits_text js ++ (codes "}" ++ y) → (is ≡ js) × (x ≡ y)
  one_inits no_inits no_inits x y p q e = (refl, cancel (codes "}") x y e)
  one_inits no_inits (more_inits j js) x y p q e = absurd (omega (arith, heads 125 44 _ _ e))
  one_inits (more_inits i is) no_inits x y p q e = absurd (omega (arith, heads 44 125 _ _ e))
  one_inits (more_inits i is) (more_inits j js) x y p q e =
      let first = one_init i j _ _ p.0 q.0 (inits_quiet is x) (inits_quiet js y) (cancel (codes ", ") _ _ (sym (inits_whole i is x) ∙ e ∙ inits_whole j js y)) in
      let rest = one_inits is js x y p.1 q.1 first.1 in
      (ap (λ k. more_inits k is) first.0 ∙ ap (more_inits j) rest.0, rest.1)

-- the initial value of a declaration, if it has one

semicolon_quiet : (z : List ℕ) → Quiet (59 ∷ z)
semicolon_quiet z = record { no_word = refl; no_index = refl; no_member = refl; no_arrow = refl; no_call = refl }

pub one_value : (v w : Option Init) (x y : List ℕ) → WrittenValue v → WrittenValue w → value_text v ++ (codes ";\n" ++ x) ≡ value_text w ++ (codes ";\n" ++ y) → (v ≡ w) × (x ≡ y)
one_value None None x y p q e = (refl, cancel (codes ";\n") x y e)
one_value None (Some j) x y p q e = absurd (omega (arith, heads 59 32 _ _ e))
one_value (Some i) None x y p q e = absurd (omega (arith, heads 32 59 _ _ e))
one_value (Some i) (Some j) x y p q e =
    let one = one_init i j _ _ p q (semicolon_quiet _) (semicolon_quiet _) (cancel (codes " = ") _ _ e) in
    (ap (λ k. Some k) one.0, cancel (codes ";\n") x y one.1)
