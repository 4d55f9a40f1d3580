-- A machine that reads the declaration of a name with a type, and that it reads each as what it is.
use Rattle.std.proofs.Common.{◌≡◌, ℕ, ◌==◌, List, [], ◌∷◌, ◌++◌, Bool, true, false, not, ◌&&◌, Option, Some, None, if◌then◌else◌, refl, ap, ◌∙◌, append_assoc}
use Rattle.std.specs.Prelude.{codes}
use Rattle.std.specs.Str.{bytes_eq}
use Rattle.model_types.specs.ByteClasses.{is_digit, is_word_byte, begins_with}
use Rattle.model_c89.specs.SpellingParts89.{blank_before, const_text, pointer_text, count_text, declaration_text, parameters_text}
use Rattle.model_c89.specs.Signs89.{base_text}
use Rattle.model_core.specs.Types89.{Base, Void, Char, SignedChar, UnsignedChar, Short, UnsignedShort, Int, UnsignedInt, Long, UnsignedLong, Struct, Type89, Based, Pointer, Array, Function}
use Rattle.model_c89.specs.Written89.{WrittenBase}
use Rattle.model_core.specs.Program89.{Declaration, types_of}
use Rattle.model_c89.proofs.UniqueWords.{strip, front, behind, front_is, behind_is, number}

-- what a declarator does to a type; the parameters are those that stand between the parentheses
pub data Step : Type 0 where
  Star : (is_const : Bool) → Step
  Brackets : (count : Option ℕ) → Step
  Parameters : (written : List Declaration) (is_variadic : Bool) → Step

-- where a declarator stands: behind a star, in parentheses, or in parameters, behind those that were read
pub data Frame : Type 0 where
  AfterStar : (is_const : Bool) → Frame
  InParentheses : Frame
  InParameters : (base : Type89) (steps : List Step) (name : List ℕ) (done : List Declaration) → Frame

-- before a declaration; before a declarator; behind a name, with the steps so far, the newest first
pub data State : Type 0 where
  Before : (frames : List Frame) (text : List ℕ) → State
  At : (frames : List Frame) (base : Type89) (text : List ℕ) → State
  After : (frames : List Frame) (base : Type89) (steps : List Step) (name : List ℕ) (text : List ℕ) → State

-- `void` alone stands for no parameters
abbrev pub is_void_alone : Type89 → List ℕ → List Declaration → Bool
is_void_alone (Based false Void) [] [] = true
is_void_alone type name ds = false

abbrev pub real : List Declaration → List Declaration
real [] = []
real (d ∷ ds) = if is_void_alone d.type d.name ds then [] else d ∷ ds

abbrev pub on : Step → Type89 → Type89
on (Star is_const) type = Pointer is_const type
on (Brackets count) type = Array count type
on (Parameters written is_variadic) type = Function type (types_of (real written)) is_variadic

abbrev pub apply : List Step → Type89 → Type89
apply [] type = type
apply (step ∷ steps) type = apply steps (on step type)

-- a blank before a declarator
abbrev pub skip_blank : List ℕ → List ℕ
skip_blank [] = []
skip_blank (b ∷ bs) = if (b == 32) && not (begins_with (λ c. c == 61) bs) then bs else b ∷ bs

abbrev pub or_else : {A : Type 0} → Option A → Option A → Option A
or_else (Some a) other = Some a
or_else None other = other

-- with a base
abbrev pub with_base : Base → Option (List ℕ) → Option (Base × List ℕ)
with_base b None = None
with_base b (Some rest) = Some (b, rest)

abbrev pub with_tag : Option (List ℕ) → Option (Base × List ℕ)
with_tag None = None
with_tag (Some rest) = Some (Struct (front is_word_byte rest), behind is_word_byte rest)

abbrev pub first_base : List Base → List ℕ → Option (Base × List ℕ)
first_base [] text = with_tag (strip (codes "struct ") text)
first_base (b ∷ bs) text = or_else (with_base b (strip (base_text b) text)) (first_base bs text)

abbrev pub base_at : List ℕ → Option (Base × List ℕ)
base_at = first_base (Void ∷ Char ∷ SignedChar ∷ UnsignedChar ∷ Short ∷ UnsignedShort ∷ Int ∷ UnsignedInt ∷ Long ∷ UnsignedLong ∷ [])

abbrev pub before_base : List Frame → Bool → Option (Base × List ℕ) → Option State
before_base frames is_const None = None
before_base frames is_const (Some (b, rest)) = Some (At frames (Based is_const b) (skip_blank rest))

abbrev pub before : List Frame → List ℕ → Option (List ℕ) → Option State
before frames text (Some rest) = before_base frames true (base_at rest)
before frames text None = before_base frames false (base_at text)

-- a name, or none
abbrev pub at_name : List Frame → Type89 → List ℕ → Option State
at_name frames base text = Some (After frames base [] (front is_word_byte text) (behind is_word_byte text))

-- `(` before a star
abbrev pub at_parenthesis : List Frame → Type89 → List ℕ → Option (List ℕ) → Option State
at_parenthesis frames base text (Some rest) = Some (At (InParentheses ∷ frames) base (42 ∷ rest))
at_parenthesis frames base text None = at_name frames base text

-- behind `*`: whether the word behind it is `const`
abbrev pub at_const : List Frame → Type89 → List ℕ → Option State
at_const frames base rest =
    if bytes_eq (codes "const") (front is_word_byte rest) then Some (At (AfterStar true ∷ frames) base (skip_blank (behind is_word_byte rest)))
    else Some (At (AfterStar false ∷ frames) base rest)

abbrev pub at_star : List Frame → Type89 → List ℕ → Option (List ℕ) → Option State
at_star frames base text (Some rest) = at_const frames base rest
at_star frames base text None = at_parenthesis frames base text (strip (codes "(*") text)

-- behind `[` and a count, if there is one
abbrev pub closed : List Frame → Type89 → List Step → (name : List ℕ) → (count : Option ℕ) → Option (List ℕ) → Option State
closed frames base steps name count None = None
closed frames base steps name count (Some rest) = Some (After frames base (Brackets count ∷ steps) name rest)

abbrev pub after_bracket : List Frame → Type89 → List Step → (name text : List ℕ) → Option State
after_bracket frames base steps name text =
    if begins_with is_digit text then closed frames base steps name (Some (number 0 (front is_digit text))) (strip (codes "]") (behind is_digit text))
    else closed frames base steps name None (strip (codes "]") text)

abbrev pub parameter : Type89 → List Step → (name : List ℕ) → Declaration
parameter base steps name = record { type = apply steps base; name = name }

abbrev pub last_one : List Frame → Type89 → List Step → (name : List ℕ) → List Declaration → Option (List ℕ) → Option State
last_one frames base steps name written None = None
last_one frames base steps name written (Some rest) = Some (After frames base (Parameters written false ∷ steps) name rest)

abbrev pub next_one : List Frame → Type89 → List Step → (name : List ℕ) → List Declaration → (text : List ℕ) → Option (List ℕ) → Option State
next_one frames base steps name written text (Some rest) = Some (Before (InParameters base steps name written ∷ frames) rest)
next_one frames base steps name written text None = last_one frames base steps name written (strip (codes ")") text)

abbrev pub variadic : List Frame → Type89 → List Step → (name : List ℕ) → List Declaration → (text : List ℕ) → Option (List ℕ) → Option State
variadic frames base steps name written text (Some rest) = Some (After frames base (Parameters written true ∷ steps) name rest)
variadic frames base steps name written text None = next_one frames base steps name written text (strip (codes ", ") text)

abbrev pub left_parentheses : List Frame → Type89 → List Step → (name : List ℕ) → Option (List ℕ) → Option State
left_parentheses frames base steps name None = None
left_parentheses frames base steps name (Some rest) = Some (After frames base steps name rest)

-- a declarator has ended
abbrev pub leave : List Frame → Type89 → List Step → (name text : List ℕ) → Option State
leave [] base steps name text = None
leave (AfterStar is_const ∷ frames) base steps name text = Some (After frames base (Star is_const ∷ steps) name text)
leave (InParentheses ∷ frames) base steps name text = left_parentheses frames base steps name (strip (codes ")") text)
leave (InParameters outer outer_steps outer_name done ∷ frames) base steps name text =
    variadic frames outer outer_steps outer_name (done ++ (parameter base steps name ∷ [])) text (strip (codes ", ...)") text)

abbrev pub after_parenthesis : List Frame → Type89 → List Step → (name text : List ℕ) → Option (List ℕ) → Option State
after_parenthesis frames base steps name text (Some rest) = Some (Before (InParameters base steps name [] ∷ frames) rest)
after_parenthesis frames base steps name text None = leave frames base steps name text

abbrev pub after : List Frame → Type89 → List Step → (name text : List ℕ) → Option (List ℕ) → Option State
after frames base steps name text (Some rest) = after_bracket frames base steps name rest
after frames base steps name text None = after_parenthesis frames base steps name text (strip (codes "(") text)

abbrev pub step : State → Option State
step (Before frames text) = before frames text (strip (codes "const ") text)
step (At frames base text) = at_star frames base text (strip (codes "*") text)
step (After frames base steps name text) = after frames base steps name text (strip (codes "[") text)

-- what may stand behind a declarator that goes on or ends
pub record Follows (z : List ℕ) : Type 0 where
  pub no_word : begins_with is_word_byte z ≡ false
  pub no_blank : skip_blank z ≡ z
  pub no_star : strip (codes "*") z ≡ None
  pub no_inner : strip (codes "(*") z ≡ None

-- what stands behind its end
pub record Ends (z : List ℕ) : Type 0 where
  pub follows : Follows z
  pub no_bracket : strip (codes "[") z ≡ None
  pub no_parenthesis : strip (codes "(") z ≡ None

-- bases

pub base_is : (b : Base) (z : List ℕ) → WrittenBase b → begins_with is_word_byte z ≡ false → base_at (base_text b ++ z) ≡ Some (b, z)
base_is Void z w n = refl
base_is Char z w n = refl
base_is SignedChar z w n = refl
base_is UnsignedChar z w n = refl
base_is Short z w n = refl
base_is UnsignedShort z w n = refl
base_is Int z w n = refl
base_is UnsignedInt z w n = refl
base_is Long z w n = refl
base_is UnsignedLong z w n = refl
base_is (Struct name) z w n = ap (λ f. Some (Struct f, behind is_word_byte (name ++ z))) (front_is is_word_byte name z w.goes_on n) ∙ ap (λ r. Some (Struct name, r)) (behind_is is_word_byte name z w.goes_on n)

pub no_const : (b : Base) (z : List ℕ) → strip (codes "const ") (base_text b ++ z) ≡ None
no_const Void z = refl
no_const Char z = refl
no_const SignedChar z = refl
no_const UnsignedChar z = refl
no_const Short z = refl
no_const UnsignedShort z = refl
no_const Int z = refl
no_const UnsignedInt z = refl
no_const Long z = refl
no_const UnsignedLong z = refl
no_const (Struct name) z = refl

pub no_mark : (b : Base) (z : List ℕ) → (strip (codes "*") (base_text b ++ z) ≡ None) × (strip (codes "...)") (base_text b ++ z) ≡ None)
no_mark Void z = (refl, refl)
no_mark Char z = (refl, refl)
no_mark SignedChar z = (refl, refl)
no_mark UnsignedChar z = (refl, refl)
no_mark Short z = (refl, refl)
no_mark UnsignedShort z = (refl, refl)
no_mark Int z = (refl, refl)
no_mark UnsignedInt z = (refl, refl)
no_mark Long z = (refl, refl)
no_mark UnsignedLong z = (refl, refl)
no_mark (Struct name) z = (refl, refl)

pub reads_base : (frames : List Frame) (c : Bool) (b : Base) (z : List ℕ) → WrittenBase b → begins_with is_word_byte z ≡ false → step (Before frames (const_text c ++ (base_text b ++ z))) ≡ Some (At frames (Based c b) (skip_blank z))
reads_base frames true b z w n = ap (before_base frames true) (base_is b z w n)
reads_base frames false b z w n = ap (before frames (base_text b ++ z)) (no_const b z) ∙ ap (before_base frames false) (base_is b z w n)

-- the first byte of a declaration
pub first_mark : (t : Type89) (inner z : List ℕ) → (strip (codes "*") (declaration_text t inner ++ z) ≡ None) × (strip (codes "...)") (declaration_text t inner ++ z) ≡ None)
first_mark (Based true b) inner z = (refl, refl)
first_mark (Based false b) inner z =
    let e = append_assoc (base_text b) (blank_before inner) z in
    (ap (strip (codes "*")) e ∙ (no_mark b (blank_before inner ++ z)).0, ap (strip (codes "...)")) e ∙ (no_mark b (blank_before inner ++ z)).1)
first_mark (Pointer c to) inner z = first_mark to (pointer_text c to inner) z
first_mark (Array n of) inner z = first_mark of (inner ++ count_text n) z
first_mark (Function r ps v) inner z = first_mark r (inner ++ (codes "(" ++ (parameters_text ps v ++ codes ")"))) z
