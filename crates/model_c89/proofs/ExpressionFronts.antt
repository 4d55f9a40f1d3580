-- How expressions, types and operations begin, as the machine that reads expressions sees them.
use Rattle.std.proofs.Common.{◌≡◌, ℕ, ◌^◌, ◌<◌, ◌≤◌, ◌==◌, List, [], ◌∷◌, ◌++◌, Bool, true, false, ◌&&◌, Some, None, if◌then◌else◌, refl, sym, ap, ◌∙◌, subst, arith, append_assoc}
use Rattle.std.specs.Prelude.{codes}
use Rattle.std.specs.Fmt.{decimal}
use Rattle.std.proofs.lemmas.Bool.Decides.{nat_tests}
use Rattle.model_types.specs.ByteClasses.{is_digit, is_nondigit, is_word_byte, begins_with, AllBytes}
use Rattle.model_c89.specs.Names89.{IsName, is_among, words}
use Rattle.model_c89.specs.SpellingParts89.{blank_before, declaration_text, expr_text}
use Rattle.model_c89.specs.Signs89.{base_text, sign_text, logic_text, prefix_text, suffix_text}
use Rattle.model_types.specs.declared.numbers.BinOp.TheVariants.{Mul, Div, Rem, Add, Sub, ShiftLeft, ShiftRight, Less, Greater, LessEqual, GreaterEqual, Equal, NotEqual, BitAnd, BitXor, BitOr}
use Rattle.model_types.specs.declared.operators.LogicOp.TheVariants.{And, Or}
use Rattle.model_core.specs.Types89.{Base, Void, Char, SignedChar, UnsignedChar, Short, UnsignedShort, Int, UnsignedInt, Long, UnsignedLong, Struct, Type89, Based, Pointer, Array, Function}
use Rattle.model_c89.specs.Written89.{WrittenType, WrittenExpr, greatest}
use Rattle.model_core.specs.Program89.{Expr, Name, Constant, Index, Dot, Arrow, Call, Unary, Binary, Logic, Choice, Cast, Prefix, Minus, Complement, Not, Deref, AddressOf, Suffix, Plain, U, L, UL}
use Rattle.model_c89.proofs.UniqueWords.{strip, front, behind, front_is, behind_is, front_none, decimal_is_number, begins-push}
use Rattle.model_c89.proofs.ReadingMachine.{Reach, goes, here, by, stays, onwards}
use Rattle.model_c89.proofs.TypesMachine as types
use Rattle.model_c89.proofs.ReadDeclarators.{direct_fits, nothing, blank_is_no_word, parenthesis_ends}
use Rattle.model_c89.proofs.UniqueTypes.{declared, root, spine, apply_spine, ended}
use Rattle.model_c89.proofs.ExpressionsMachine.{Operation, OfBinary, OfLogic, OfChoice, Frame, InFirst, InCast, State, Want, InType, Have, at_type, opened, in_type, is_mark, operation_of, behind_operation, operates, step}

abbrev pub Reads : State → State → Type 0
Reads s t = Reach State step s t

-- the first byte of an expression

no_mark_byte : (c b : ℕ) → is_word_byte c ≡ false → is_word_byte b ≡ true → (c == b) ≡ false
no_mark_byte c b p q = grind (arith, nat_tests)

pub digit_is_word : (b : ℕ) → is_digit b ≡ true → is_word_byte b ≡ true
digit_is_word b h = grind (arith, nat_tests)

pub nondigit_is_word : (b : ℕ) → is_nondigit b ≡ true → is_word_byte b ≡ true
nondigit_is_word b h = grind (arith, nat_tests)

digit_is_no_nondigit : (b : ℕ) → is_digit b ≡ true → is_nondigit b ≡ false
digit_is_no_nondigit b h = grind (arith, nat_tests)

pub nondigit_is_no_digit : (b : ℕ) → is_nondigit b ≡ true → is_digit b ≡ false
nondigit_is_no_digit b h = grind (arith, nat_tests)

pub no_word_no_digit : (b : ℕ) → is_word_byte b ≡ false → is_digit b ≡ false
no_word_no_digit b h = grind (arith, nat_tests)

pub first_word : (test : ℕ → Bool) → ((b : ℕ) → test b ≡ true → is_word_byte b ≡ true) → (w : List ℕ) → begins_with test w ≡ true → begins_with is_word_byte w ≡ true
first_word test all [] h = absurd (let f : false ≡ true = h in cc)
first_word test all (b ∷ bs) h = all b h

pub no_strip : (c : ℕ) (cs t : List ℕ) → is_word_byte c ≡ false → begins_with is_word_byte t ≡ true → strip (c ∷ cs) t ≡ None
no_strip c cs [] p h = refl
no_strip c cs (b ∷ bs) p h = ap (λ t. if t then strip cs bs else None) (no_mark_byte c b p h)

-- an expression begins with no `)`, and in parentheses with no prefix and no type
pub record First (t : List ℕ) : Type 0 where
  pub closes_not : strip (codes ")") t ≡ None
  pub no_semicolon : strip (codes ";") t ≡ None
  pub no_brace : strip (codes "{") t ≡ None
  pub no_quote : strip (codes "\"") t ≡ None
  pub opens : (frames : List Frame) → opened frames t ≡ Some (Want (InFirst ∷ frames) t)

word_opens : (t : List ℕ) → begins_with is_word_byte t ≡ true → First t
word_opens t h = record {
  closes_not = no_strip 41 [] t refl h;
  no_semicolon = no_strip 59 [] t refl h;
  no_brace = no_strip 123 [] t refl h;
  no_quote = no_strip 34 [] t refl h;
  opens = λ frames. rw (no_strip 45 [] t refl h, no_strip 126 [] t refl h, no_strip 33 [] t refl h, no_strip 42 [] t refl h, no_strip 38 [] t refl h, no_strip 40 [] t refl h) refl;
}

no_type_name : (name z : List ℕ) → IsName name → begins_with is_word_byte z ≡ false → at_type (name ++ z) ≡ false
no_type_name name z is n =
    ap (λ w. begins_with is_nondigit (name ++ z) && is_among words w) (front_is is_word_byte name z is.goes_on n)
    ∙ ap (λ t. begins_with is_nondigit (name ++ z) && t) is.is_no_word ∙ and_false (begins_with is_nondigit (name ++ z))
  where
    and_false : (b : Bool) → b && false ≡ false
    and_false true = refl
    and_false false = refl

no_type_digit : (t : List ℕ) → begins_with is_digit t ≡ true → at_type t ≡ false
no_type_digit [] h = refl
no_type_digit (b ∷ bs) h = ap (λ t. t && is_among words (front is_word_byte (b ∷ bs))) (digit_is_no_nondigit b h)

pub small : (n : ℕ) (s : Suffix) → n ≤ greatest s → n < 2 ^ 64
small n Plain h = omega (arith, h)
small n U h = omega (arith, h)
small n L h = omega (arith, h)
small n UL h = omega (arith, h)

pub digits_begin : (n : ℕ) (s : Suffix) (z : List ℕ) → n < 2 ^ 64 → begins_with is_digit ((decimal n ++ suffix_text s) ++ z) ≡ true
digits_begin n s z h = begins-push is_digit (decimal n ++ suffix_text s) z (begins-push is_digit (decimal n) (suffix_text s) (decimal_is_number n h).some)

pub no_type : (e : Expr) (z : List ℕ) → WrittenExpr e → begins_with is_word_byte z ≡ false → at_type (expr_text e ++ z) ≡ false
no_type (Name name) z w n = no_type_name name z w n
no_type (Constant m s) z w n = no_type_digit ((decimal m ++ suffix_text s) ++ z) (digits_begin m s z (small m s w))
no_type (Index a b) z w n = ap at_type (append_assoc (expr_text a) _ z) ∙ no_type a _ w.0 refl
no_type (Dot a name) z w n = ap at_type (append_assoc (expr_text a) _ z) ∙ no_type a _ w.0 refl
no_type (Arrow a name) z w n = ap at_type (append_assoc (expr_text a) _ z) ∙ no_type a _ w.0 refl
no_type (Call a es) z w n = ap at_type (append_assoc (expr_text a) _ z) ∙ no_type a _ w.0 refl
no_type (Unary op a) z w n = refl
no_type (Binary op a b) z w n = refl
no_type (Logic op a b) z w n = refl
no_type (Choice c a b) z w n = refl
no_type (Cast t a) z w n = refl

parenthesis_opens : (t : List ℕ) → at_type t ≡ false → First (40 ∷ t)
parenthesis_opens t h = record { closes_not = refl; no_semicolon = refl; no_brace = refl; no_quote = refl; opens = λ frames. ap (λ b. if b then Some (InType frames (types.Before [] t)) else Some (Want (InFirst ∷ frames) (40 ∷ t))) h }

not_type : (op : Prefix) (z : List ℕ) → at_type (prefix_text op ++ z) ≡ false
not_type Minus z = refl
not_type Complement z = refl
not_type Not z = refl
not_type Deref z = refl
not_type AddressOf z = refl

first_of_left : (a : Expr) (y z : List ℕ) → First (expr_text a ++ (y ++ z)) → First ((expr_text a ++ y) ++ z)
first_of_left a y z f = subst First (sym (append_assoc (expr_text a) y z)) f

in_front : (a : Expr) (y z : List ℕ) → WrittenExpr a → begins_with is_word_byte (y ++ z) ≡ false → First (40 ∷ ((expr_text a ++ y) ++ z))
in_front a y z w n = parenthesis_opens _ (ap at_type (append_assoc (expr_text a) y z) ∙ no_type a (y ++ z) w n)

pub first_of : (e : Expr) (z : List ℕ) → WrittenExpr e → First (expr_text e ++ z)
first_of (Name name) z w = word_opens _ (begins-push is_word_byte name z (first_word is_nondigit nondigit_is_word name w.begins))
first_of (Constant m s) z w = word_opens _ (first_word is_digit digit_is_word ((decimal m ++ suffix_text s) ++ z) (digits_begin m s z (small m s w)))
first_of (Index a b) z w = first_of_left a _ z (first_of a _ w.0)
first_of (Dot a name) z w = first_of_left a _ z (first_of a _ w.0)
first_of (Arrow a name) z w = first_of_left a _ z (first_of a _ w.0)
first_of (Call a es) z w = first_of_left a _ z (first_of a _ w.0)
first_of (Unary op a) z w = parenthesis_opens _ (ap at_type (append_assoc (prefix_text op) _ z) ∙ not_type op _)
first_of (Binary op a b) z w = in_front a _ z w.0 refl
first_of (Logic op a b) z w = in_front a _ z w.0 refl
first_of (Choice c a b) z w = in_front c _ z w.0 refl
first_of (Cast t a) z w = parenthesis_opens _ refl

-- a type begins with a word of the language
pub type_begins : (t : Type89) (inner z : List ℕ) → begins_with is_word_byte z ≡ false → at_type (declaration_text t inner ++ z) ≡ true
type_begins (Based true b) inner z n = refl
type_begins (Based false b) inner z n = ap at_type (append_assoc (base_text b) (blank_before inner) z) ∙ base b (blank_before inner ++ z) (blank_is_no_word inner z n)
  where
    base : (b : Base) (z : List ℕ) → begins_with is_word_byte z ≡ false → at_type (base_text b ++ z) ≡ true
    base Void z n = rw (front_none is_word_byte z n) refl
    base Char z n = rw (front_none is_word_byte z n) refl
    base SignedChar z n = refl
    base UnsignedChar z n = refl
    base Short z n = rw (front_none is_word_byte z n) refl
    base UnsignedShort z n = refl
    base Int z n = rw (front_none is_word_byte z n) refl
    base UnsignedInt z n = refl
    base Long z n = rw (front_none is_word_byte z n) refl
    base UnsignedLong z n = refl
    base (Struct name) z n = refl
type_begins (Pointer c to) inner z n = type_begins to _ z n
type_begins (Array m of) inner z n = type_begins of _ z n
type_begins (Function r ps v) inner z n = type_begins r _ z n

-- types within

within_type : (frames : List Frame) (s t : types.State) → Reach types.State types.step s t → Reads (InType frames s) (InType frames t)
within_type frames s t (here _ _ e) = here _ _ (ap (InType frames) e)
within_type frames s t (goes _ u _ e r) = by step _ _ _ (ap (in_type frames s) e) (within_type frames u t r)

pub reads_cast : (frames : List Frame) (t : Type89) (z : List ℕ) → WrittenType t → Reads (InType frames (types.Before [] (declaration_text t [] ++ (codes ")" ++ z)))) (Want (InCast t ∷ frames) z)
reads_cast frames t z w =
    onwards step _ _ _ (within_type frames _ _ (declared t w [] [] [] (direct_fits t [] [] [] nothing) [] (codes ")" ++ z) (parenthesis_ends z)))
    (by step _ _ _ (ap (in_type frames (types.After [] (root t) (spine [] t) [] (codes ")" ++ z))) (ended (root t) (spine [] t) [] (codes ")" ++ z) (parenthesis_ends z)) ∙ ap (λ type. Some (Want (InCast type ∷ frames) z)) (apply_spine t w []))
    (stays step _))

-- operations

abbrev pub operation_text : Operation → List ℕ
operation_text (OfBinary op) = sign_text op
operation_text (OfLogic op) = logic_text op
operation_text OfChoice = codes "?"

pub marks : (o : Operation) → (AllBytes is_mark (operation_text o)) × (operation_of (operation_text o) ≡ Some o)
marks (OfBinary Mul) = ((refl, tt), refl)
marks (OfBinary Div) = ((refl, tt), refl)
marks (OfBinary Rem) = ((refl, tt), refl)
marks (OfBinary Add) = ((refl, tt), refl)
marks (OfBinary Sub) = ((refl, tt), refl)
marks (OfBinary ShiftLeft) = ((refl, (refl, tt)), refl)
marks (OfBinary ShiftRight) = ((refl, (refl, tt)), refl)
marks (OfBinary Less) = ((refl, tt), refl)
marks (OfBinary Greater) = ((refl, tt), refl)
marks (OfBinary LessEqual) = ((refl, (refl, tt)), refl)
marks (OfBinary GreaterEqual) = ((refl, (refl, tt)), refl)
marks (OfBinary Equal) = ((refl, (refl, tt)), refl)
marks (OfBinary NotEqual) = ((refl, (refl, tt)), refl)
marks (OfBinary BitAnd) = ((refl, tt), refl)
marks (OfBinary BitXor) = ((refl, tt), refl)
marks (OfBinary BitOr) = ((refl, tt), refl)
marks (OfLogic And) = ((refl, (refl, tt)), refl)
marks (OfLogic Or) = ((refl, (refl, tt)), refl)
marks OfChoice = ((refl, tt), refl)

pub reads_operation : (o : Operation) (frames : List Frame) (left : Expr) (z : List ℕ) → step (Have (InFirst ∷ frames) left (codes " " ++ (operation_text o ++ (codes " " ++ z)))) ≡ Some (Want (behind_operation o left ∷ frames) z)
reads_operation o frames left z =
    let rest = operation_text o ++ (codes " " ++ z) in
    ap (λ w. operates frames left (operation_of w) (behind is_mark rest)) (front_is is_mark (operation_text o) (codes " " ++ z) (marks o).0 refl)
    ∙ ap (λ found. operates frames left found (behind is_mark rest)) (marks o).1
    ∙ ap (operates frames left (Some o)) (behind_is is_mark (operation_text o) (codes " " ++ z) (marks o).0 refl)
