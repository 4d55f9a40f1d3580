-- Two expressions with one spelling are the same.
use Rattle.std.proofs.Common.{◌≡◌, ℕ, ◌≤◌, List, [], ◌∷◌, ◌++◌, true, false, Option, Some, None, if◌then◌else◌, refl, sym, ap, ◌∙◌, subst, append_assoc}
use Rattle.std.specs.Prelude.{codes}
use Rattle.std.specs.Fmt.{decimal}
use Rattle.model_types.specs.ByteClasses.{is_digit, is_nondigit, is_word_byte, begins_with, AllBytes}
use Rattle.model_c89.specs.Names89.{IsName}
use Rattle.model_c89.specs.SpellingParts89.{declaration_text, expr_text, more_arguments_text}
use Rattle.model_c89.specs.Signs89.{sign_text, logic_text, prefix_text, suffix_text}
use Rattle.model_types.specs.declared.numbers.BinOp.{BinOp}
use Rattle.model_types.specs.declared.operators.LogicOp.{LogicOp}
use Rattle.model_core.specs.Types89.{Type89}
use Rattle.model_c89.specs.Written89.{WrittenExpr, WrittenExprs, greatest}
use Rattle.model_core.specs.Program89.{Expr, Name, Constant, Index, Dot, Arrow, Call, Unary, Binary, Logic, Choice, Cast, Exprs, no_exprs, more_exprs, Prefix, Minus, Complement, Not, Deref, AddressOf, Suffix, Plain, U, L, UL}
use Rattle.model_c89.proofs.UniqueWords.{strip, front, behind, front_is, behind_is, number_is, behind_number}
use Rattle.model_c89.proofs.ReadingMachine.{by, stays, onwards, one_end}
use Rattle.model_c89.proofs.TypesMachine as types
use Rattle.model_c89.proofs.ExpressionFronts.{Reads, no_word_no_digit, nondigit_is_no_digit, small, digits_begin, first_of, type_begins, reads_cast, reads_operation}
use Rattle.model_c89.proofs.ExpressionsMachine.{OfBinary, OfLogic, OfChoice, Frame, InIndex, InCall, InUnary, InFirst, InBinary, InLogic, InSecond, InThird, InCast, State, Want, InType, Have, exprs, suffix_of, at_number, at_name, at_parenthesis, arguments, after_call, after_arrow, after_dot, after_index, step}

abbrev list_of : Exprs → List Expr
list_of no_exprs = []
list_of (more_exprs e es) = e ∷ list_of es

exprs_list : (es : Exprs) → exprs (list_of es) ≡ es
exprs_list no_exprs = refl
exprs_list (more_exprs e es) = ap (more_exprs e) (exprs_list es)

no_digit : (z : List ℕ) → begins_with is_word_byte z ≡ false → begins_with is_digit z ≡ false
no_digit [] n = refl
no_digit (b ∷ bs) n = no_word_no_digit b n

-- names and constants

reads_name : (frames : List Frame) (name z : List ℕ) → IsName name → begins_with is_word_byte z ≡ false → step (Want frames (name ++ z)) ≡ Some (Have frames (Name name) z)
reads_name frames name z is n =
    ap (λ t. if t then at_number frames (front is_digit (name ++ z)) (behind is_digit (name ++ z)) else rest) (first name z is.begins).0
    ∙ ap (λ t. if t then at_name frames (name ++ z) else at_parenthesis frames (strip (codes "(") (name ++ z))) (first name z is.begins).1
    ∙ ap (λ w. Some (Have frames (Name w) (behind is_word_byte (name ++ z)))) (front_is is_word_byte name z is.goes_on n)
    ∙ ap (λ r. Some (Have frames (Name name) r)) (behind_is is_word_byte name z is.goes_on n)
  where
    rest : Option State
    rest = if begins_with is_nondigit (name ++ z) then at_name frames (name ++ z) else at_parenthesis frames (strip (codes "(") (name ++ z))

    first : (name z : List ℕ) → begins_with is_nondigit name ≡ true → (begins_with is_digit (name ++ z) ≡ false) × (begins_with is_nondigit (name ++ z) ≡ true)
    first [] z h = absurd (let f : false ≡ true = h in cc)
    first (b ∷ bs) z h = (nondigit_is_no_digit b h, h)

suffix_letters : (s : Suffix) → (AllBytes is_word_byte (suffix_text s)) × (suffix_of (suffix_text s) ≡ s)
suffix_letters Plain = (tt, refl)
suffix_letters U = ((refl, tt), refl)
suffix_letters L = ((refl, tt), refl)
suffix_letters UL = ((refl, (refl, tt)), refl)

suffix_no_digit : (s : Suffix) (z : List ℕ) → begins_with is_word_byte z ≡ false → begins_with is_digit (suffix_text s ++ z) ≡ false
suffix_no_digit Plain z n = no_digit z n
suffix_no_digit U z n = refl
suffix_no_digit L z n = refl
suffix_no_digit UL z n = refl

reads_constant : (frames : List Frame) (m : ℕ) (s : Suffix) (z : List ℕ) → m ≤ greatest s → begins_with is_word_byte z ≡ false → step (Want frames ((decimal m ++ suffix_text s) ++ z)) ≡ Some (Have frames (Constant m s) z)
reads_constant frames m s z w n =
    let text = (decimal m ++ suffix_text s) ++ z in
    let within = suffix_text s ++ z in
    let h = small m s w in
    ap (λ t. if t then at_number frames (front is_digit text) (behind is_digit text) else if begins_with is_nondigit text then at_name frames text else at_parenthesis frames (strip (codes "(") text)) (digits_begin m s z h)
    ∙ ap (λ t. at_number frames (front is_digit t) (behind is_digit t)) (append_assoc (decimal m) (suffix_text s) z)
    ∙ ap (λ k. Some (Have frames (Constant k (suffix_of (front is_word_byte (behind is_digit (decimal m ++ within))))) (behind is_word_byte (behind is_digit (decimal m ++ within))))) (number_is m within h (suffix_no_digit s z n))
    ∙ ap (λ r. Some (Have frames (Constant m (suffix_of (front is_word_byte r))) (behind is_word_byte r))) (behind_number m within h (suffix_no_digit s z n))
    ∙ ap (λ l. Some (Have frames (Constant m (suffix_of l)) (behind is_word_byte within))) (front_is is_word_byte (suffix_text s) z (suffix_letters s).0 n)
    ∙ ap (λ t. Some (Have frames (Constant m t) (behind is_word_byte within))) (suffix_letters s).1
    ∙ ap (λ r. Some (Have frames (Constant m s) r)) (behind_is is_word_byte (suffix_text s) z (suffix_letters s).0 n)

-- names behind `.` and `->`

reads_member : (frames : List Frame) (e : Expr) (name z : List ℕ) → IsName name → begins_with is_word_byte z ≡ false → step (Have frames e (codes "." ++ (name ++ z))) ≡ Some (Have frames (Dot e name) z)
reads_member frames e name z is n =
    ap (λ w. Some (Have frames (Dot e w) (behind is_word_byte (name ++ z)))) (front_is is_word_byte name z is.goes_on n)
    ∙ ap (λ r. Some (Have frames (Dot e name) r)) (behind_is is_word_byte name z is.goes_on n)

reads_arrow : (frames : List Frame) (e : Expr) (name z : List ℕ) → IsName name → begins_with is_word_byte z ≡ false → step (Have frames e (codes "->" ++ (name ++ z))) ≡ Some (Have frames (Arrow e name) z)
reads_arrow frames e name z is n =
    ap (λ w. Some (Have frames (Arrow e w) (behind is_word_byte (name ++ z)))) (front_is is_word_byte name z is.goes_on n)
    ∙ ap (λ r. Some (Have frames (Arrow e name) r)) (behind_is is_word_byte name z is.goes_on n)

-- `(` before an expression

opens_first : (frames : List Frame) (e : Expr) (z : List ℕ) → WrittenExpr e → step (Want frames (codes "(" ++ (expr_text e ++ z))) ≡ Some (Want (InFirst ∷ frames) (expr_text e ++ z))
opens_first frames e z w = (first_of e z w).opens frames

opens_unary : (frames : List Frame) (op : Prefix) (z : List ℕ) → step (Want frames (codes "(" ++ (prefix_text op ++ z))) ≡ Some (Want (InUnary op ∷ frames) z)
opens_unary frames Minus z = refl
opens_unary frames Complement z = refl
opens_unary frames Not z = refl
opens_unary frames Deref z = refl
opens_unary frames AddressOf z = refl

opens_cast : (frames : List Frame) (t : Type89) (z : List ℕ) → begins_with is_word_byte z ≡ false → step (Want frames (codes "((" ++ (declaration_text t [] ++ z))) ≡ Some (InType frames (types.Before [] (declaration_text t [] ++ z)))
opens_cast frames t z n = ap (λ b. if b then Some (InType frames (types.Before [] (declaration_text t [] ++ z))) else Some (Want (InFirst ∷ frames) (40 ∷ (declaration_text t [] ++ z)))) (type_begins t [] z n)

calls : (frames : List Frame) (f e : Expr) (z : List ℕ) → WrittenExpr e → step (Have frames f (codes "(" ++ (expr_text e ++ z))) ≡ Some (Want (InCall f [] ∷ frames) (expr_text e ++ z))
calls frames f e z w = ap (arguments frames f (expr_text e ++ z)) (first_of e z w).closes_not

more_ends : (es : Exprs) (z : List ℕ) → begins_with is_word_byte (more_arguments_text es ++ (codes ")" ++ z)) ≡ false
more_ends no_exprs z = refl
more_ends (more_exprs e es) z = refl

-- the text from which something is reached, in another form
from : (s : List ℕ → State) (t : State) (x y : List ℕ) → x ≡ y → Reads (s y) t → Reads (s x) t
from s t x y e r = subst (λ z. Reads (s z) t) (sym e) r

-- operations behind the first expression

two : (a b : Expr) (sign z : List ℕ) → (codes "(" ++ (expr_text a ++ (codes " " ++ (sign ++ (codes " " ++ (expr_text b ++ codes ")")))))) ++ z ≡ codes "(" ++ (expr_text a ++ (codes " " ++ (sign ++ (codes " " ++ (expr_text b ++ (codes ")" ++ z))))))
two a b sign z =
    ap (λ r. codes "(" ++ r) (append_assoc (expr_text a) _ z ∙ ap (λ r. expr_text a ++ (codes " " ++ r)) (append_assoc sign _ z ∙ ap (λ r. sign ++ (codes " " ++ r)) (append_assoc (expr_text b) (codes ")") z)))

three : (c a b : Expr) (z : List ℕ) → expr_text (Choice c a b) ++ z ≡ codes "(" ++ (expr_text c ++ (codes " ? " ++ (expr_text a ++ (codes " : " ++ (expr_text b ++ (codes ")" ++ z))))))
three c a b z =
    ap (λ r. codes "(" ++ r) (append_assoc (expr_text c) _ z ∙ ap (λ r. expr_text c ++ (codes " ? " ++ r)) (append_assoc (expr_text a) _ z ∙ ap (λ r. expr_text a ++ (codes " : " ++ r)) (append_assoc (expr_text b) (codes ")") z)))

reads_binary : (op : BinOp) (frames : List Frame) (left : Expr) (z : List ℕ) → step (Have (InFirst ∷ frames) left (codes " " ++ (sign_text op ++ (codes " " ++ z)))) ≡ Some (Want (InBinary op left ∷ frames) z)
reads_binary op frames left z = reads_operation (OfBinary op) frames left z

reads_logic : (op : LogicOp) (frames : List Frame) (left : Expr) (z : List ℕ) → step (Have (InFirst ∷ frames) left (codes " " ++ (logic_text op ++ (codes " " ++ z)))) ≡ Some (Want (InLogic op left ∷ frames) z)
reads_logic op frames left z = reads_operation (OfLogic op) frames left z

reads_choice : (frames : List Frame) (left : Expr) (z : List ℕ) → step (Have (InFirst ∷ frames) left (codes " ? " ++ z)) ≡ Some (Want (InSecond left ∷ frames) z)
reads_choice frames left z = reads_operation OfChoice frames left z

mutual
  reads : (e : Expr) → WrittenExpr e → (frames : List Frame) (z : List ℕ) → begins_with is_word_byte z ≡ false → Reads (Want frames (expr_text e ++ z)) (Have frames e z)
  reads (Name name) w frames z n = by step _ _ _ (reads_name frames name z w n) (stays step _)
  reads (Constant m s) w frames z n = by step _ _ _ (reads_constant frames m s z w n) (stays step _)
  reads (Index a b) w frames z n =
      from (Want frames) _ _ _ (append_assoc (expr_text a) _ z ∙ ap (λ r. expr_text a ++ (codes "[" ++ r)) (append_assoc (expr_text b) (codes "]") z))
      (onwards step _ _ _ (reads a w.0 frames _ refl)
      (by step _ _ _ refl
      (onwards step _ _ _ (reads b w.1 (InIndex a ∷ frames) (codes "]" ++ z) refl)
      (by step _ _ _ refl (stays step _)))))
  reads (Dot a name) w frames z n =
      from (Want frames) _ _ _ (append_assoc (expr_text a) (codes "." ++ name) z)
      (onwards step _ _ _ (reads a w.0 frames (codes "." ++ (name ++ z)) refl) (by step _ _ _ (reads_member frames a name z w.1 n) (stays step _)))
  reads (Arrow a name) w frames z n =
      from (Want frames) _ _ _ (append_assoc (expr_text a) (codes "->" ++ name) z)
      (onwards step _ _ _ (reads a w.0 frames (codes "->" ++ (name ++ z)) refl) (by step _ _ _ (reads_arrow frames a name z w.1 n) (stays step _)))
  reads (Call a no_exprs) w frames z n =
      from (Want frames) _ _ _ (append_assoc (expr_text a) (codes "()") z)
      (onwards step _ _ _ (reads a w.0 frames (codes "()" ++ z) refl) (by step _ _ _ refl (stays step _)))
  reads (Call a (more_exprs e es)) w frames z n =
      let rest = more_arguments_text es ++ (codes ")" ++ z) in
      from (Want frames) _ _ _ (append_assoc (expr_text a) _ z ∙ ap (λ r. expr_text a ++ (codes "(" ++ r)) (append_assoc (expr_text e ++ more_arguments_text es) (codes ")") z ∙ append_assoc (expr_text e) (more_arguments_text es) (codes ")" ++ z)))
      (onwards step _ _ _ (reads a w.0 frames (codes "(" ++ (expr_text e ++ rest)) refl)
      (by step _ _ _ (calls frames a e rest w.1.0)
      (onwards step _ _ _ (reads e w.1.0 (InCall a [] ∷ frames) rest (more_ends es z))
      (subst (λ l. Reads (Have (InCall a [] ∷ frames) e rest) (Have frames (Call a (more_exprs e l)) z)) (exprs_list es) (reads_more es w.1.1 frames a [] e z)))))
  reads (Unary op a) w frames z n =
      from (Want frames) _ _ _ (ap (λ r. codes "(" ++ r) (append_assoc (prefix_text op) _ z ∙ ap (λ r. prefix_text op ++ r) (append_assoc (expr_text a) (codes ")") z)))
      (by step _ _ _ (opens_unary frames op (expr_text a ++ (codes ")" ++ z)))
      (onwards step _ _ _ (reads a w (InUnary op ∷ frames) (codes ")" ++ z) refl)
      (by step _ _ _ refl (stays step _))))
  reads (Binary op a b) w frames z n =
      from (Want frames) _ _ _ (two a b (sign_text op) z)
      (by step _ _ _ (opens_first frames a _ w.0)
      (onwards step _ _ _ (reads a w.0 (InFirst ∷ frames) (codes " " ++ (sign_text op ++ (codes " " ++ (expr_text b ++ (codes ")" ++ z))))) refl)
      (by step _ _ _ (reads_binary op frames a (expr_text b ++ (codes ")" ++ z)))
      (onwards step _ _ _ (reads b w.1 (InBinary op a ∷ frames) (codes ")" ++ z) refl)
      (by step _ _ _ refl (stays step _))))))
  reads (Logic op a b) w frames z n =
      from (Want frames) _ _ _ (two a b (logic_text op) z)
      (by step _ _ _ (opens_first frames a _ w.0)
      (onwards step _ _ _ (reads a w.0 (InFirst ∷ frames) (codes " " ++ (logic_text op ++ (codes " " ++ (expr_text b ++ (codes ")" ++ z))))) refl)
      (by step _ _ _ (reads_logic op frames a (expr_text b ++ (codes ")" ++ z)))
      (onwards step _ _ _ (reads b w.1 (InLogic op a ∷ frames) (codes ")" ++ z) refl)
      (by step _ _ _ refl (stays step _))))))
  reads (Choice c a b) w frames z n =
      from (Want frames) _ _ _ (three c a b z)
      (by step _ _ _ (opens_first frames c _ w.0)
      (onwards step _ _ _ (reads c w.0 (InFirst ∷ frames) (codes " ? " ++ (expr_text a ++ (codes " : " ++ (expr_text b ++ (codes ")" ++ z))))) refl)
      (by step _ _ _ (reads_choice frames c (expr_text a ++ (codes " : " ++ (expr_text b ++ (codes ")" ++ z)))))
      (onwards step _ _ _ (reads a w.1 (InSecond c ∷ frames) (codes " : " ++ (expr_text b ++ (codes ")" ++ z))) refl)
      (by step _ _ _ refl
      (onwards step _ _ _ (reads b w.2 (InThird c a ∷ frames) (codes ")" ++ z) refl)
      (by step _ _ _ refl (stays step _))))))))
  reads (Cast t a) w frames z n =
      from (Want frames) _ _ _ (ap (λ r. codes "((" ++ r) (append_assoc (declaration_text t []) _ z ∙ ap (λ r. declaration_text t [] ++ (codes ")" ++ r)) (append_assoc (expr_text a) (codes ")") z)))
      (by step _ _ _ (opens_cast frames t (codes ")" ++ (expr_text a ++ (codes ")" ++ z))) refl)
      (onwards step _ _ _ (reads_cast frames t (expr_text a ++ (codes ")" ++ z)) w.0)
      (onwards step _ _ _ (reads a w.1 (InCast t ∷ frames) (codes ")" ++ z) refl)
      (by step _ _ _ refl (stays step _)))))

  reads_more : (es : Exprs) → WrittenExprs es → (frames : List Frame) (f : Expr) (done : List Expr) (e : Expr) (z : List ℕ) → Reads (Have (InCall f done ∷ frames) e (more_arguments_text es ++ (codes ")" ++ z))) (Have frames (Call f (exprs (done ++ (e ∷ list_of es)))) z)
  reads_more no_exprs w frames f done e z = by step _ _ _ refl (stays step _)
  reads_more (more_exprs a es) w frames f done e z =
      let rest = more_arguments_text es ++ (codes ")" ++ z) in
      from (λ x. Have (InCall f done ∷ frames) e (codes ", " ++ x)) _ _ _ (append_assoc (expr_text a) (more_arguments_text es) (codes ")" ++ z))
      (by step _ _ _ refl
      (onwards step _ _ _ (reads a w.0 (InCall f (done ++ (e ∷ [])) ∷ frames) rest (more_ends es z))
      (subst (λ l. Reads (Have (InCall f (done ++ (e ∷ [])) ∷ frames) a rest) (Have frames (Call f (exprs l)) z)) (append_assoc done (e ∷ []) (a ∷ list_of es))
      (reads_more es w.1 frames f (done ++ (e ∷ [])) a z))))

-- what may stand behind a whole expression
pub record Quiet (z : List ℕ) : Type 0 where
  pub no_word : begins_with is_word_byte z ≡ false
  pub no_index : strip (codes "[") z ≡ None
  pub no_member : strip (codes ".") z ≡ None
  pub no_arrow : strip (codes "->") z ≡ None
  pub no_call : strip (codes "(") z ≡ None

value_read : State → Expr
value_read (Want frames text) = Name []
value_read (InType frames state) = Name []
value_read (Have frames e text) = e

text_left : State → List ℕ
text_left (Want frames text) = text
text_left (InType frames state) = []
text_left (Have frames e text) = text

pub one_expr : (a b : Expr) (x y : List ℕ) → WrittenExpr a → WrittenExpr b → Quiet x → Quiet y → expr_text a ++ x ≡ expr_text b ++ y → (a ≡ b) × (x ≡ y)
unfolding value_read text_left
one_expr a b x y p q f g e =
    let one = reads a p [] x f.no_word in
    let two = from (Want []) (Have [] b y) _ _ e (reads b q [] y g.no_word) in
    let same : Have [] a x ≡ Have [] b y = one_end step _ _ _ one two (ends a x f) (ends b y g) in
    (ap value_read same, ap text_left same)
  where
    ends : (e : Expr) (x : List ℕ) → Quiet x → step (Have [] e x) ≡ None
    ends e x f = ap (after_index [] e x) f.no_index ∙ ap (after_dot [] e x) f.no_member ∙ ap (after_arrow [] e x) f.no_arrow ∙ ap (after_call [] e x) f.no_call
