-- Lines of declarations and labels: what a line is shows by its indent and its first word.
use Rattle.std.proofs.Common.{◌≡◌, ℕ, zero, suc, ◌==◌, List, [], ◌∷◌, ◌++◌, Bool, true, false, ◌||◌, Option, Some, None, if◌then◌else◌, refl, sym, ap, ◌∙◌, arith, append_assoc}
use Rattle.std.specs.Prelude.{codes}
use Rattle.std.specs.Str.{bytes_eq}
use Rattle.std.proofs.lemmas.Bool.Decides.{nat_tests}
use Rattle.model_types.specs.ByteClasses.{is_word_byte, begins_with}
use Rattle.model_c89.specs.SpellingParts89.{blank_before, declaration_text, expr_text, indent, objects_text, label_text, labels_text}
use Rattle.model_c89.specs.Signs89.{base_text}
use Rattle.model_core.specs.Types89.{Base, Void, Char, SignedChar, UnsignedChar, Short, UnsignedShort, Int, UnsignedInt, Long, UnsignedLong, Struct, Type89, Based, Pointer, Array, Function}
use Rattle.model_c89.specs.Written89.{WrittenExpr, WrittenDeclarations, WrittenLabels}
use Rattle.model_core.specs.Program89.{Expr, Declaration, Label, Case, Default}
use Rattle.model_c89.proofs.UniqueWords.{strip, front}
use Rattle.model_c89.proofs.ReadDeclarators.{blank_is_no_word}
use Rattle.model_c89.proofs.TypesMachine.{Ends}
use Rattle.model_c89.proofs.UniqueTypes.{one_declaration}
use Rattle.model_c89.proofs.ExpressionsMachine.{at_type}
use Rattle.model_c89.proofs.ExpressionFronts.{first_of, no_type, type_begins}
use Rattle.model_c89.proofs.UniqueExpressions.{Quiet, one_expr}

-- a common front cancels
pub cancel : (w x y : List ℕ) → w ++ x ≡ w ++ y → x ≡ y
cancel [] x y e = e
cancel (b ∷ w) x y e = cancel w x y (let rest : w ++ x ≡ w ++ y = cc in rest)

pub heads : (a b : ℕ) (x y : List ℕ) → a ∷ x ≡ b ∷ y → a ≡ b
heads a b x y e = cc

pub differ : {A : Type 0} → true ≡ false → A
differ h = absurd (let f : true ≡ false = h in cc)

itself : (b : ℕ) → (b == b) ≡ true
itself b = grind (arith, nat_tests)

strip_front : (w z : List ℕ) → strip w (w ++ z) ≡ Some z
strip_front [] z = refl
strip_front (b ∷ w) z = ap (λ t. if t then strip w (w ++ z) else None) (itself b) ∙ strip_front w z

-- what a line is, by the word with which it begins

abbrev pub keyword : List ℕ → ℕ
keyword w =
    if bytes_eq (codes "if") w then 5 else if bytes_eq (codes "for") w then 6 else if bytes_eq (codes "switch") w then 7
    else if bytes_eq (codes "break") w then 8 else if bytes_eq (codes "continue") w then 9 else if bytes_eq (codes "return") w then 10
    else if bytes_eq (codes "case") w then 11 else if bytes_eq (codes "default") w then 12 else 1

abbrev pub is_there : Option (List ℕ) → Bool
is_there None = false
is_there (Some text) = true

abbrev pub sign : List ℕ → ℕ
sign text = if is_there (strip (codes ";") text) then 3 else if is_there (strip (codes "{") text) then 4 else 2

abbrev pub code_of : List ℕ → ℕ
code_of text = if at_type text then keyword (front is_word_byte text) else sign text

abbrev pub code_or_end : Option (List ℕ) → ℕ
code_or_end None = 0
code_or_end (Some text) = code_of text

-- 0 is the end of lines of a level
abbrev pub line_code : (level : ℕ) → List ℕ → ℕ
line_code level text = code_or_end (strip (indent level) text)

pub code_behind : (level : ℕ) (text : List ℕ) → line_code level (indent level ++ text) ≡ code_of text
code_behind level text = ap code_or_end (strip_front (indent level) text)

pub code_of_end : (level : ℕ) (text : List ℕ) → line_code (suc level) (indent level ++ (125 ∷ text)) ≡ 0
code_of_end level text = ap code_or_end (ends level)
  where
    ends : (level : ℕ) → strip (indent (suc level)) (indent level ++ (125 ∷ text)) ≡ None
    ends zero = refl
    ends (suc level) = ends level

pub code_of_type : (t : Type89) (inner z : List ℕ) → begins_with is_word_byte z ≡ false → code_of (declaration_text t inner ++ z) ≡ 1
code_of_type t inner z n = ap (λ b. if b then keyword (front is_word_byte (declaration_text t inner ++ z)) else sign (declaration_text t inner ++ z)) (type_begins t inner z n) ∙ word t inner z n
  where
    base : (b : Base) (z : List ℕ) → begins_with is_word_byte z ≡ false → keyword (front is_word_byte (base_text b ++ z)) ≡ 1
    base Void z n = refl
    base Char z n = refl
    base SignedChar z n = refl
    base UnsignedChar z n = refl
    base Short z n = refl
    base UnsignedShort z n = refl
    base Int z n = refl
    base UnsignedInt z n = refl
    base Long z n = refl
    base UnsignedLong z n = refl
    base (Struct name) z n = refl

    word : (t : Type89) (inner z : List ℕ) → begins_with is_word_byte z ≡ false → keyword (front is_word_byte (declaration_text t inner ++ z)) ≡ 1
    word (Based true b) inner z n = refl
    word (Based false b) inner z n = ap (λ r. keyword (front is_word_byte r)) (append_assoc (base_text b) (blank_before inner) z) ∙ base b (blank_before inner ++ z) (blank_is_no_word inner z n)
    word (Pointer c to) inner z n = word to _ z n
    word (Array m of) inner z n = word of _ z n
    word (Function r ps v) inner z n = word r _ z n

pub code_of_expr : (e : Expr) (z : List ℕ) → WrittenExpr e → begins_with is_word_byte z ≡ false → code_of (expr_text e ++ z) ≡ 2
code_of_expr e z w n =
    let text = expr_text e ++ z in
    ap (λ b. if b then keyword (front is_word_byte text) else sign text) (no_type e z w n)
    ∙ ap (λ o. if is_there o then 3 else if is_there (strip (codes "{") text) then 4 else 2) (first_of e z w).no_semicolon
    ∙ ap (λ o. if is_there o then 4 else 2) (first_of e z w).no_brace

-- lines of declarations

pub semicolon_ends : (z : List ℕ) → Ends (59 ∷ z)
semicolon_ends z = record {
  follows = record { no_word = refl; no_blank = refl; no_star = refl; no_inner = refl };
  no_bracket = refl;
  no_parenthesis = refl;
}

objects_whole : (level : ℕ) (d : Declaration) (ds : List Declaration) (x : List ℕ) → objects_text level (d ∷ ds) ++ x ≡ indent level ++ (declaration_text d.type d.name ++ (codes ";\n" ++ (objects_text level ds ++ x)))
objects_whole level d ds x = append_assoc (indent level) _ x ∙ ap (λ r. indent level ++ r) (append_assoc (declaration_text d.type d.name) _ x)

pub code_of_objects : (level : ℕ) (d : Declaration) (ds : List Declaration) (x : List ℕ) → line_code level (objects_text level (d ∷ ds) ++ x) ≡ 1
code_of_objects level d ds x = ap (line_code level) (objects_whole level d ds x) ∙ code_behind level _ ∙ code_of_type d.type d.name (codes ";\n" ++ (objects_text level ds ++ x)) refl

pub one_objects : (level : ℕ) (ds es : List Declaration) (x y : List ℕ) → WrittenDeclarations ds → WrittenDeclarations es → (line_code level x == 1) ≡ false → (line_code level y == 1) ≡ false
    → objects_text level ds ++ x ≡ objects_text level es ++ y → (ds ≡ es) × (x ≡ y)
one_objects level [] [] x y p q m n e = (refl, e)
one_objects level [] (d ∷ es) x y p q m n e = differ (sym (ap (λ c. c == 1) (ap (line_code level) e ∙ code_of_objects level d es y)) ∙ m)
one_objects level (d ∷ ds) [] x y p q m n e = differ (sym (ap (λ c. c == 1) (ap (line_code level) (sym e) ∙ code_of_objects level d ds x)) ∙ n)
one_objects level (d ∷ ds) (f ∷ es) x y p q m n e =
    let inside = cancel (indent level) _ _ (sym (objects_whole level d ds x) ∙ e ∙ objects_whole level f es y) in
    let one = one_declaration d.type f.type d.name f.name _ _ p.0 q.0 p.1 q.1 (semicolon_ends _) (semicolon_ends _) inside in
    let rest = one_objects level ds es x y p.2 q.2 m n (cancel (codes ";\n") _ _ one.2) in
    (ap (λ t. record { type = t; name = d.name } ∷ ds) one.0 ∙ ap (λ k. record { type = f.type; name = k } ∷ ds) one.1 ∙ ap (λ l. f ∷ l) rest.0, rest.1)

-- labels

abbrev pub is_label : ℕ → Bool
is_label code = (code == 11) || (code == 12)

abbrev pub label_code : Label → ℕ
label_code (Case e) = 11
label_code Default = 12

abbrev label_tail : Label → List ℕ → List ℕ
label_tail (Case e) x = codes "case " ++ (expr_text e ++ (codes ":\n" ++ x))
label_tail Default x = codes "default:\n" ++ x

labels_whole : (level : ℕ) (l : Label) (ls : List Label) (x : List ℕ) → labels_text level (l ∷ ls) ++ x ≡ indent level ++ label_tail l (labels_text level ls ++ x)
labels_whole level (Case e) ls x =
    append_assoc (label_text level (Case e)) (labels_text level ls) x ∙ append_assoc (indent level) _ _ ∙ ap (λ r. indent level ++ (codes "case " ++ r)) (append_assoc (expr_text e) (codes ":\n") _)
labels_whole level Default ls x = append_assoc (label_text level Default) (labels_text level ls) x ∙ append_assoc (indent level) _ _

label_tail_code : (l : Label) (x : List ℕ) → code_of (label_tail l x) ≡ label_code l
label_tail_code (Case e) x = refl
label_tail_code Default x = refl

pub code_of_labels : (level : ℕ) (l : Label) (ls : List Label) (x : List ℕ) → line_code level (labels_text level (l ∷ ls) ++ x) ≡ label_code l
code_of_labels level l ls x = ap (line_code level) (labels_whole level l ls x) ∙ code_behind level _ ∙ label_tail_code l _

pub is_label_code : (l : Label) → is_label (label_code l) ≡ true
is_label_code (Case e) = refl
is_label_code Default = refl

colon_quiet : (z : List ℕ) → Quiet (58 ∷ z)
colon_quiet z = record { no_word = refl; no_index = refl; no_member = refl; no_arrow = refl; no_call = refl }

pub one_labels : (level : ℕ) (ls ms : List Label) (x y : List ℕ) → WrittenLabels ls → WrittenLabels ms → is_label (line_code level x) ≡ false → is_label (line_code level y) ≡ false
    → labels_text level ls ++ x ≡ labels_text level ms ++ y → (ls ≡ ms) × (x ≡ y)
one_labels level [] [] x y p q m n e = (refl, e)
one_labels level [] (l ∷ ms) x y p q m n e = differ (sym (ap is_label (ap (line_code level) e ∙ code_of_labels level l ms y) ∙ is_label_code l) ∙ m)
one_labels level (l ∷ ls) [] x y p q m n e = differ (sym (ap is_label (ap (line_code level) (sym e) ∙ code_of_labels level l ls x) ∙ is_label_code l) ∙ n)
one_labels level (Case a ∷ ls) (Case b ∷ ms) x y p q m n e =
    let inside = cancel (codes "case ") _ _ (cancel (indent level) _ _ (sym (labels_whole level (Case a) ls x) ∙ e ∙ labels_whole level (Case b) ms y)) in
    let one = one_expr a b _ _ p.0 q.0 (colon_quiet _) (colon_quiet _) inside in
    let rest = one_labels level ls ms x y p.1 q.1 m n (cancel (codes ":\n") _ _ one.1) in
    (ap (λ v. Case v ∷ ls) one.0 ∙ ap (λ l. Case b ∷ l) rest.0, rest.1)
one_labels level (Default ∷ ls) (Default ∷ ms) x y p q m n e =
    let inside = cancel (codes "default:\n") _ _ (cancel (indent level) _ _ (sym (labels_whole level Default ls x) ∙ e ∙ labels_whole level Default ms y)) in
    let rest = one_labels level ls ms x y p q m n inside in
    (ap (λ l. Default ∷ l) rest.0, rest.1)
one_labels level (Case a ∷ ls) (Default ∷ ms) x y p q m n e =
    absurd (let h : 11 ≡ 12 = sym (code_of_labels level (Case a) ls x) ∙ ap (line_code level) e ∙ code_of_labels level Default ms y in omega (arith, h))
one_labels level (Default ∷ ls) (Case b ∷ ms) x y p q m n e =
    absurd (let h : 12 ≡ 11 = sym (code_of_labels level Default ls x) ∙ ap (line_code level) e ∙ code_of_labels level (Case b) ms y in omega (arith, h))
