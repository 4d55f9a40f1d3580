-- A declaration is what stands before its name, the name, and what stands behind it.
use Rattle.std.proofs.Common.{◌≡◌, ℕ, ◌==◌, Bool, true, false, not, List, [], ◌∷◌, ◌++◌, length, Option, Some, None, refl, ap, sym, ◌∙◌, append_assoc, append-nil, arith}
use Rattle.std.proofs.lemmas.Bool.Decides.{nat_tests}
use Rattle.std.specs.Prelude.{codes}
use Rattle.model_core.specs.Program89.{Declaration, Function}
use Rattle.model_c89.specs.Signs89.{base_text}
use Rattle.model_c89.specs.Spelling89.{more_named_text, named_text, head_text}
use Rattle.c89_tree.specs.ProgramNodes89.{types}
use Rattle.model_c89.specs.SpellingParts89.{const_text, blank_before, star_text, pointer_text, count_text, declaration_text, parameters_text, others_text}
use Rattle.model_core.specs.Types89.{Type89, Based, Pointer, Array, Function as FunctionType, Types89, no_types, more_types}
use Rattle.c89_writer.specs.apparatus.Sides.{is_some, blank, star, opened, closed, front, back, dots}

blank_law : (inner : List ℕ) → blank_before inner ≡ blank (is_some inner) ++ inner
blank_law [] = refl
blank_law (byte ∷ bytes) = refl

star_law : (is_const : Bool) (inner : List ℕ) → star_text is_const inner ≡ star is_const (is_some inner) ++ inner
star_law false inner = refl
star_law true inner = ap (λ t. codes "*const" ++ t) (blank_law inner) ∙ sym (append_assoc (codes "*const") (blank (is_some inner)) inner)

in_parentheses : (is_const : Bool) (inner : List ℕ) → codes "(" ++ (star_text is_const inner ++ codes ")") ≡ (codes "(" ++ star is_const (is_some inner)) ++ (inner ++ codes ")")
in_parentheses c inner =
    ap (λ t. codes "(" ++ (t ++ codes ")")) (star_law c inner)
    ∙ ap (λ t. codes "(" ++ t) (append_assoc (star c (is_some inner)) inner (codes ")"))
    ∙ sym (append_assoc (codes "(") (star c (is_some inner)) (inner ++ codes ")"))

pointer_law : (is_const : Bool) (to : Type89) (inner : List ℕ) → pointer_text is_const to inner ≡ (opened to ++ star is_const (is_some inner)) ++ (inner ++ closed to)
pointer_law c (Based d b) inner = star_law c inner ∙ ap (λ t. star c (is_some inner) ++ t) (sym (append-nil inner))
pointer_law c (Pointer d t) inner = star_law c inner ∙ ap (λ t. star c (is_some inner) ++ t) (sym (append-nil inner))
pointer_law c (Array n t) inner = in_parentheses c inner
pointer_law c (FunctionType r ps v) inner = in_parentheses c inner

pointer_is_some : (is_const : Bool) (to : Type89) (inner : List ℕ) → is_some (pointer_text is_const to inner) ≡ true
pointer_is_some false (Based d b) inner = refl
pointer_is_some true (Based d b) inner = refl
pointer_is_some false (Pointer d t) inner = refl
pointer_is_some true (Pointer d t) inner = refl
pointer_is_some c (Array n t) inner = refl
pointer_is_some c (FunctionType r ps v) inner = refl

count_is_some : (inner : List ℕ) (count : Option ℕ) → is_some (inner ++ count_text count) ≡ true
count_is_some [] None = refl
count_is_some [] (Some count) = refl
count_is_some (byte ∷ bytes) count = refl

parenthesis_is_some : (inner others : List ℕ) → is_some (inner ++ (codes "(" ++ others)) ≡ true
parenthesis_is_some [] others = refl
parenthesis_is_some (byte ∷ bytes) others = refl

-- what is declared by more text than the name
around : (t : Type89) (before inner behind whole : List ℕ) → is_some whole ≡ true → whole ≡ before ++ (inner ++ behind)
    → declaration_text t whole ≡ front t (is_some whole) ++ (whole ++ back t)
    → declaration_text t whole ≡ (front t true ++ before) ++ (inner ++ (behind ++ back t))
around t before inner behind whole some parts e =
    e
    ∙ ap (λ s. front t s ++ (whole ++ back t)) some
    ∙ ap (λ w. front t true ++ (w ++ back t)) parts
    ∙ ap (λ w. front t true ++ w) (append_assoc before (inner ++ behind) (back t))
    ∙ ap (λ w. front t true ++ (before ++ w)) (append_assoc inner behind (back t))
    ∙ sym (append_assoc (front t true) before (inner ++ (behind ++ back t)))

-- a declaration is what stands before its name, the name, and what stands behind it
pub declared : (t : Type89) (inner : List ℕ) → declaration_text t inner ≡ front t (is_some inner) ++ (inner ++ back t)
declared (Based c b) inner =
    ap (λ w. const_text c ++ (base_text b ++ w)) (blank_law inner)
    ∙ ap (λ w. const_text c ++ w) (sym (append_assoc (base_text b) (blank (is_some inner)) inner))
    ∙ sym (append_assoc (const_text c) (base_text b ++ blank (is_some inner)) inner)
    ∙ ap (λ w. (const_text c ++ (base_text b ++ blank (is_some inner))) ++ w) (sym (append-nil inner))
declared (Pointer c to) inner =
    around to (opened to ++ star c (is_some inner)) inner (closed to) (pointer_text c to inner) (pointer_is_some c to inner) (pointer_law c to inner) (declared to (pointer_text c to inner))
declared (Array n of) inner =
    around of [] inner (count_text n) (inner ++ count_text n) (count_is_some inner n) refl (declared of (inner ++ count_text n))
    ∙ ap (λ w. w ++ (inner ++ (count_text n ++ back of))) (append-nil (front of true))
declared (FunctionType r ps v) inner =
    let list = codes "(" ++ (parameters_text ps v ++ codes ")") in
    around r [] inner list (inner ++ list) (parenthesis_is_some inner (parameters_text ps v ++ codes ")")) refl (declared r (inner ++ list))
    ∙ ap (λ w. w ++ (inner ++ (list ++ back r))) (append-nil (front r true))
    ∙ ap (λ w. front r true ++ (inner ++ w)) (append_assoc (codes "(") (parameters_text ps v ++ codes ")") (back r) ∙ ap (λ w. codes "(" ++ w) (append_assoc (parameters_text ps v) (codes ")") (back r)))

pub others_and_dots : (types : Types89) (is_variadic : Bool) → others_text types is_variadic ≡ others_text types false ++ dots is_variadic
others_and_dots no_types false = refl
others_and_dots no_types true = refl
others_and_dots (more_types first others) is_variadic =
    ap (λ w. codes ", " ++ (declaration_text first [] ++ w)) (others_and_dots others is_variadic)
    ∙ ap (λ w. codes ", " ++ w) (sym (append_assoc (declaration_text first []) (others_text others false) (dots is_variadic)))
    ∙ sym (append_assoc (codes ", ") (declaration_text first [] ++ others_text others false) (dots is_variadic))

pub named_and_dots : (ds : List Declaration) (is_variadic : Bool) → more_named_text ds is_variadic ≡ more_named_text ds false ++ dots is_variadic
named_and_dots [] false = refl
named_and_dots [] true = refl
named_and_dots (d ∷ ds) is_variadic =
    ap (λ w. codes ", " ++ (declaration_text d.type d.name ++ w)) (named_and_dots ds is_variadic)
    ∙ ap (λ w. codes ", " ++ w) (sym (append_assoc (declaration_text d.type d.name) (more_named_text ds false) (dots is_variadic)))
    ∙ sym (append_assoc (codes ", ") (declaration_text d.type d.name ++ more_named_text ds false) (dots is_variadic))

-- whether a name stands there, as the code asks it
pub some_name : (name : List ℕ) (empty : Bool) → empty ≡ (length name == 0) → not empty ≡ is_some name
some_name [] empty e = rw (e) refl
some_name (byte ∷ bytes) empty e =
    let none : (length (byte ∷ bytes) == 0) ≡ false = grind (arith, nat_tests) in
    rw (e, none) refl

pub parameters_behind : (ps : List Type89) (first : Type89) (others : List Type89) (is_variadic : Bool) → ps ≡ first ∷ others
    → parameters_text (types ps) is_variadic ≡ declaration_text first [] ++ (others_text (types others) false ++ dots is_variadic)
parameters_behind ps first others is_variadic e =
    ap (λ xs. parameters_text (types xs) is_variadic) e ∙ ap (λ w. declaration_text first [] ++ w) (others_and_dots (types others) is_variadic)

pub named_behind : (ps : List Declaration) (first : Declaration) (others : List Declaration) (is_variadic : Bool) → ps ≡ first ∷ others
    → named_text ps is_variadic ≡ declaration_text first.type first.name ++ (more_named_text others false ++ dots is_variadic)
named_behind ps first others is_variadic e =
    ap (λ xs. named_text xs is_variadic) e ∙ ap (λ w. declaration_text first.type first.name ++ w) (named_and_dots others is_variadic)

pub head_written : (f : Function) → declaration_text f.result (head_text f)
    ≡ front f.result true ++ (f.name ++ (codes "(" ++ (named_text f.parameters f.is_variadic ++ (codes ")" ++ back f.result))))
head_written f =
    let named = named_text f.parameters f.is_variadic in
    declared f.result (head_text f)
    ∙ ap (λ s. front f.result s ++ (head_text f ++ back f.result)) (parenthesis_is_some f.name (named ++ codes ")"))
    ∙ ap (λ w. front f.result true ++ w)
    (append_assoc f.name (codes "(" ++ (named ++ codes ")")) (back f.result)
    ∙ ap (λ w. f.name ++ w) (append_assoc (codes "(") (named ++ codes ")") (back f.result) ∙ ap (λ w. codes "(" ++ w) (append_assoc named (codes ")") (back f.result))))
