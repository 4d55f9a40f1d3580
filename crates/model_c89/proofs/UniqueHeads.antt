-- How the declarations of a file begin: storage classes, and the heads of functions.
use Rattle.std.proofs.Common.{◌≡◌, ℕ, List, [], ◌∷◌, ◌++◌, Bool, true, false, Option, Some, None, if◌then◌else◌, refl, sym, ap, ◌∙◌, subst, arith, append_assoc}
use Rattle.std.specs.Prelude.{codes}
use Rattle.model_types.specs.ByteClasses.{is_nondigit, begins_with}
use Rattle.model_c89.specs.Names89.{IsName}
use Rattle.model_c89.specs.SpellingParts89.{declaration_text}
use Rattle.model_c89.specs.Spelling89.{named_text, more_named_text, head_text}
use Rattle.model_c89.specs.Signs89.{storage_text}
use Rattle.model_core.specs.Types89.{Base, Void, Char, SignedChar, UnsignedChar, Short, UnsignedShort, Int, UnsignedInt, Long, UnsignedLong, Struct, Type89, Based, Pointer, Array, Function}
use Rattle.model_c89.specs.Written89.{WrittenType, WrittenDeclarations, HasFirst}
use Rattle.model_core.specs.Program89.{Declaration, types_of, Storage, Plainly, Static, Extern}
use Rattle.model_core.specs.Program89 as text
use Rattle.model_c89.proofs.UniqueWords.{strip}
use Rattle.model_c89.proofs.ReadingMachine.{by, stays, onwards}
use Rattle.model_c89.proofs.TypesMachine.{Step, Parameters, Frame, InParameters, Before, After, is_void_alone, real, parameter, step, Follows, Ends, first_mark}
use Rattle.model_c89.proofs.ReadDeclarators.{Reads, Direct, direct_fits, named, parenthesis_ends}
use Rattle.model_c89.proofs.UniqueTypes.{root, spine, apply_spine, declared, comma, with_parameters, alike}
use Rattle.model_c89.proofs.UniqueLines.{cancel, heads}

-- parameters as they are written
abbrev written : List Declaration → List Declaration
written [] = record { type = Based false Void; name = [] } ∷ []
written (d ∷ ds) = d ∷ ds

named_is_not_alone : (t : Type89) (name : List ℕ) (ds : List Declaration) → begins_with is_nondigit name ≡ true → is_void_alone t name ds ≡ false
named_is_not_alone t [] ds h = absurd (let f : false ≡ true = h in cc)
named_is_not_alone (Based true b) (c ∷ cs) ds h = refl
named_is_not_alone (Based false b) (c ∷ cs) ds h = base b
  where
    base : (b : Base) → is_void_alone (Based false b) (c ∷ cs) ds ≡ false
    base Void = refl
    base Char = refl
    base SignedChar = refl
    base UnsignedChar = refl
    base Short = refl
    base UnsignedShort = refl
    base Int = refl
    base UnsignedInt = refl
    base Long = refl
    base UnsignedLong = refl
    base (Struct name) = refl
named_is_not_alone (Pointer k to) (c ∷ cs) ds h = refl
named_is_not_alone (Array n of) (c ∷ cs) ds h = refl
named_is_not_alone (Function r ps v) (c ∷ cs) ds h = refl

real_written : (ds : List Declaration) → WrittenDeclarations ds → real (written ds) ≡ ds
real_written [] w = refl
real_written (d ∷ ds) w = ap (λ t. if t then [] else d ∷ ds) (named_is_not_alone d.type d.name ds w.1.begins)

more_end : (ds : List Declaration) (v : Bool) (z : List ℕ) → Ends (more_named_text ds v ++ (codes ")" ++ z))
more_end [] false z = parenthesis_ends z
more_end [] true z = record { follows = record { no_word = refl; no_blank = refl; no_star = refl; no_inner = refl }; no_bracket = refl; no_parenthesis = refl }
more_end (d ∷ ds) v z = record { follows = record { no_word = refl; no_blank = refl; no_star = refl; no_inner = refl }; no_bracket = refl; no_parenthesis = refl }

named_follow : (ds : List Declaration) (v : Bool) (z : List ℕ) → Follows (codes "(" ++ (named_text ds v ++ z))
named_follow [] v z = record { no_word = refl; no_blank = refl; no_star = refl; no_inner = refl }
named_follow (d ∷ ds) v z = record {
  no_word = refl;
  no_blank = refl;
  no_star = refl;
  no_inner = ap (strip (codes "*")) (append_assoc (declaration_text d.type d.name) (more_named_text ds v) z) ∙ (first_mark d.type d.name (more_named_text ds v ++ z)).0;
}

reads_named : (d : Declaration) → WrittenType d.type → IsName d.name → (frames : List Frame) (z : List ℕ) → Ends z → Reads (Before frames (declaration_text d.type d.name ++ z)) (After frames (root d.type) (spine [] d.type) d.name z)
reads_named d w is frames z e = declared d.type w d.name [] d.name (direct_fits d.type d.name [] d.name (named d.name is)) frames z e

more : (ds : List Declaration) (v : Bool) → WrittenDeclarations ds → (frames : List Frame) (outer : Type89) (outer_steps : List Step) (outer_name : List ℕ) (done : List Declaration) (base : Type89) (steps : List Step) (name z : List ℕ)
    → Reads (After (InParameters outer outer_steps outer_name done ∷ frames) base steps name (more_named_text ds v ++ (codes ")" ++ z))) (After frames outer (Parameters (done ++ (parameter base steps name ∷ ds)) v ∷ outer_steps) outer_name z)
more [] false w frames outer outer_steps outer_name done base steps name z = by step _ _ _ refl (stays step _)
more [] true w frames outer outer_steps outer_name done base steps name z = by step _ _ _ refl (stays step _)
more (d ∷ ds) v w frames outer outer_steps outer_name done base steps name z =
    let p = parameter base steps name in
    let rest = more_named_text ds v ++ (codes ")" ++ z) in
    let goal : List ℕ → List Declaration → Type 0 = λ x l. Reads (After (InParameters outer outer_steps outer_name done ∷ frames) base steps name (codes ", " ++ x)) (After frames outer (Parameters l v ∷ outer_steps) outer_name z) in
    subst (λ x. goal x (done ++ (p ∷ (d ∷ ds)))) (sym (append_assoc (declaration_text d.type d.name) (more_named_text ds v) (codes ")" ++ z)))
    (subst (goal (declaration_text d.type d.name ++ rest)) (append_assoc done (p ∷ []) (d ∷ ds))
    (subst (λ t. goal (declaration_text d.type d.name ++ rest) ((done ++ (p ∷ [])) ++ (record { type = t; name = d.name } ∷ ds))) (apply_spine d.type w.0 [])
    (by step _ _ _ (comma frames outer base outer_steps steps outer_name name done d.type d.name rest)
    (onwards step _ _ _ (reads_named d w.0 w.1 (InParameters outer outer_steps outer_name (done ++ (p ∷ [])) ∷ frames) rest (more_end ds v z))
    (more ds v w.2 frames outer outer_steps outer_name (done ++ (p ∷ [])) (root d.type) (spine [] d.type) d.name z)))))

parameters : (ds : List Declaration) (v : Bool) → WrittenDeclarations ds → HasFirst (types_of ds) v → (frames : List Frame) (base : Type89) (steps : List Step) (name z : List ℕ)
    → Reads (Before (InParameters base steps name [] ∷ frames) (named_text ds v ++ (codes ")" ++ z))) (After frames base (Parameters (written ds) v ∷ steps) name z)
parameters [] true w h frames base steps name z = absurd h
parameters [] false w h frames base steps name z = by step _ _ _ refl (by step _ _ _ refl (by step _ _ _ refl (stays step _)))
parameters (d ∷ ds) v w h frames base steps name z =
    subst (λ x. Reads (Before (InParameters base steps name [] ∷ frames) x) (After frames base (Parameters (d ∷ ds) v ∷ steps) name z)) (sym (append_assoc (declaration_text d.type d.name) (more_named_text ds v) (codes ")" ++ z)))
    (onwards step _ _ _ (reads_named d w.0 w.1 (InParameters base steps name [] ∷ frames) (more_named_text ds v ++ (codes ")" ++ z)) (more_end ds v z))
    (subst (λ t. Reads (After (InParameters base steps name [] ∷ frames) (root d.type) (spine [] d.type) d.name (more_named_text ds v ++ (codes ")" ++ z))) (After frames base (Parameters (record { type = t; name = d.name } ∷ ds) v ∷ steps) name z)) (apply_spine d.type w.0 [])
    (more ds v w.2 frames base steps name [] (root d.type) (spine [] d.type) d.name z)))

-- the head of a function, as a declarator
head_is : (f : text.Function) → IsName f.name → WrittenDeclarations f.parameters → HasFirst (types_of f.parameters) f.is_variadic → Direct (head_text f) (Parameters (written f.parameters) f.is_variadic ∷ []) f.name
head_is f is w h = with_parameters (named_text f.parameters f.is_variadic) (written f.parameters) f.is_variadic (named_follow f.parameters f.is_variadic) (parameters f.parameters f.is_variadic w h) f.name [] f.name (named f.name is)

-- the step that stands nearest to the name
abbrev nearest : Step → List Step → Step
nearest step [] = step
nearest step (next ∷ steps) = nearest next steps

nearest_spine : (t : Type89) (other s : Step) (steps : List Step) → nearest other (spine (s ∷ steps) t) ≡ nearest s steps
nearest_spine (Based c b) other s steps = refl
nearest_spine (Pointer c to) other s steps = nearest_spine to other _ (s ∷ steps)
nearest_spine (Array n of) other s steps = nearest_spine of other _ (s ∷ steps)
nearest_spine (Function r ps v) other s steps = nearest_spine r other _ (s ∷ steps)

abbrev written_of : Step → List Declaration
written_of (Parameters ds v) = ds
written_of step = []

abbrev variadic_of : Step → Bool
variadic_of (Parameters ds v) = v
variadic_of step = false

abbrev result_of : Type89 → Type89
result_of (Function r ps v) = r
result_of type = type

line_ends : (z : List ℕ) → Ends (10 ∷ z)
line_ends z = record { follows = record { no_word = refl; no_blank = refl; no_star = refl; no_inner = refl }; no_bracket = refl; no_parenthesis = refl }

-- two heads of functions with one spelling
pub one_head : (f g : text.Function) (x y : List ℕ) → WrittenType f.result → IsName f.name → WrittenDeclarations f.parameters → HasFirst (types_of f.parameters) f.is_variadic
    → WrittenType g.result → IsName g.name → WrittenDeclarations g.parameters → HasFirst (types_of g.parameters) g.is_variadic
    → declaration_text f.result (head_text f) ++ (10 ∷ x) ≡ declaration_text g.result (head_text g) ++ (10 ∷ y)
    → (f.result ≡ g.result) × (f.name ≡ g.name) × (f.parameters ≡ g.parameters) × (f.is_variadic ≡ g.is_variadic) × (10 ∷ x ≡ 10 ∷ y)
one_head f g x y fr fn fp fv gr gn gp gv e =
    let fs = Parameters (written f.parameters) f.is_variadic in
    let gs = Parameters (written g.parameters) g.is_variadic in
    let a = alike f.result g.result (head_text f) (head_text g) (fs ∷ []) (gs ∷ []) f.name g.name (10 ∷ x) (10 ∷ y) fr gr (direct_fits f.result _ _ _ (head_is f fn fp fv)) (direct_fits g.result _ _ _ (head_is g gn gp gv)) (line_ends x) (line_ends y) e in
    let same : fs ≡ gs = sym (nearest_spine f.result fs fs []) ∙ ap (nearest fs) a.all_steps ∙ nearest_spine g.result fs gs [] in
    (ap result_of a.types, a.names, sym (real_written f.parameters fp) ∙ ap (λ s. real (written_of s)) same ∙ real_written g.parameters gp, ap variadic_of same, a.behind)

-- storage classes

first_word : (t : Type89) (inner z : List ℕ) → (strip (codes "static ") (declaration_text t inner ++ z) ≡ None) × (strip (codes "extern ") (declaration_text t inner ++ z) ≡ None) × (strip (codes "\n") (declaration_text t inner ++ z) ≡ None) × (begins_with (λ b. true) (declaration_text t inner ++ z) ≡ true)
first_word (Based true b) inner z = (refl, refl, refl, refl)
first_word (Based false b) inner z = base b
  where
    base : (b : Base) → (strip (codes "static ") (declaration_text (Based false b) inner ++ z) ≡ None) × (strip (codes "extern ") (declaration_text (Based false b) inner ++ z) ≡ None) × (strip (codes "\n") (declaration_text (Based false b) inner ++ z) ≡ None) × (begins_with (λ b. true) (declaration_text (Based false b) inner ++ z) ≡ true)
    base Void = (refl, refl, refl, refl)
    base Char = (refl, refl, refl, refl)
    base SignedChar = (refl, refl, refl, refl)
    base UnsignedChar = (refl, refl, refl, refl)
    base Short = (refl, refl, refl, refl)
    base UnsignedShort = (refl, refl, refl, refl)
    base Int = (refl, refl, refl, refl)
    base UnsignedInt = (refl, refl, refl, refl)
    base Long = (refl, refl, refl, refl)
    base UnsignedLong = (refl, refl, refl, refl)
    base (Struct name) = (refl, refl, refl, refl)
first_word (Pointer c to) inner z = first_word to _ z
first_word (Array n of) inner z = first_word of _ z
first_word (Function r ps v) inner z = first_word r _ z

pub none_some : {A : Type 0} (o : Option (List ℕ)) (t : List ℕ) → o ≡ None → o ≡ Some t → A
none_some o t p q = absurd (let f : None ≡ Some t = sym p ∙ q in cc)

-- what stands behind a storage class is a declaration
pub one_storage : (s r : Storage) (t u : Type89) (inner within x y : List ℕ) → storage_text s ++ (declaration_text t inner ++ x) ≡ storage_text r ++ (declaration_text u within ++ y)
    → (s ≡ r) × (declaration_text t inner ++ x ≡ declaration_text u within ++ y)
one_storage Plainly Plainly t u inner within x y e = (refl, e)
one_storage Plainly Static t u inner within x y e = none_some (strip (codes "static ") (declaration_text t inner ++ x)) _ (first_word t inner x).0 (ap (strip (codes "static ")) e)
one_storage Plainly Extern t u inner within x y e = none_some (strip (codes "extern ") (declaration_text t inner ++ x)) _ (first_word t inner x).1 (ap (strip (codes "extern ")) e)
one_storage Static Plainly t u inner within x y e = none_some (strip (codes "static ") (declaration_text u within ++ y)) _ (first_word u within y).0 (ap (strip (codes "static ")) (sym e))
one_storage Static Static t u inner within x y e = (refl, cancel (codes "static ") _ _ e)
one_storage Static Extern t u inner within x y e = absurd (omega (arith, heads 115 101 _ _ e))
one_storage Extern Plainly t u inner within x y e = none_some (strip (codes "extern ") (declaration_text u within ++ y)) _ (first_word u within y).1 (ap (strip (codes "extern ")) (sym e))
one_storage Extern Static t u inner within x y e = absurd (omega (arith, heads 101 115 _ _ e))
one_storage Extern Extern t u inner within x y e = (refl, cancel (codes "extern ") _ _ e)

-- a declaration begins no empty line and is no empty text
pub begins_no_line : (t : Type89) (inner z : List ℕ) → strip (codes "\n") (declaration_text t inner ++ z) ≡ None
begins_no_line t inner z = (first_word t inner z).2

pub begins_somehow : (t : Type89) (inner z : List ℕ) → begins_with (λ b. true) (declaration_text t inner ++ z) ≡ true
begins_somehow t inner z = (first_word t inner z).3
