-- Two declarations with one spelling have the same type and name.
use Rattle.std.proofs.Common.{◌≡◌, ℕ, ◌==◌, List, [], ◌∷◌, ◌++◌, Bool, true, false, Option, Some, None, if◌then◌else◌, refl, sym, ap, ◌∙◌, subst, append_assoc}
use Rattle.std.specs.Prelude.{codes}
use Rattle.std.specs.Fmt.{decimal}
use Rattle.std.specs.Str.{bytes_eq}
use Rattle.model_types.specs.ByteClasses.{is_digit, is_word_byte, begins_with}
use Rattle.model_c89.specs.Names89.{IsName}
use Rattle.model_c89.specs.SpellingParts89.{blank_before, const_text, pointer_text, count_text, declaration_text, parameters_text, others_text}
use Rattle.model_c89.specs.Signs89.{base_text}
use Rattle.model_core.specs.Types89.{Void, Type89, Based, Pointer, Array, Function, Types89, no_types, more_types}
use Rattle.model_c89.specs.Written89.{WrittenCount, WrittenType, WrittenTypes, IsNoVoid, HasFirst}
use Rattle.model_core.specs.Program89.{Declaration, types_of}
use Rattle.model_c89.proofs.UniqueWords.{strip, front, behind, number, number_is, behind_number, decimal_is_number, begins-push}
use Rattle.model_c89.proofs.ReadingMachine.{by, stays, onwards, one_end}
use Rattle.model_c89.proofs.TypesMachine.{Step, Star, Brackets, Parameters, Frame, InParameters, State, Before, At, After, is_void_alone, real, apply, closed, after_bracket, after_parenthesis, variadic, parameter, after, step, Follows, Ends, reads_base, first_mark}
use Rattle.model_c89.proofs.ReadDeclarators.{Reads, Direct, Fits, direct_fits, pointer_fits, nothing, named, skips, blank_is_no_word, fine_push, parenthesis_ends}

-- brackets

count_follows : (n : Option ℕ) (z : List ℕ) → Follows (count_text n ++ z)
count_follows None z = record { no_word = refl; no_blank = refl; no_star = refl; no_inner = refl }
count_follows (Some n) z = record { no_word = refl; no_blank = refl; no_star = refl; no_inner = refl }

count_is_fine : (n : Option ℕ) → begins_with (λ c. c == 61) (count_text n) ≡ false
count_is_fine None = refl
count_is_fine (Some n) = refl

reads_count : (n : Option ℕ) → WrittenCount n → (frames : List Frame) (base : Type89) (steps : List Step) (name z : List ℕ) → step (After frames base steps name (count_text n ++ z)) ≡ Some (After frames base (Brackets n ∷ steps) name z)
reads_count None w frames base steps name z = refl
reads_count (Some n) w frames base steps name z =
    let assoc : (decimal n ++ codes "]") ++ z ≡ decimal n ++ (codes "]" ++ z) = append_assoc (decimal n) (codes "]") z in
    ap (after_bracket frames base steps name) assoc
    ∙ ap (λ t. if t then closed frames base steps name (Some (number 0 (front is_digit (decimal n ++ (codes "]" ++ z))))) (strip (codes "]") (behind is_digit (decimal n ++ (codes "]" ++ z)))) else closed frames base steps name None (strip (codes "]") (decimal n ++ (codes "]" ++ z)))) (begins-push is_digit (decimal n) (codes "]" ++ z) (decimal_is_number n w).some)
    ∙ ap (λ m. closed frames base steps name (Some m) (strip (codes "]") (behind is_digit (decimal n ++ (codes "]" ++ z))))) (number_is n (codes "]" ++ z) w refl)
    ∙ ap (λ r. closed frames base steps name (Some n) (strip (codes "]") r)) (behind_number n (codes "]" ++ z) w refl)

bracketed : (n : Option ℕ) → WrittenCount n → (inner : List ℕ) (steps : List Step) (name : List ℕ) → Direct inner steps name → Direct (inner ++ count_text n) (Brackets n ∷ steps) name
bracketed n w inner steps name d = record {
  fine = fine_push inner (count_text n) d.fine (count_is_fine n);
  no_const = λ z f. ap (λ t. bytes_eq (codes "const") (front is_word_byte t)) (append_assoc inner (count_text n) z) ∙ d.no_const (count_text n ++ z) (count_follows n z);
  reads = λ frames base z f.
      subst (λ t. Reads (At frames base t) (After frames base (Brackets n ∷ steps) name z)) (sym (append_assoc inner (count_text n) z))
      (onwards step _ _ _ (d.reads frames base (count_text n ++ z) (count_follows n z)) (by step _ _ _ (reads_count n w frames base steps name z) (stays step _)));
}

-- parameters

abbrev pub nameless : Types89 → List Declaration
nameless no_types = []
nameless (more_types t ts) = record { type = t; name = [] } ∷ nameless ts

-- as they are written
abbrev pub written : Types89 → List Declaration
written no_types = record { type = Based false Void; name = [] } ∷ []
written (more_types t ts) = record { type = t; name = [] } ∷ nameless ts

-- the base of a type, and the steps from there
abbrev pub root : Type89 → Type89
root (Based c b) = Based c b
root (Pointer c to) = root to
root (Array n of) = root of
root (Function r ps v) = root r

abbrev pub spine : List Step → Type89 → List Step
spine steps (Based c b) = steps
spine steps (Pointer c to) = spine (Star c ∷ steps) to
spine steps (Array n of) = spine (Brackets n ∷ steps) of
spine steps (Function r ps v) = spine (Parameters (written ps) v ∷ steps) r

types_of_nameless : (ts : Types89) → types_of (nameless ts) ≡ ts
types_of_nameless no_types = refl
types_of_nameless (more_types t ts) = ap (more_types t) (types_of_nameless ts)

no_void_alone : (t : Type89) (name : List ℕ) (ds : List Declaration) → IsNoVoid t → is_void_alone t name ds ≡ false
no_void_alone (Based true b) name ds n = refl
no_void_alone (Based false Void) name ds n = absurd n
no_void_alone (Based false b) name ds n = refl
no_void_alone (Pointer c to) name ds n = refl
no_void_alone (Array m of) name ds n = refl
no_void_alone (Function r ps v) name ds n = refl

types_of_written : (ts : Types89) → WrittenTypes ts → types_of (real (written ts)) ≡ ts
types_of_written no_types w = refl
types_of_written (more_types t ts) w = rw (no_void_alone t [] (nameless ts) w.1) (ap (more_types t) (types_of_nameless ts))

pub apply_spine : (t : Type89) → WrittenType t → (steps : List Step) → apply (spine steps t) (root t) ≡ apply steps t
apply_spine (Based c b) w steps = refl
apply_spine (Pointer c to) w steps = apply_spine to w (Star c ∷ steps)
apply_spine (Array n of) w steps = apply_spine of w.1 (Brackets n ∷ steps)
apply_spine (Function r ps v) w steps = apply_spine r w.0 (Parameters (written ps) v ∷ steps) ∙ ap (λ ts. apply steps (Function r ts v)) (types_of_written ps w.1)

others_end : (ts : Types89) (v : Bool) (z : List ℕ) → Ends (others_text ts v ++ (codes ")" ++ z))
others_end no_types false z = parenthesis_ends z
others_end no_types true z = record { follows = record { no_word = refl; no_blank = refl; no_star = refl; no_inner = refl }; no_bracket = refl; no_parenthesis = refl }
others_end (more_types t ts) v z = record { follows = record { no_word = refl; no_blank = refl; no_star = refl; no_inner = refl }; no_bracket = refl; no_parenthesis = refl }

-- a parameter stands behind a comma
pub comma : (frames : List Frame) (outer base : Type89) (outer_steps steps : List Step) (outer_name name : List ℕ) (done : List Declaration) (t : Type89) (inner z : List ℕ)
    → step (After (InParameters outer outer_steps outer_name done ∷ frames) base steps name (codes ", " ++ (declaration_text t inner ++ z))) ≡ Some (Before (InParameters outer outer_steps outer_name (done ++ (parameter base steps name ∷ [])) ∷ frames) (declaration_text t inner ++ z))
comma frames outer base outer_steps steps outer_name name done t inner z =
    ap (variadic frames outer outer_steps outer_name (done ++ (parameter base steps name ∷ [])) (codes ", " ++ (declaration_text t inner ++ z))) (first_mark t inner z).1

parameters_follow : (ts : Types89) (v : Bool) (z : List ℕ) → Follows (codes "(" ++ (parameters_text ts v ++ z))
parameters_follow no_types v z = record { no_word = refl; no_blank = refl; no_star = refl; no_inner = refl }
parameters_follow (more_types t ts) v z = record {
  no_word = refl;
  no_blank = refl;
  no_star = refl;
  no_inner = ap (strip (codes "*")) (append_assoc (declaration_text t []) (others_text ts v) z) ∙ (first_mark t [] (others_text ts v ++ z)).0;
}

-- parameters in parentheses behind a declarator
pub with_parameters : (text : List ℕ) (ds : List Declaration) (v : Bool) → ((z : List ℕ) → Follows (codes "(" ++ (text ++ z)))
    → ((frames : List Frame) (base : Type89) (steps : List Step) (name z : List ℕ) → Reads (Before (InParameters base steps name [] ∷ frames) (text ++ (codes ")" ++ z))) (After frames base (Parameters ds v ∷ steps) name z))
    → (inner : List ℕ) (steps : List Step) (name : List ℕ) → Direct inner steps name → Direct (inner ++ (codes "(" ++ (text ++ codes ")"))) (Parameters ds v ∷ steps) name
with_parameters text ds v follows reads inner steps name d = record {
  fine = fine_push inner _ d.fine refl;
  no_const = λ z f. ap (λ t. bytes_eq (codes "const") (front is_word_byte t)) (whole z) ∙ d.no_const _ (follows (codes ")" ++ z));
  reads = λ frames base z f.
      subst (λ t. Reads (At frames base t) (After frames base (Parameters ds v ∷ steps) name z)) (sym (whole z))
      (onwards step _ _ _ (d.reads frames base _ (follows (codes ")" ++ z))) (by step _ _ _ refl (reads frames base steps name z)));
}
  where
    whole : (z : List ℕ) → (inner ++ (codes "(" ++ (text ++ codes ")"))) ++ z ≡ inner ++ (codes "(" ++ (text ++ (codes ")" ++ z)))
    whole z = append_assoc inner (codes "(" ++ (text ++ codes ")")) z ∙ ap (λ r. inner ++ (codes "(" ++ r)) (append_assoc text (codes ")") z)

mutual
  -- a declaration is read as its type's base, its steps and its name
  pub declared : (t : Type89) → WrittenType t → (inner : List ℕ) (steps : List Step) (name : List ℕ) → Fits t inner steps name → (frames : List Frame) (z : List ℕ) → Ends z → Reads (Before frames (declaration_text t inner ++ z)) (After frames (root t) (spine steps t) name z)
  declared (Based c b) w inner steps name f frames z e =
      subst (λ x. Reads (Before frames x) (After frames (Based c b) steps name z)) (sym (append_assoc (const_text c) (base_text b ++ blank_before inner) z ∙ ap (λ r. const_text c ++ r) (append_assoc (base_text b) (blank_before inner) z)))
      (by step _ _ _ (reads_base frames c b (blank_before inner ++ z) w (blank_is_no_word inner z e.follows.no_word))
      (subst (λ x. Reads (At frames (Based c b) x) (After frames (Based c b) steps name z)) (sym (skips inner z f.fine e.follows.no_blank)) (f.reads frames (Based c b) z e)))
  declared (Pointer c to) w inner steps name f frames z e = declared to w (pointer_text c to inner) (Star c ∷ steps) name (pointer_fits c to inner steps name f) frames z e
  declared (Array n of) w inner steps name f frames z e =
      declared of w.1 (inner ++ count_text n) (Brackets n ∷ steps) name (direct_fits of _ _ _ (bracketed n w.0 inner steps name f)) frames z e
  declared (Function r ps v) w inner steps name f frames z e =
      declared r w.0 (inner ++ (codes "(" ++ (parameters_text ps v ++ codes ")"))) (Parameters (written ps) v ∷ steps) name
      (direct_fits r _ _ _ (with_parameters (parameters_text ps v) (written ps) v (parameters_follow ps v) (parameters ps v w.1 w.2) inner steps name f)) frames z e

  parameters : (ps : Types89) (v : Bool) → WrittenTypes ps → HasFirst ps v → (frames : List Frame) (base : Type89) (steps : List Step) (name z : List ℕ) → Reads (Before (InParameters base steps name [] ∷ frames) (parameters_text ps v ++ (codes ")" ++ z))) (After frames base (Parameters (written ps) v ∷ steps) name z)
  parameters no_types true w h frames base steps name z = absurd h
  parameters no_types false w h frames base steps name z = by step _ _ _ refl (by step _ _ _ refl (by step _ _ _ refl (stays step _)))
  parameters (more_types t ts) v w h frames base steps name z =
      subst (λ x. Reads (Before (InParameters base steps name [] ∷ frames) x) (After frames base (Parameters (written (more_types t ts)) v ∷ steps) name z)) (sym (append_assoc (declaration_text t []) (others_text ts v) (codes ")" ++ z)))
      (onwards step _ _ _ (declared t w.0 [] [] [] (direct_fits t [] [] [] nothing) (InParameters base steps name [] ∷ frames) (others_text ts v ++ (codes ")" ++ z)) (others_end ts v z))
      (subst (λ d. Reads (After (InParameters base steps name [] ∷ frames) (root t) (spine [] t) [] (others_text ts v ++ (codes ")" ++ z))) (After frames base (Parameters (record { type = d; name = [] } ∷ nameless ts) v ∷ steps) name z)) (apply_spine t w.0 [])
      (others ts v w.2 frames base steps name [] (root t) (spine [] t) [] z)))

  others : (ts : Types89) (v : Bool) → WrittenTypes ts → (frames : List Frame) (outer : Type89) (outer_steps : List Step) (outer_name : List ℕ) (done : List Declaration) (base : Type89) (steps : List Step) (name z : List ℕ)
      → Reads (After (InParameters outer outer_steps outer_name done ∷ frames) base steps name (others_text ts v ++ (codes ")" ++ z))) (After frames outer (Parameters (done ++ (parameter base steps name ∷ nameless ts)) v ∷ outer_steps) outer_name z)
  others no_types false w frames outer outer_steps outer_name done base steps name z = by step _ _ _ refl (stays step _)
  others no_types true w frames outer outer_steps outer_name done base steps name z = by step _ _ _ refl (stays step _)
  others (more_types t ts) v w frames outer outer_steps outer_name done base steps name z =
      let p = parameter base steps name in
      let goal : List ℕ → List Declaration → Type 0 = λ x ds. Reads (After (InParameters outer outer_steps outer_name done ∷ frames) base steps name (codes ", " ++ x)) (After frames outer (Parameters ds v ∷ outer_steps) outer_name z) in
      subst (λ x. goal x (done ++ (p ∷ (record { type = t; name = [] } ∷ nameless ts)))) (sym (append_assoc (declaration_text t []) (others_text ts v) (codes ")" ++ z)))
      (subst (goal (declaration_text t [] ++ (others_text ts v ++ (codes ")" ++ z)))) (append_assoc done (p ∷ []) (record { type = t; name = [] } ∷ nameless ts))
      (subst (λ d. goal (declaration_text t [] ++ (others_text ts v ++ (codes ")" ++ z))) ((done ++ (p ∷ [])) ++ (record { type = d; name = [] } ∷ nameless ts))) (apply_spine t w.0 [])
      (by step _ _ _ (comma frames outer base outer_steps steps outer_name name done t [] (others_text ts v ++ (codes ")" ++ z)))
      (onwards step _ _ _ (declared t w.0 [] [] [] (direct_fits t [] [] [] nothing) (InParameters outer outer_steps outer_name (done ++ (p ∷ [])) ∷ frames) (others_text ts v ++ (codes ")" ++ z)) (others_end ts v z))
      (others ts v w.2 frames outer outer_steps outer_name (done ++ (p ∷ [])) (root t) (spine [] t) [] z)))))

-- where the declaration has ended

abbrev type_read : State → Type89
type_read (Before frames text) = Based false Void
type_read (At frames base text) = base
type_read (After frames base steps name text) = apply steps base

abbrev steps_read : State → List Step
steps_read (Before frames text) = []
steps_read (At frames base text) = []
steps_read (After frames base steps name text) = steps

abbrev name_read : State → List ℕ
name_read (Before frames text) = []
name_read (At frames base text) = []
name_read (After frames base steps name text) = name

abbrev text_left : State → List ℕ
text_left (Before frames text) = text
text_left (At frames base text) = text
text_left (After frames base steps name text) = text

pub ended : (base : Type89) (steps : List Step) (name z : List ℕ) → Ends z → step (After [] base steps name z) ≡ None
ended base steps name z e = ap (after [] base steps name z) e.no_bracket ∙ ap (after_parenthesis [] base steps name z) e.no_parenthesis

-- two declarations with one spelling
pub record Alike (t u : Type89) (steps others : List Step) (name other x y : List ℕ) : Type 0 where
  pub types : apply steps t ≡ apply others u
  pub all_steps : spine steps t ≡ spine others u
  pub names : name ≡ other
  pub behind : x ≡ y

pub alike : (t u : Type89) (inner within : List ℕ) (steps others : List Step) (name other x y : List ℕ) → WrittenType t → WrittenType u → Fits t inner steps name → Fits u within others other → Ends x → Ends y
    → declaration_text t inner ++ x ≡ declaration_text u within ++ y → Alike t u steps others name other x y
alike t u inner within steps others name other x y p q f g m n e =
    let one = declared t p inner steps name f [] x m in
    let two = subst (λ z. Reads (Before [] z) (After [] (root u) (spine others u) other y)) (sym e) (declared u q within others other g [] y n) in
    let same : After [] (root t) (spine steps t) name x ≡ After [] (root u) (spine others u) other y = one_end step _ _ _ one two (ended (root t) (spine steps t) name x m) (ended (root u) (spine others u) other y n) in
    record {
      types = sym (apply_spine t p steps) ∙ ap type_read same ∙ apply_spine u q others;
      all_steps = ap steps_read same;
      names = ap name_read same;
      behind = ap text_left same;
    }

-- a named declaration
pub one_declaration : (t u : Type89) (name other x y : List ℕ) → WrittenType t → WrittenType u → IsName name → IsName other → Ends x → Ends y → declaration_text t name ++ x ≡ declaration_text u other ++ y → (t ≡ u) × (name ≡ other) × (x ≡ y)
one_declaration t u name other x y p q m n f g e =
    let a = alike t u name other [] [] name other x y p q (direct_fits t name [] name (named name m)) (direct_fits u other [] other (named other n)) f g e in
    (a.types, a.names, a.behind)
