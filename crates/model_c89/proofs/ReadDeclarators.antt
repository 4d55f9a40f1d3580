-- The machine reads each declaration as what it is, so no two are spelled alike.
use Rattle.std.proofs.Common.{◌≡◌, ℕ, ◌==◌, List, [], ◌∷◌, ◌++◌, Bool, true, false, ◌||◌, Some, None, if◌then◌else◌, refl, sym, ap, ◌∙◌, subst, arith, append_assoc}
use Rattle.std.specs.Prelude.{codes}
use Rattle.std.specs.Str.{bytes_eq}
use Rattle.std.proofs.lemmas.Bool.Decides.{nat_tests}
use Rattle.model_types.specs.ByteClasses.{is_nondigit, is_word_byte, begins_with, AllBytes}
use Rattle.model_c89.specs.Names89.{IsName, is_among, words}
use Rattle.model_c89.specs.SpellingParts89.{blank_before, star_text, pointer_text}
use Rattle.model_core.specs.Types89.{Type89, Based, Pointer, Array, Function}
use Rattle.model_c89.proofs.UniqueWords.{strip, front, behind, front_is, behind_is, front_none, behind_none}
use Rattle.model_c89.proofs.ReadingMachine.{Reach, by, stays, onwards}
use Rattle.model_c89.proofs.TypesMachine.{Step, Star, Frame, AfterStar, InParentheses, State, At, After, skip_blank, at_parenthesis, at_star, after_parenthesis, after, step, Follows, Ends}

abbrev pub Reads : State → State → Type 0
Reads s t = Reach State step s t

-- what a declarator spells: its steps and its name, whatever goes on behind it
pub record Direct (inner : List ℕ) (steps : List Step) (name : List ℕ) : Type 0 where
  pub fine : begins_with (λ c. c == 61) inner ≡ false
  pub no_const : (z : List ℕ) → Follows z → bytes_eq (codes "const") (front is_word_byte (inner ++ z)) ≡ false
  pub reads : (frames : List Frame) (base : Type89) (z : List ℕ) → Follows z → Reads (At frames base (inner ++ z)) (After frames base steps name z)

-- the same, where nothing goes on behind it
pub record Full (inner : List ℕ) (steps : List Step) (name : List ℕ) : Type 0 where
  pub fine : begins_with (λ c. c == 61) inner ≡ false
  pub no_const : (z : List ℕ) → Ends z → bytes_eq (codes "const") (front is_word_byte (inner ++ z)) ≡ false
  pub reads : (frames : List Frame) (base : Type89) (z : List ℕ) → Ends z → Reads (At frames base (inner ++ z)) (After frames base steps name z)

pub skips : (inner z : List ℕ) → begins_with (λ c. c == 61) inner ≡ false → skip_blank z ≡ z → skip_blank (blank_before inner ++ z) ≡ inner ++ z
skips [] z f e = e
skips (b ∷ bs) z f e = rw f refl

pub blank_is_no_word : (inner z : List ℕ) → begins_with is_word_byte z ≡ false → begins_with is_word_byte (blank_before inner ++ z) ≡ false
blank_is_no_word [] z n = n
blank_is_no_word (b ∷ bs) z n = refl

pub fine_push : (xs ys : List ℕ) → begins_with (λ c. c == 61) xs ≡ false → begins_with (λ c. c == 61) ys ≡ false → begins_with (λ c. c == 61) (xs ++ ys) ≡ false
fine_push [] ys f g = g
fine_push (x ∷ xs) ys f g = f

pub full : (inner : List ℕ) (steps : List Step) (name : List ℕ) → Direct inner steps name → Full inner steps name
full inner steps name d = record {
  fine = d.fine;
  no_const = λ z e. d.no_const z e.follows;
  reads = λ frames base z e. d.reads frames base z e.follows;
}

-- no name

pub nothing : Direct [] [] []
nothing = record {
  fine = refl;
  no_const = λ z f. ap (bytes_eq (codes "const")) (front_none is_word_byte z f.no_word);
  reads = λ frames base z f. by step _ _ _ (first frames base z f) (stays step _);
}
  where
    first : (frames : List Frame) (base : Type89) (z : List ℕ) → Follows z → step (At frames base z) ≡ Some (After frames base [] [] z)
    first frames base z f =
        ap (at_star frames base z) f.no_star ∙ ap (at_parenthesis frames base z) f.no_inner
        ∙ ap (λ w. Some (After frames base [] w (behind is_word_byte z))) (front_none is_word_byte z f.no_word)
        ∙ ap (λ r. Some (After frames base [] [] r)) (behind_none is_word_byte z f.no_word)

-- a name

other_byte : (b : ℕ) → is_nondigit b ≡ true → ((42 == b) ≡ false) × ((40 == b) ≡ false) × ((b == 61) ≡ false)
other_byte b h = (grind (arith, nat_tests), grind (arith, nat_tests), grind (arith, nat_tests))

neither : (a b : Bool) → a || b ≡ false → (a ≡ false) × (b ≡ false)
neither false b h = (refl, h)
neither true b h = absurd (let f : true ≡ false = h in cc)

no_const_name : (name : List ℕ) → is_among words name ≡ false → bytes_eq (codes "const") name ≡ false
no_const_name name h =
    let a = neither (bytes_eq (codes "auto") name) _ h in
    let b = neither (bytes_eq (codes "break") name) _ a.1 in
    let c = neither (bytes_eq (codes "case") name) _ b.1 in
    let d = neither (bytes_eq (codes "char") name) _ c.1 in
    (neither (bytes_eq (codes "const") name) _ d.1).0

name_first : (name z : List ℕ) → begins_with is_nondigit name ≡ true → (strip (codes "*") (name ++ z) ≡ None) × (strip (codes "(*") (name ++ z) ≡ None) × (begins_with (λ c. c == 61) name ≡ false)
name_first [] z h = absurd (let f : false ≡ true = h in cc)
name_first (b ∷ bs) z h =
    let o = other_byte b h in
    (ap (λ t. if t then strip [] (bs ++ z) else None) o.0, ap (λ t. if t then strip (codes "*") (bs ++ z) else None) o.1, o.2)

pub named : (name : List ℕ) → IsName name → Direct name [] name
named name is = record {
  fine = (name_first name [] is.begins).2;
  no_const = λ z f. ap (bytes_eq (codes "const")) (front_is is_word_byte name z is.goes_on f.no_word) ∙ no_const_name name is.is_no_word;
  reads = λ frames base z f. by step _ _ _ (first frames base z f) (stays step _);
}
  where
    first : (frames : List Frame) (base : Type89) (z : List ℕ) → Follows z → step (At frames base (name ++ z)) ≡ Some (After frames base [] name z)
    first frames base z f =
        ap (at_star frames base (name ++ z)) (name_first name z is.begins).0 ∙ ap (at_parenthesis frames base (name ++ z)) (name_first name z is.begins).1
        ∙ ap (λ w. Some (After frames base [] w (behind is_word_byte (name ++ z)))) (front_is is_word_byte name z is.goes_on f.no_word)
        ∙ ap (λ r. Some (After frames base [] name r)) (behind_is is_word_byte name z is.goes_on f.no_word)

-- stars

leaves_star : (frames : List Frame) (c : Bool) (base : Type89) (steps : List Step) (name z : List ℕ) → Ends z → step (After (AfterStar c ∷ frames) base steps name z) ≡ Some (After frames base (Star c ∷ steps) name z)
leaves_star frames c base steps name z e = ap (after (AfterStar c ∷ frames) base steps name z) e.no_bracket ∙ ap (after_parenthesis (AfterStar c ∷ frames) base steps name z) e.no_parenthesis

starred : (c : Bool) (inner : List ℕ) (steps : List Step) (name : List ℕ) → Full inner steps name → Full (star_text c inner) (Star c ∷ steps) name
starred false inner steps name d = record {
  fine = refl;
  no_const = λ z e. refl;
  reads = λ frames base z e.
      by step _ _ _ (ap (λ t. if t then Some (At (AfterStar true ∷ frames) base (skip_blank (behind is_word_byte (inner ++ z)))) else Some (At (AfterStar false ∷ frames) base (inner ++ z))) (d.no_const z e))
      (onwards step _ _ _ (d.reads (AfterStar false ∷ frames) base z e) (by step _ _ _ (leaves_star frames false base steps name z e) (stays step _)));
}
starred true inner steps name d = record {
  fine = refl;
  no_const = λ z e. refl;
  reads = λ frames base z e.
      by step _ _ _ (const frames base z e)
      (onwards step _ _ _ (d.reads (AfterStar true ∷ frames) base z e) (by step _ _ _ (leaves_star frames true base steps name z e) (stays step _)));
}
  where
    const : (frames : List Frame) (base : Type89) (z : List ℕ) → Ends z → step (At frames base (star_text true inner ++ z)) ≡ Some (At (AfterStar true ∷ frames) base (inner ++ z))
    const frames base z e =
        let no_word = blank_is_no_word inner z e.follows.no_word in
        let all : AllBytes is_word_byte (codes "const") = (refl, (refl, (refl, (refl, (refl, tt))))) in
        ap (λ w. if bytes_eq (codes "const") w then Some (At (AfterStar true ∷ frames) base (skip_blank (behind is_word_byte (codes "const" ++ (blank_before inner ++ z))))) else Some (At (AfterStar false ∷ frames) base (codes "const" ++ (blank_before inner ++ z)))) (front_is is_word_byte (codes "const") (blank_before inner ++ z) all no_word)
        ∙ ap (λ r. Some (At (AfterStar true ∷ frames) base (skip_blank r))) (behind_is is_word_byte (codes "const") (blank_before inner ++ z) all no_word)
        ∙ ap (λ r. Some (At (AfterStar true ∷ frames) base r)) (skips inner z d.fine e.follows.no_blank)

pub parenthesis_ends : (z : List ℕ) → Ends (41 ∷ z)
parenthesis_ends z = record {
  follows = record { no_word = refl; no_blank = refl; no_star = refl; no_inner = refl };
  no_bracket = refl;
  no_parenthesis = refl;
}

in_parentheses : (c : Bool) (inner : List ℕ) (steps : List Step) (name : List ℕ) → Full inner steps name → Direct (codes "(" ++ (star_text c inner ++ codes ")")) (Star c ∷ steps) name
in_parentheses c inner steps name d = record {
  fine = refl;
  no_const = λ z f. refl;
  reads = λ frames base z f.
      by step _ _ _ (opens c frames base z)
      (subst (λ t. Reads (At (InParentheses ∷ frames) base t) (After frames base (Star c ∷ steps) name z)) (sym (append_assoc (star_text c inner) (codes ")") z))
      (onwards step _ _ _ ((starred c inner steps name d).reads (InParentheses ∷ frames) base (41 ∷ z) (parenthesis_ends z)) (by step _ _ _ refl (stays step _))));
}
  where
    opens : (c : Bool) (frames : List Frame) (base : Type89) (z : List ℕ) → step (At frames base ((codes "(" ++ (star_text c inner ++ codes ")")) ++ z)) ≡ Some (At (InParentheses ∷ frames) base ((star_text c inner ++ codes ")") ++ z))
    opens false frames base z = refl
    opens true frames base z = refl

-- the declarators that a type asks for
abbrev pub Fits : Type89 → List ℕ → List Step → List ℕ → Type 0
Fits (Based c b) inner steps name = Full inner steps name
Fits (Pointer c to) inner steps name = Full inner steps name
Fits (Array n of) inner steps name = Direct inner steps name
Fits (Function r ps v) inner steps name = Direct inner steps name

pub direct_fits : (t : Type89) (inner : List ℕ) (steps : List Step) (name : List ℕ) → Direct inner steps name → Fits t inner steps name
direct_fits (Based c b) inner steps name d = full inner steps name d
direct_fits (Pointer c to) inner steps name d = full inner steps name d
direct_fits (Array n of) inner steps name d = d
direct_fits (Function r ps v) inner steps name d = d

pub pointer_fits : (c : Bool) (to : Type89) (inner : List ℕ) (steps : List Step) (name : List ℕ) → Full inner steps name → Fits to (pointer_text c to inner) (Star c ∷ steps) name
pointer_fits c (Based d b) inner steps name f = starred c inner steps name f
pointer_fits c (Pointer d to) inner steps name f = starred c inner steps name f
pointer_fits c (Array n of) inner steps name f = in_parentheses c inner steps name f
pointer_fits c (Function r ps v) inner steps name f = in_parentheses c inner steps name f
