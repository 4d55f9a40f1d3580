-- A text reads as one program at most.
use Rattle.std.proofs.Common.{◌≡◌, ℕ, ◌==◌, List, [], ◌∷◌, ◌++◌, Bool, true, false, not, ◌||◌, Option, Some, None, if◌then◌else◌, refl, sym, ap, ◌∙◌, arith, append_assoc}
use Rattle.std.specs.Prelude.{codes}
use Rattle.std.proofs.lemmas.Bool.Decides.{nat_tests}
use Rattle.model_types.specs.ByteClasses.{is_nondigit, is_word_byte, begins_with}
use Rattle.model_c89.specs.Names89.{IsName}
use Rattle.model_c89.specs.SpellingParts89.{blank_before, pointer_text, count_text, declaration_text, objects_text, stats_text}
use Rattle.model_c89.specs.Spelling89.{value_text, outer_text, outers_text, structure_text, structures_text, head_text, function_text, functions_text}
use Rattle.model_c89.specs.Signs89.{base_text, storage_text, storage_of}
use Rattle.model_core.specs.Types89.{Base, Void, Char, SignedChar, UnsignedChar, Short, UnsignedShort, Int, UnsignedInt, Long, UnsignedLong, Struct, Type89, Based, Pointer, Array, Function as FunctionType}
use Rattle.model_c89.specs.Written89.{WrittenType, WrittenBase, WrittenOuters, WrittenStructures, WrittenFunctions}
use Rattle.model_core.specs.Program89.{Declaration, Storage, Plainly, Static, Extern, Init, Outer, Structure89, Tag, Members, Function, Program}
use Rattle.model_c89.specs.Reading89.{Reads89}
use Rattle.model_c89.proofs.Respelled.{program_spelled}
use Rattle.model_c89.proofs.UniqueWords.{strip, front, behind, front_is, behind_is, begins-push}
use Rattle.model_c89.proofs.TypesMachine.{Ends}
use Rattle.model_c89.proofs.UniqueTypes.{one_declaration}
use Rattle.model_c89.proofs.UniqueLines.{cancel, heads, differ, one_objects, code_of_end}
use Rattle.model_c89.proofs.StatementFronts.{body_tail, objects_apart}
use Rattle.model_c89.proofs.UniqueStatements.{one_stats}
use Rattle.model_c89.proofs.UniqueInitializers.{one_value}
use Rattle.model_c89.proofs.UniqueHeads.{one_head, one_storage, none_some, begins_no_line, begins_somehow}

-- functions, each behind an empty line

abbrev is_static : Storage → Bool
is_static Plainly = false
is_static Static = true
is_static Extern = false

static_is : (a : Bool) → is_static (storage_of a) ≡ a
static_is true = refl
static_is false = refl

storage_is : (a b : Bool) → storage_of a ≡ storage_of b → a ≡ b
storage_is a b e = sym (static_is a) ∙ ap is_static e ∙ static_is b

function_whole : (f : Function) (x : List ℕ) → function_text f ++ x ≡ storage_text (storage_of f.is_static) ++ (declaration_text f.result (head_text f) ++ (codes "\n{\n" ++ body_tail 0 f.objects f.body (codes "\n" ++ x)))
function_whole f x =
    append_assoc (storage_text (storage_of f.is_static)) _ x
    ∙ ap (λ r. storage_text (storage_of f.is_static) ++ r) (append_assoc (declaration_text f.result (head_text f)) _ x
    ∙ ap (λ r. declaration_text f.result (head_text f) ++ (codes "\n{\n" ++ r)) (append_assoc (objects_text 1 f.objects) _ x ∙ ap (λ r. objects_text 1 f.objects ++ r) (append_assoc (stats_text 1 f.body) (codes "}\n") x)))

one_function : (f g : Function) (fs gs : List Function) (x y : List ℕ) → WrittenFunctions (f ∷ fs) → WrittenFunctions (g ∷ gs) → function_text f ++ x ≡ function_text g ++ y → (f ≡ g) × (x ≡ y)
one_function f g fs gs x y p q e =
    let storage = one_storage (storage_of f.is_static) (storage_of g.is_static) f.result g.result (head_text f) (head_text g) _ _ (sym (function_whole f x) ∙ e ∙ function_whole g y) in
    let head = one_head f g _ _ p.0 p.1 p.2.0 p.2.1 q.0 q.1 q.2.0 q.2.1 storage.1 in
    let objects = objects_apart 0 f.objects g.objects f.body g.body _ _ p.3 q.3 p.4 q.4 (cancel (codes "\n{\n") _ _ head.4) in
    let body = one_stats 0 f.body g.body _ _ p.4 q.4 objects.1 in (
      ap (λ s. record f { is_static = s }) (storage_is f.is_static g.is_static storage.0)
          ∙ ap (λ r. record f { is_static = g.is_static; result = r }) head.0
          ∙ ap (λ n. record f { is_static = g.is_static; result = g.result; name = n }) head.1
          ∙ ap (λ ps. record f { is_static = g.is_static; result = g.result; name = g.name; parameters = ps }) head.2
          ∙ ap (λ v. record f { is_static = g.is_static; result = g.result; name = g.name; parameters = g.parameters; is_variadic = v }) head.3
          ∙ ap (λ d. record g { objects = d; body = f.body }) objects.0
          ∙ ap (λ b. record g { body = b }) body.0,
      cancel (codes "\n") x y body.1,
    )

one_functions : (fs gs : List Function) → WrittenFunctions fs → WrittenFunctions gs → functions_text fs ≡ functions_text gs → fs ≡ gs
one_functions [] [] p q e = refl
one_functions [] (g ∷ gs) p q e = absurd (let h : [] ≡ 10 ∷ (function_text g ++ functions_text gs) = e in cc)
one_functions (f ∷ fs) [] p q e = absurd (let h : [] ≡ 10 ∷ (function_text f ++ functions_text fs) = sym e in cc)
one_functions (f ∷ fs) (g ∷ gs) p q e =
    let first = one_function f g fs gs (functions_text fs) (functions_text gs) p q (cancel (codes "\n") _ _ e) in
    ap (λ h. h ∷ fs) first.0 ∙ ap (λ hs. g ∷ hs) (one_functions fs gs p.5 q.5 first.1)

-- declarations outside of functions

value_ends : (v : Option Init) (x : List ℕ) → Ends (value_text v ++ (codes ";\n" ++ x))
value_ends None x = record { follows = record { no_word = refl; no_blank = refl; no_star = refl; no_inner = refl }; no_bracket = refl; no_parenthesis = refl }
value_ends (Some i) x = record { follows = record { no_word = refl; no_blank = refl; no_star = refl; no_inner = refl }; no_bracket = refl; no_parenthesis = refl }

outer_whole : (o : Outer) (x : List ℕ) → outer_text o ++ x ≡ storage_text o.storage ++ (declaration_text o.type o.name ++ (value_text o.init ++ (codes ";\n" ++ x)))
outer_whole o x =
    append_assoc (storage_text o.storage) _ x
    ∙ ap (λ r. storage_text o.storage ++ r) (append_assoc (declaration_text o.type o.name) _ x ∙ ap (λ r. declaration_text o.type o.name ++ r) (append_assoc (value_text o.init) (codes ";\n") x))

one_outer : (o u : Outer) (os us : List Outer) (x y : List ℕ) → WrittenOuters (o ∷ os) → WrittenOuters (u ∷ us) → outer_text o ++ x ≡ outer_text u ++ y → (o ≡ u) × (x ≡ y)
one_outer o u os us x y p q e =
    let storage = one_storage o.storage u.storage o.type u.type o.name u.name _ _ (sym (outer_whole o x) ∙ e ∙ outer_whole u y) in
    let one = one_declaration o.type u.type o.name u.name _ _ p.0 q.0 p.1 q.1 (value_ends o.init x) (value_ends u.init y) storage.1 in
    let value = one_value o.init u.init x y p.2 q.2 one.2 in (
      ap (λ s. record o { storage = s }) storage.0 ∙ ap (λ t. record o { storage = u.storage; type = t }) one.0
          ∙ ap (λ n. record o { storage = u.storage; type = u.type; name = n }) one.1 ∙ ap (λ v. record u { init = v }) value.0,
      value.1,
    )

storage_begins : (s : Storage) (t : Type89) (inner z : List ℕ) → (strip (codes "\n") (storage_text s ++ (declaration_text t inner ++ z)) ≡ None) × (begins_with (λ b. true) (storage_text s ++ (declaration_text t inner ++ z)) ≡ true)
storage_begins Plainly t inner z = (begins_no_line t inner z, begins_somehow t inner z)
storage_begins Static t inner z = (refl, refl)
storage_begins Extern t inner z = (refl, refl)

no_outer : {A : Type 0} (fs : List Function) (o : Outer) (x : List ℕ) → functions_text fs ≡ outer_text o ++ x → A
no_outer [] o x e = differ (sym (storage_begins o.storage o.type o.name _).1 ∙ sym (ap (begins_with (λ b. true)) (e ∙ outer_whole o x)))
no_outer (f ∷ fs) o x e = none_some (strip (codes "\n") (outer_text o ++ x)) _ (ap (strip (codes "\n")) (outer_whole o x) ∙ (storage_begins o.storage o.type o.name _).0) (sym (ap (strip (codes "\n")) e))

outers_whole : (o : Outer) (os : List Outer) (x : List ℕ) → outers_text (o ∷ os) ++ x ≡ outer_text o ++ (outers_text os ++ x)
outers_whole o os x = append_assoc (outer_text o) (outers_text os) x

one_outers : (os us : List Outer) (fs gs : List Function) → WrittenOuters os → WrittenOuters us → WrittenFunctions fs → WrittenFunctions gs → outers_text os ++ functions_text fs ≡ outers_text us ++ functions_text gs → (os ≡ us) × (fs ≡ gs)
one_outers [] [] fs gs p q r s e = (refl, one_functions fs gs r s e)
one_outers [] (u ∷ us) fs gs p q r s e = no_outer fs u _ (e ∙ outers_whole u us (functions_text gs))
one_outers (o ∷ os) [] fs gs p q r s e = no_outer gs o _ (sym e ∙ outers_whole o os (functions_text fs))
one_outers (o ∷ os) (u ∷ us) fs gs p q r s e =
    let first = one_outer o u os us _ _ p q (sym (outers_whole o os (functions_text fs)) ∙ e ∙ outers_whole u us (functions_text gs)) in
    let rest = one_outers os us fs gs p.3 q.3 r s first.1 in
    (ap (λ h. h ∷ os) first.0 ∙ ap (λ hs. u ∷ hs) rest.0, rest.1)

-- structures: `struct`, a name, and `;` or ` {`

abbrev is_there : Option (List ℕ) → Bool
is_there None = false
is_there (Some text) = true

abbrev behind_tag : Option (List ℕ) → Bool
behind_tag None = false
behind_tag (Some text) = is_there (strip (codes ";") (behind is_word_byte text)) || is_there (strip (codes " {") (behind is_word_byte text))

abbrev is_structure : List ℕ → Bool
is_structure text = behind_tag (strip (codes "struct ") text)

abbrev structure_tail : Structure89 → List ℕ → List ℕ
structure_tail (Tag name) x = codes ";\n" ++ x
structure_tail (Members name d ds) x = codes " {\n" ++ (objects_text 1 (d ∷ ds) ++ (codes "};\n" ++ x))

abbrev tag_of : Structure89 → List ℕ
tag_of (Tag name) = name
tag_of (Members name d ds) = name

structure_whole : (s : Structure89) (x : List ℕ) → structure_text s ++ x ≡ codes "struct " ++ (tag_of s ++ structure_tail s x)
structure_whole (Tag name) x = ap (λ r. codes "struct " ++ r) (append_assoc name (codes ";\n") x)
structure_whole (Members name d ds) x =
    ap (λ r. codes "struct " ++ r) (append_assoc name _ x ∙ ap (λ r. name ++ (codes " {\n" ++ r)) (append_assoc (objects_text 1 (d ∷ ds)) (codes "};\n") x))

tag_written : (s : Structure89) (ss : List Structure89) → WrittenStructures (s ∷ ss) → IsName (tag_of s) × WrittenStructures ss
tag_written (Tag name) ss w = w
tag_written (Members name d ds) ss w = (w.0, w.2)

tail_no_word : (s : Structure89) (x : List ℕ) → begins_with is_word_byte (structure_tail s x) ≡ false
tail_no_word (Tag name) x = refl
tail_no_word (Members name d ds) x = refl

structure_is : (s : Structure89) (x : List ℕ) → IsName (tag_of s) → is_structure (structure_text s ++ x) ≡ true
structure_is s x w =
    ap is_structure (structure_whole s x) ∙ ap (λ r. is_there (strip (codes ";") r) || is_there (strip (codes " {") r)) (behind_is is_word_byte (tag_of s) (structure_tail s x) w.goes_on (tail_no_word s x)) ∙ tail s
  where
    tail : (s : Structure89) → is_there (strip (codes ";") (structure_tail s x)) || is_there (strip (codes " {") (structure_tail s x)) ≡ true
    tail (Tag name) = refl
    tail (Members name d ds) = refl

-- no declaration is one

abbrev no_brace : List ℕ → Bool
no_brace inner = begins_with (λ b. not (123 == b)) inner

pointer_no_brace : (c : Bool) (to : Type89) (inner : List ℕ) → no_brace (pointer_text c to inner) ≡ true
pointer_no_brace true (Based k b) inner = refl
pointer_no_brace false (Based k b) inner = refl
pointer_no_brace true (Pointer k to) inner = refl
pointer_no_brace false (Pointer k to) inner = refl
pointer_no_brace c (Array n of) inner = refl
pointer_no_brace c (FunctionType r ps v) inner = refl

blank_then : (inner z : List ℕ) → no_brace inner ≡ true → (begins_with is_word_byte (blank_before inner ++ z) ≡ false) × (is_there (strip (codes ";") (blank_before inner ++ z)) || is_there (strip (codes " {") (blank_before inner ++ z)) ≡ false)
blank_then [] z h = differ (sym h)
blank_then (b ∷ bs) z h = (refl, brace (123 == b) h)
  where
    brace : (t : Bool) → not t ≡ true → is_there (if t then Some (bs ++ z) else None) ≡ false
    brace true h = differ (sym h)
    brace false h = refl

declaration_is_none : (t : Type89) (inner z : List ℕ) → WrittenType t → no_brace inner ≡ true → is_structure (declaration_text t inner ++ z) ≡ false
declaration_is_none (Based true b) inner z w h = refl
declaration_is_none (Based false b) inner z w h = ap is_structure (append_assoc (base_text b) (blank_before inner) z) ∙ base b w
  where
    base : (b : Base) → WrittenBase b → is_structure (base_text b ++ (blank_before inner ++ z)) ≡ false
    base Void w = refl
    base Char w = refl
    base SignedChar w = refl
    base UnsignedChar w = refl
    base Short w = refl
    base UnsignedShort w = refl
    base Int w = refl
    base UnsignedInt w = refl
    base Long w = refl
    base UnsignedLong w = refl
    base (Struct name) w = ap (λ r. is_there (strip (codes ";") r) || is_there (strip (codes " {") r)) (behind_is is_word_byte name (blank_before inner ++ z) w.goes_on (blank_then inner z h).0) ∙ (blank_then inner z h).1
declaration_is_none (Pointer c to) inner z w h = declaration_is_none to (pointer_text c to inner) z w (pointer_no_brace c to inner)
declaration_is_none (Array n of) inner z w h = declaration_is_none of (inner ++ count_text n) z w.1 (begins-push (λ b. not (123 == b)) inner _ h)
declaration_is_none (FunctionType r ps v) inner z w h = declaration_is_none r _ z w.0 (begins-push (λ b. not (123 == b)) inner _ h)

name_no_brace : (name : List ℕ) → begins_with is_nondigit name ≡ true → no_brace name ≡ true
name_no_brace [] h = differ (sym h)
name_no_brace (b ∷ bs) h = byte b h
  where
    byte : (b : ℕ) → is_nondigit b ≡ true → not (123 == b) ≡ true
    byte b h = grind (arith, nat_tests)

outside_is_none : (os : List Outer) (fs : List Function) → WrittenOuters os → is_structure (outers_text os ++ functions_text fs) ≡ false
outside_is_none [] [] w = refl
outside_is_none [] (f ∷ fs) w = refl
outside_is_none (o ∷ os) fs w = ap is_structure (outers_whole o os (functions_text fs) ∙ outer_whole o _) ∙ by_storage o.storage
  where
    by_storage : (s : Storage) → is_structure (storage_text s ++ (declaration_text o.type o.name ++ (value_text o.init ++ (codes ";\n" ++ (outers_text os ++ functions_text fs))))) ≡ false
    by_storage Plainly = declaration_is_none o.type o.name _ w.0 (name_no_brace o.name w.1.begins)
    by_storage Static = refl
    by_storage Extern = refl

one_name : (m n x y : List ℕ) → IsName m → IsName n → begins_with is_word_byte x ≡ false → begins_with is_word_byte y ≡ false → m ++ x ≡ n ++ y → (m ≡ n) × (x ≡ y)
one_name m n x y p q f g e = (
  sym (front_is is_word_byte m x p.goes_on f) ∙ ap (front is_word_byte) e ∙ front_is is_word_byte n y q.goes_on g,
  sym (behind_is is_word_byte m x p.goes_on f) ∙ ap (behind is_word_byte) e ∙ behind_is is_word_byte n y q.goes_on g,
)

abbrev with_members : List ℕ → List Declaration → Structure89
with_members name [] = Tag name
with_members name (d ∷ ds) = Members name d ds

structure_tails : (s t : Structure89) (ss ts : List Structure89) (x y : List ℕ) → WrittenStructures (s ∷ ss) → WrittenStructures (t ∷ ts) → tag_of s ≡ tag_of t → structure_tail s x ≡ structure_tail t y → (s ≡ t) × (x ≡ y)
structure_tails (Tag m) (Tag n) ss ts x y p q n' e = (ap Tag n', cancel (codes ";\n") x y e)
structure_tails (Tag m) (Members n d ds) ss ts x y p q n' e = absurd (omega (arith, heads 59 32 _ _ e))
structure_tails (Members m d ds) (Tag n) ss ts x y p q n' e = absurd (omega (arith, heads 32 59 _ _ e))
structure_tails (Members m d ds) (Members n f fs) ss ts x y p q n' e =
    let one = one_objects 1 (d ∷ ds) (f ∷ fs) _ _ p.1 q.1 (ap (λ c. c == 1) (code_of_end 0 (codes ";\n" ++ x))) (ap (λ c. c == 1) (code_of_end 0 (codes ";\n" ++ y))) (cancel (codes " {\n") _ _ e) in
    (ap (λ k. Members k d ds) n' ∙ ap (with_members n) one.0, cancel (codes "};\n") x y one.1)

one_structure : (s t : Structure89) (ss ts : List Structure89) (x y : List ℕ) → WrittenStructures (s ∷ ss) → WrittenStructures (t ∷ ts) → structure_text s ++ x ≡ structure_text t ++ y → (s ≡ t) × (x ≡ y)
one_structure s t ss ts x y p q e =
    let name = one_name (tag_of s) (tag_of t) (structure_tail s x) (structure_tail t y) (tag_written s ss p).0 (tag_written t ts q).0 (tail_no_word s x) (tail_no_word t y) (cancel (codes "struct ") _ _ (sym (structure_whole s x) ∙ e ∙ structure_whole t y)) in
    structure_tails s t ss ts x y p q name.0 name.1

structures_whole : (s : Structure89) (ss : List Structure89) (x : List ℕ) → structures_text (s ∷ ss) ++ x ≡ structure_text s ++ (structures_text ss ++ x)
structures_whole s ss x = append_assoc (structure_text s) (structures_text ss) x

one_structures : (ss ts : List Structure89) (x y : List ℕ) → WrittenStructures ss → WrittenStructures ts → is_structure x ≡ false → is_structure y ≡ false → structures_text ss ++ x ≡ structures_text ts ++ y → (ss ≡ ts) × (x ≡ y)
one_structures [] [] x y p q m n e = (refl, e)
one_structures [] (t ∷ ts) x y p q m n e = differ (sym (structure_is t (structures_text ts ++ y) (tag_written t ts q).0) ∙ sym (ap is_structure (e ∙ structures_whole t ts y)) ∙ m)
one_structures (s ∷ ss) [] x y p q m n e = differ (sym (structure_is s (structures_text ss ++ x) (tag_written s ss p).0) ∙ sym (ap is_structure (sym e ∙ structures_whole s ss x)) ∙ n)
one_structures (s ∷ ss) (t ∷ ts) x y p q m n e =
    let first = one_structure s t ss ts _ _ p q (sym (structures_whole s ss x) ∙ e ∙ structures_whole t ts y) in
    let rest = one_structures ss ts x y (tag_written s ss p).1 (tag_written t ts q).1 m n first.1 in
    (ap (λ h. h ∷ ss) first.0 ∙ ap (λ hs. t ∷ hs) rest.0, rest.1)

pub one_reading : (text : List ℕ) (p q : Program) → Reads89 text p → Reads89 text q → p ≡ q
one_reading text p q r s =
    let v = r.typed.written in
    let w = s.typed.written in
    let first = one_structures p.structures q.structures _ _ v.structures w.structures (outside_is_none p.outers p.functions v.outers) (outside_is_none q.outers q.functions w.outers) (program_spelled text p r ∙ sym (program_spelled text q s)) in
    let rest = one_outers p.outers q.outers p.functions q.functions v.outers w.outers v.functions w.functions first.1 in
    ap (λ ss. record p { structures = ss }) first.0 ∙ ap (λ os. record p { structures = q.structures; outers = os }) rest.0 ∙ ap (λ fs. record q { functions = fs }) rest.1
