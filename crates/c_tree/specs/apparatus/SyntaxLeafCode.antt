-- How the logic stores what only the grammar's trees are made of.
use Rattle.std.specs.Prelude.{◌≡◌, ℕ, zero, suc, List, [], ◌∷◌, Option, Some, None, refl}
use Rattle.std.proofs.Common.{ap}
use base.Stored.{Gv, gnil, gnum, gcons}
use Rattle.model_grammar.specs.declared.syntax.Name.{Name}
use Rattle.model_grammar.specs.declared.syntax.Qualifier.{Qualifier}
use Rattle.model_grammar.specs.declared.syntax.Pointer.{Pointer}
use Rattle.model_types.specs.apparatus.LeafCode.{put_text, get_text, text_back, put_place, get_place}
use Rattle.model_grammar.specs.declared.syntax.StorageWord.{StorageWord}
use Rattle.model_grammar.specs.declared.syntax.StorageWord.TheVariants as storage_word
use Rattle.model_grammar.specs.declared.syntax.FunctionWord.{FunctionWord}
use Rattle.model_grammar.specs.declared.syntax.FunctionWord.TheVariants as function_word
use Rattle.model_grammar.specs.declared.syntax.TypeWord.{TypeWord}
use Rattle.model_grammar.specs.declared.syntax.TypeWord.TheVariants as type_word
use Rattle.model_grammar.specs.declared.syntax.QualifierWord.{QualifierWord}
use Rattle.model_grammar.specs.declared.syntax.QualifierWord.TheVariants as qualifier_word
use Rattle.model_grammar.specs.declared.syntax.TypeofWord.{TypeofWord}
use Rattle.model_grammar.specs.declared.syntax.TypeofWord.TheVariants as typeof_word
use Rattle.model_grammar.specs.declared.syntax.PrefixOp.{PrefixOp}
use Rattle.model_grammar.specs.declared.syntax.PrefixOp.TheVariants as prefix_op

abbrev pub put_storage_word : StorageWord → Gv
put_storage_word storage_word.Typedef = gnum 0
put_storage_word storage_word.Extern = gnum 1
put_storage_word storage_word.Static = gnum 2
put_storage_word storage_word.Auto = gnum 3
put_storage_word storage_word.Register = gnum 4
put_storage_word storage_word.Constexpr = gnum 5

abbrev pub get_storage_word : Gv → StorageWord
get_storage_word (gnum zero) = storage_word.Typedef
get_storage_word (gnum (suc zero)) = storage_word.Extern
get_storage_word (gnum (suc (suc zero))) = storage_word.Static
get_storage_word (gnum (suc (suc (suc zero)))) = storage_word.Auto
get_storage_word (gnum (suc (suc (suc (suc zero))))) = storage_word.Register
get_storage_word _ = storage_word.Constexpr

pub storage_word_back : (x : StorageWord) → get_storage_word (put_storage_word x) ≡ x
storage_word_back storage_word.Typedef = refl
storage_word_back storage_word.Extern = refl
storage_word_back storage_word.Static = refl
storage_word_back storage_word.Auto = refl
storage_word_back storage_word.Register = refl
storage_word_back storage_word.Constexpr = refl

abbrev pub put_function_word : FunctionWord → Gv
put_function_word function_word.Inline = gnum 0
put_function_word function_word.Noreturn = gnum 1

abbrev pub get_function_word : Gv → FunctionWord
get_function_word (gnum zero) = function_word.Inline
get_function_word _ = function_word.Noreturn

pub function_word_back : (x : FunctionWord) → get_function_word (put_function_word x) ≡ x
function_word_back function_word.Inline = refl
function_word_back function_word.Noreturn = refl

abbrev pub put_type_word : TypeWord → Gv
put_type_word type_word.Void = gnum 0
put_type_word type_word.Char = gnum 1
put_type_word type_word.Short = gnum 2
put_type_word type_word.Int = gnum 3
put_type_word type_word.Long = gnum 4
put_type_word type_word.Signed = gnum 5
put_type_word type_word.Unsigned = gnum 6
put_type_word type_word.Bool = gnum 7

abbrev pub get_type_word : Gv → TypeWord
get_type_word (gnum zero) = type_word.Void
get_type_word (gnum (suc zero)) = type_word.Char
get_type_word (gnum (suc (suc zero))) = type_word.Short
get_type_word (gnum (suc (suc (suc zero)))) = type_word.Int
get_type_word (gnum (suc (suc (suc (suc zero))))) = type_word.Long
get_type_word (gnum (suc (suc (suc (suc (suc zero)))))) = type_word.Signed
get_type_word (gnum (suc (suc (suc (suc (suc (suc zero))))))) = type_word.Unsigned
get_type_word _ = type_word.Bool

pub type_word_back : (x : TypeWord) → get_type_word (put_type_word x) ≡ x
type_word_back type_word.Void = refl
type_word_back type_word.Char = refl
type_word_back type_word.Short = refl
type_word_back type_word.Int = refl
type_word_back type_word.Long = refl
type_word_back type_word.Signed = refl
type_word_back type_word.Unsigned = refl
type_word_back type_word.Bool = refl

abbrev pub put_qualifier_word : QualifierWord → Gv
put_qualifier_word qualifier_word.Const = gnum 0
put_qualifier_word qualifier_word.Restrict = gnum 1
put_qualifier_word qualifier_word.Owner = gnum 2
put_qualifier_word qualifier_word.View = gnum 3
put_qualifier_word qualifier_word.Opt = gnum 4

abbrev pub get_qualifier_word : Gv → QualifierWord
get_qualifier_word (gnum zero) = qualifier_word.Const
get_qualifier_word (gnum (suc zero)) = qualifier_word.Restrict
get_qualifier_word (gnum (suc (suc zero))) = qualifier_word.Owner
get_qualifier_word (gnum (suc (suc (suc zero)))) = qualifier_word.View
get_qualifier_word _ = qualifier_word.Opt

pub qualifier_word_back : (x : QualifierWord) → get_qualifier_word (put_qualifier_word x) ≡ x
qualifier_word_back qualifier_word.Const = refl
qualifier_word_back qualifier_word.Restrict = refl
qualifier_word_back qualifier_word.Owner = refl
qualifier_word_back qualifier_word.View = refl
qualifier_word_back qualifier_word.Opt = refl

abbrev pub put_typeof_word : TypeofWord → Gv
put_typeof_word typeof_word.Typeof = gnum 0
put_typeof_word typeof_word.TypeofUnqual = gnum 1

abbrev pub get_typeof_word : Gv → TypeofWord
get_typeof_word (gnum zero) = typeof_word.Typeof
get_typeof_word _ = typeof_word.TypeofUnqual

pub typeof_word_back : (x : TypeofWord) → get_typeof_word (put_typeof_word x) ≡ x
typeof_word_back typeof_word.Typeof = refl
typeof_word_back typeof_word.TypeofUnqual = refl

abbrev pub put_prefix_op : PrefixOp → Gv
put_prefix_op prefix_op.Address = gnum 0
put_prefix_op prefix_op.Indirection = gnum 1
put_prefix_op prefix_op.Plus = gnum 2
put_prefix_op prefix_op.Minus = gnum 3
put_prefix_op prefix_op.Complement = gnum 4
put_prefix_op prefix_op.Not = gnum 5

abbrev pub get_prefix_op : Gv → PrefixOp
get_prefix_op (gnum zero) = prefix_op.Address
get_prefix_op (gnum (suc zero)) = prefix_op.Indirection
get_prefix_op (gnum (suc (suc zero))) = prefix_op.Plus
get_prefix_op (gnum (suc (suc (suc zero)))) = prefix_op.Minus
get_prefix_op (gnum (suc (suc (suc (suc zero))))) = prefix_op.Complement
get_prefix_op _ = prefix_op.Not

pub prefix_op_back : (x : PrefixOp) → get_prefix_op (put_prefix_op x) ≡ x
prefix_op_back prefix_op.Address = refl
prefix_op_back prefix_op.Indirection = refl
prefix_op_back prefix_op.Plus = refl
prefix_op_back prefix_op.Minus = refl
prefix_op_back prefix_op.Complement = refl
prefix_op_back prefix_op.Not = refl

abbrev pub put_maybe_text : Option (List ℕ) → Gv
put_maybe_text None = gnil
put_maybe_text (Some text) = gcons gnil (put_text text)

abbrev pub get_maybe_text : Gv → Option (List ℕ)
get_maybe_text (gcons a text) = Some (get_text text)
get_maybe_text _ = None

pub maybe_text_back : (text : Option (List ℕ)) → get_maybe_text (put_maybe_text text) ≡ text
maybe_text_back None = refl
maybe_text_back (Some text) = ap Some (text_back text)

abbrev pub put_name : Name → Gv
put_name n = gcons (put_text n.text) (put_place n.place)

abbrev pub get_name : Gv → Name
get_name (gcons a b) = record { text = get_text a; place = get_place b }
get_name _ = record { text = []; place = get_place gnil }

pub name_back : (n : Name) → get_name (put_name n) ≡ n
name_back n = λ i. record { text = text_back n.text i; place = n.place }

abbrev pub put_maybe_name : Option Name → Gv
put_maybe_name None = gnil
put_maybe_name (Some n) = put_name n

abbrev pub get_maybe_name : Gv → Option Name
get_maybe_name (gcons a b) = Some (get_name (gcons a b))
get_maybe_name _ = None

pub maybe_name_back : (n : Option Name) → get_maybe_name (put_maybe_name n) ≡ n
maybe_name_back None = refl
maybe_name_back (Some n) = ap Some (name_back n)

abbrev pub put_qualifier : Qualifier → Gv
put_qualifier q = gcons (put_qualifier_word q.word) (put_place q.place)

abbrev pub get_qualifier : Gv → Qualifier
get_qualifier (gcons a b) = record { word = get_qualifier_word a; place = get_place b }
get_qualifier _ = record { word = get_qualifier_word gnil; place = get_place gnil }

pub qualifier_back : (q : Qualifier) → get_qualifier (put_qualifier q) ≡ q
qualifier_back q = λ i. record { word = qualifier_word_back q.word i; place = q.place }

abbrev pub put_qualifiers : List Qualifier → Gv
put_qualifiers [] = gnil
put_qualifiers (q ∷ qs) = gcons (put_qualifier q) (put_qualifiers qs)

abbrev pub get_qualifiers : Gv → List Qualifier
get_qualifiers (gcons a b) = get_qualifier a ∷ get_qualifiers b
get_qualifiers _ = []

pub qualifiers_back : (qs : List Qualifier) → get_qualifiers (put_qualifiers qs) ≡ qs
qualifiers_back [] = refl
qualifiers_back (q ∷ qs) = λ i. qualifier_back q i ∷ qualifiers_back qs i

abbrev pub put_pointer : Pointer → Gv
put_pointer p = gcons (put_place p.star) (put_qualifiers p.qualifiers)

abbrev pub get_pointer : Gv → Pointer
get_pointer (gcons a b) = record { star = get_place a; qualifiers = get_qualifiers b }
get_pointer _ = record { star = get_place gnil; qualifiers = [] }

pub pointer_back : (p : Pointer) → get_pointer (put_pointer p) ≡ p
pointer_back p = λ i. record { star = p.star; qualifiers = qualifiers_back p.qualifiers i }

abbrev pub put_pointers : List Pointer → Gv
put_pointers [] = gnil
put_pointers (p ∷ ps) = gcons (put_pointer p) (put_pointers ps)

abbrev pub get_pointers : Gv → List Pointer
get_pointers (gcons a b) = get_pointer a ∷ get_pointers b
get_pointers _ = []

pub pointers_back : (ps : List Pointer) → get_pointers (put_pointers ps) ≡ ps
pointers_back [] = refl
pointers_back (p ∷ ps) = λ i. pointer_back p i ∷ pointers_back ps i
