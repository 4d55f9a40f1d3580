-- Words of storage are gathered one after another.
use Rattle.std.proofs.Common.{◌≡◌, ℕ, zero, suc, ◌+◌, ◌<◌, Bool, true, false, ◌||◌, List, [], ◌∷◌, length, drop, get_or, refl, ap, ◌∙◌, arith}
use Rattle.model_checking.specs.Parts.{Storage}
use Rattle.c_tree.specs.SyntaxViews.{spec_of, specs_items}
use Rattle.c_tree.specs.declared.syntax_specifiers.Spec.{Spec}
use Rattle.model_checking.specs.Words.{Word, word_of, words_of, storage_of, is_typedef_word, is_extern_word, is_static_word, is_auto_word, is_register_word, is_constexpr_word, is_inline_word}
use Rattle.std.specs.List.{list_any}
use Rattle.check_specifiers.specs.Storages.{with_storage}

gathered : (a b c : Bool) → ((a || (b || false)) || c) ≡ (a || (b || c))
gathered true b c = refl
gathered false true c = refl
gathered false false c = refl

pub storage_step : (s : Storage) (w : Word) (ws : List Word) → with_storage (with_storage s (storage_of (w ∷ []))) (storage_of ws) ≡ with_storage s (storage_of (w ∷ ws))
storage_step s w ws = λ i. record {
  has_typedef = gathered s.has_typedef (is_typedef_word w) (list_any is_typedef_word ws) i;
  has_extern = gathered s.has_extern (is_extern_word w) (list_any is_extern_word ws) i;
  has_static = gathered s.has_static (is_static_word w) (list_any is_static_word ws) i;
  has_auto = gathered s.has_auto (is_auto_word w) (list_any is_auto_word ws) i;
  has_register = gathered s.has_register (is_register_word w) (list_any is_register_word ws) i;
  has_constexpr = gathered s.has_constexpr (is_constexpr_word w) (list_any is_constexpr_word ws) i;
  has_inline = gathered s.has_inline (is_inline_word w) (list_any is_inline_word ws) i;
}

-- behind one more specifier of a list, the words gathered so far with the rest are those of the whole as before
pub storage_behind : (s t whole : Storage) (specs : List Spec) (i : ℕ) (x : Spec) → i < length specs → x ≡ get_or specs i x
    → t ≡ with_storage s (storage_of (word_of (spec_of x) ∷ [])) → with_storage s (storage_of (words_of (specs_items (drop i specs)))) ≡ whole
    → with_storage t (storage_of (words_of (specs_items (drop (i + 1) specs)))) ≡ whole
storage_behind s t whole [] i x l is h k = absurd (omega (arith, l))
storage_behind s t whole (y ∷ ys) zero x l is h k =
    ap (λ t. with_storage t (storage_of (words_of (specs_items ys)))) (h ∙ ap (λ x. with_storage s (storage_of (word_of (spec_of x) ∷ []))) is)
    ∙ storage_step s (word_of (spec_of y)) (words_of (specs_items ys)) ∙ k
storage_behind s t whole (y ∷ ys) (suc i) x l is h k =
    let z : suc i + 1 ≡ suc (i + 1) = omega arith in
    let m : i < length ys = omega (arith, l) in
    rw z (storage_behind s t whole ys i x m is h k)
