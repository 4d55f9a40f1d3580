-- A right side that is read from its end.
use Rattle.std.specs.Prelude.{◌≡◌, refl, List, [], ◌∷◌, ◌++◌}
use Rattle.std.proofs.Common.{ap, sym, subst, ◌∙◌}
use Rattle.model_grammar.specs.SyntaxValues as v
use Rattle.syntax_meanings.specs.declared.meanings.Value.{Value}
use Rattle.syntax_meanings.specs.declared.right_sides.RightSide.{RightSide}
use Rattle.syntax_meanings.specs.Meanings.{value_seen, values_seen}
use Rattle.syntax_meanings.specs.RightSides.{IsRightSide}

-- the values before those that are read
pub record IsRead (all before : List Value) (right : RightSide) (read : List v.Value) : Type 0 where
  pub whole : values_seen all ≡ values_seen before ++ read
  pub is : IsRightSide right read

seen_last : (xs : List Value) (x : Value) (read : List v.Value) → values_seen (xs ++ x ∷ []) ++ read ≡ values_seen xs ++ (value_seen x ∷ read)
seen_last [] x read = refl
seen_last (y ∷ ys) x read = ap (λ zs. value_seen y ∷ zs) (seen_last ys x read)

seen_all : (xs : List Value) → values_seen xs ≡ values_seen xs ++ []
seen_all [] = refl
seen_all (x ∷ xs) = ap (λ zs. value_seen x ∷ zs) (seen_all xs)

pub read_none : (all : List Value) (right : RightSide) → IsRightSide right [] → IsRead all all right []
read_none all right is = record { whole = seen_all all; is = is }

pub read_one_more : (all before rest : List Value) (x : Value) (right next : RightSide) (read : List v.Value) → IsRead all before right read → before ≡ rest ++ x ∷ [] → ((others : List v.Value) → IsRightSide right others → IsRightSide next (value_seen x ∷ others)) → IsRead all rest next (value_seen x ∷ read)
read_one_more all before rest x right next read r e step = record { whole = r.whole ∙ ap (λ zs. values_seen zs ++ read) e ∙ seen_last rest x read; is = step read r.is }

pub read_to_the_front : (all before : List Value) (right : RightSide) (read : List v.Value) → IsRead all before right read → before ≡ [] → IsRightSide right (values_seen all)
read_to_the_front all before right read r e = subst (IsRightSide right) (sym (r.whole ∙ ap (λ zs. values_seen zs ++ read) e)) r.is
