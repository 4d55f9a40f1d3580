-- How the logic stores what is placed.
use Rattle.std.specs.Prelude.{◌≡◌, zero, suc, refl}
use Rattle.std.specs.Coded.{Coded}
use base.Stored.{Gv, gnil, gnum, gcons}
use Rattle.model_types.specs.apparatus.TypesCode.{one_to_one, put_type, get_type, type_back}
use Rattle.model_types.specs.apparatus.LeafCode.{put_nat, get_nat, put_text, get_text, text_back, put_place, get_place}
use Rattle.core_tree.specs.apparatus.CoreExprCode.{put_expr, get_expr, expr_back}
use Rattle.given_tree.specs.apparatus.GivenCode.{put_later, get_later, later_back}
use Rattle.model_checking.specs.Placing.{Content, Value, Text, Zeros, Placed}

abbrev pub put_content : Content → Gv
put_content (Value value later) = gcons (gnum 0) (gcons (put_expr value) (put_later later))
put_content (Text id bytes value) = gcons (gnum 1) (gcons (put_nat id) (gcons (put_text bytes) (put_expr value)))
put_content Zeros = gnil

abbrev pub get_content : Gv → Content
get_content (gcons (gnum zero) (gcons a b)) = Value (get_expr a) (get_later b)
get_content (gcons (gnum (suc zero)) (gcons a (gcons b c))) = Text (get_nat a) (get_text b) (get_expr c)
get_content _ = Zeros

pub content_back : (x : Content) → get_content (put_content x) ≡ x
content_back (Value value later) = λ i. Value (expr_back value i) (later_back later i)
content_back (Text id bytes value) = λ i. Text id (text_back bytes i) (expr_back value i)
content_back Zeros = refl

abbrev pub put_placed : Placed → Gv
put_placed p = gcons (put_text p.path) (gcons (put_type p.type) (gcons (put_content p.content) (put_place p.first)))

abbrev pub get_placed : Gv → Placed
get_placed (gcons a (gcons b (gcons c d))) = record { path = get_text a; type = get_type b; content = get_content c; first = get_place d }
get_placed _ = record { path = get_text gnil; type = get_type gnil; content = Zeros; first = get_place gnil }

pub placed_back : (p : Placed) → get_placed (put_placed p) ≡ p
placed_back p = λ i. record { path = text_back p.path i; type = type_back p.type i; content = content_back p.content i; first = p.first }

abbrev pub coded_placed : Coded Placed
coded_placed = record { code = put_placed; inj = one_to_one put_placed get_placed placed_back }
