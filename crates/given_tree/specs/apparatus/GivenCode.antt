-- How the logic stores given initializers.
use Rattle.std.specs.Prelude.{◌≡◌, zero, suc, List, [], ◌∷◌, Option, Some, None, refl}
use Rattle.std.specs.Coded.{Coded}
use base.Stored.{Gv, gnil, gnum, gcons}
use Rattle.cake_base.specs.declared.rules.Family.{Family}
use Rattle.cake_base.specs.declared.rules.Family.TheVariants as family
use Rattle.cake_base.specs.declared.rules.Fault.{Fault}
use Rattle.model_types.specs.apparatus.TypesCode.{one_to_one}
use Rattle.model_types.specs.apparatus.LeafCode.{put_nat, get_nat, put_text, get_text, text_back, put_place, get_place}
use Rattle.core_tree.specs.apparatus.CoreExprCode.{put_expr, get_expr, expr_back}
use Rattle.model_checking.specs.Parts as m

abbrev pub put_family : Family → Gv
put_family family.P = gnum 0
put_family family.L = gnum 1
put_family family.S = gnum 2
put_family family.C = gnum 3
put_family family.F = gnum 4
put_family family.G = gnum 5

abbrev pub get_family : Gv → Family
get_family (gnum zero) = family.P
get_family (gnum (suc zero)) = family.L
get_family (gnum (suc (suc zero))) = family.S
get_family (gnum (suc (suc (suc zero)))) = family.C
get_family (gnum (suc (suc (suc (suc zero))))) = family.F
get_family _ = family.G

pub family_back : (f : Family) → get_family (put_family f) ≡ f
family_back family.P = refl
family_back family.L = refl
family_back family.S = refl
family_back family.C = refl
family_back family.F = refl
family_back family.G = refl

abbrev pub put_fault : Fault → Gv
put_fault f = gcons (put_place f.place) (gcons (put_family f.rule.family) (gnum f.rule.number))

abbrev pub get_fault : Gv → Fault
get_fault (gcons a (gcons b c)) = record { place = get_place a; rule = record { family = get_family b; number = get_nat c } }
get_fault _ = record { place = get_place gnil; rule = record { family = get_family gnil; number = 0 } }

pub fault_back : (f : Fault) → get_fault (put_fault f) ≡ f
fault_back f = λ i. record { place = f.place; rule = record { family = family_back f.rule.family i; number = f.rule.number } }

abbrev pub put_later : Option Fault → Gv
put_later None = gnil
put_later (Some f) = gcons gnil (put_fault f)

abbrev pub get_later : Gv → Option Fault
get_later (gcons a b) = Some (get_fault b)
get_later _ = None

pub later_back : (f : Option Fault) → get_later (put_later f) ≡ f
later_back None = refl
later_back (Some f) = λ i. Some (fault_back f i)

abbrev pub put_step : m.GivenStep → Gv
put_step (m.to_element index place) = gcons (gnum 0) (gcons (put_nat index) (put_place place))
put_step (m.to_no_element place) = gcons (gnum 1) (put_place place)
put_step (m.to_member name place) = gcons (gnum 2) (gcons (put_text name) (put_place place))
put_step (m.faulty_index fault place) = gcons (gnum 3) (gcons (put_fault fault) (put_place place))

abbrev pub get_step : Gv → m.GivenStep
get_step (gcons (gnum zero) (gcons a b)) = m.to_element (get_nat a) (get_place b)
get_step (gcons (gnum (suc zero)) a) = m.to_no_element (get_place a)
get_step (gcons (gnum (suc (suc zero))) (gcons a b)) = m.to_member (get_text a) (get_place b)
get_step (gcons (gnum (suc (suc (suc zero)))) (gcons a b)) = m.faulty_index (get_fault a) (get_place b)
get_step _ = m.to_no_element (get_place gnil)

pub step_back : (s : m.GivenStep) → get_step (put_step s) ≡ s
step_back (m.to_element index place) = refl
step_back (m.to_no_element place) = refl
step_back (m.to_member name place) = λ i. m.to_member (text_back name i) place
step_back (m.faulty_index fault place) = λ i. m.faulty_index (fault_back fault i) place

abbrev pub put_steps : List m.GivenStep → Gv
put_steps [] = gnil
put_steps (s ∷ ss) = gcons (put_step s) (put_steps ss)

abbrev pub get_steps : Gv → List m.GivenStep
get_steps (gcons a b) = get_step a ∷ get_steps b
get_steps _ = []

pub steps_back : (ss : List m.GivenStep) → get_steps (put_steps ss) ≡ ss
steps_back [] = refl
steps_back (s ∷ ss) = λ i. step_back s i ∷ steps_back ss i

abbrev mutual
  pub put_given : m.Given → Gv
  put_given (m.a_value value first later) = gcons (gnum 0) (gcons (put_expr value) (gcons (put_place first) (put_later later)))
  put_given (m.a_text id bytes value first) = gcons (gnum 1) (gcons (put_nat id) (gcons (put_text bytes) (gcons (put_expr value) (put_place first))))
  put_given (m.in_braces items place) = gcons (gnum 2) (gcons (put_items items) (put_place place))
  put_given (m.faulty fault first) = gcons (gnum 3) (gcons (put_fault fault) (put_place first))

  pub put_items : m.GivenItems → Gv
  put_items m.no_given = gnil
  put_items (m.more_given steps first others) = gcons (put_steps steps) (gcons (put_given first) (put_items others))

abbrev mutual
  pub get_given : Gv → m.Given
  get_given (gcons (gnum zero) (gcons a (gcons b c))) = m.a_value (get_expr a) (get_place b) (get_later c)
  get_given (gcons (gnum (suc zero)) (gcons a (gcons b (gcons c d)))) = m.a_text (get_nat a) (get_text b) (get_expr c) (get_place d)
  get_given (gcons (gnum (suc (suc zero))) (gcons a b)) = m.in_braces (get_items a) (get_place b)
  get_given (gcons (gnum (suc (suc (suc zero)))) (gcons a b)) = m.faulty (get_fault a) (get_place b)
  get_given _ = m.faulty (get_fault gnil) (get_place gnil)

  pub get_items : Gv → m.GivenItems
  get_items (gcons a (gcons b c)) = m.more_given (get_steps a) (get_given b) (get_items c)
  get_items _ = m.no_given

mutual
  pub given_back : (g : m.Given) → get_given (put_given g) ≡ g
  given_back (m.a_value value first later) = λ i. m.a_value (expr_back value i) first (later_back later i)
  given_back (m.a_text id bytes value first) = λ i. m.a_text id (text_back bytes i) (expr_back value i) first
  given_back (m.in_braces items place) = λ i. m.in_braces (items_back items i) place
  given_back (m.faulty fault first) = λ i. m.faulty (fault_back fault i) first

  pub items_back : (is : m.GivenItems) → get_items (put_items is) ≡ is
  items_back m.no_given = refl
  items_back (m.more_given steps first others) = λ i. m.more_given (steps_back steps i) (given_back first i) (items_back others i)

abbrev pub coded_given : Coded m.Given
coded_given = record { code = put_given; inj = one_to_one put_given get_given given_back }
