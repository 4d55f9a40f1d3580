-- How the logic stores the expressions of a core.
use Rattle.std.specs.Prelude.{◌≡◌, zero, suc, refl}
use Rattle.std.specs.Coded.{Coded}
use base.Stored.{Gv, gnil, gnum, gcons}
use Rattle.model_types.specs.apparatus.TypesCode.{one_to_one, put_bool, get_bool, bool_back, put_type, get_type, type_back}
use Rattle.core_tree.specs.CoreNodes.{Initial}
use Rattle.model_types.specs.apparatus.LeafCode.{put_nat, get_nat, put_int, get_int, int_back, put_text, get_text, text_back, put_place, get_place, put_mark, get_mark, put_origin, get_origin, origin_back, put_binary, get_binary, binary_back, put_unary, get_unary, unary_back, put_logic, get_logic, logic_back, put_step, get_step, step_back, put_side, get_side, side_back}
use Rattle.model_core.specs.Core as m

abbrev pub put_assignment : m.Assignment → Gv
put_assignment m.Plain = gnil
put_assignment (m.Compound op type) = gcons (gnum 0) (gcons (put_binary op) (put_type type))

abbrev pub get_assignment : Gv → m.Assignment
get_assignment (gcons (gnum zero) (gcons a b)) = m.Compound (get_binary a) (get_type b)
get_assignment _ = m.Plain

pub assignment_back : (x : m.Assignment) → get_assignment (put_assignment x) ≡ x
assignment_back m.Plain = refl
assignment_back (m.Compound op type) = λ i. m.Compound (binary_back op i) (type_back type i)

abbrev mutual
  pub put_expr : m.Expr → Gv
  put_expr (m.Constant value type mark) = gcons (gnum 0) (gcons (put_int value) (gcons (put_type type) (put_mark mark)))
  put_expr (m.Load object mark) = gcons (gnum 1) (gcons (put_lvalue object) (put_mark mark))
  put_expr (m.Address origin object mark) = gcons (gnum 2) (gcons (put_origin origin) (gcons (put_lvalue object) (put_mark mark)))
  put_expr (m.FunctionRef id type by_name mark) = gcons (gnum 3) (gcons (put_nat id) (gcons (put_type type) (gcons (put_bool by_name) (put_mark mark))))
  put_expr (m.Unary op operand mark) = gcons (gnum 4) (gcons (put_unary op) (gcons (put_expr operand) (put_mark mark)))
  put_expr (m.Binary op left right mark) = gcons (gnum 5) (gcons (put_binary op) (gcons (put_expr left) (gcons (put_expr right) (put_mark mark))))
  put_expr (m.Logic op left right mark) = gcons (gnum 6) (gcons (put_logic op) (gcons (put_expr left) (gcons (put_expr right) (put_mark mark))))
  put_expr (m.Choice condition first second mark) = gcons (gnum 7) (gcons (put_expr condition) (gcons (put_expr first) (gcons (put_expr second) (put_mark mark))))
  put_expr (m.Convert origin type operand mark) = gcons (gnum 8) (gcons (put_origin origin) (gcons (put_type type) (gcons (put_expr operand) (put_mark mark))))
  put_expr (m.Call function arguments mark) = gcons (gnum 9) (gcons (put_expr function) (gcons (put_exprs arguments) (put_mark mark)))
  put_expr (m.Assign assignment object value mark) = gcons (gnum 10) (gcons (put_assignment assignment) (gcons (put_lvalue object) (gcons (put_expr value) (put_mark mark))))
  put_expr (m.Step op side type object mark) = gcons (gnum 11) (gcons (put_step op) (gcons (put_side side) (gcons (put_type type) (gcons (put_lvalue object) (put_mark mark)))))
  put_expr (m.MemberValue structure rank type name mark) = gcons (gnum 12) (gcons (put_expr structure) (gcons (put_nat rank) (gcons (put_type type) (gcons (put_place name) (put_mark mark)))))
  put_expr (m.Comma first second mark) = gcons (gnum 13) (gcons (put_expr first) (gcons (put_expr second) (put_mark mark)))

  pub put_lvalue : m.Lvalue → Gv
  put_lvalue (m.Object id type mark) = gcons (gnum 0) (gcons (put_nat id) (gcons (put_type type) (put_mark mark)))
  put_lvalue (m.Deref pointer mark) = gcons (gnum 1) (gcons (put_expr pointer) (put_mark mark))
  put_lvalue (m.Index is_second first second mark) = gcons (gnum 2) (gcons (put_bool is_second) (gcons (put_expr first) (gcons (put_expr second) (put_mark mark))))
  put_lvalue (m.Field structure rank type name mark) = gcons (gnum 3) (gcons (put_lvalue structure) (gcons (put_nat rank) (gcons (put_type type) (gcons (put_place name) (put_mark mark)))))
  put_lvalue (m.Arrow pointer rank type name mark) = gcons (gnum 4) (gcons (put_expr pointer) (gcons (put_nat rank) (gcons (put_type type) (gcons (put_place name) (put_mark mark)))))
  put_lvalue (m.Literal origin id type values mark) =
      gcons (gnum 5) (gcons (put_origin origin) (gcons (put_nat id) (gcons (put_type type) (gcons (put_initials values) (put_mark mark)))))

  pub put_exprs : m.Exprs → Gv
  put_exprs m.no_exprs = gnil
  put_exprs (m.more_exprs first others) = gcons (put_expr first) (put_exprs others)

  pub put_initials : m.Initials → Gv
  put_initials m.no_initials = gnil
  put_initials (m.more_initials path offset type value others) = gcons (put_text path) (gcons (put_nat offset) (gcons (put_type type) (gcons (put_expr value) (put_initials others))))

abbrev mutual
  pub get_expr : Gv → m.Expr
  get_expr (gcons (gnum zero) (gcons a (gcons b c))) = m.Constant (get_int a) (get_type b) (get_mark c)
  get_expr (gcons (gnum (suc zero)) (gcons a b)) = m.Load (get_lvalue a) (get_mark b)
  get_expr (gcons (gnum (suc (suc zero))) (gcons a (gcons b c))) = m.Address (get_origin a) (get_lvalue b) (get_mark c)
  get_expr (gcons (gnum (suc (suc (suc zero)))) (gcons a (gcons b (gcons c d)))) = m.FunctionRef (get_nat a) (get_type b) (get_bool c) (get_mark d)
  get_expr (gcons (gnum (suc (suc (suc (suc zero))))) (gcons a (gcons b c))) = m.Unary (get_unary a) (get_expr b) (get_mark c)
  get_expr (gcons (gnum (suc (suc (suc (suc (suc zero)))))) (gcons a (gcons b (gcons c d)))) = m.Binary (get_binary a) (get_expr b) (get_expr c) (get_mark d)
  get_expr (gcons (gnum (suc (suc (suc (suc (suc (suc zero))))))) (gcons a (gcons b (gcons c d)))) = m.Logic (get_logic a) (get_expr b) (get_expr c) (get_mark d)
  get_expr (gcons (gnum (suc (suc (suc (suc (suc (suc (suc zero)))))))) (gcons a (gcons b (gcons c d)))) = m.Choice (get_expr a) (get_expr b) (get_expr c) (get_mark d)
  get_expr (gcons (gnum (suc (suc (suc (suc (suc (suc (suc (suc zero))))))))) (gcons a (gcons b (gcons c d)))) = m.Convert (get_origin a) (get_type b) (get_expr c) (get_mark d)
  get_expr (gcons (gnum (suc (suc (suc (suc (suc (suc (suc (suc (suc zero)))))))))) (gcons a (gcons b c))) = m.Call (get_expr a) (get_exprs b) (get_mark c)
  get_expr (gcons (gnum (suc (suc (suc (suc (suc (suc (suc (suc (suc (suc zero))))))))))) (gcons a (gcons b (gcons c d)))) = m.Assign (get_assignment a) (get_lvalue b) (get_expr c) (get_mark d)
  get_expr (gcons (gnum (suc (suc (suc (suc (suc (suc (suc (suc (suc (suc (suc zero)))))))))))) (gcons a (gcons b (gcons c (gcons d e))))) = m.Step (get_step a) (get_side b) (get_type c) (get_lvalue d) (get_mark e)
  get_expr (gcons (gnum (suc (suc (suc (suc (suc (suc (suc (suc (suc (suc (suc (suc zero))))))))))))) (gcons a (gcons b (gcons c (gcons d e))))) = m.MemberValue (get_expr a) (get_nat b) (get_type c) (get_place d) (get_mark e)
  get_expr (gcons (gnum (suc (suc (suc (suc (suc (suc (suc (suc (suc (suc (suc (suc (suc zero)))))))))))))) (gcons a (gcons b c))) = m.Comma (get_expr a) (get_expr b) (get_mark c)
  get_expr _ = m.Constant (get_int gnil) (get_type gnil) (get_mark gnil)

  pub get_lvalue : Gv → m.Lvalue
  get_lvalue (gcons (gnum zero) (gcons a (gcons b c))) = m.Object (get_nat a) (get_type b) (get_mark c)
  get_lvalue (gcons (gnum (suc zero)) (gcons a b)) = m.Deref (get_expr a) (get_mark b)
  get_lvalue (gcons (gnum (suc (suc zero))) (gcons a (gcons b (gcons c d)))) = m.Index (get_bool a) (get_expr b) (get_expr c) (get_mark d)
  get_lvalue (gcons (gnum (suc (suc (suc zero)))) (gcons a (gcons b (gcons c (gcons d e))))) = m.Field (get_lvalue a) (get_nat b) (get_type c) (get_place d) (get_mark e)
  get_lvalue (gcons (gnum (suc (suc (suc (suc zero))))) (gcons a (gcons b (gcons c (gcons d e))))) = m.Arrow (get_expr a) (get_nat b) (get_type c) (get_place d) (get_mark e)
  get_lvalue (gcons (gnum (suc (suc (suc (suc (suc zero)))))) (gcons a (gcons b (gcons c (gcons d e))))) =
      m.Literal (get_origin a) (get_nat b) (get_type c) (get_initials d) (get_mark e)
  get_lvalue _ = m.Object (get_nat gnil) (get_type gnil) (get_mark gnil)

  pub get_exprs : Gv → m.Exprs
  get_exprs (gcons a b) = m.more_exprs (get_expr a) (get_exprs b)
  get_exprs _ = m.no_exprs

  pub get_initials : Gv → m.Initials
  get_initials (gcons a (gcons b (gcons c (gcons d e)))) = m.more_initials (get_text a) (get_nat b) (get_type c) (get_expr d) (get_initials e)
  get_initials _ = m.no_initials

mutual
  pub expr_back : (e : m.Expr) → get_expr (put_expr e) ≡ e
  expr_back (m.Constant value type mark) = λ i. m.Constant (int_back value i) (type_back type i) mark
  expr_back (m.Load object mark) = λ i. m.Load (lvalue_back object i) mark
  expr_back (m.Address origin object mark) = λ i. m.Address (origin_back origin i) (lvalue_back object i) mark
  expr_back (m.FunctionRef id type by_name mark) = λ i. m.FunctionRef id (type_back type i) (bool_back by_name i) mark
  expr_back (m.Unary op operand mark) = λ i. m.Unary (unary_back op i) (expr_back operand i) mark
  expr_back (m.Binary op left right mark) = λ i. m.Binary (binary_back op i) (expr_back left i) (expr_back right i) mark
  expr_back (m.Logic op left right mark) = λ i. m.Logic (logic_back op i) (expr_back left i) (expr_back right i) mark
  expr_back (m.Choice condition first second mark) = λ i. m.Choice (expr_back condition i) (expr_back first i) (expr_back second i) mark
  expr_back (m.Convert origin type operand mark) = λ i. m.Convert (origin_back origin i) (type_back type i) (expr_back operand i) mark
  expr_back (m.Call function arguments mark) = λ i. m.Call (expr_back function i) (exprs_back arguments i) mark
  expr_back (m.Assign assignment object value mark) = λ i. m.Assign (assignment_back assignment i) (lvalue_back object i) (expr_back value i) mark
  expr_back (m.Step op side type object mark) = λ i. m.Step (step_back op i) (side_back side i) (type_back type i) (lvalue_back object i) mark
  expr_back (m.MemberValue structure rank type name mark) = λ i. m.MemberValue (expr_back structure i) rank (type_back type i) name mark
  expr_back (m.Comma first second mark) = λ i. m.Comma (expr_back first i) (expr_back second i) mark

  pub lvalue_back : (l : m.Lvalue) → get_lvalue (put_lvalue l) ≡ l
  lvalue_back (m.Object id type mark) = λ i. m.Object id (type_back type i) mark
  lvalue_back (m.Deref pointer mark) = λ i. m.Deref (expr_back pointer i) mark
  lvalue_back (m.Index is_second first second mark) = λ i. m.Index (bool_back is_second i) (expr_back first i) (expr_back second i) mark
  lvalue_back (m.Field structure rank type name mark) = λ i. m.Field (lvalue_back structure i) rank (type_back type i) name mark
  lvalue_back (m.Arrow pointer rank type name mark) = λ i. m.Arrow (expr_back pointer i) rank (type_back type i) name mark
  lvalue_back (m.Literal origin id type values mark) = λ i. m.Literal (origin_back origin i) id (type_back type i) (initials_back values i) mark

  pub exprs_back : (x : m.Exprs) → get_exprs (put_exprs x) ≡ x
  exprs_back m.no_exprs = refl
  exprs_back (m.more_exprs first others) = λ i. m.more_exprs (expr_back first i) (exprs_back others i)

  pub initials_back : (x : m.Initials) → get_initials (put_initials x) ≡ x
  initials_back m.no_initials = refl
  initials_back (m.more_initials path offset type value others) = λ i. m.more_initials (text_back path i) offset (type_back type i) (expr_back value i) (initials_back others i)

abbrev pub put_initial : Initial → Gv
put_initial i = gcons (put_text i.path) (gcons (gnum i.offset) (gcons (put_type i.type) (put_expr i.value)))

abbrev pub get_initial : Gv → Initial
get_initial (gcons a (gcons b (gcons c d))) = record { path = get_text a; offset = get_nat b; type = get_type c; value = get_expr d }
get_initial _ = record { path = get_text gnil; offset = 0; type = get_type gnil; value = get_expr gnil }

pub initial_back : (x : Initial) → get_initial (put_initial x) ≡ x
initial_back x = λ i. record { path = text_back x.path i; offset = x.offset; type = type_back x.type i; value = expr_back x.value i }

abbrev pub coded_expr : Coded m.Expr
coded_expr = record { code = put_expr; inj = one_to_one put_expr get_expr expr_back }

abbrev pub coded_lvalue : Coded m.Lvalue
coded_lvalue = record { code = put_lvalue; inj = one_to_one put_lvalue get_lvalue lvalue_back }

abbrev pub coded_initial : Coded Initial
coded_initial = record { code = put_initial; inj = one_to_one put_initial get_initial initial_back }
