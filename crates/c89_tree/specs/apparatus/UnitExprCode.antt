-- How the logic stores the expressions and initial values of a C89 program.
use Rattle.std.specs.Prelude.{◌≡◌, zero, suc, refl}
use Rattle.std.specs.Coded.{Coded}
use base.Stored.{Gv, gnil, gnum, gcons}
use Rattle.model_types.specs.apparatus.TypesCode.{one_to_one}
use Rattle.model_types.specs.apparatus.LeafCode.{put_nat, get_nat, put_text, get_text, text_back, put_binary, get_binary, binary_back, put_logic, get_logic, logic_back}
use Rattle.c89_tree.specs.apparatus.UnitTypeCode.{put_type, get_type, type_back}
use Rattle.model_core.specs.Program89 as m

abbrev pub put_suffix : m.Suffix → Gv
put_suffix m.Plain = gnum 0
put_suffix m.U = gnum 1
put_suffix m.L = gnum 2
put_suffix m.UL = gnum 3

abbrev pub get_suffix : Gv → m.Suffix
get_suffix (gnum zero) = m.Plain
get_suffix (gnum (suc zero)) = m.U
get_suffix (gnum (suc (suc zero))) = m.L
get_suffix _ = m.UL

pub suffix_back : (x : m.Suffix) → get_suffix (put_suffix x) ≡ x
suffix_back m.Plain = refl
suffix_back m.U = refl
suffix_back m.L = refl
suffix_back m.UL = refl

abbrev pub put_prefix : m.Prefix → Gv
put_prefix m.Minus = gnum 0
put_prefix m.Complement = gnum 1
put_prefix m.Not = gnum 2
put_prefix m.Deref = gnum 3
put_prefix m.AddressOf = gnum 4

abbrev pub get_prefix : Gv → m.Prefix
get_prefix (gnum zero) = m.Minus
get_prefix (gnum (suc zero)) = m.Complement
get_prefix (gnum (suc (suc zero))) = m.Not
get_prefix (gnum (suc (suc (suc zero)))) = m.Deref
get_prefix _ = m.AddressOf

pub prefix_back : (x : m.Prefix) → get_prefix (put_prefix x) ≡ x
prefix_back m.Minus = refl
prefix_back m.Complement = refl
prefix_back m.Not = refl
prefix_back m.Deref = refl
prefix_back m.AddressOf = refl

abbrev mutual
  pub put_expr : m.Expr → Gv
  put_expr (m.Name name) = gcons (gnum 0) (put_text name)
  put_expr (m.Constant number suffix) = gcons (gnum 1) (gcons (put_nat number) (put_suffix suffix))
  put_expr (m.Index left right) = gcons (gnum 2) (gcons (put_expr left) (put_expr right))
  put_expr (m.Dot structure name) = gcons (gnum 3) (gcons (put_expr structure) (put_text name))
  put_expr (m.Arrow pointer name) = gcons (gnum 4) (gcons (put_expr pointer) (put_text name))
  put_expr (m.Call function arguments) = gcons (gnum 5) (gcons (put_expr function) (put_exprs arguments))
  put_expr (m.Unary op operand) = gcons (gnum 6) (gcons (put_prefix op) (put_expr operand))
  put_expr (m.Binary op left right) = gcons (gnum 7) (gcons (put_binary op) (gcons (put_expr left) (put_expr right)))
  put_expr (m.Logic op left right) = gcons (gnum 8) (gcons (put_logic op) (gcons (put_expr left) (put_expr right)))
  put_expr (m.Choice condition first second) = gcons (gnum 9) (gcons (put_expr condition) (gcons (put_expr first) (put_expr second)))
  put_expr (m.Cast type operand) = gcons (gnum 10) (gcons (put_type type) (put_expr operand))

  pub put_exprs : m.Exprs → Gv
  put_exprs m.no_exprs = gnil
  put_exprs (m.more_exprs first others) = gcons (put_expr first) (put_exprs others)

abbrev mutual
  pub get_expr : Gv → m.Expr
  get_expr (gcons (gnum zero) a) = m.Name (get_text a)
  get_expr (gcons (gnum (suc zero)) (gcons a b)) = m.Constant (get_nat a) (get_suffix b)
  get_expr (gcons (gnum (suc (suc zero))) (gcons a b)) = m.Index (get_expr a) (get_expr b)
  get_expr (gcons (gnum (suc (suc (suc zero)))) (gcons a b)) = m.Dot (get_expr a) (get_text b)
  get_expr (gcons (gnum (suc (suc (suc (suc zero))))) (gcons a b)) = m.Arrow (get_expr a) (get_text b)
  get_expr (gcons (gnum (suc (suc (suc (suc (suc zero)))))) (gcons a b)) = m.Call (get_expr a) (get_exprs b)
  get_expr (gcons (gnum (suc (suc (suc (suc (suc (suc zero))))))) (gcons a b)) = m.Unary (get_prefix a) (get_expr b)
  get_expr (gcons (gnum (suc (suc (suc (suc (suc (suc (suc zero)))))))) (gcons a (gcons b c))) = m.Binary (get_binary a) (get_expr b) (get_expr c)
  get_expr (gcons (gnum (suc (suc (suc (suc (suc (suc (suc (suc zero))))))))) (gcons a (gcons b c))) = m.Logic (get_logic a) (get_expr b) (get_expr c)
  get_expr (gcons (gnum (suc (suc (suc (suc (suc (suc (suc (suc (suc zero)))))))))) (gcons a (gcons b c))) = m.Choice (get_expr a) (get_expr b) (get_expr c)
  get_expr (gcons (gnum (suc (suc (suc (suc (suc (suc (suc (suc (suc (suc zero))))))))))) (gcons a b)) = m.Cast (get_type a) (get_expr b)
  get_expr _ = m.Name (get_text gnil)

  pub get_exprs : Gv → m.Exprs
  get_exprs (gcons a b) = m.more_exprs (get_expr a) (get_exprs b)
  get_exprs _ = m.no_exprs

mutual
  pub expr_back : (e : m.Expr) → get_expr (put_expr e) ≡ e
  expr_back (m.Name name) = λ i. m.Name (text_back name i)
  expr_back (m.Constant number suffix) = λ i. m.Constant number (suffix_back suffix i)
  expr_back (m.Index left right) = λ i. m.Index (expr_back left i) (expr_back right i)
  expr_back (m.Dot structure name) = λ i. m.Dot (expr_back structure i) (text_back name i)
  expr_back (m.Arrow pointer name) = λ i. m.Arrow (expr_back pointer i) (text_back name i)
  expr_back (m.Call function arguments) = λ i. m.Call (expr_back function i) (exprs_back arguments i)
  expr_back (m.Unary op operand) = λ i. m.Unary (prefix_back op i) (expr_back operand i)
  expr_back (m.Binary op left right) = λ i. m.Binary (binary_back op i) (expr_back left i) (expr_back right i)
  expr_back (m.Logic op left right) = λ i. m.Logic (logic_back op i) (expr_back left i) (expr_back right i)
  expr_back (m.Choice condition first second) = λ i. m.Choice (expr_back condition i) (expr_back first i) (expr_back second i)
  expr_back (m.Cast type operand) = λ i. m.Cast (type_back type i) (expr_back operand i)

  pub exprs_back : (x : m.Exprs) → get_exprs (put_exprs x) ≡ x
  exprs_back m.no_exprs = refl
  exprs_back (m.more_exprs first others) = λ i. m.more_exprs (expr_back first i) (exprs_back others i)

abbrev mutual
  pub put_init : m.Init → Gv
  put_init (m.Value value) = gcons (gnum 0) (put_expr value)
  put_init (m.Text bytes) = gcons (gnum 1) (put_text bytes)
  put_init (m.Braces first others) = gcons (gnum 2) (gcons (put_init first) (put_inits others))

  pub put_inits : m.Inits → Gv
  put_inits m.no_inits = gnil
  put_inits (m.more_inits first others) = gcons (put_init first) (put_inits others)

abbrev mutual
  pub get_init : Gv → m.Init
  get_init (gcons (gnum zero) a) = m.Value (get_expr a)
  get_init (gcons (gnum (suc zero)) a) = m.Text (get_text a)
  get_init (gcons (gnum (suc (suc zero))) (gcons a b)) = m.Braces (get_init a) (get_inits b)
  get_init _ = m.Text (get_text gnil)

  pub get_inits : Gv → m.Inits
  get_inits (gcons a b) = m.more_inits (get_init a) (get_inits b)
  get_inits _ = m.no_inits

mutual
  pub init_back : (x : m.Init) → get_init (put_init x) ≡ x
  init_back (m.Value value) = λ i. m.Value (expr_back value i)
  init_back (m.Text bytes) = λ i. m.Text (text_back bytes i)
  init_back (m.Braces first others) = λ i. m.Braces (init_back first i) (inits_back others i)

  pub inits_back : (x : m.Inits) → get_inits (put_inits x) ≡ x
  inits_back m.no_inits = refl
  inits_back (m.more_inits first others) = λ i. m.more_inits (init_back first i) (inits_back others i)

abbrev pub coded_expr : Coded m.Expr
coded_expr = record { code = put_expr; inj = one_to_one put_expr get_expr expr_back }

abbrev pub coded_init : Coded m.Init
coded_init = record { code = put_init; inj = one_to_one put_init get_init init_back }
