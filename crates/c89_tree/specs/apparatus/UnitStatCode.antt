-- How the logic stores the statements of a C89 program.
use Rattle.std.specs.Prelude.{◌≡◌, zero, suc, List, [], ◌∷◌, refl}
use Rattle.std.specs.Coded.{Coded}
use base.Stored.{Gv, gnil, gnum, gcons}
use Rattle.model_types.specs.apparatus.TypesCode.{one_to_one}
use Rattle.c89_tree.specs.ProgramNodes89.{Item}
use Rattle.model_types.specs.apparatus.LeafCode.{put_text, get_text, text_back}
use Rattle.c89_tree.specs.apparatus.UnitTypeCode.{put_type, get_type, type_back}
use Rattle.c89_tree.specs.apparatus.UnitExprCode.{put_expr, get_expr, expr_back}
use Rattle.model_core.specs.Program89 as m

abbrev pub put_declaration : m.Declaration → Gv
put_declaration d = gcons (put_type d.type) (put_text d.name)

abbrev pub get_declaration : Gv → m.Declaration
get_declaration (gcons a b) = record { type = get_type a; name = get_text b }
get_declaration _ = record { type = get_type gnil; name = [] }

pub declaration_back : (x : m.Declaration) → get_declaration (put_declaration x) ≡ x
declaration_back x = λ i. record { type = type_back x.type i; name = text_back x.name i }

abbrev pub put_declarations : List m.Declaration → Gv
put_declarations [] = gnil
put_declarations (first ∷ others) = gcons (put_declaration first) (put_declarations others)

abbrev pub get_declarations : Gv → List m.Declaration
get_declarations (gcons a b) = get_declaration a ∷ get_declarations b
get_declarations _ = []

pub declarations_back : (x : List m.Declaration) → get_declarations (put_declarations x) ≡ x
declarations_back [] = refl
declarations_back (first ∷ others) = λ i. declaration_back first i ∷ declarations_back others i

abbrev pub put_label : m.Label → Gv
put_label (m.Case value) = gcons (gnum 0) (put_expr value)
put_label m.Default = gnil

abbrev pub get_label : Gv → m.Label
get_label (gcons (gnum zero) a) = m.Case (get_expr a)
get_label _ = m.Default

pub label_back : (x : m.Label) → get_label (put_label x) ≡ x
label_back (m.Case value) = λ i. m.Case (expr_back value i)
label_back m.Default = refl

abbrev pub put_labels : List m.Label → Gv
put_labels [] = gnil
put_labels (first ∷ others) = gcons (put_label first) (put_labels others)

abbrev pub get_labels : Gv → List m.Label
get_labels (gcons a b) = get_label a ∷ get_labels b
get_labels _ = []

pub labels_back : (x : List m.Label) → get_labels (put_labels x) ≡ x
labels_back [] = refl
labels_back (first ∷ others) = λ i. label_back first i ∷ labels_back others i

abbrev mutual
  pub put_stat : m.Stat → Gv
  put_stat (m.Evaluate value) = gcons (gnum 0) (put_expr value)
  put_stat (m.Assign left right) = gcons (gnum 1) (gcons (put_expr left) (put_expr right))
  put_stat m.Empty = gnil
  put_stat (m.Block objects body) = gcons (gnum 2) (gcons (put_declarations objects) (put_stats body))
  put_stat (m.If condition objects body) = gcons (gnum 3) (gcons (put_expr condition) (gcons (put_declarations objects) (put_stats body)))
  put_stat (m.IfElse condition objects body other_objects other_body) = gcons (gnum 4) (gcons (put_expr condition) (gcons (put_declarations objects) (gcons (put_stats body) (gcons (put_declarations other_objects) (put_stats other_body)))))
  put_stat (m.Forever objects body) = gcons (gnum 5) (gcons (put_declarations objects) (put_stats body))
  put_stat (m.Switch value items) = gcons (gnum 6) (gcons (put_expr value) (put_items items))
  put_stat m.Break = gcons (gnum 7) gnil
  put_stat m.Continue = gcons (gnum 8) gnil
  put_stat m.ReturnNothing = gcons (gnum 9) gnil
  put_stat (m.Return value) = gcons (gnum 10) (put_expr value)

  pub put_stats : m.Stats → Gv
  put_stats m.no_stats = gnil
  put_stats (m.more_stats first others) = gcons (put_stat first) (put_stats others)

  pub put_items : m.Items → Gv
  put_items m.no_items = gnil
  put_items (m.an_item labels stat others) = gcons (put_labels labels) (gcons (put_stat stat) (put_items others))

abbrev mutual
  pub get_stat : Gv → m.Stat
  get_stat (gcons (gnum zero) a) = m.Evaluate (get_expr a)
  get_stat (gcons (gnum (suc zero)) (gcons a b)) = m.Assign (get_expr a) (get_expr b)
  get_stat (gcons (gnum (suc (suc zero))) (gcons a b)) = m.Block (get_declarations a) (get_stats b)
  get_stat (gcons (gnum (suc (suc (suc zero)))) (gcons a (gcons b c))) = m.If (get_expr a) (get_declarations b) (get_stats c)
  get_stat (gcons (gnum (suc (suc (suc (suc zero))))) (gcons a (gcons b (gcons c (gcons d e))))) = m.IfElse (get_expr a) (get_declarations b) (get_stats c) (get_declarations d) (get_stats e)
  get_stat (gcons (gnum (suc (suc (suc (suc (suc zero)))))) (gcons a b)) = m.Forever (get_declarations a) (get_stats b)
  get_stat (gcons (gnum (suc (suc (suc (suc (suc (suc zero))))))) (gcons a b)) = m.Switch (get_expr a) (get_items b)
  get_stat (gcons (gnum (suc (suc (suc (suc (suc (suc (suc zero)))))))) a) = m.Break
  get_stat (gcons (gnum (suc (suc (suc (suc (suc (suc (suc (suc zero))))))))) a) = m.Continue
  get_stat (gcons (gnum (suc (suc (suc (suc (suc (suc (suc (suc (suc zero)))))))))) a) = m.ReturnNothing
  get_stat (gcons (gnum (suc (suc (suc (suc (suc (suc (suc (suc (suc (suc zero))))))))))) a) = m.Return (get_expr a)
  get_stat _ = m.Empty

  pub get_stats : Gv → m.Stats
  get_stats (gcons a b) = m.more_stats (get_stat a) (get_stats b)
  get_stats _ = m.no_stats

  pub get_items : Gv → m.Items
  get_items (gcons a (gcons b c)) = m.an_item (get_labels a) (get_stat b) (get_items c)
  get_items _ = m.no_items

mutual
  pub stat_back : (s : m.Stat) → get_stat (put_stat s) ≡ s
  stat_back (m.Evaluate value) = λ i. m.Evaluate (expr_back value i)
  stat_back (m.Assign left right) = λ i. m.Assign (expr_back left i) (expr_back right i)
  stat_back m.Empty = refl
  stat_back (m.Block objects body) = λ i. m.Block (declarations_back objects i) (stats_back body i)
  stat_back (m.If condition objects body) = λ i. m.If (expr_back condition i) (declarations_back objects i) (stats_back body i)
  stat_back (m.IfElse condition objects body other_objects other_body) = λ i. m.IfElse (expr_back condition i) (declarations_back objects i) (stats_back body i) (declarations_back other_objects i) (stats_back other_body i)
  stat_back (m.Forever objects body) = λ i. m.Forever (declarations_back objects i) (stats_back body i)
  stat_back (m.Switch value items) = λ i. m.Switch (expr_back value i) (items_back items i)
  stat_back m.Break = refl
  stat_back m.Continue = refl
  stat_back m.ReturnNothing = refl
  stat_back (m.Return value) = λ i. m.Return (expr_back value i)

  pub stats_back : (x : m.Stats) → get_stats (put_stats x) ≡ x
  stats_back m.no_stats = refl
  stats_back (m.more_stats first others) = λ i. m.more_stats (stat_back first i) (stats_back others i)

  pub items_back : (x : m.Items) → get_items (put_items x) ≡ x
  items_back m.no_items = refl
  items_back (m.an_item labels stat others) = λ i. m.an_item (labels_back labels i) (stat_back stat i) (items_back others i)

abbrev pub put_item : Item → Gv
put_item x = gcons (put_labels x.labels) (put_stat x.stat)

abbrev pub get_item : Gv → Item
get_item (gcons a b) = record { labels = get_labels a; stat = get_stat b }
get_item _ = record { labels = []; stat = m.Empty }

pub item_back : (x : Item) → get_item (put_item x) ≡ x
item_back x = λ i. record { labels = labels_back x.labels i; stat = stat_back x.stat i }

abbrev pub coded_declaration : Coded m.Declaration
coded_declaration = record { code = put_declaration; inj = one_to_one put_declaration get_declaration declaration_back }

abbrev pub coded_label : Coded m.Label
coded_label = record { code = put_label; inj = one_to_one put_label get_label label_back }

abbrev pub coded_stat : Coded m.Stat
coded_stat = record { code = put_stat; inj = one_to_one put_stat get_stat stat_back }

abbrev pub coded_stats : Coded m.Stats
coded_stats = record { code = put_stats; inj = one_to_one put_stats get_stats stats_back }

abbrev pub coded_item : Coded Item
coded_item = record { code = put_item; inj = one_to_one put_item get_item item_back }
