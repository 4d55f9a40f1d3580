-- How the logic stores the statements of a core.
use Rattle.std.specs.Prelude.{◌≡◌, zero, suc, refl}
use Rattle.std.specs.Coded.{Coded}
use base.Stored.{Gv, gnil, gnum, gcons}
use Rattle.model_types.specs.apparatus.TypesCode.{one_to_one, put_type, get_type, type_back}
use Rattle.core_tree.specs.CoreNodes.{Case, CaseLabel, DefaultLabel, Statement}
use Rattle.model_types.specs.apparatus.LeafCode.{put_nat, get_nat, put_int, get_int, int_back, put_text, get_text, text_back, put_place, get_place, put_mark, get_mark, put_span, get_span}
use Rattle.core_tree.specs.apparatus.CoreExprCode.{put_expr, get_expr, expr_back, put_initials, get_initials, initials_back}
use Rattle.model_core.specs.Core as m

abbrev pub put_maybe_expr : m.MaybeExpr → Gv
put_maybe_expr m.no_expr = gnil
put_maybe_expr (m.an_expr value) = gcons (gnum 0) (put_expr value)

abbrev pub get_maybe_expr : Gv → m.MaybeExpr
get_maybe_expr (gcons (gnum zero) a) = m.an_expr (get_expr a)
get_maybe_expr _ = m.no_expr

pub maybe_expr_back : (x : m.MaybeExpr) → get_maybe_expr (put_maybe_expr x) ≡ x
maybe_expr_back m.no_expr = refl
maybe_expr_back (m.an_expr value) = λ i. m.an_expr (expr_back value i)

abbrev mutual
  pub put_stat : m.Stat → Gv
  put_stat (m.Evaluate value span) = gcons (gnum 0) (gcons (put_expr value) (put_span span))
  put_stat (m.Start id type values mark) = gcons (gnum 1) (gcons (put_nat id) (gcons (put_type type) (gcons (put_initials values) (put_mark mark))))
  put_stat (m.Block objects body span) = gcons (gnum 2) (gcons (put_text objects) (gcons (put_stats body) (put_span span)))
  put_stat (m.If condition first second span) = gcons (gnum 3) (gcons (put_expr condition) (gcons (put_stat first) (gcons (put_maybe_stat second) (put_span span))))
  put_stat (m.Switch value objects body span) = gcons (gnum 4) (gcons (put_expr value) (gcons (put_text objects) (gcons (put_cases body) (put_span span))))
  put_stat (m.While condition body span) = gcons (gnum 5) (gcons (put_expr condition) (gcons (put_stat body) (put_span span)))
  put_stat (m.DoWhile body condition span) = gcons (gnum 6) (gcons (put_stat body) (gcons (put_expr condition) (put_span span)))
  put_stat (m.For first condition step body span) = gcons (gnum 7) (gcons (put_maybe_expr first) (gcons (put_maybe_expr condition) (gcons (put_maybe_expr step) (gcons (put_stat body) (put_span span)))))
  put_stat (m.Break place) = gcons (gnum 8) (put_place place)
  put_stat (m.Continue place) = gcons (gnum 9) (put_place place)
  put_stat (m.Return value place) = gcons (gnum 10) (gcons (put_maybe_expr value) (put_place place))
  put_stat (m.Defer body place span) = gcons (gnum 11) (gcons (put_stat body) (gcons (put_place place) (put_span span)))

  pub put_stats : m.Stats → Gv
  put_stats m.no_stats = gnil
  put_stats (m.more_stats first others) = gcons (put_stat first) (put_stats others)

  pub put_maybe_stat : m.MaybeStat → Gv
  put_maybe_stat m.no_stat = gnil
  put_maybe_stat (m.a_stat stat) = gcons (gnum 0) (put_stat stat)

  pub put_cases : m.Cases → Gv
  put_cases m.no_cases = gnil
  put_cases (m.a_case value place others) = gcons (gnum 0) (gcons (put_int value) (gcons (put_place place) (put_cases others)))
  put_cases (m.a_default place others) = gcons (gnum 1) (gcons (put_place place) (put_cases others))
  put_cases (m.a_stat_then stat others) = gcons (gnum 2) (gcons (put_stat stat) (put_cases others))

abbrev mutual
  pub get_stat : Gv → m.Stat
  get_stat (gcons (gnum zero) (gcons a b)) = m.Evaluate (get_expr a) (get_span b)
  get_stat (gcons (gnum (suc zero)) (gcons a (gcons b (gcons c d)))) = m.Start (get_nat a) (get_type b) (get_initials c) (get_mark d)
  get_stat (gcons (gnum (suc (suc zero))) (gcons a (gcons b c))) = m.Block (get_text a) (get_stats b) (get_span c)
  get_stat (gcons (gnum (suc (suc (suc zero)))) (gcons a (gcons b (gcons c d)))) = m.If (get_expr a) (get_stat b) (get_maybe_stat c) (get_span d)
  get_stat (gcons (gnum (suc (suc (suc (suc zero))))) (gcons a (gcons b (gcons c d)))) = m.Switch (get_expr a) (get_text b) (get_cases c) (get_span d)
  get_stat (gcons (gnum (suc (suc (suc (suc (suc zero)))))) (gcons a (gcons b c))) = m.While (get_expr a) (get_stat b) (get_span c)
  get_stat (gcons (gnum (suc (suc (suc (suc (suc (suc zero))))))) (gcons a (gcons b c))) = m.DoWhile (get_stat a) (get_expr b) (get_span c)
  get_stat (gcons (gnum (suc (suc (suc (suc (suc (suc (suc zero)))))))) (gcons a (gcons b (gcons c (gcons d e))))) = m.For (get_maybe_expr a) (get_maybe_expr b) (get_maybe_expr c) (get_stat d) (get_span e)
  get_stat (gcons (gnum (suc (suc (suc (suc (suc (suc (suc (suc zero))))))))) a) = m.Break (get_place a)
  get_stat (gcons (gnum (suc (suc (suc (suc (suc (suc (suc (suc (suc zero)))))))))) a) = m.Continue (get_place a)
  get_stat (gcons (gnum (suc (suc (suc (suc (suc (suc (suc (suc (suc (suc zero))))))))))) (gcons a b)) = m.Return (get_maybe_expr a) (get_place b)
  get_stat (gcons (gnum (suc (suc (suc (suc (suc (suc (suc (suc (suc (suc (suc zero)))))))))))) (gcons a (gcons b c))) = m.Defer (get_stat a) (get_place b) (get_span c)
  get_stat _ = m.Break (get_place gnil)

  pub get_stats : Gv → m.Stats
  get_stats (gcons a b) = m.more_stats (get_stat a) (get_stats b)
  get_stats _ = m.no_stats

  pub get_maybe_stat : Gv → m.MaybeStat
  get_maybe_stat (gcons (gnum zero) a) = m.a_stat (get_stat a)
  get_maybe_stat _ = m.no_stat

  pub get_cases : Gv → m.Cases
  get_cases (gcons (gnum zero) (gcons a (gcons b c))) = m.a_case (get_int a) (get_place b) (get_cases c)
  get_cases (gcons (gnum (suc zero)) (gcons a b)) = m.a_default (get_place a) (get_cases b)
  get_cases (gcons (gnum (suc (suc zero))) (gcons a b)) = m.a_stat_then (get_stat a) (get_cases b)
  get_cases _ = m.no_cases

mutual
  pub stat_back : (s : m.Stat) → get_stat (put_stat s) ≡ s
  stat_back (m.Evaluate value span) = λ i. m.Evaluate (expr_back value i) span
  stat_back (m.Start id type values mark) = λ i. m.Start id (type_back type i) (initials_back values i) mark
  stat_back (m.Block objects body span) = λ i. m.Block (text_back objects i) (stats_back body i) span
  stat_back (m.If condition first second span) = λ i. m.If (expr_back condition i) (stat_back first i) (maybe_stat_back second i) span
  stat_back (m.Switch value objects body span) = λ i. m.Switch (expr_back value i) (text_back objects i) (cases_back body i) span
  stat_back (m.While condition body span) = λ i. m.While (expr_back condition i) (stat_back body i) span
  stat_back (m.DoWhile body condition span) = λ i. m.DoWhile (stat_back body i) (expr_back condition i) span
  stat_back (m.For first condition step body span) = λ i. m.For (maybe_expr_back first i) (maybe_expr_back condition i) (maybe_expr_back step i) (stat_back body i) span
  stat_back (m.Break place) = refl
  stat_back (m.Continue place) = refl
  stat_back (m.Return value place) = λ i. m.Return (maybe_expr_back value i) place
  stat_back (m.Defer body place span) = λ i. m.Defer (stat_back body i) place span

  pub stats_back : (x : m.Stats) → get_stats (put_stats x) ≡ x
  stats_back m.no_stats = refl
  stats_back (m.more_stats first others) = λ i. m.more_stats (stat_back first i) (stats_back others i)

  pub maybe_stat_back : (x : m.MaybeStat) → get_maybe_stat (put_maybe_stat x) ≡ x
  maybe_stat_back m.no_stat = refl
  maybe_stat_back (m.a_stat stat) = λ i. m.a_stat (stat_back stat i)

  pub cases_back : (x : m.Cases) → get_cases (put_cases x) ≡ x
  cases_back m.no_cases = refl
  cases_back (m.a_case value place others) = λ i. m.a_case (int_back value i) place (cases_back others i)
  cases_back (m.a_default place others) = λ i. m.a_default place (cases_back others i)
  cases_back (m.a_stat_then stat others) = λ i. m.a_stat_then (stat_back stat i) (cases_back others i)

abbrev pub put_case : Case → Gv
put_case (CaseLabel value place) = gcons (gnum 0) (gcons (put_int value) (put_place place))
put_case (DefaultLabel place) = gcons (gnum 1) (put_place place)
put_case (Statement stat) = gcons (gnum 2) (put_stat stat)

abbrev pub get_case : Gv → Case
get_case (gcons (gnum zero) (gcons a b)) = CaseLabel (get_int a) (get_place b)
get_case (gcons (gnum (suc zero)) a) = DefaultLabel (get_place a)
get_case (gcons (gnum (suc (suc zero))) a) = Statement (get_stat a)
get_case _ = DefaultLabel (get_place gnil)

pub case_back : (x : Case) → get_case (put_case x) ≡ x
case_back (CaseLabel value place) = λ i. CaseLabel (int_back value i) place
case_back (DefaultLabel place) = refl
case_back (Statement stat) = λ i. Statement (stat_back stat i)

abbrev pub coded_stat : Coded m.Stat
coded_stat = record { code = put_stat; inj = one_to_one put_stat get_stat stat_back }

abbrev pub coded_case : Coded Case
coded_case = record { code = put_case; inj = one_to_one put_case get_case case_back }
