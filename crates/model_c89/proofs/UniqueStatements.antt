-- Two lists of statements with one spelling are the same.
use Rattle.std.proofs.Common.{◌≡◌, ℕ, suc, ◌==◌, List, [], ◌∷◌, ◌++◌, refl, sym, ap, ◌∙◌, arith, append_assoc}
use Rattle.std.specs.Prelude.{codes}
use Rattle.model_c89.specs.SpellingParts89.{indent, stat_text, stats_text, items_text}
use Rattle.model_c89.specs.Written89.{WrittenStat, WrittenStats, WrittenItems}
use Rattle.model_core.specs.Program89.{Stat, Evaluate, Assign, Empty, Block, If, IfElse, Forever, Switch, Break, Continue, ReturnNothing, Return, Stats, no_stats, more_stats, Items, no_items, an_item}
use Rattle.model_c89.proofs.UniqueExpressions.{one_expr}
use Rattle.model_c89.proofs.UniqueLines.{cancel, heads, differ, line_code, code_of_end, one_labels}
use Rattle.model_c89.proofs.StatementFronts.{stat_tail, same_tail, other_code, items_code, stat_no_label, item_whole, semicolon_quiet, blank_quiet, closing_quiet, code_of_stat, is_stat, objects_apart}

mutual
  -- statements behind their indent
  one_stat : (level : ℕ) (s t : Stat) (x y : List ℕ) → WrittenStat s → WrittenStat t → stat_tail level s x ≡ stat_tail level t y → (s ≡ t) × (x ≡ y)
  one_stat level (Evaluate a) (Evaluate b) x y p q e =
      let one = one_expr a b _ _ p q (semicolon_quiet _) (semicolon_quiet _) e in
      (ap Evaluate one.0, cancel (codes ";\n") x y one.1)
  one_stat level (Evaluate a) (Assign b c) x y p q e =
      absurd (let one = one_expr a b _ _ p q.0 (semicolon_quiet _) (blank_quiet _) e in omega (arith, heads 59 32 _ _ one.1))
  one_stat level (Assign b c) (Evaluate a) x y p q e =
      absurd (let one = one_expr b a _ _ p.0 q (blank_quiet _) (semicolon_quiet _) e in omega (arith, heads 32 59 _ _ one.1))
  one_stat level (Assign a b) (Assign c d) x y p q e =
      let left = one_expr a c _ _ p.0 q.0 (blank_quiet _) (blank_quiet _) e in
      let right = one_expr b d _ _ p.1 q.1 (semicolon_quiet _) (semicolon_quiet _) (cancel (codes " = ") _ _ left.1) in
      (ap (λ l. Assign l b) left.0 ∙ ap (Assign c) right.0, cancel (codes ";\n") x y right.1)
  one_stat level Empty Empty x y p q e = (refl, cancel (codes ";\n") x y e)
  one_stat level (Block ds ss) (Block es ts) x y p q e =
      let objects = objects_apart level ds es ss ts _ _ p.0 q.0 p.1 q.1 (cancel (codes "{\n") _ _ e) in
      let body = one_stats level ss ts _ _ p.1 q.1 objects.1 in
      (ap (λ d. Block d ss) objects.0 ∙ ap (Block es) body.0, cancel (codes "\n") x y body.1)
  one_stat level (If a ds ss) (If b es ts) x y p q e =
      let one = one_expr a b _ _ p.0 q.0 (closing_quiet _) (closing_quiet _) (cancel (codes "if (") _ _ e) in
      let objects = objects_apart level ds es ss ts _ _ p.1 q.1 p.2 q.2 (cancel (codes ") {\n") _ _ one.1) in
      let body = one_stats level ss ts _ _ p.2 q.2 objects.1 in
      (ap (λ c. If c ds ss) one.0 ∙ ap (λ d. If b d ss) objects.0 ∙ ap (If b es) body.0, cancel (codes "\n") x y body.1)
  one_stat level (If a ds ss) (IfElse b es ts fs us) x y p q e =
      absurd
      (let one = one_expr a b _ _ p.0 q.0 (closing_quiet _) (closing_quiet _) (cancel (codes "if (") _ _ e) in
      let objects = objects_apart level ds es ss ts _ _ p.1 q.1 p.2 q.2 (cancel (codes ") {\n") _ _ one.1) in
      let body = one_stats level ss ts _ _ p.2 q.2 objects.1 in
      omega (arith, heads 10 32 _ _ body.1))
  one_stat level (IfElse a ds ss fs us) (If b es ts) x y p q e =
      absurd
      (let one = one_expr a b _ _ p.0 q.0 (closing_quiet _) (closing_quiet _) (cancel (codes "if (") _ _ e) in
      let objects = objects_apart level ds es ss ts _ _ p.1 q.1 p.2 q.2 (cancel (codes ") {\n") _ _ one.1) in
      let body = one_stats level ss ts _ _ p.2 q.2 objects.1 in
      omega (arith, heads 32 10 _ _ body.1))
  one_stat level (IfElse a ds ss fs us) (IfElse b es ts gs vs) x y p q e =
      let one = one_expr a b _ _ p.0 q.0 (closing_quiet _) (closing_quiet _) (cancel (codes "if (") _ _ e) in
      let objects = objects_apart level ds es ss ts _ _ p.1 q.1 p.2 q.2 (cancel (codes ") {\n") _ _ one.1) in
      let body = one_stats level ss ts _ _ p.2 q.2 objects.1 in
      let others = objects_apart level fs gs us vs _ _ p.3 q.3 p.4 q.4 (cancel (codes " else {\n") _ _ body.1) in
      let other = one_stats level us vs _ _ p.4 q.4 others.1 in
      (ap (λ c. IfElse c ds ss fs us) one.0 ∙ ap (λ d. IfElse b d ss fs us) objects.0 ∙ ap (λ s. IfElse b es s fs us) body.0 ∙ ap (λ d. IfElse b es ts d us) others.0 ∙ ap (IfElse b es ts gs) other.0, cancel (codes "\n") x y other.1)
  one_stat level (Forever ds ss) (Forever es ts) x y p q e =
      let objects = objects_apart level ds es ss ts _ _ p.0 q.0 p.1 q.1 (cancel (codes "for (;;) {\n") _ _ e) in
      let body = one_stats level ss ts _ _ p.1 q.1 objects.1 in
      (ap (λ d. Forever d ss) objects.0 ∙ ap (Forever es) body.0, cancel (codes "\n") x y body.1)
  one_stat level (Switch a is) (Switch b js) x y p q e =
      let one = one_expr a b _ _ p.0 q.0 (closing_quiet _) (closing_quiet _) (cancel (codes "switch (") _ _ e) in
      let body = one_items level is js _ _ p.1 q.1 (cancel (codes ") {\n") _ _ one.1) in
      (ap (λ c. Switch c is) one.0 ∙ ap (Switch b) body.0, cancel (codes "\n") x y body.1)
  one_stat level Break Break x y p q e = (refl, cancel (codes "break;\n") x y e)
  one_stat level Continue Continue x y p q e = (refl, cancel (codes "continue;\n") x y e)
  one_stat level ReturnNothing ReturnNothing x y p q e = (refl, cancel (codes "return;\n") x y e)
  one_stat level ReturnNothing (Return b) x y p q e = absurd (omega (arith, heads 59 32 _ _ (cancel (codes "return") _ _ e)))
  one_stat level (Return a) ReturnNothing x y p q e = absurd (omega (arith, heads 32 59 _ _ (cancel (codes "return") _ _ e)))
  one_stat level (Return a) (Return b) x y p q e =
      let one = one_expr a b _ _ p q (semicolon_quiet _) (semicolon_quiet _) (cancel (codes "return ") _ _ e) in
      (ap Return one.0, cancel (codes ";\n") x y one.1)
  one_stat level s t x y p q e = absurd (omega (arith, other_code level s t x y p q e))

  -- the statements of a body, up to its end
  pub one_stats : (level : ℕ) (ss ts : Stats) (x y : List ℕ) → WrittenStats ss → WrittenStats ts
      → stats_text (suc level) ss ++ (indent level ++ (125 ∷ x)) ≡ stats_text (suc level) ts ++ (indent level ++ (125 ∷ y)) → (ss ≡ ts) × (x ≡ y)
  one_stats level no_stats no_stats x y p q e = (refl, cancel (125 ∷ []) x y (cancel (indent level) _ _ e))
  one_stats level no_stats (more_stats t ts) x y p q e =
      differ (ap (λ c. c == 0) (sym (code_of_end level x)) ∙ ap (λ r. line_code (suc level) r == 0) (e ∙ append_assoc (stat_text (suc level) t) (stats_text (suc level) ts) _) ∙ ap (λ c. c == 0) (code_of_stat (suc level) t _ q.0) ∙ (is_stat t).no_end)
  one_stats level (more_stats s ss) no_stats x y p q e =
      differ (ap (λ c. c == 0) (sym (code_of_end level y)) ∙ ap (λ r. line_code (suc level) r == 0) (sym e ∙ append_assoc (stat_text (suc level) s) (stats_text (suc level) ss) _) ∙ ap (λ c. c == 0) (code_of_stat (suc level) s _ p.0) ∙ (is_stat s).no_end)
  one_stats level (more_stats s ss) (more_stats t ts) x y p q e =
      let first = one_stat (suc level) s t _ _ p.0 q.0 (same_tail (suc level) s t _ _ (sym (append_assoc (stat_text (suc level) s) (stats_text (suc level) ss) _) ∙ e ∙ append_assoc (stat_text (suc level) t) (stats_text (suc level) ts) _)) in
      let rest = one_stats level ss ts x y p.1 q.1 first.1 in
      (ap (λ z. more_stats z ss) first.0 ∙ ap (more_stats t) rest.0, rest.1)

  -- the items of a switch
  one_items : (level : ℕ) (is js : Items) (x y : List ℕ) → WrittenItems is → WrittenItems js
      → items_text (suc level) is ++ (indent level ++ (125 ∷ x)) ≡ items_text (suc level) js ++ (indent level ++ (125 ∷ y)) → (is ≡ js) × (x ≡ y)
  one_items level no_items no_items x y p q e = (refl, cancel (125 ∷ []) x y (cancel (indent level) _ _ e))
  one_items level no_items (an_item ls t js) x y p q e =
      differ (ap (λ c. c == 0) (sym (code_of_end level x)) ∙ ap (λ r. line_code (suc level) r == 0) (e ∙ item_whole (suc level) ls t js _) ∙ items_code (suc level) ls t _ q.1)
  one_items level (an_item ls s is) no_items x y p q e =
      differ (ap (λ c. c == 0) (sym (code_of_end level y)) ∙ ap (λ r. line_code (suc level) r == 0) (sym e ∙ item_whole (suc level) ls s is _) ∙ items_code (suc level) ls s _ p.1)
  one_items level (an_item ls s is) (an_item ms t js) x y p q e =
      let labels = one_labels (suc level) ls ms _ _ p.0 q.0 (stat_no_label (suc level) s _ p.1) (stat_no_label (suc level) t _ q.1) (sym (item_whole (suc level) ls s is _) ∙ e ∙ item_whole (suc level) ms t js _) in
      let first = one_stat (suc level) s t _ _ p.1 q.1 (same_tail (suc level) s t _ _ labels.1) in
      let rest = one_items level is js x y p.2 q.2 first.1 in
      (ap (λ l. an_item l s is) labels.0 ∙ ap (λ z. an_item ms z is) first.0 ∙ ap (an_item ms t) rest.0, rest.1)
