-- How statements begin and end: what a line is shows which statement it begins.
use Rattle.std.proofs.Common.{◌≡◌, ℕ, suc, ◌==◌, List, [], ◌∷◌, ◌++◌, false, refl, sym, ap, ◌∙◌, append_assoc}
use Rattle.std.specs.Prelude.{codes}
use Rattle.model_c89.specs.SpellingParts89.{expr_text, indent, objects_text, labels_text, stat_text, stats_text, items_text}
use Rattle.model_c89.specs.Written89.{WrittenDeclarations, WrittenStat, WrittenStats}
use Rattle.model_core.specs.Program89.{Declaration, Label, Case, Default, Stat, Evaluate, Assign, Empty, Block, If, IfElse, Forever, Switch, Break, Continue, ReturnNothing, Return, Stats, no_stats, more_stats, Items, an_item}
use Rattle.model_c89.proofs.UniqueExpressions.{Quiet}
use Rattle.model_c89.proofs.UniqueLines.{cancel, line_code, code_of, code_behind, code_of_end, code_of_expr, one_objects, is_label, label_code, code_of_labels}

-- what a body is followed by
abbrev pub body_tail : (level : ℕ) → List Declaration → Stats → List ℕ → List ℕ
body_tail level ds ss x = objects_text (suc level) ds ++ (stats_text (suc level) ss ++ (indent level ++ (125 ∷ x)))

-- a statement behind its indent, with what follows it
abbrev pub stat_tail : (level : ℕ) → Stat → List ℕ → List ℕ
stat_tail level (Evaluate a) x = expr_text a ++ (codes ";\n" ++ x)
stat_tail level (Assign a b) x = expr_text a ++ (codes " = " ++ (expr_text b ++ (codes ";\n" ++ x)))
stat_tail level Empty x = codes ";\n" ++ x
stat_tail level (Block ds ss) x = codes "{\n" ++ body_tail level ds ss (codes "\n" ++ x)
stat_tail level (If a ds ss) x = codes "if (" ++ (expr_text a ++ (codes ") {\n" ++ body_tail level ds ss (codes "\n" ++ x)))
stat_tail level (IfElse a ds ss es ts) x = codes "if (" ++ (expr_text a ++ (codes ") {\n" ++ body_tail level ds ss (codes " else {\n" ++ body_tail level es ts (codes "\n" ++ x))))
stat_tail level (Forever ds ss) x = codes "for (;;) {\n" ++ body_tail level ds ss (codes "\n" ++ x)
stat_tail level (Switch a is) x = codes "switch (" ++ (expr_text a ++ (codes ") {\n" ++ (items_text (suc level) is ++ (indent level ++ (125 ∷ (codes "\n" ++ x))))))
stat_tail level Break x = codes "break;\n" ++ x
stat_tail level Continue x = codes "continue;\n" ++ x
stat_tail level ReturnNothing x = codes "return;\n" ++ x
stat_tail level (Return a) x = codes "return " ++ (expr_text a ++ (codes ";\n" ++ x))

body_whole : (level : ℕ) (ds : List Declaration) (ss : Stats) (end x : List ℕ) → (objects_text (suc level) ds ++ (stats_text (suc level) ss ++ (indent level ++ (125 ∷ end)))) ++ x ≡ body_tail level ds ss (end ++ x)
body_whole level ds ss end x =
    append_assoc (objects_text (suc level) ds) _ x
    ∙ ap (λ r. objects_text (suc level) ds ++ r) (append_assoc (stats_text (suc level) ss) _ x ∙ ap (λ r. stats_text (suc level) ss ++ r) (append_assoc (indent level) _ x))

stat_whole : (level : ℕ) (s : Stat) (x : List ℕ) → stat_text level s ++ x ≡ indent level ++ stat_tail level s x
stat_whole level (Evaluate a) x = append_assoc (indent level) _ x ∙ ap (λ r. indent level ++ r) (append_assoc (expr_text a) _ x)
stat_whole level (Assign a b) x =
    append_assoc (indent level) _ x ∙ ap (λ r. indent level ++ r) (append_assoc (expr_text a) _ x ∙ ap (λ r. expr_text a ++ (codes " = " ++ r)) (append_assoc (expr_text b) _ x))
stat_whole level Empty x = append_assoc (indent level) _ x
stat_whole level (Block ds ss) x = append_assoc (indent level) _ x ∙ ap (λ r. indent level ++ (codes "{\n" ++ r)) (body_whole level ds ss (codes "\n") x)
stat_whole level (If a ds ss) x =
    append_assoc (indent level) _ x ∙ ap (λ r. indent level ++ (codes "if (" ++ r)) (append_assoc (expr_text a) _ x ∙ ap (λ r. expr_text a ++ (codes ") {\n" ++ r)) (body_whole level ds ss (codes "\n") x))
stat_whole level (IfElse a ds ss es ts) x =
    append_assoc (indent level) _ x
    ∙ ap (λ r. indent level ++ (codes "if (" ++ r)) (append_assoc (expr_text a) _ x ∙ ap (λ r. expr_text a ++ (codes ") {\n" ++ r)) (body_whole level ds ss (codes " else {\n" ++ (objects_text (suc level) es ++ (stats_text (suc level) ts ++ (indent level ++ codes "}\n")))) x
    ∙ ap (λ r. body_tail level ds ss (codes " else {\n" ++ r)) (body_whole level es ts (codes "\n") x)))
stat_whole level (Forever ds ss) x = append_assoc (indent level) _ x ∙ ap (λ r. indent level ++ (codes "for (;;) {\n" ++ r)) (body_whole level ds ss (codes "\n") x)
stat_whole level (Switch a is) x =
    append_assoc (indent level) _ x
    ∙ ap (λ r. indent level ++ (codes "switch (" ++ r)) (append_assoc (expr_text a) _ x ∙ ap (λ r. expr_text a ++ (codes ") {\n" ++ r)) (append_assoc (items_text (suc level) is) _ x ∙ ap (λ r. items_text (suc level) is ++ r) (append_assoc (indent level) _ x)))
stat_whole level Break x = append_assoc (indent level) _ x
stat_whole level Continue x = append_assoc (indent level) _ x
stat_whole level ReturnNothing x = append_assoc (indent level) _ x
stat_whole level (Return a) x = append_assoc (indent level) _ x ∙ ap (λ r. indent level ++ (codes "return " ++ r)) (append_assoc (expr_text a) _ x)

-- what a statement's line is
abbrev pub stat_code : Stat → ℕ
stat_code (Evaluate a) = 2
stat_code (Assign a b) = 2
stat_code Empty = 3
stat_code (Block ds ss) = 4
stat_code (If a ds ss) = 5
stat_code (IfElse a ds ss es ts) = 5
stat_code (Forever ds ss) = 6
stat_code (Switch a is) = 7
stat_code Break = 8
stat_code Continue = 9
stat_code ReturnNothing = 10
stat_code (Return a) = 10

tail_code : (level : ℕ) (s : Stat) (x : List ℕ) → WrittenStat s → code_of (stat_tail level s x) ≡ stat_code s
tail_code level (Evaluate a) x w = code_of_expr a _ w refl
tail_code level (Assign a b) x w = code_of_expr a _ w.0 refl
tail_code level Empty x w = refl
tail_code level (Block ds ss) x w = refl
tail_code level (If a ds ss) x w = refl
tail_code level (IfElse a ds ss es ts) x w = refl
tail_code level (Forever ds ss) x w = refl
tail_code level (Switch a is) x w = refl
tail_code level Break x w = refl
tail_code level Continue x w = refl
tail_code level ReturnNothing x w = refl
tail_code level (Return a) x w = refl

pub code_of_stat : (level : ℕ) (s : Stat) (x : List ℕ) → WrittenStat s → line_code level (stat_text level s ++ x) ≡ stat_code s
code_of_stat level s x w = ap (line_code level) (stat_whole level s x) ∙ code_behind level (stat_tail level s x) ∙ tail_code level s x w

-- a statement's line is no end, no declaration and no label
pub record IsStat (code : ℕ) : Type 0 where
  pub no_end : (code == 0) ≡ false
  pub no_object : (code == 1) ≡ false
  pub no_label : is_label code ≡ false

pub is_stat : (s : Stat) → IsStat (stat_code s)
is_stat (Evaluate a) = record { no_end = refl; no_object = refl; no_label = refl }
is_stat (Assign a b) = record { no_end = refl; no_object = refl; no_label = refl }
is_stat Empty = record { no_end = refl; no_object = refl; no_label = refl }
is_stat (Block ds ss) = record { no_end = refl; no_object = refl; no_label = refl }
is_stat (If a ds ss) = record { no_end = refl; no_object = refl; no_label = refl }
is_stat (IfElse a ds ss es ts) = record { no_end = refl; no_object = refl; no_label = refl }
is_stat (Forever ds ss) = record { no_end = refl; no_object = refl; no_label = refl }
is_stat (Switch a is) = record { no_end = refl; no_object = refl; no_label = refl }
is_stat Break = record { no_end = refl; no_object = refl; no_label = refl }
is_stat Continue = record { no_end = refl; no_object = refl; no_label = refl }
is_stat ReturnNothing = record { no_end = refl; no_object = refl; no_label = refl }
is_stat (Return a) = record { no_end = refl; no_object = refl; no_label = refl }

-- the statements behind the declarations of a body, up to its end
pub stats_no_object : (level : ℕ) (ss : Stats) (x : List ℕ) → WrittenStats ss → (line_code (suc level) (stats_text (suc level) ss ++ (indent level ++ (125 ∷ x))) == 1) ≡ false
stats_no_object level no_stats x w = ap (λ c. c == 1) (code_of_end level x)
stats_no_object level (more_stats s ss) x w =
    ap (λ t. line_code (suc level) t == 1) (append_assoc (stat_text (suc level) s) (stats_text (suc level) ss) _) ∙ ap (λ c. c == 1) (code_of_stat (suc level) s _ w.0) ∙ (is_stat s).no_object

pub objects_apart : (level : ℕ) (ds es : List Declaration) (ss ts : Stats) (x y : List ℕ) → WrittenDeclarations ds → WrittenDeclarations es → WrittenStats ss → WrittenStats ts → body_tail level ds ss x ≡ body_tail level es ts y
    → (ds ≡ es) × (stats_text (suc level) ss ++ (indent level ++ (125 ∷ x)) ≡ stats_text (suc level) ts ++ (indent level ++ (125 ∷ y)))
objects_apart level ds es ss ts x y p q r s e = one_objects (suc level) ds es _ _ p q (stats_no_object level ss x r) (stats_no_object level ts y s) e

pub semicolon_quiet : (z : List ℕ) → Quiet (59 ∷ z)
semicolon_quiet z = record { no_word = refl; no_index = refl; no_member = refl; no_arrow = refl; no_call = refl }

pub blank_quiet : (z : List ℕ) → Quiet (32 ∷ z)
blank_quiet z = record { no_word = refl; no_index = refl; no_member = refl; no_arrow = refl; no_call = refl }

pub closing_quiet : (z : List ℕ) → Quiet (41 ∷ z)
closing_quiet z = record { no_word = refl; no_index = refl; no_member = refl; no_arrow = refl; no_call = refl }

pub same_tail : (level : ℕ) (s t : Stat) (x y : List ℕ) → stat_text level s ++ x ≡ stat_text level t ++ y → stat_tail level s x ≡ stat_tail level t y
same_tail level s t x y e = cancel (indent level) _ _ (sym (stat_whole level s x) ∙ e ∙ stat_whole level t y)

-- statements that begin differently
pub other_code : (level : ℕ) (s t : Stat) (x y : List ℕ) → WrittenStat s → WrittenStat t → stat_tail level s x ≡ stat_tail level t y → stat_code s ≡ stat_code t
other_code level s t x y p q e = sym (tail_code level s x p) ∙ ap code_of e ∙ tail_code level t y q

-- what stands behind a list of items
pub items_code : (level : ℕ) (labels : List Label) (s : Stat) (x : List ℕ) → WrittenStat s → (line_code level (labels_text level labels ++ (stat_text level s ++ x)) == 0) ≡ false
items_code level [] s x w = ap (λ c. c == 0) (code_of_stat level s x w) ∙ (is_stat s).no_end
items_code level (l ∷ ls) s x w = ap (λ c. c == 0) (code_of_labels level l ls (stat_text level s ++ x)) ∙ label_is_no_end l
  where
    label_is_no_end : (l : Label) → (label_code l == 0) ≡ false
    label_is_no_end (Case e) = refl
    label_is_no_end Default = refl

pub stat_no_label : (level : ℕ) (s : Stat) (x : List ℕ) → WrittenStat s → is_label (line_code level (stat_text level s ++ x)) ≡ false
stat_no_label level s x w = ap is_label (code_of_stat level s x w) ∙ (is_stat s).no_label

pub item_whole : (level : ℕ) (ls : List Label) (s : Stat) (is : Items) (x : List ℕ) → items_text level (an_item ls s is) ++ x ≡ labels_text level ls ++ (stat_text level s ++ (items_text level is ++ x))
item_whole level ls s is x = append_assoc (labels_text level ls) _ x ∙ ap (λ r. labels_text level ls ++ r) (append_assoc (stat_text level s) (items_text level is) x)
