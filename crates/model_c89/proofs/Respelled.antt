-- The grammar of the text and the spelling functions agree: what reads is spelled.
use Rattle.std.proofs.Common.{◌≡◌, ℕ, suc, List, [], ◌∷◌, ◌++◌, Option, sym, ap, ◌∙◌, append_assoc}
use Rattle.std.specs.Prelude.{codes}
use Rattle.model_c89.specs.Signs89.{sign_text, logic_text, prefix_text, storage_text, storage_of}
use Rattle.model_c89.specs.SpellingParts89.{declaration_text, expr_text, arguments_text, more_arguments_text, indent, objects_text, labels_text, stat_text, stats_text, items_text}
use Rattle.model_c89.specs.Spelling89.{init_text, inits_text, value_text, outer_text, outers_text, structure_text, structures_text, head_text, function_text, functions_text, canonical}
use Rattle.model_c89.specs.ReadingParts89.{ReadsExpr, reads_name, reads_constant, reads_index, reads_member, reads_arrow, reads_call, reads_unary, reads_binary, reads_logic, reads_choice, reads_cast, ReadsArguments, reads_no_argument, reads_arguments, ReadsMore, reads_no_more, reads_more, ReadsObjects, reads_no_object, reads_objects, ReadsLabels, reads_no_label, reads_case, reads_default, ReadsStat, reads_evaluate, reads_assign, reads_empty, reads_block, reads_if, reads_if_else, reads_forever, reads_switch, reads_break, reads_continue, reads_return_nothing, reads_return, ReadsBody, reads_body, ReadsStats, reads_no_stat, reads_stats, ReadsItems, reads_no_item, reads_items}
use Rattle.model_c89.specs.Reading89.{ReadsInit, reads_value, reads_string, reads_braces, ReadsInits, reads_no_init, reads_inits, ReadsValue, reads_no_value, reads_a_value, ReadsOuter, ReadsOuters, reads_no_outer, reads_outers, ReadsStructure, reads_tag, reads_members, ReadsStructures, reads_no_structure, reads_structures, ReadsFunction, ReadsFunctions, reads_no_function, reads_functions, Reads89}
use Rattle.model_core.specs.Program89 as tree

mutual
  expr_spelled : (text : List ℕ) (e : tree.Expr) → ReadsExpr text e → text ≡ expr_text e
  expr_spelled text e (reads_name t name is) = is
  expr_spelled text e (reads_constant t number suffix is) = is
  expr_spelled text e (reads_index t a b x y l r is) =
      is ∙ ap (λ z. z ++ (codes "[" ++ (y ++ codes "]"))) (expr_spelled x a l) ∙ ap (λ z. expr_text a ++ (codes "[" ++ (z ++ codes "]"))) (expr_spelled y b r)
  expr_spelled text e (reads_member t a name x l is) = is ∙ ap (λ z. z ++ (codes "." ++ name)) (expr_spelled x a l)
  expr_spelled text e (reads_arrow t a name x l is) = is ∙ ap (λ z. z ++ (codes "->" ++ name)) (expr_spelled x a l)
  expr_spelled text e (reads_call t a es x y l r is) =
      is ∙ ap (λ z. z ++ (codes "(" ++ (y ++ codes ")"))) (expr_spelled x a l) ∙ ap (λ z. expr_text a ++ (codes "(" ++ (z ++ codes ")"))) (arguments_spelled y es r)
  expr_spelled text e (reads_unary t op a x l is) = is ∙ ap (λ z. codes "(" ++ (prefix_text op ++ (z ++ codes ")"))) (expr_spelled x a l)
  expr_spelled text e (reads_binary t op a b x y l r is) =
      is
      ∙ ap (λ z. codes "(" ++ (z ++ (codes " " ++ (sign_text op ++ (codes " " ++ (y ++ codes ")")))))) (expr_spelled x a l)
      ∙ ap (λ z. codes "(" ++ (expr_text a ++ (codes " " ++ (sign_text op ++ (codes " " ++ (z ++ codes ")")))))) (expr_spelled y b r)
  expr_spelled text e (reads_logic t op a b x y l r is) =
      is
      ∙ ap (λ z. codes "(" ++ (z ++ (codes " " ++ (logic_text op ++ (codes " " ++ (y ++ codes ")")))))) (expr_spelled x a l)
      ∙ ap (λ z. codes "(" ++ (expr_text a ++ (codes " " ++ (logic_text op ++ (codes " " ++ (z ++ codes ")")))))) (expr_spelled y b r)
  expr_spelled text e (reads_choice t c a b x y w k l r is) =
      is
      ∙ ap (λ z. codes "(" ++ (z ++ (codes " ? " ++ (y ++ (codes " : " ++ (w ++ codes ")")))))) (expr_spelled x c k)
      ∙ ap (λ z. codes "(" ++ (expr_text c ++ (codes " ? " ++ (z ++ (codes " : " ++ (w ++ codes ")")))))) (expr_spelled y a l)
      ∙ ap (λ z. codes "(" ++ (expr_text c ++ (codes " ? " ++ (expr_text a ++ (codes " : " ++ (z ++ codes ")")))))) (expr_spelled w b r)
  expr_spelled text e (reads_cast t type a x l is) =
      is ∙ ap (λ z. codes "((" ++ (declaration_text type [] ++ (codes ")" ++ (z ++ codes ")")))) (expr_spelled x a l)

  arguments_spelled : (text : List ℕ) (es : tree.Exprs) → ReadsArguments text es → text ≡ arguments_text es
  arguments_spelled text es (reads_no_argument t is) = is
  arguments_spelled text es (reads_arguments t e others x y l r is) =
      is ∙ ap (λ z. z ++ y) (expr_spelled x e l) ∙ ap (λ z. expr_text e ++ z) (more_spelled y others r)

  more_spelled : (text : List ℕ) (es : tree.Exprs) → ReadsMore text es → text ≡ more_arguments_text es
  more_spelled text es (reads_no_more t is) = is
  more_spelled text es (reads_more t e others x y l r is) =
      is ∙ ap (λ z. codes ", " ++ (z ++ y)) (expr_spelled x e l) ∙ ap (λ z. codes ", " ++ (expr_text e ++ z)) (more_spelled y others r)

objects_spelled : (level : ℕ) (text : List ℕ) (ds : List tree.Declaration) → ReadsObjects level text ds → text ≡ objects_text level ds
objects_spelled level text ds (reads_no_object t is) = is
objects_spelled level text ds (reads_objects t d others y r is) =
    is ∙ ap (λ z. indent level ++ (declaration_text d.type d.name ++ (codes ";\n" ++ z))) (objects_spelled level y others r)

labels_spelled : (level : ℕ) (text : List ℕ) (labels : List tree.Label) → ReadsLabels level text labels → text ≡ labels_text level labels
labels_spelled level text labels (reads_no_label t is) = is
labels_spelled level text labels (reads_case t e others x y l r is) =
    is
    ∙ ap (λ z. indent level ++ (codes "case " ++ (z ++ (codes ":\n" ++ y)))) (expr_spelled x e l)
    ∙ ap (λ z. indent level ++ (codes "case " ++ (expr_text e ++ (codes ":\n" ++ z)))) (labels_spelled level y others r)
    ∙ sym (append_assoc (indent level) (codes "case " ++ (expr_text e ++ codes ":\n")) (labels_text level others) ∙ ap (λ z. indent level ++ (codes "case " ++ z)) (append_assoc (expr_text e) (codes ":\n") (labels_text level others)))
labels_spelled level text labels (reads_default t others y r is) =
    is
    ∙ ap (λ z. indent level ++ (codes "default:\n" ++ z)) (labels_spelled level y others r)
    ∙ sym (append_assoc (indent level) (codes "default:\n") (labels_text level others))

apart : (level : ℕ) (ds : List tree.Declaration) (ss : tree.Stats) (rest : List ℕ) → (objects_text level ds ++ stats_text level ss) ++ rest ≡ objects_text level ds ++ (stats_text level ss ++ rest)
apart level ds ss rest = append_assoc (objects_text level ds) (stats_text level ss) rest

mutual
  stat_spelled : (level : ℕ) (text : List ℕ) (s : tree.Stat) → ReadsStat level text s → text ≡ stat_text level s
  stat_spelled l text s (reads_evaluate level t e x r is) = is ∙ ap (λ z. indent level ++ (z ++ codes ";\n")) (expr_spelled x e r)
  stat_spelled l text s (reads_assign level t a b x y p r is) =
      is
      ∙ ap (λ z. indent level ++ (z ++ (codes " = " ++ (y ++ codes ";\n")))) (expr_spelled x a p)
      ∙ ap (λ z. indent level ++ (expr_text a ++ (codes " = " ++ (z ++ codes ";\n")))) (expr_spelled y b r)
  stat_spelled l text s (reads_empty level t is) = is
  stat_spelled l text s (reads_block level t ds ss x r is) =
      is
      ∙ ap (λ z. indent level ++ (codes "{\n" ++ (z ++ (indent level ++ codes "}\n")))) (body_spelled (suc level) x ds ss r)
      ∙ ap (λ z. indent level ++ (codes "{\n" ++ z)) (apart (suc level) ds ss (indent level ++ codes "}\n"))
  stat_spelled l text s (reads_if level t e ds ss x y p r is) =
      is
      ∙ ap (λ z. indent level ++ (codes "if (" ++ (z ++ (codes ") {\n" ++ (y ++ (indent level ++ codes "}\n")))))) (expr_spelled x e p)
      ∙ ap (λ z. indent level ++ (codes "if (" ++ (expr_text e ++ (codes ") {\n" ++ (z ++ (indent level ++ codes "}\n")))))) (body_spelled (suc level) y ds ss r)
      ∙ ap (λ z. indent level ++ (codes "if (" ++ (expr_text e ++ (codes ") {\n" ++ z)))) (apart (suc level) ds ss (indent level ++ codes "}\n"))
  stat_spelled l text s (reads_if_else level t e ds es ss ts x y w p r q is) =
      is
      ∙ ap (λ z. indent level ++ (codes "if (" ++ (z ++ (codes ") {\n" ++ (y ++ (indent level ++ (codes "} else {\n" ++ (w ++ (indent level ++ codes "}\n"))))))))) (expr_spelled x e p)
      ∙ ap (λ z. indent level ++ (codes "if (" ++ (expr_text e ++ (codes ") {\n" ++ (z ++ (indent level ++ (codes "} else {\n" ++ (w ++ (indent level ++ codes "}\n"))))))))) (body_spelled (suc level) y ds ss r)
      ∙ ap (λ z. indent level ++ (codes "if (" ++ (expr_text e ++ (codes ") {\n" ++ z)))) (apart (suc level) ds ss _)
      ∙ ap (λ z. indent level ++ (codes "if (" ++ (expr_text e ++ (codes ") {\n" ++ (objects_text (suc level) ds ++ (stats_text (suc level) ss ++ (indent level ++ (codes "} else {\n" ++ (z ++ (indent level ++ codes "}\n")))))))))) (body_spelled (suc level) w es ts q)
      ∙ ap (λ z. indent level ++ (codes "if (" ++ (expr_text e ++ (codes ") {\n" ++ (objects_text (suc level) ds ++ (stats_text (suc level) ss ++ (indent level ++ (codes "} else {\n" ++ z)))))))) (apart (suc level) es ts (indent level ++ codes "}\n"))
  stat_spelled l text s (reads_forever level t ds ss x r is) =
      is
      ∙ ap (λ z. indent level ++ (codes "for (;;) {\n" ++ (z ++ (indent level ++ codes "}\n")))) (body_spelled (suc level) x ds ss r)
      ∙ ap (λ z. indent level ++ (codes "for (;;) {\n" ++ z)) (apart (suc level) ds ss (indent level ++ codes "}\n"))
  stat_spelled l text s (reads_switch level t e items x y p r is) =
      is
      ∙ ap (λ z. indent level ++ (codes "switch (" ++ (z ++ (codes ") {\n" ++ (y ++ (indent level ++ codes "}\n")))))) (expr_spelled x e p)
      ∙ ap (λ z. indent level ++ (codes "switch (" ++ (expr_text e ++ (codes ") {\n" ++ (z ++ (indent level ++ codes "}\n")))))) (items_spelled (suc level) y items r)
  stat_spelled l text s (reads_break level t is) = is
  stat_spelled l text s (reads_continue level t is) = is
  stat_spelled l text s (reads_return_nothing level t is) = is
  stat_spelled l text s (reads_return level t e x r is) = is ∙ ap (λ z. indent level ++ (codes "return " ++ (z ++ codes ";\n"))) (expr_spelled x e r)

  body_spelled : (level : ℕ) (text : List ℕ) (ds : List tree.Declaration) (ss : tree.Stats) → ReadsBody level text ds ss → text ≡ objects_text level ds ++ stats_text level ss
  body_spelled l text ds ss (reads_body level t es ts x y p r is) =
      is ∙ ap (λ z. z ++ y) (objects_spelled level x es p) ∙ ap (λ z. objects_text level es ++ z) (stats_spelled level y ts r)

  stats_spelled : (level : ℕ) (text : List ℕ) (ss : tree.Stats) → ReadsStats level text ss → text ≡ stats_text level ss
  stats_spelled l text ss (reads_no_stat level t is) = is
  stats_spelled l text ss (reads_stats level t s others x y p r is) =
      is ∙ ap (λ z. z ++ y) (stat_spelled level x s p) ∙ ap (λ z. stat_text level s ++ z) (stats_spelled level y others r)

  items_spelled : (level : ℕ) (text : List ℕ) (items : tree.Items) → ReadsItems level text items → text ≡ items_text level items
  items_spelled l text items (reads_no_item level t is) = is
  items_spelled l text items (reads_items level t labels s others x y w p r q is) =
      is
      ∙ ap (λ z. z ++ (y ++ w)) (labels_spelled level x labels p)
      ∙ ap (λ z. labels_text level labels ++ (z ++ w)) (stat_spelled level y s r)
      ∙ ap (λ z. labels_text level labels ++ (stat_text level s ++ z)) (items_spelled level w others q)

mutual
  init_spelled : (text : List ℕ) (init : tree.Init) → ReadsInit text init → text ≡ init_text init
  init_spelled text init (reads_value t e r) = expr_spelled t e r
  init_spelled text init (reads_string t bytes is) = is
  init_spelled text init (reads_braces t i is x y p r e) =
      e ∙ ap (λ z. codes "{" ++ (z ++ (y ++ codes "}"))) (init_spelled x i p) ∙ ap (λ z. codes "{" ++ (init_text i ++ (z ++ codes "}"))) (inits_spelled y is r)

  inits_spelled : (text : List ℕ) (inits : tree.Inits) → ReadsInits text inits → text ≡ inits_text inits
  inits_spelled text inits (reads_no_init t is) = is
  inits_spelled text inits (reads_inits t i is x y p r e) =
      e ∙ ap (λ z. codes ", " ++ (z ++ y)) (init_spelled x i p) ∙ ap (λ z. codes ", " ++ (init_text i ++ z)) (inits_spelled y is r)

value_spelled : (text : List ℕ) (init : Option tree.Init) → ReadsValue text init → text ≡ value_text init
value_spelled text init (reads_no_value t is) = is
value_spelled text init (reads_a_value t i x r is) = is ∙ ap (λ z. codes " = " ++ z) (init_spelled x i r)

outer_spelled : (text : List ℕ) (o : tree.Outer) → ReadsOuter text o → text ≡ outer_text o
outer_spelled text o r =
    r.parts ∙ ap (λ z. storage_text o.storage ++ (declaration_text o.type o.name ++ (z ++ codes ";\n"))) (value_spelled r.inner o.init r.value)

outers_spelled : (text : List ℕ) (os : List tree.Outer) → ReadsOuters text os → text ≡ outers_text os
outers_spelled text os (reads_no_outer t is) = is
outers_spelled text os (reads_outers t o others x y p r is) =
    is ∙ ap (λ z. z ++ y) (outer_spelled x o p) ∙ ap (λ z. outer_text o ++ z) (outers_spelled y others r)

structure_spelled : (text : List ℕ) (s : tree.Structure89) → ReadsStructure text s → text ≡ structure_text s
structure_spelled text s (reads_tag t name is) = is
structure_spelled text s (reads_members t name d ds x r is) =
    is ∙ ap (λ z. codes "struct " ++ (name ++ (codes " {\n" ++ (z ++ codes "};\n")))) (objects_spelled 1 x (d ∷ ds) r)

structures_spelled : (text : List ℕ) (ss : List tree.Structure89) → ReadsStructures text ss → text ≡ structures_text ss
structures_spelled text ss (reads_no_structure t is) = is
structures_spelled text ss (reads_structures t s others x y p r is) =
    is ∙ ap (λ z. z ++ y) (structure_spelled x s p) ∙ ap (λ z. structure_text s ++ z) (structures_spelled y others r)

function_spelled : (text : List ℕ) (f : tree.Function) → ReadsFunction text f → text ≡ function_text f
function_spelled text f r =
    r.parts
    ∙ ap (λ z. storage_text (storage_of f.is_static) ++ (declaration_text f.result (head_text f) ++ (codes "\n{\n" ++ (z ++ codes "}\n")))) (body_spelled 1 r.inner f.objects f.body r.body)
    ∙ ap (λ z. storage_text (storage_of f.is_static) ++ (declaration_text f.result (head_text f) ++ (codes "\n{\n" ++ z))) (apart 1 f.objects f.body (codes "}\n"))

functions_spelled : (text : List ℕ) (fs : List tree.Function) → ReadsFunctions text fs → text ≡ functions_text fs
functions_spelled text fs (reads_no_function t is) = is
functions_spelled text fs (reads_functions t f others x y p r is) =
    is ∙ ap (λ z. codes "\n" ++ (z ++ y)) (function_spelled x f p) ∙ ap (λ z. codes "\n" ++ (function_text f ++ z)) (functions_spelled y others r)

pub program_spelled : (text : List ℕ) (p : tree.Program) → Reads89 text p → canonical p ≡ text
program_spelled text p r =
    sym
    (r.spelled.parts
    ∙ ap (λ z. z ++ (r.spelled.second ++ r.spelled.third)) (structures_spelled r.spelled.first p.structures r.spelled.structures)
    ∙ ap (λ z. structures_text p.structures ++ (z ++ r.spelled.third)) (outers_spelled r.spelled.second p.outers r.spelled.outers)
    ∙ ap (λ z. structures_text p.structures ++ (outers_text p.outers ++ z)) (functions_spelled r.spelled.third p.functions r.spelled.functions))
