-- The grammar of the text and the spelling functions agree: what is spelled reads.
use Rattle.std.proofs.Common.{◌≡◌, ℕ, suc, List, [], ◌∷◌, ◌++◌, Option, Some, None, refl, sym, ap, ◌∙◌, append_assoc}
use Rattle.std.specs.Prelude.{codes}
use Rattle.model_c89.specs.Signs89.{storage_text, storage_of}
use Rattle.model_c89.specs.SpellingParts89.{declaration_text, expr_text, arguments_text, more_arguments_text, indent, objects_text, labels_text, stat_text, stats_text, items_text}
use Rattle.model_c89.specs.Spelling89.{init_text, inits_text, value_text, outer_text, outers_text, structure_text, structures_text, head_text, function_text, functions_text, canonical}
use Rattle.model_c89.specs.ReadingParts89.{ReadsExpr, reads_name, reads_constant, reads_index, reads_member, reads_arrow, reads_call, reads_unary, reads_binary, reads_logic, reads_choice, reads_cast, ReadsArguments, reads_no_argument, reads_arguments, ReadsMore, reads_no_more, reads_more, ReadsObjects, reads_no_object, reads_objects, ReadsLabels, reads_no_label, reads_case, reads_default, ReadsStat, reads_evaluate, reads_assign, reads_empty, reads_block, reads_if, reads_if_else, reads_forever, reads_switch, reads_break, reads_continue, reads_return_nothing, reads_return, ReadsBody, reads_body, ReadsStats, reads_no_stat, reads_stats, ReadsItems, reads_no_item, reads_items}
use Rattle.model_c89.specs.Reading89.{ReadsInit, reads_value, reads_string, reads_braces, ReadsInits, reads_no_init, reads_inits, ReadsValue, reads_no_value, reads_a_value, ReadsOuter, ReadsOuters, reads_no_outer, reads_outers, ReadsStructure, reads_tag, reads_members, ReadsStructures, reads_no_structure, reads_structures, ReadsFunction, ReadsFunctions, reads_no_function, reads_functions, Reads89}
use Rattle.model_c89.specs.Typing89.{Typed}
use Rattle.model_core.specs.Program89 as tree

mutual
  expr_reads : (e : tree.Expr) → ReadsExpr (expr_text e) e
  expr_reads (tree.Name name) = reads_name name name refl
  expr_reads (tree.Constant number suffix) = reads_constant _ number suffix refl
  expr_reads (tree.Index a b) = reads_index _ a b (expr_text a) (expr_text b) (expr_reads a) (expr_reads b) refl
  expr_reads (tree.Dot a name) = reads_member _ a name (expr_text a) (expr_reads a) refl
  expr_reads (tree.Arrow a name) = reads_arrow _ a name (expr_text a) (expr_reads a) refl
  expr_reads (tree.Call a es) = reads_call _ a es (expr_text a) (arguments_text es) (expr_reads a) (arguments_read es) refl
  expr_reads (tree.Unary op a) = reads_unary _ op a (expr_text a) (expr_reads a) refl
  expr_reads (tree.Binary op a b) = reads_binary _ op a b (expr_text a) (expr_text b) (expr_reads a) (expr_reads b) refl
  expr_reads (tree.Logic op a b) = reads_logic _ op a b (expr_text a) (expr_text b) (expr_reads a) (expr_reads b) refl
  expr_reads (tree.Choice c a b) = reads_choice _ c a b (expr_text c) (expr_text a) (expr_text b) (expr_reads c) (expr_reads a) (expr_reads b) refl
  expr_reads (tree.Cast type a) = reads_cast _ type a (expr_text a) (expr_reads a) refl

  arguments_read : (es : tree.Exprs) → ReadsArguments (arguments_text es) es
  arguments_read tree.no_exprs = reads_no_argument [] refl
  arguments_read (tree.more_exprs e es) = reads_arguments _ e es (expr_text e) (more_arguments_text es) (expr_reads e) (more_read es) refl

  more_read : (es : tree.Exprs) → ReadsMore (more_arguments_text es) es
  more_read tree.no_exprs = reads_no_more [] refl
  more_read (tree.more_exprs e es) = reads_more _ e es (expr_text e) (more_arguments_text es) (expr_reads e) (more_read es) refl

objects_read : (level : ℕ) (ds : List tree.Declaration) → ReadsObjects level (objects_text level ds) ds
objects_read level [] = reads_no_object [] refl
objects_read level (d ∷ ds) = reads_objects _ d ds (objects_text level ds) (objects_read level ds) refl

labels_read : (level : ℕ) (labels : List tree.Label) → ReadsLabels level (labels_text level labels) labels
labels_read level [] = reads_no_label [] refl
labels_read level (tree.Case e ∷ labels) =
    reads_case _ e labels (expr_text e) (labels_text level labels) (expr_reads e) (labels_read level labels)
    (append_assoc (indent level) _ _ ∙ ap (λ z. indent level ++ (codes "case " ++ z)) (append_assoc (expr_text e) (codes ":\n") (labels_text level labels)))
labels_read level (tree.Default ∷ labels) =
    reads_default _ labels (labels_text level labels) (labels_read level labels) (append_assoc (indent level) _ _)

-- a body's text stands before what ends it
apart : (level : ℕ) (ds : List tree.Declaration) (ss : tree.Stats) (rest : List ℕ) → objects_text level ds ++ (stats_text level ss ++ rest) ≡ (objects_text level ds ++ stats_text level ss) ++ rest
apart level ds ss rest = sym (append_assoc (objects_text level ds) (stats_text level ss) rest)

mutual
  stat_reads : (level : ℕ) (s : tree.Stat) → ReadsStat level (stat_text level s) s
  stat_reads level (tree.Evaluate e) = reads_evaluate level _ e (expr_text e) (expr_reads e) refl
  stat_reads level (tree.Assign a b) = reads_assign level _ a b (expr_text a) (expr_text b) (expr_reads a) (expr_reads b) refl
  stat_reads level tree.Empty = reads_empty level _ refl
  stat_reads level (tree.Block ds ss) =
      reads_block level _ ds ss (objects_text (suc level) ds ++ stats_text (suc level) ss) (body_reads (suc level) ds ss)
      (ap (λ z. indent level ++ (codes "{\n" ++ z)) (apart (suc level) ds ss _))
  stat_reads level (tree.If e ds ss) =
      reads_if level _ e ds ss (expr_text e) (objects_text (suc level) ds ++ stats_text (suc level) ss) (expr_reads e) (body_reads (suc level) ds ss)
      (ap (λ z. indent level ++ (codes "if (" ++ (expr_text e ++ (codes ") {\n" ++ z)))) (apart (suc level) ds ss _))
  stat_reads level (tree.IfElse e ds ss es ts) =
      reads_if_else level _ e ds es ss ts (expr_text e) (objects_text (suc level) ds ++ stats_text (suc level) ss) (objects_text (suc level) es ++ stats_text (suc level) ts) (expr_reads e) (body_reads (suc level) ds ss) (body_reads (suc level) es ts)
      (ap (λ z. indent level ++ (codes "if (" ++ (expr_text e ++ (codes ") {\n" ++ z)))) (apart (suc level) ds ss _)
      ∙ ap (λ z. indent level ++ (codes "if (" ++ (expr_text e ++ (codes ") {\n" ++ ((objects_text (suc level) ds ++ stats_text (suc level) ss) ++ (indent level ++ (codes "} else {\n" ++ z))))))) (apart (suc level) es ts _))
  stat_reads level (tree.Forever ds ss) =
      reads_forever level _ ds ss (objects_text (suc level) ds ++ stats_text (suc level) ss) (body_reads (suc level) ds ss)
      (ap (λ z. indent level ++ (codes "for (;;) {\n" ++ z)) (apart (suc level) ds ss _))
  stat_reads level (tree.Switch e items) = reads_switch level _ e items (expr_text e) (items_text (suc level) items) (expr_reads e) (items_read (suc level) items) refl
  stat_reads level tree.Break = reads_break level _ refl
  stat_reads level tree.Continue = reads_continue level _ refl
  stat_reads level tree.ReturnNothing = reads_return_nothing level _ refl
  stat_reads level (tree.Return e) = reads_return level _ e (expr_text e) (expr_reads e) refl

  body_reads : (level : ℕ) (ds : List tree.Declaration) (ss : tree.Stats) → ReadsBody level (objects_text level ds ++ stats_text level ss) ds ss
  body_reads level ds tree.no_stats = reads_body level _ ds tree.no_stats (objects_text level ds) [] (objects_read level ds) (reads_no_stat level [] refl) refl
  body_reads level ds (tree.more_stats s ss) =
      reads_body level _ ds (tree.more_stats s ss) (objects_text level ds) (stats_text level (tree.more_stats s ss)) (objects_read level ds)
      (reads_stats level _ s ss (stat_text level s) (stats_text level ss) (stat_reads level s) (stats_read level ss) refl) refl

  stats_read : (level : ℕ) (ss : tree.Stats) → ReadsStats level (stats_text level ss) ss
  stats_read level tree.no_stats = reads_no_stat level [] refl
  stats_read level (tree.more_stats s ss) = reads_stats level _ s ss (stat_text level s) (stats_text level ss) (stat_reads level s) (stats_read level ss) refl

  items_read : (level : ℕ) (items : tree.Items) → ReadsItems level (items_text level items) items
  items_read level tree.no_items = reads_no_item level [] refl
  items_read level (tree.an_item labels s items) =
      reads_items level _ labels s items (labels_text level labels) (stat_text level s) (items_text level items) (labels_read level labels) (stat_reads level s) (items_read level items) refl

mutual
  init_reads : (init : tree.Init) → ReadsInit (init_text init) init
  init_reads (tree.Value e) = reads_value _ e (expr_reads e)
  init_reads (tree.Text bytes) = reads_string _ bytes refl
  init_reads (tree.Braces init inits) = reads_braces _ init inits (init_text init) (inits_text inits) (init_reads init) (inits_read inits) refl

  inits_read : (inits : tree.Inits) → ReadsInits (inits_text inits) inits
  inits_read tree.no_inits = reads_no_init [] refl
  inits_read (tree.more_inits init inits) = reads_inits _ init inits (init_text init) (inits_text inits) (init_reads init) (inits_read inits) refl

value_reads : (init : Option tree.Init) → ReadsValue (value_text init) init
value_reads None = reads_no_value [] refl
value_reads (Some init) = reads_a_value _ init (init_text init) (init_reads init) refl

outer_reads : (o : tree.Outer) → ReadsOuter (outer_text o) o
outer_reads o = record { inner = value_text o.init; value = value_reads o.init; parts = refl }

outers_read : (os : List tree.Outer) → ReadsOuters (outers_text os) os
outers_read [] = reads_no_outer [] refl
outers_read (o ∷ os) = reads_outers _ o os (outer_text o) (outers_text os) (outer_reads o) (outers_read os) refl

structure_reads : (s : tree.Structure89) → ReadsStructure (structure_text s) s
structure_reads (tree.Tag name) = reads_tag _ name refl
structure_reads (tree.Members name d ds) = reads_members _ name d ds (objects_text 1 (d ∷ ds)) (objects_read 1 (d ∷ ds)) refl

structures_read : (ss : List tree.Structure89) → ReadsStructures (structures_text ss) ss
structures_read [] = reads_no_structure [] refl
structures_read (s ∷ ss) = reads_structures _ s ss (structure_text s) (structures_text ss) (structure_reads s) (structures_read ss) refl

function_reads : (f : tree.Function) → ReadsFunction (function_text f) f
function_reads f = record {
  inner = objects_text 1 f.objects ++ stats_text 1 f.body;
  body = body_reads 1 f.objects f.body;
  parts = ap (λ z. storage_text (storage_of f.is_static) ++ (declaration_text f.result (head_text f) ++ (codes "\n{\n" ++ z))) (apart 1 f.objects f.body (codes "}\n"));
}

functions_read : (fs : List tree.Function) → ReadsFunctions (functions_text fs) fs
functions_read [] = reads_no_function [] refl
functions_read (f ∷ fs) = reads_functions _ f fs (function_text f) (functions_text fs) (function_reads f) (functions_read fs) refl

pub program_reads : (p : tree.Program) → Typed p → Reads89 (canonical p) p
program_reads p typed = record {
  spelled = record {
    first = structures_text p.structures;
    second = outers_text p.outers;
    third = functions_text p.functions;
    structures = structures_read p.structures;
    outers = outers_read p.outers;
    functions = functions_read p.functions;
    parts = refl;
  };
  typed = typed;
}
