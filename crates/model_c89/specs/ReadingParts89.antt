-- The grammar of the C89 text's expressions and statements, production by production (ISO/IEC 9899:1990, 6.3
-- to 6.6, in one layout). E stands for an expression, N for a name, I for the indent of a level, NL for a
-- line feed, and d(T, s) for the declaration of s with a type.
use Rattle.std.specs.Prelude.{◌≡◌, ℕ, suc, List, [], ◌∷◌, ◌++◌, codes}
use Rattle.std.specs.Fmt.{decimal}
use Rattle.model_types.specs.declared.numbers.BinOp.{BinOp}
use Rattle.model_types.specs.declared.operators.LogicOp.{LogicOp}
use Rattle.model_c89.specs.Signs89.{sign_text, logic_text, prefix_text, suffix_text}
use Rattle.model_core.specs.Types89.{Type89}
use Rattle.model_c89.specs.SpellingParts89.{declaration_text, indent}
use Rattle.model_core.specs.Program89 as tree

mutual
  -- E = N | constant | E "[" E "]" | E "." N | E "->" N | E "(" [ E { ", " E } ] ")" | "(" U E ")"
  -- | "(" E " " B " " E ")" | "(" E " ? " E " : " E ")" | "((" d(T, ) ")" E ")"
  pub data ReadsExpr : List ℕ → tree.Expr → Type 0 where
    reads_name : (text name : List ℕ) → text ≡ name → ReadsExpr text (tree.Name name)
    reads_constant : (text : List ℕ) (number : ℕ) (suffix : tree.Suffix) → text ≡ decimal number ++ suffix_text suffix →
        ReadsExpr text (tree.Constant number suffix)
    reads_index : (text : List ℕ) (left right : tree.Expr) (first second : List ℕ) → ReadsExpr first left → ReadsExpr second right →
        text ≡ first ++ (codes "[" ++ (second ++ codes "]")) → ReadsExpr text (tree.Index left right)
    reads_member : (text : List ℕ) (structure : tree.Expr) (name first : List ℕ) → ReadsExpr first structure → text ≡ first ++ (codes "." ++ name) →
        ReadsExpr text (tree.Dot structure name)
    reads_arrow : (text : List ℕ) (pointer : tree.Expr) (name first : List ℕ) → ReadsExpr first pointer → text ≡ first ++ (codes "->" ++ name) →
        ReadsExpr text (tree.Arrow pointer name)
    reads_call : (text : List ℕ) (function : tree.Expr) (arguments : tree.Exprs) (first second : List ℕ) → ReadsExpr first function →
        ReadsArguments second arguments → text ≡ first ++ (codes "(" ++ (second ++ codes ")")) → ReadsExpr text (tree.Call function arguments)
    reads_unary : (text : List ℕ) (op : tree.Prefix) (operand : tree.Expr) (inner : List ℕ) → ReadsExpr inner operand →
        text ≡ codes "(" ++ (prefix_text op ++ (inner ++ codes ")")) → ReadsExpr text (tree.Unary op operand)
    reads_binary : (text : List ℕ) (op : BinOp) (left right : tree.Expr) (first second : List ℕ) → ReadsExpr first left → ReadsExpr second right →
        text ≡ codes "(" ++ (first ++ (codes " " ++ (sign_text op ++ (codes " " ++ (second ++ codes ")"))))) →
        ReadsExpr text (tree.Binary op left right)
    reads_logic : (text : List ℕ) (op : LogicOp) (left right : tree.Expr) (first second : List ℕ) → ReadsExpr first left → ReadsExpr second right →
        text ≡ codes "(" ++ (first ++ (codes " " ++ (logic_text op ++ (codes " " ++ (second ++ codes ")"))))) →
        ReadsExpr text (tree.Logic op left right)
    reads_choice : (text : List ℕ) (condition left right : tree.Expr) (first second third : List ℕ) → ReadsExpr first condition →
        ReadsExpr second left → ReadsExpr third right →
        text ≡ codes "(" ++ (first ++ (codes " ? " ++ (second ++ (codes " : " ++ (third ++ codes ")"))))) →
        ReadsExpr text (tree.Choice condition left right)
    reads_cast : (text : List ℕ) (type : Type89) (operand : tree.Expr) (inner : List ℕ) → ReadsExpr inner operand →
        text ≡ codes "((" ++ (declaration_text type [] ++ (codes ")" ++ (inner ++ codes ")"))) → ReadsExpr text (tree.Cast type operand)

  -- [ E { ", " E } ]
  pub data ReadsArguments : List ℕ → tree.Exprs → Type 0 where
    reads_no_argument : (text : List ℕ) → text ≡ [] → ReadsArguments text tree.no_exprs
    reads_arguments : (text : List ℕ) (e : tree.Expr) (es : tree.Exprs) (first rest : List ℕ) → ReadsExpr first e → ReadsMore rest es →
        text ≡ first ++ rest → ReadsArguments text (tree.more_exprs e es)

  -- { ", " E }
  pub data ReadsMore : List ℕ → tree.Exprs → Type 0 where
    reads_no_more : (text : List ℕ) → text ≡ [] → ReadsMore text tree.no_exprs
    reads_more : (text : List ℕ) (e : tree.Expr) (es : tree.Exprs) (first rest : List ℕ) → ReadsExpr first e → ReadsMore rest es →
        text ≡ codes ", " ++ (first ++ rest) → ReadsMore text (tree.more_exprs e es)

-- { I d(T, N) ";" NL }
pub data ReadsObjects (level : ℕ) : List ℕ → List tree.Declaration → Type 0 where
  reads_no_object : (text : List ℕ) → text ≡ [] → ReadsObjects level text []
  reads_objects : (text : List ℕ) (d : tree.Declaration) (ds : List tree.Declaration) (rest : List ℕ) → ReadsObjects level rest ds →
      text ≡ indent level ++ (declaration_text d.type d.name ++ (codes ";\n" ++ rest)) → ReadsObjects level text (d ∷ ds)

-- { I "case " E ":" NL | I "default:" NL }
pub data ReadsLabels (level : ℕ) : List ℕ → List tree.Label → Type 0 where
  reads_no_label : (text : List ℕ) → text ≡ [] → ReadsLabels level text []
  reads_case : (text : List ℕ) (e : tree.Expr) (labels : List tree.Label) (first rest : List ℕ) → ReadsExpr first e → ReadsLabels level rest labels →
      text ≡ indent level ++ (codes "case " ++ (first ++ (codes ":\n" ++ rest))) → ReadsLabels level text (tree.Case e ∷ labels)
  reads_default : (text : List ℕ) (labels : List tree.Label) (rest : List ℕ) → ReadsLabels level rest labels →
      text ≡ indent level ++ (codes "default:\n" ++ rest) → ReadsLabels level text (tree.Default ∷ labels)

mutual
  -- stat, at a level: its body stands one level further in
  pub data ReadsStat : (level : ℕ) → List ℕ → tree.Stat → Type 0 where
    reads_evaluate : (level : ℕ) (text : List ℕ) (e : tree.Expr) (inner : List ℕ) → ReadsExpr inner e → text ≡ indent level ++ (inner ++ codes ";\n") →
        ReadsStat level text (tree.Evaluate e)
    reads_assign : (level : ℕ) (text : List ℕ) (left right : tree.Expr) (first second : List ℕ) → ReadsExpr first left → ReadsExpr second right →
        text ≡ indent level ++ (first ++ (codes " = " ++ (second ++ codes ";\n"))) → ReadsStat level text (tree.Assign left right)
    reads_empty : (level : ℕ) (text : List ℕ) → text ≡ indent level ++ codes ";\n" → ReadsStat level text tree.Empty
    reads_block : (level : ℕ) (text : List ℕ) (ds : List tree.Declaration) (ss : tree.Stats) (body : List ℕ) → ReadsBody (suc level) body ds ss →
        text ≡ indent level ++ (codes "{\n" ++ (body ++ (indent level ++ codes "}\n"))) → ReadsStat level text (tree.Block ds ss)
    reads_if : (level : ℕ) (text : List ℕ) (e : tree.Expr) (ds : List tree.Declaration) (ss : tree.Stats) (first body : List ℕ) → ReadsExpr first e →
        ReadsBody (suc level) body ds ss →
        text ≡ indent level ++ (codes "if (" ++ (first ++ (codes ") {\n" ++ (body ++ (indent level ++ codes "}\n"))))) →
        ReadsStat level text (tree.If e ds ss)
    reads_if_else : (level : ℕ) (text : List ℕ) (e : tree.Expr) (ds es : List tree.Declaration) (ss ts : tree.Stats) (first body other : List ℕ) →
        ReadsExpr first e → ReadsBody (suc level) body ds ss → ReadsBody (suc level) other es ts →
        text ≡ indent level ++ (codes "if (" ++ (first ++ (codes ") {\n" ++ (body ++ (indent level ++ (codes "} else {\n" ++ (other ++ (indent level ++ codes "}\n")))))))) →
        ReadsStat level text (tree.IfElse e ds ss es ts)
    reads_forever : (level : ℕ) (text : List ℕ) (ds : List tree.Declaration) (ss : tree.Stats) (body : List ℕ) → ReadsBody (suc level) body ds ss →
        text ≡ indent level ++ (codes "for (;;) {\n" ++ (body ++ (indent level ++ codes "}\n"))) → ReadsStat level text (tree.Forever ds ss)
    reads_switch : (level : ℕ) (text : List ℕ) (e : tree.Expr) (items : tree.Items) (first body : List ℕ) → ReadsExpr first e →
        ReadsItems (suc level) body items →
        text ≡ indent level ++ (codes "switch (" ++ (first ++ (codes ") {\n" ++ (body ++ (indent level ++ codes "}\n"))))) →
        ReadsStat level text (tree.Switch e items)
    reads_break : (level : ℕ) (text : List ℕ) → text ≡ indent level ++ codes "break;\n" → ReadsStat level text tree.Break
    reads_continue : (level : ℕ) (text : List ℕ) → text ≡ indent level ++ codes "continue;\n" → ReadsStat level text tree.Continue
    reads_return_nothing : (level : ℕ) (text : List ℕ) → text ≡ indent level ++ codes "return;\n" → ReadsStat level text tree.ReturnNothing
    reads_return : (level : ℕ) (text : List ℕ) (e : tree.Expr) (inner : List ℕ) → ReadsExpr inner e →
        text ≡ indent level ++ (codes "return " ++ (inner ++ codes ";\n")) → ReadsStat level text (tree.Return e)

  -- { I d(T, N) ";" NL } { stat }
  pub data ReadsBody : (level : ℕ) → List ℕ → List tree.Declaration → tree.Stats → Type 0 where
    reads_body : (level : ℕ) (text : List ℕ) (ds : List tree.Declaration) (ss : tree.Stats) (first second : List ℕ) → ReadsObjects level first ds →
        ReadsStats level second ss → text ≡ first ++ second → ReadsBody level text ds ss

  -- { stat }
  pub data ReadsStats : (level : ℕ) → List ℕ → tree.Stats → Type 0 where
    reads_no_stat : (level : ℕ) (text : List ℕ) → text ≡ [] → ReadsStats level text tree.no_stats
    reads_stats : (level : ℕ) (text : List ℕ) (s : tree.Stat) (ss : tree.Stats) (first rest : List ℕ) → ReadsStat level first s →
        ReadsStats level rest ss → text ≡ first ++ rest → ReadsStats level text (tree.more_stats s ss)

  -- { labels stat }
  pub data ReadsItems : (level : ℕ) → List ℕ → tree.Items → Type 0 where
    reads_no_item : (level : ℕ) (text : List ℕ) → text ≡ [] → ReadsItems level text tree.no_items
    reads_items : (level : ℕ) (text : List ℕ) (labels : List tree.Label) (s : tree.Stat) (others : tree.Items) (first second rest : List ℕ) →
        ReadsLabels level first labels → ReadsStat level second s → ReadsItems level rest others → text ≡ first ++ (second ++ rest) →
        ReadsItems level text (tree.an_item labels s others)
