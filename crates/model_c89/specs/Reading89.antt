-- The grammar of the C89 text outside of functions (ISO/IEC 9899:1990, 6.5 and 6.7, in one layout), and what a
-- text reads as.
use Rattle.std.specs.Prelude.{◌≡◌, ℕ, List, [], ◌∷◌, ◌++◌, codes, Option, Some, None}
use Rattle.model_c89.specs.Signs89.{storage_text, storage_of}
use Rattle.model_c89.specs.SpellingParts89.{declaration_text}
use Rattle.model_c89.specs.Spelling89.{bytes_text, head_text}
use Rattle.model_c89.specs.ReadingParts89.{ReadsExpr, ReadsObjects, ReadsBody}
use Rattle.model_c89.specs.Typing89.{Typed}
use Rattle.model_core.specs.Program89 as tree

mutual
  -- init = E | string | "{" init { ", " init } "}"
  pub data ReadsInit : List ℕ → tree.Init → Type 0 where
    reads_value : (text : List ℕ) (e : tree.Expr) → ReadsExpr text e → ReadsInit text (tree.Value e)
    reads_string : (text bytes : List ℕ) → text ≡ codes "\"" ++ (bytes_text bytes ++ codes "\"") → ReadsInit text (tree.Text bytes)
    reads_braces : (text : List ℕ) (init : tree.Init) (inits : tree.Inits) (first rest : List ℕ) → ReadsInit first init →
        ReadsInits rest inits → text ≡ codes "{" ++ (first ++ (rest ++ codes "}")) → ReadsInit text (tree.Braces init inits)

  -- { ", " init }
  pub data ReadsInits : List ℕ → tree.Inits → Type 0 where
    reads_no_init : (text : List ℕ) → text ≡ [] → ReadsInits text tree.no_inits
    reads_inits : (text : List ℕ) (init : tree.Init) (inits : tree.Inits) (first rest : List ℕ) → ReadsInit first init →
        ReadsInits rest inits → text ≡ codes ", " ++ (first ++ rest) → ReadsInits text (tree.more_inits init inits)

-- [ " = " init ]
pub data ReadsValue : List ℕ → Option tree.Init → Type 0 where
  reads_no_value : (text : List ℕ) → text ≡ [] → ReadsValue text None
  reads_a_value : (text : List ℕ) (init : tree.Init) (inner : List ℕ) → ReadsInit inner init → text ≡ codes " = " ++ inner → ReadsValue text (Some init)

-- outer ";" NL, with outer = [ "extern " | "static " ] d(T, N) [ " = " init ]
pub record ReadsOuter (text : List ℕ) (outer : tree.Outer) : Type 0 where
  pub inner : List ℕ
  pub value : ReadsValue inner outer.init
  pub parts : text ≡ storage_text outer.storage ++ (declaration_text outer.type outer.name ++ (inner ++ codes ";\n"))

-- { outer ";" NL }
pub data ReadsOuters : List ℕ → List tree.Outer → Type 0 where
  reads_no_outer : (text : List ℕ) → text ≡ [] → ReadsOuters text []
  reads_outers : (text : List ℕ) (outer : tree.Outer) (outers : List tree.Outer) (first rest : List ℕ) → ReadsOuter first outer → ReadsOuters rest outers →
      text ≡ first ++ rest → ReadsOuters text (outer ∷ outers)

-- structure = "struct " N ";" NL | "struct " N " {" NL "    " d(T, N) ";" NL { "    " d(T, N) ";" NL } "};" NL
pub data ReadsStructure : List ℕ → tree.Structure89 → Type 0 where
  reads_tag : (text name : List ℕ) → text ≡ codes "struct " ++ (name ++ codes ";\n") → ReadsStructure text (tree.Tag name)
  reads_members : (text name : List ℕ) (d : tree.Declaration) (ds : List tree.Declaration) (inner : List ℕ) → ReadsObjects 1 inner (d ∷ ds) →
      text ≡ codes "struct " ++ (name ++ (codes " {\n" ++ (inner ++ codes "};\n"))) → ReadsStructure text (tree.Members name d ds)

-- { structure }
pub data ReadsStructures : List ℕ → List tree.Structure89 → Type 0 where
  reads_no_structure : (text : List ℕ) → text ≡ [] → ReadsStructures text []
  reads_structures : (text : List ℕ) (s : tree.Structure89) (ss : List tree.Structure89) (first rest : List ℕ) → ReadsStructure first s →
      ReadsStructures rest ss → text ≡ first ++ rest → ReadsStructures text (s ∷ ss)

-- function = [ "static " ] d(T, N "(" parameters ")") NL "{" NL body "}" NL
pub record ReadsFunction (text : List ℕ) (f : tree.Function) : Type 0 where
  pub inner : List ℕ
  pub body : ReadsBody 1 inner f.objects f.body
  pub parts : text ≡ storage_text (storage_of f.is_static) ++ (declaration_text f.result (head_text f) ++ (codes "\n{\n" ++ (inner ++ codes "}\n")))

-- { NL function }
pub data ReadsFunctions : List ℕ → List tree.Function → Type 0 where
  reads_no_function : (text : List ℕ) → text ≡ [] → ReadsFunctions text []
  reads_functions : (text : List ℕ) (f : tree.Function) (fs : List tree.Function) (first rest : List ℕ) → ReadsFunction first f → ReadsFunctions rest fs →
      text ≡ codes "\n" ++ (first ++ rest) → ReadsFunctions text (f ∷ fs)

-- program = { structure } { outer ";" NL } { NL function }
pub record ReadsProgram (text : List ℕ) (program : tree.Program) : Type 0 where
  pub first : List ℕ
  pub second : List ℕ
  pub third : List ℕ
  pub structures : ReadsStructures first program.structures
  pub outers : ReadsOuters second program.outers
  pub functions : ReadsFunctions third program.functions
  pub parts : text ≡ first ++ (second ++ third)

-- the text reads as this typed program
pub record Reads89 (text : List ℕ) (program : tree.Program) : Type 0 where
  pub spelled : ReadsProgram text program
  pub typed : Typed program
