-- The parts of a C89 program that stand in its lists (ISO/IEC 9899:1990, 6.5.7, 6.6.2, 6.6.4).
use Rattle.std.specs.Prelude.{List, [], ◌∷◌}
use Rattle.model_core.specs.Types89.{Type89, Types89, no_types, more_types}
use Rattle.model_core.specs.Program89 as text

-- a statement of the body of a switch, behind its labels
pub record Item : Type 0 where
  pub labels : List text.Label
  pub stat : text.Stat

-- the types of a list
abbrev pub types : List Type89 → Types89
types [] = no_types
types (first ∷ others) = more_types first (types others)

-- the expressions of a list
abbrev pub exprs : List text.Expr → text.Exprs
exprs [] = text.no_exprs
exprs (first ∷ others) = text.more_exprs first (exprs others)

-- the statements of a list
abbrev pub stats : List text.Stat → text.Stats
stats [] = text.no_stats
stats (first ∷ others) = text.more_stats first (stats others)

-- the statements of the body of a switch, of a list
abbrev pub items : List Item → text.Items
items [] = text.no_items
items (first ∷ others) = text.an_item first.labels first.stat (items others)

-- the initial values of a list
abbrev pub inits : List text.Init → text.Inits
inits [] = text.no_inits
inits (first ∷ others) = text.more_inits first (inits others)
