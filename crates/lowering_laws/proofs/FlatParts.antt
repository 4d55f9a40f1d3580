-- What holds no call, and steps of which none holds a call beside its own.
use Rattle.std.proofs.Common.{◌≡◌, Bool, true, false, ◌||◌, List, [], ◌∷◌, ◌++◌, refl, sym, ap, true≢false}
use Rattle.model_core.specs.Types89.{Type89}
use Rattle.model_core.specs.Program89 as text
use Rattle.model_c89.specs.Flat89.{NoCall, FlatValue, FlatAssignment, FlatStat, FlatStats, is_name, holds_call, hold_call}
use Rattle.model_lowering.specs.FlatExpressions.{Goal, Anywhere, ToName}
use Rattle.model_lowering.specs.Steps.{Done, Flat, Flats, Place, Kept, stats_of, exprs_of}

pub neither : (a b : Bool) → a ≡ false → b ≡ false → (a || b) ≡ false
neither true b e h = absurd (true≢false e)
neither false b e h = h

-- ---- values

-- what a value may hold where it goes
abbrev pub IsFor : Goal → text.Expr → Type 0
IsFor Anywhere e = NoCall e
IsFor ToName e = FlatValue e

pub flat_value : (e : text.Expr) → NoCall e → FlatValue e
flat_value (text.Name name) h = h
flat_value (text.Constant number suffix) h = h
flat_value (text.Index left right) h = h
flat_value (text.Dot structure name) h = h
flat_value (text.Arrow pointer name) h = h
flat_value (text.Call function arguments) h = absurd (true≢false h)
flat_value (text.Unary op operand) h = h
flat_value (text.Binary op left right) h = h
flat_value (text.Logic op left right) h = h
flat_value (text.Choice condition first second) h = h
flat_value (text.Cast type operand) h = h

pub for_any : (goal : Goal) (e : text.Expr) → NoCall e → IsFor goal e
for_any Anywhere e h = h
for_any ToName e h = flat_value e h

-- ---- assignments

pub assigned_flat : (left e : text.Expr) → NoCall left → NoCall e → FlatAssignment left e
assigned_flat left (text.Name name) l h = (l, h)
assigned_flat left (text.Constant number suffix) l h = (l, h)
assigned_flat left (text.Index a b) l h = (l, h)
assigned_flat left (text.Dot structure name) l h = (l, h)
assigned_flat left (text.Arrow pointer name) l h = (l, h)
assigned_flat left (text.Call function arguments) l h = absurd (true≢false h)
assigned_flat left (text.Unary op operand) l h = (l, h)
assigned_flat left (text.Binary op a b) l h = (l, h)
assigned_flat left (text.Logic op a b) l h = (l, h)
assigned_flat left (text.Choice condition first second) l h = (l, h)
assigned_flat left (text.Cast type operand) l h = (l, h)

-- a name may get the value of a call
pub name_assigned_flat : (left e : text.Expr) → is_name left ≡ true → NoCall left → FlatValue e → FlatAssignment left e
name_assigned_flat left (text.Name name) i l h = (l, h)
name_assigned_flat left (text.Constant number suffix) i l h = (l, h)
name_assigned_flat left (text.Index a b) i l h = (l, h)
name_assigned_flat left (text.Dot structure name) i l h = (l, h)
name_assigned_flat left (text.Arrow pointer name) i l h = (l, h)
name_assigned_flat left (text.Call function arguments) i l h = (i, h.0, h.1)
name_assigned_flat left (text.Unary op operand) i l h = (l, h)
name_assigned_flat left (text.Binary op a b) i l h = (l, h)
name_assigned_flat left (text.Logic op a b) i l h = (l, h)
name_assigned_flat left (text.Choice condition first second) i l h = (l, h)
name_assigned_flat left (text.Cast type operand) i l h = (l, h)

-- ---- steps

abbrev pub AreFlat : List text.Stat → Type 0
AreFlat steps = FlatStats (stats_of steps)

pub append_flat : (a b : List text.Stat) → AreFlat a → AreFlat b → AreFlat (a ++ b)
append_flat [] b h k = k
append_flat (stat ∷ stats) b (h, hs) k = (h, append_flat stats b hs k)

pub one_flat : (stat : text.Stat) → FlatStat stat → AreFlat (stat ∷ [])
one_flat stat h = (h, tt)

pub and_flat : (a : List text.Stat) (stat : text.Stat) → AreFlat a → FlatStat stat → AreFlat (a ++ stat ∷ [])
and_flat a stat h k = append_flat a (stat ∷ []) h (k, tt)

-- ---- parts

pub record FlatIs (goal : Goal) (f : Flat) : Type 0 where
  pub steps : AreFlat f.steps
  pub value : IsFor goal f.value

pub record KeptIs (k : Kept) : Type 0 where
  pub steps : AreFlat k.steps
  pub value : NoCall k.value

pub record FlatsAre (f : Flats) : Type 0 where
  pub steps : AreFlat f.steps
  pub values : hold_call (exprs_of f.values) ≡ false

-- a place that is a name has a constant address
pub record PlaceIs (p : Place) : Type 0 where
  pub steps : AreFlat p.steps
  pub place : NoCall p.place
  pub constant : is_name p.place ≡ true → p.is_constant ≡ true

abbrev pub DoneIs : Done → Type 0
DoneIs d = AreFlat d.steps
