-- The statements of a core in a text (ISO/IEC 9899:2024, 6.8; ISO/IEC 9899:1990, 6.6): each loop is `for (;;)` with its test
-- inside, and a flag in a temporary tells the first round from the others where it has a step or tests behind its body.
use Rattle.std.specs.Prelude.{ℕ, List, [], ◌∷◌, ◌++◌, Option, Some, None}
use Rattle.model_types.specs.Types.{CType}
use Rattle.model_core.specs.CoreTypes.{type_of}
use Rattle.model_core.specs.Types89.{Type89, int_type}
use Rattle.model_core.specs.Core as source
use Rattle.model_core.specs.Program89 as text
use Rattle.c_model.specs.WrittenType.{written_type}
use Rattle.c_model.specs.Renamed.{Naming}
use Rattle.model_lowering.specs.TextValues.{number, constant}
use Rattle.model_lowering.specs.Steps.{Setting, Done, Flat, Kept, nothing, behind, stats_of, temporary, past, past_both, in_temporary}
use Rattle.model_lowering.specs.FlatExpressions.{Anywhere, value_in, named_object, flat, dropped, initialised}

-- ---- objects of blocks

abbrev pub declared_object : Setting → (id : ℕ) → Option source.DeclaredObject → List text.Declaration
declared_object s id None = []
declared_object s id (Some o) = record { type = written_type s.naming.structure o.type; name = s.naming.declared id } ∷ []

abbrev pub declarations : Setting → List source.DeclaredObject → (ids : List ℕ) → List text.Declaration
declarations s objects [] = []
declarations s objects (id ∷ ids) = declared_object s id (source.object_of objects id) ++ declarations s objects ids

-- what stands in braces
pub record Braces : Type 0 where
  pub objects : List text.Declaration
  pub steps : List text.Stat
  pub temporaries : List Type89

abbrev pub in_braces : List text.Declaration → Done → Braces
in_braces objects d = record { objects = objects; steps = d.steps; temporaries = d.temporaries }

-- a block where objects are declared, and else its statements
abbrev pub unbraced_by : List text.Declaration → List text.Stat → List text.Stat
unbraced_by [] steps = steps
unbraced_by (d ∷ ds) steps = text.Block (d ∷ ds) (stats_of steps) ∷ []

abbrev pub unbraced : Braces → List text.Stat
unbraced b = unbraced_by b.objects b.steps

-- one statement
abbrev pub single : List text.Stat → text.Stat
single [] = text.Empty
single (stat ∷ []) = stat
single (first ∷ second ∷ others) = text.Block [] (stats_of (first ∷ second ∷ others))

-- ---- loops

abbrev pub break_out : text.Stats
break_out = text.more_stats text.Break text.no_stats

-- a test with its steps, and a body where it holds; else the loop is left
abbrev pub tested : Flat → Braces → List text.Stat
tested f b = f.steps ++ text.IfElse f.value b.objects (stats_of b.steps) [] break_out ∷ []

abbrev pub forever : List text.Stat → text.Stat
forever steps = text.Forever [] (stats_of steps)

-- the condition of a `for` may be missing
pub data Test : Type 0 where
  Always : Test
  Where : (condition : Flat) → Test

abbrev pub types_in_test : Test → List Type89
types_in_test Always = []
types_in_test (Where f) = f.temporaries

abbrev pub round : Test → Braces → List text.Stat
round Always b = unbraced b
round (Where f) b = tested f b

-- a loop that has nothing to do between two rounds
abbrev pub plain_loop : Test → Braces → text.Stat
plain_loop Always b = text.Forever b.objects (stats_of b.steps)
plain_loop (Where f) b = forever (tested f b)

abbrev pub set_flag : Naming → (i : ℕ) → (value : ℕ) → text.Stat
set_flag n i value = text.Assign (temporary n i) (number value)

-- nothing in the first round, and these steps in the others
abbrev pub in_others : Naming → (i : ℕ) → List text.Stat → text.Stat
in_others n i steps = text.IfElse (temporary n i) [] (stats_of (set_flag n i 0 ∷ [])) [] (stats_of steps)

abbrev pub flagged_loop : Naming → (i : ℕ) → (between each : List text.Stat) → List text.Stat
flagged_loop n i between each = set_flag n i 1 ∷ forever (in_others n i between ∷ each) ∷ []

abbrev pub while_loop : Flat → Braces → Done
while_loop f b = record { steps = plain_loop (Where f) b ∷ []; temporaries = f.temporaries ++ b.temporaries }

abbrev pub leave_unless : Flat → List text.Stat
leave_unless f = f.steps ++ text.If (text.Unary text.Not f.value) [] break_out ∷ []

abbrev pub do_loop : Naming → (i : ℕ) → Braces → Flat → Done
do_loop n i b f = record {
  steps = flagged_loop n (past_both i b.temporaries f.temporaries) (leave_unless f) (unbraced b);
  temporaries = b.temporaries ++ (f.temporaries ++ int_type ∷ []);
}

-- `for`: what comes first, the test, the step and the body
abbrev pub for_types : Done → Test → Done → Braces → List Type89
for_types h t g b = h.temporaries ++ (types_in_test t ++ (g.temporaries ++ b.temporaries))

abbrev pub for_loop_by : (step : List text.Stat) → Naming → (i : ℕ) → Done → Test → Done → Braces → Done
for_loop_by [] n i h t g b = record { steps = h.steps ++ plain_loop t b ∷ []; temporaries = for_types h t g b }
for_loop_by (step ∷ steps) n i h t g b = record {
  steps = h.steps ++ flagged_loop n (past i (for_types h t g b)) g.steps (round t b);
  temporaries = for_types h t g b ++ int_type ∷ [];
}

abbrev pub for_loop : Naming → (i : ℕ) → Done → Test → Done → Braces → Done
for_loop n i h t g b = for_loop_by g.steps n i h t g b

-- ---- `if`, `switch` and `return`

abbrev pub if_only : Flat → Braces → Done
if_only f b = record { steps = f.steps ++ text.If f.value b.objects (stats_of b.steps) ∷ []; temporaries = f.temporaries ++ b.temporaries }

abbrev pub if_else : Flat → Braces → Braces → Done
if_else f b c = record {
  steps = f.steps ++ text.IfElse f.value b.objects (stats_of b.steps) c.objects (stats_of c.steps) ∷ [];
  temporaries = f.temporaries ++ (b.temporaries ++ c.temporaries);
}

abbrev pub branches : Flat → Braces → Option Braces → Done
branches f b None = if_only f b
branches f b (Some c) = if_else f b c

-- the body of a switch
pub record Cases : Type 0 where
  pub items : text.Items
  pub temporaries : List Type89

abbrev pub ended : List text.Label → text.Items
ended [] = text.no_items
ended (label ∷ labels) = text.an_item (label ∷ labels) text.Empty text.no_items

abbrev pub item : List text.Label → Done → Cases → Cases
item labels d c = record { items = text.an_item labels (single d.steps) c.items; temporaries = d.temporaries ++ c.temporaries }

-- where the body has objects, the value is there before their scope is entered
abbrev pub switch_in_block : Flat → Kept → List text.Declaration → Cases → Done
switch_in_block f k objects c = record {
  steps = k.steps ++ text.Block objects (stats_of (text.Switch k.value c.items ∷ [])) ∷ [];
  temporaries = f.temporaries ++ (c.temporaries ++ k.more);
}

abbrev pub switch_by : List text.Declaration → Naming → (i : ℕ) → Type89 → Flat → Cases → Done
switch_by [] n i type f c = record { steps = f.steps ++ text.Switch f.value c.items ∷ []; temporaries = f.temporaries ++ c.temporaries }
switch_by (d ∷ ds) n i type f c =
    switch_in_block f (in_temporary n (past_both i f.temporaries c.temporaries) type f) (d ∷ ds) c

abbrev pub returned : Flat → Done
returned f = record { steps = f.steps ++ text.Return f.value ∷ []; temporaries = f.temporaries }

abbrev pub just : text.Stat → Done
just stat = record { steps = stat ∷ []; temporaries = [] }

abbrev pub maybe_dropped : Setting → (i : ℕ) → source.MaybeExpr → Done
maybe_dropped s i source.no_expr = nothing
maybe_dropped s i (source.an_expr e) = dropped s i e

abbrev pub maybe_test : Setting → (i : ℕ) → source.MaybeExpr → Test
maybe_test s i source.no_expr = Always
maybe_test s i (source.an_expr e) = Where (flat s Anywhere i e)

abbrev pub maybe_returned : Setting → (i : ℕ) → source.MaybeExpr → Done
maybe_returned s i source.no_expr = just text.ReturnNothing
maybe_returned s i (source.an_expr e) = returned (flat s Anywhere i e)

-- ---- statements, with temporaries from a number on

abbrev pub plainly : Done → Braces
plainly d = in_braces [] d

-- a statement among others
abbrev pub opened : Braces → Done
opened b = record { steps = unbraced b; temporaries = b.temporaries }

module _ (s : Setting) (objects : List source.DeclaredObject) where
  abbrev mutual
    -- a statement as what stands in braces: those of a block are its own
    pub braces : (i : ℕ) → source.Stat → Braces
    braces i (source.Evaluate e span) = plainly (dropped s i e)
    braces i (source.Start id type values mark) = plainly (initialised s (named_object s id type).place type i values)
    braces i (source.Block ids body span) = in_braces (declarations s objects ids) (low_all i body)
    braces i (source.If e first second span) =
        let f = flat s Anywhere i e in
        let b = braces (past i f.temporaries) first in
        plainly (branches f b (maybe_braces (past_both i f.temporaries b.temporaries) second))
    braces i (source.Switch e ids body span) =
        let f = flat s Anywhere i e in
        plainly (switch_by (declarations s objects ids) s.naming i (value_in s (type_of e)) f (cases (past i f.temporaries) (type_of e) [] body))
    braces i (source.While e body span) = let f = flat s Anywhere i e in plainly (while_loop f (braces (past i f.temporaries) body))
    braces i (source.DoWhile body e span) =
        let b = braces i body in plainly (do_loop s.naming i b (flat s Anywhere (past i b.temporaries) e))
    braces i (source.For first e step body span) =
        let h = maybe_dropped s i first in
        let t = maybe_test s (past i h.temporaries) e in
        let g = maybe_dropped s (past_both i h.temporaries (types_in_test t)) step in
        plainly (for_loop s.naming i h t g (braces (past (past_both i h.temporaries (types_in_test t)) g.temporaries) body))
    braces i (source.Break place) = plainly (just text.Break)
    braces i (source.Continue place) = plainly (just text.Continue)
    braces i (source.Return value place) = plainly (maybe_returned s i value)
    -- deferred statements are gone before
    braces i (source.Defer body place span) = plainly nothing

    pub maybe_braces : (i : ℕ) → source.MaybeStat → Option Braces
    maybe_braces i source.no_stat = None
    maybe_braces i (source.a_stat stat) = Some (braces i stat)

    pub low_all : (i : ℕ) → source.Stats → Done
    low_all i source.no_stats = nothing
    low_all i (source.more_stats stat stats) = let d = opened (braces i stat) in behind d (low_all (past i d.temporaries) stats)

    -- the body of a switch, behind labels of a type
    pub cases : (i : ℕ) → CType → List text.Label → source.Cases → Cases
    cases i type labels source.no_cases = record { items = ended labels; temporaries = [] }
    cases i type labels (source.a_case value place others) = cases i type (labels ++ text.Case (constant s.naming.structure value type) ∷ []) others
    cases i type labels (source.a_default place others) = cases i type (labels ++ text.Default ∷ []) others
    cases i type labels (source.a_stat_then stat others) =
        let d = opened (braces i stat) in item labels d (cases (past i d.temporaries) type [] others)
