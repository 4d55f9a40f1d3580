-- Programs that units are lowered to are flat: by induction on expressions and on statements.
use Rattle.std.proofs.Common.{◌≡◌, ℕ, Bool, true, false, List, [], ◌∷◌, ◌++◌, Option, Some, None, refl, if◌then◌else◌}
use Rattle.model_types.specs.declared.types.StructId.{StructId}
use Rattle.model_types.specs.Types.{CType, typed, Form, Void, Integer, Enum, Pointer, Array, Struct, Function, form_of_type}
use Rattle.model_types.specs.Structures.{Member, members_of}
use Rattle.model_core.specs.CoreTypes.{type_of, object_type, unqualified, called_type, pointee, is_void}
use Rattle.model_core.specs.Types89.{Type89}
use Rattle.model_core.specs.Core as source
use Rattle.model_core.specs.Program89 as text
use Rattle.model_c89.specs.Flat89.{NoCall, FlatStat, FlatStats, FlatItems, FlatLabels, FlatFunctions, Flat as FlatProgram, holds_call}
use Rattle.c_model.specs.Renamed.{Naming}
use Rattle.model_lowering.specs.TextValues.{constant, converted}
use Rattle.model_lowering.specs.Steps as s
use Rattle.model_lowering.specs.Steps.{Setting, Done, Flat, Flats, Place, stats_of, past, past_both}
use Rattle.model_lowering.specs.PartPlaces as parts
use Rattle.model_lowering.specs.PartPlaces.{Reached, part_place, member_name}
use Rattle.model_lowering.specs.FlatExpressions as f
use Rattle.model_lowering.specs.FlatExpressions.{Goal, Anywhere, ToName, value_in, flat, dropped, placed, flats, initialised}
use Rattle.model_lowering.specs.LowStatements as l
use Rattle.model_lowering.specs.LowStatements.{Braces, Test, Always, Where}
use Rattle.model_lowering.specs.LoweredUnit as u
use Rattle.lowering_laws.proofs.FlatParts.{neither, assigned_flat, AreFlat, append_flat, and_flat, FlatIs, FlatsAre, PlaceIs, DoneIs}
use Rattle.lowering_laws.proofs.FlatForms.{constant_no_call, converted_no_call, pure_is, with_value_is, without_value_is, behind_is, two_is, before_others_are, call_is}
use Rattle.lowering_laws.proofs.FlatExpressions.{named_is, function_no_call, addressed_is, loaded_is, pointed_is, member_is, arrow_is, made_is, keeps_two, keeps_index, logic_is, logic_done_is}
use Rattle.lowering_laws.proofs.FlatExpressions.{choice_is, choice_done_is, called_is, given_back_is, operator_keeps, value_assigned_is, plain_done_is, plain_value_is, stepped_is, stepped_done_is, begins_is, then_is}
use Rattle.lowering_laws.proofs.FlatForms.{assigned_is}

-- ---- the parts of objects

abbrev MaybeNoCall : Option text.Expr → Type 0
MaybeNoCall None = Unit {0}
MaybeNoCall (Some e) = NoCall e

abbrev MaybeReached : Option Reached → Type 0
MaybeReached None = Unit {0}
MaybeReached (Some part) = NoCall part.place

member_reached_is : (z : Setting) (place : text.Expr) (id : StructId) (rank : ℕ) (m : Option Member) → NoCall place → MaybeReached (parts.member_reached z place id rank m)
member_reached_is z place id rank None h = tt
member_reached_is z place id rank (Some m) h = h

part_of_is : (z : Setting) (place : text.Expr) (form : Form) (rank : ℕ) → NoCall place → MaybeReached (parts.part_of z place form rank)
part_of_is z place Void rank h = tt
part_of_is z place (Integer basic) rank h = tt
part_of_is z place (Enum basic order) rank h = tt
part_of_is z place (Pointer type) rank h = tt
part_of_is z place (Array element count) rank h = neither (holds_call place) false h refl
part_of_is z place (Struct id) rank h = member_reached_is z place id rank (parts.member_of_rank (members_of z.structs id) rank) h
part_of_is z place (Function result parameters is_variadic) rank h = tt

behind_reached : (r : Option Reached) (go : Reached → Option text.Expr) → MaybeReached r → ((part : Reached) → NoCall part.place → MaybeNoCall (go part)) →
    MaybeNoCall (parts.behind r go)
behind_reached None go h k = tt
behind_reached (Some part) go h k = k part h

part_along_is : (z : Setting) (place : text.Expr) (type : CType) (path : List ℕ) → NoCall place → MaybeNoCall (parts.part_along z place type path)
part_along_is z place type [] h = h
part_along_is z place type (rank ∷ ranks) h =
    behind_reached (parts.part_of z place (form_of_type type) rank) (λ part. parts.part_along z part.place part.type ranks)
    (part_of_is z place (form_of_type type) rank h) (λ part k. part_along_is z part.place part.type ranks k)

at_offset_is : (z : Setting) (place : text.Expr) (offset : ℕ) (type : CType) → NoCall place → NoCall (parts.at_offset z place offset type)
at_offset_is z place offset type h = neither (holds_call place) false h refl

or_else_is : (maybe : Option text.Expr) (other : text.Expr) → MaybeNoCall maybe → NoCall other → NoCall (parts.or_at_offset maybe other)
or_else_is None other h k = k
or_else_is (Some place) other h k = h

part_is : (z : Setting) (object : text.Expr) (type : CType) (path : List ℕ) (offset : ℕ) (part : CType) → NoCall object →
    NoCall (part_place z object type path offset part)
part_is z object type path offset part h =
    or_else_is (parts.part_along z object type path) (parts.at_offset z object offset part) (part_along_is z object type path h)
    (at_offset_is z object offset part h)

-- ---- expressions

void_or : (goal : Goal) (b : Bool) (d : Done) (g : Flat) → DoneIs d → FlatIs goal g → FlatIs goal (if b then s.without_value d else g)
void_or goal true d g h k = without_value_is goal d h
void_or goal false d g h k = k

mutual
  flat_is : (z : Setting) (goal : Goal) (i : ℕ) (e : source.Expr) → FlatIs goal (flat z goal i e)
  flat_is z goal i (source.Constant value type mark) = pure_is goal (constant z.naming.structure value type) true (constant_no_call z.naming.structure value type)
  flat_is z goal i (source.Load object mark) = loaded_is goal (placed z i object) (placed_is z i object)
  flat_is z goal i (source.Address origin object mark) = addressed_is goal z origin (object_type object) (placed z i object) (placed_is z i object)
  flat_is z goal i (source.FunctionRef id type by_name mark) = pure_is goal (f.named_function z id type) true (function_no_call z id type)
  flat_is z goal i (source.Unary op a mark) =
      with_value_is goal (text.Unary (f.prefix op)) (flat z Anywhere i a) (λ e h. h) (flat_is z Anywhere i a)
  flat_is z goal i (source.Binary op a b mark) =
      let g = flat z Anywhere i a in
      two_is goal z.naming i (value_in z (type_of a)) g (flat z Anywhere (past i g.temporaries) b) (text.Binary op) (keeps_two op)
      (flat_is z Anywhere i a) (flat_is z Anywhere (past i g.temporaries) b)
  flat_is z goal i (source.Logic op a b mark) =
      let g = flat z Anywhere i a in
      logic_is goal z.naming i op g (flat z Anywhere (past i g.temporaries) b) (flat_is z Anywhere i a) (flat_is z Anywhere (past i g.temporaries) b)
  flat_is z goal i (source.Choice c a b mark) =
      let h = flat z Anywhere i c in
      let d = dropped z (past i h.temporaries) a in
      let e = dropped z (past_both i h.temporaries d.temporaries) b in
      let g = flat z Anywhere (past i h.temporaries) a in
      let k = flat z Anywhere (past_both i h.temporaries g.temporaries) b in
      void_or goal (is_void (type_of a)) (f.choice_done h d e) (f.choice z i (type_of a) h g k)
      (choice_done_is h d e (flat_is z Anywhere i c) (dropped_is z (past i h.temporaries) a) (dropped_is z (past_both i h.temporaries d.temporaries) b))
      (choice_is goal z i (type_of a) h g k (flat_is z Anywhere i c) (flat_is z Anywhere (past i h.temporaries) a)
      (flat_is z Anywhere (past_both i h.temporaries g.temporaries) b))
  flat_is z goal i (source.Convert origin type a mark) =
      void_or goal (is_void type) (dropped z i a) (s.with_value (converted z.naming.structure (type_of a) type) (flat z Anywhere i a))
      (dropped_is z i a)
      (with_value_is goal (converted z.naming.structure (type_of a) type) (flat z Anywhere i a) (λ e h. converted_no_call z.naming.structure (type_of a) type e h)
      (flat_is z Anywhere i a))
  flat_is z goal i (source.Call function arguments mark) =
      let g = flat z Anywhere i function in
      let gs = flats z (past i g.temporaries) arguments in
      given_back_is goal z i (called_type (form_of_type (type_of function))) (s.call z.naming i (value_in z (type_of function)) g gs)
      (call_is z.naming i (value_in z (type_of function)) g gs (flat_is z Anywhere i function) (flats_are z (past i g.temporaries) arguments))
  flat_is z goal i (source.Assign source.Plain object value mark) =
      let p = placed z i object in
      plain_value_is goal z.naming i (value_in z (object_type object)) p (flat z (f.goal_of p.place) (past i p.temporaries) value)
      (placed_is z i object) (flat_is z (f.goal_of p.place) (past i p.temporaries) value)
  flat_is z goal i (source.Assign (source.Compound op type) object value mark) =
      let p = placed z i object in
      value_assigned_is goal z.naming i (value_in z (object_type object)) p (flat z Anywhere (past i p.temporaries) value)
      (f.by_operator z op type (unqualified (object_type object))) (operator_keeps z op type (unqualified (object_type object)))
      (placed_is z i object) (flat_is z Anywhere (past i p.temporaries) value)
  flat_is z goal i (source.Step op side type object mark) =
      stepped_is goal z side op i type (unqualified (object_type object)) (placed z i object) (placed_is z i object)
  flat_is z goal i (source.MemberValue structure rank type name mark) =
      with_value_is goal (λ e. text.Dot e (member_name z.naming (form_of_type (type_of structure)) rank)) (flat z Anywhere i structure) (λ e h. h)
      (flat_is z Anywhere i structure)
  flat_is z goal i (source.Comma a b mark) =
      let d = dropped z i a in
      then_is goal d (flat z goal (past i d.temporaries) b) (dropped_is z i a) (flat_is z goal (past i d.temporaries) b)

  dropped_is : (z : Setting) (i : ℕ) (e : source.Expr) → DoneIs (dropped z i e)
  dropped_is z i (source.Constant value type mark) = tt
  dropped_is z i (source.Load object mark) = (placed_is z i object).steps
  dropped_is z i (source.Address origin object mark) = (placed_is z i object).steps
  dropped_is z i (source.FunctionRef id type by_name mark) = tt
  dropped_is z i (source.Unary op a mark) = dropped_is z i a
  dropped_is z i (source.Binary op a b mark) =
      let d = dropped z i a in behind_is d (dropped z (past i d.temporaries) b) (dropped_is z i a) (dropped_is z (past i d.temporaries) b)
  dropped_is z i (source.Logic op a b mark) =
      let g = flat z Anywhere i a in
      logic_done_is op g (dropped z (past i g.temporaries) b) (flat_is z Anywhere i a) (dropped_is z (past i g.temporaries) b)
  dropped_is z i (source.Choice c a b mark) =
      let h = flat z Anywhere i c in
      let d = dropped z (past i h.temporaries) a in
      choice_done_is h d (dropped z (past_both i h.temporaries d.temporaries) b) (flat_is z Anywhere i c) (dropped_is z (past i h.temporaries) a)
      (dropped_is z (past_both i h.temporaries d.temporaries) b)
  dropped_is z i (source.Convert origin type a mark) = dropped_is z i a
  dropped_is z i (source.Call function arguments mark) =
      let g = flat z Anywhere i function in
      let gs = flats z (past i g.temporaries) arguments in
      called_is (s.call z.naming i (value_in z (type_of function)) g gs)
      (call_is z.naming i (value_in z (type_of function)) g gs (flat_is z Anywhere i function) (flats_are z (past i g.temporaries) arguments))
  dropped_is z i (source.Assign source.Plain object value mark) =
      let p = placed z i object in
      plain_done_is z.naming i p (flat z (f.goal_of p.place) (past i p.temporaries) value) (placed_is z i object)
      (flat_is z (f.goal_of p.place) (past i p.temporaries) value)
  dropped_is z i (source.Assign (source.Compound op type) object value mark) =
      let p = placed z i object in
      assigned_is z.naming i p (flat z Anywhere (past i p.temporaries) value) (f.by_operator z op type (unqualified (object_type object)))
      (operator_keeps z op type (unqualified (object_type object))) (placed_is z i object) (flat_is z Anywhere (past i p.temporaries) value)
  dropped_is z i (source.Step op side type object mark) =
      stepped_done_is z op i type (unqualified (object_type object)) (placed z i object) (placed_is z i object)
  dropped_is z i (source.MemberValue structure rank type name mark) = dropped_is z i structure
  dropped_is z i (source.Comma a b mark) =
      let d = dropped z i a in behind_is d (dropped z (past i d.temporaries) b) (dropped_is z i a) (dropped_is z (past i d.temporaries) b)

  placed_is : (z : Setting) (i : ℕ) (object : source.Lvalue) → PlaceIs (placed z i object)
  placed_is z i (source.Object id type mark) = named_is z id type
  placed_is z i (source.Deref pointer mark) =
      pointed_is z (type_of pointer) (s.with_value (text.Unary text.Deref) (flat z Anywhere i pointer))
      (with_value_is Anywhere (text.Unary text.Deref) (flat z Anywhere i pointer) (λ e h. h) (flat_is z Anywhere i pointer)) refl
  placed_is z i (source.Index is_second a b mark) =
      let g = flat z Anywhere i a in
      pointed_is z (if is_second then type_of b else type_of a)
      (s.two z.naming i (value_in z (type_of a)) g (flat z Anywhere (past i g.temporaries) b) text.Index)
      (two_is Anywhere z.naming i (value_in z (type_of a)) g (flat z Anywhere (past i g.temporaries) b) text.Index keeps_index
      (flat_is z Anywhere i a) (flat_is z Anywhere (past i g.temporaries) b)) refl
  placed_is z i (source.Field structure rank type name mark) =
      member_is z (form_of_type (object_type structure)) rank type (placed z i structure) (placed_is z i structure)
  placed_is z i (source.Arrow pointer rank type name mark) =
      arrow_is z (form_of_type (pointee (form_of_type (type_of pointer)))) rank type (flat z Anywhere i pointer) (flat_is z Anywhere i pointer)
  placed_is z i (source.Literal origin id type values mark) =
      made_is z id type (initialised z (f.named_object z id type).place type i values)
      (initialised_is z (f.named_object z id type).place type i values (named_is z id type).place)

  flats_are : (z : Setting) (i : ℕ) (es : source.Exprs) → FlatsAre (flats z i es)
  flats_are z i source.no_exprs = record { steps = tt; values = refl }
  flats_are z i (source.more_exprs e es) =
      let g = flat z Anywhere i e in
      before_others_are z.naming i (value_in z (type_of e)) g (flats z (past i g.temporaries) es) (flat_is z Anywhere i e) (flats_are z (past i g.temporaries) es)

  initialised_is : (z : Setting) (object : text.Expr) (type : CType) (i : ℕ) (values : source.Initials) → NoCall object →
      DoneIs (initialised z object type i values)
  initialised_is z object type i source.no_initials h = tt
  initialised_is z object type i (source.more_initials path offset part e others) h =
      let place = part_place z object type path offset part in
      let d = f.begins place (flat z (f.goal_of place) i e) in
      behind_is d (initialised z object type (past i d.temporaries) others)
      (begins_is place (flat z (f.goal_of place) i e) (part_is z object type path offset part h) (flat_is z (f.goal_of place) i e))
      (initialised_is z object type (past i d.temporaries) others h)

-- ---- statements

abbrev BracesAre : Braces → Type 0
BracesAre b = AreFlat b.steps

-- a test without steps of its own that aren't flat
abbrev TestIs : Test → Type 0
TestIs Always = Unit {0}
TestIs (Where g) = FlatIs Anywhere g

unbraced_flat : (objects : List text.Declaration) (steps : List text.Stat) → AreFlat steps → AreFlat (l.unbraced_by objects steps)
unbraced_flat [] steps h = h
unbraced_flat (d ∷ ds) steps h = (h, tt)

single_flat : (steps : List text.Stat) → AreFlat steps → FlatStat (l.single steps)
single_flat [] h = tt
single_flat (stat ∷ []) h = h.0
single_flat (first ∷ second ∷ others) h = h

break_flat : FlatStats l.break_out
break_flat = (tt, tt)

tested_flat : (g : Flat) (b : Braces) → FlatIs Anywhere g → BracesAre b → AreFlat (l.tested g b)
tested_flat g b h k =
    and_flat g.steps (text.IfElse g.value b.objects (stats_of b.steps) [] l.break_out) h.steps (h.value, k, break_flat)

round_flat : (t : Test) (b : Braces) → TestIs t → BracesAre b → AreFlat (l.round t b)
round_flat Always b h k = unbraced_flat b.objects b.steps k
round_flat (Where g) b h k = tested_flat g b h k

plain_loop_flat : (t : Test) (b : Braces) → TestIs t → BracesAre b → FlatStat (l.plain_loop t b)
plain_loop_flat Always b h k = k
plain_loop_flat (Where g) b h k = tested_flat g b h k

flag_flat : (n : Naming) (i value : ℕ) → FlatStat (l.set_flag n i value)
flag_flat n i value = (refl, refl)

flagged_flat : (n : Naming) (i : ℕ) (between each : List text.Stat) → AreFlat between → AreFlat each → AreFlat (l.flagged_loop n i between each)
flagged_flat n i between each h k = (flag_flat n i 1, (((refl, (flag_flat n i 0, tt), h), k), tt))

while_is : (g : Flat) (b : Braces) → FlatIs Anywhere g → BracesAre b → DoneIs (l.while_loop g b)
while_is g b h k = (plain_loop_flat (Where g) b h k, tt)

leave_flat : (g : Flat) → FlatIs Anywhere g → AreFlat (l.leave_unless g)
leave_flat g h = and_flat g.steps (text.If (text.Unary text.Not g.value) [] l.break_out) h.steps (h.value, break_flat)

do_is : (n : Naming) (i : ℕ) (b : Braces) (g : Flat) → BracesAre b → FlatIs Anywhere g → DoneIs (l.do_loop n i b g)
do_is n i b g h k =
    flagged_flat n (past_both i b.temporaries g.temporaries) (l.leave_unless g) (l.unbraced b) (leave_flat g k) (unbraced_flat b.objects b.steps h)

for_by_is : (steps : List text.Stat) (n : Naming) (i : ℕ) (h : Done) (t : Test) (g : Done) (b : Braces) → DoneIs h → TestIs t → DoneIs g → BracesAre b →
    DoneIs (l.for_loop_by steps n i h t g b)
for_by_is [] n i h t g b first test step body = and_flat h.steps (l.plain_loop t b) first (plain_loop_flat t b test body)
for_by_is (x ∷ xs) n i h t g b first test step body =
    append_flat h.steps (l.flagged_loop n (past i (l.for_types h t g b)) g.steps (l.round t b)) first
    (flagged_flat n (past i (l.for_types h t g b)) g.steps (l.round t b) step (round_flat t b test body))

for_is : (n : Naming) (i : ℕ) (h : Done) (t : Test) (g : Done) (b : Braces) → DoneIs h → TestIs t → DoneIs g → BracesAre b → DoneIs (l.for_loop n i h t g b)
for_is n i h t g b first test step body = for_by_is g.steps n i h t g b first test step body

abbrev MaybeBraces : Option Braces → Type 0
MaybeBraces None = Unit {0}
MaybeBraces (Some b) = BracesAre b

branches_are : (g : Flat) (b : Braces) (c : Option Braces) → FlatIs Anywhere g → BracesAre b → MaybeBraces c → DoneIs (l.branches g b c)
branches_are g b None h k m = and_flat g.steps (text.If g.value b.objects (stats_of b.steps)) h.steps (h.value, k)
branches_are g b (Some c) h k m =
    and_flat g.steps (text.IfElse g.value b.objects (stats_of b.steps) c.objects (stats_of c.steps)) h.steps (h.value, k, m)

-- labels are constants
labels_and : (labels : List text.Label) (label : text.Label) → FlatLabels labels → FlatLabels (label ∷ []) → FlatLabels (labels ++ label ∷ [])
labels_and [] label h k = k
labels_and (text.Case e ∷ labels) label h k = (h.0, labels_and labels label h.1 k)
labels_and (text.Default ∷ labels) label h k = labels_and labels label h k

ended_flat : (labels : List text.Label) → FlatLabels labels → FlatItems (l.ended labels)
ended_flat [] h = tt
ended_flat (label ∷ labels) h = (h, tt, tt)

switch_is : (objects : List text.Declaration) (n : Naming) (i : ℕ) (type : Type89) (g : Flat) (c : l.Cases) → FlatIs Anywhere g → FlatItems c.items →
    DoneIs (l.switch_by objects n i type g c)
switch_is [] n i type g c h k = and_flat g.steps (text.Switch g.value c.items) h.steps (h.value, k)
switch_is (d ∷ ds) n i type g c h k =
    let t = s.temporary n (past_both i g.temporaries c.temporaries) in
    and_flat (g.steps ++ text.Assign t g.value ∷ []) (text.Block (d ∷ ds) (stats_of (text.Switch t c.items ∷ [])))
    (and_flat g.steps (text.Assign t g.value) h.steps (assigned_flat t g.value refl h.value))
    ((refl, k), tt)

maybe_dropped_is : (z : Setting) (i : ℕ) (e : source.MaybeExpr) → DoneIs (l.maybe_dropped z i e)
maybe_dropped_is z i source.no_expr = tt
maybe_dropped_is z i (source.an_expr e) = dropped_is z i e

maybe_test_is : (z : Setting) (i : ℕ) (e : source.MaybeExpr) → TestIs (l.maybe_test z i e)
maybe_test_is z i source.no_expr = tt
maybe_test_is z i (source.an_expr e) = flat_is z Anywhere i e

maybe_returned_is : (z : Setting) (i : ℕ) (e : source.MaybeExpr) → DoneIs (l.maybe_returned z i e)
maybe_returned_is z i source.no_expr = (tt, tt)
maybe_returned_is z i (source.an_expr e) =
    let g = flat z Anywhere i e in and_flat g.steps (text.Return g.value) (flat_is z Anywhere i e).steps (flat_is z Anywhere i e).value

module _ (z : Setting) (objects : List source.DeclaredObject) where
  mutual
    braces_are : (i : ℕ) (stat : source.Stat) → BracesAre (l.braces z objects i stat)
    braces_are i (source.Evaluate e span) = dropped_is z i e
    braces_are i (source.Start id type values mark) =
        initialised_is z (f.named_object z id type).place type i values (named_is z id type).place
    braces_are i (source.Block ids body span) = all_are i body
    braces_are i (source.If e first second span) =
        let g = flat z Anywhere i e in
        let b = l.braces z objects (past i g.temporaries) first in
        branches_are g b (l.maybe_braces z objects (past_both i g.temporaries b.temporaries) second) (flat_is z Anywhere i e)
        (braces_are (past i g.temporaries) first) (maybe_are (past_both i g.temporaries b.temporaries) second)
    braces_are i (source.Switch e ids body span) =
        let g = flat z Anywhere i e in
        switch_is (l.declarations z objects ids) z.naming i (value_in z (type_of e)) g (l.cases z objects (past i g.temporaries) (type_of e) [] body)
        (flat_is z Anywhere i e) (cases_are (past i g.temporaries) (type_of e) [] body tt)
    braces_are i (source.While e body span) =
        let g = flat z Anywhere i e in
        while_is g (l.braces z objects (past i g.temporaries) body) (flat_is z Anywhere i e) (braces_are (past i g.temporaries) body)
    braces_are i (source.DoWhile body e span) =
        let b = l.braces z objects i body in
        do_is z.naming i b (flat z Anywhere (past i b.temporaries) e) (braces_are i body) (flat_is z Anywhere (past i b.temporaries) e)
    braces_are i (source.For first e step body span) =
        let h = l.maybe_dropped z i first in
        let t = l.maybe_test z (past i h.temporaries) e in
        let g = l.maybe_dropped z (past_both i h.temporaries (l.types_in_test t)) step in
        let j = past (past_both i h.temporaries (l.types_in_test t)) g.temporaries in
        for_is z.naming i h t g (l.braces z objects j body) (maybe_dropped_is z i first) (maybe_test_is z (past i h.temporaries) e)
        (maybe_dropped_is z (past_both i h.temporaries (l.types_in_test t)) step) (braces_are j body)
    braces_are i (source.Break place) = (tt, tt)
    braces_are i (source.Continue place) = (tt, tt)
    braces_are i (source.Return value place) = maybe_returned_is z i value
    braces_are i (source.Defer body place span) = tt

    maybe_are : (i : ℕ) (stat : source.MaybeStat) → MaybeBraces (l.maybe_braces z objects i stat)
    maybe_are i source.no_stat = tt
    maybe_are i (source.a_stat stat) = braces_are i stat

    all_are : (i : ℕ) (stats : source.Stats) → DoneIs (l.low_all z objects i stats)
    all_are i source.no_stats = tt
    all_are i (source.more_stats stat stats) =
        let b = l.braces z objects i stat in
        let d = l.opened b in
        behind_is d (l.low_all z objects (past i d.temporaries) stats) (unbraced_flat b.objects b.steps (braces_are i stat))
        (all_are (past i d.temporaries) stats)

    cases_are : (i : ℕ) (type : CType) (labels : List text.Label) (body : source.Cases) → FlatLabels labels →
        FlatItems (l.cases z objects i type labels body).items
    cases_are i type labels source.no_cases h = ended_flat labels h
    cases_are i type labels (source.a_case value place others) h =
        cases_are i type (labels ++ text.Case (constant z.naming.structure value type) ∷ []) others
        (labels_and labels (text.Case (constant z.naming.structure value type)) h (constant_no_call z.naming.structure value type, tt))
    cases_are i type labels (source.a_default place others) h =
        cases_are i type (labels ++ text.Default ∷ []) others (labels_and labels text.Default h tt)
    cases_are i type labels (source.a_stat_then stat others) h =
        let b = l.braces z objects i stat in
        let d = l.opened b in
        (h, single_flat d.steps (unbraced_flat b.objects b.steps (braces_are i stat)), cases_are (past i d.temporaries) type [] others tt)

-- ---- functions

append_functions : (a b : List text.Function) → FlatFunctions a → FlatFunctions b → FlatFunctions (a ++ b)
append_functions [] b h k = k
append_functions (g ∷ gs) b h k = (h.0, append_functions gs b h.1 k)

function_with_is : (z : Setting) (g : source.Function) (form : Form) (b : Braces) → BracesAre b → FlatFunctions (u.function_with z g form b)
function_with_is z g Void b h = tt
function_with_is z g (Integer basic) b h = tt
function_with_is z g (Enum basic order) b h = tt
function_with_is z g (Pointer type) b h = tt
function_with_is z g (Array element count) b h = tt
function_with_is z g (Struct id) b h = tt
function_with_is z g (Function result parameters is_variadic) b h = (h, tt)

defined_is : (z : Setting) (objects : List source.DeclaredObject) (g : source.Function) (body : source.MaybeStat) →
    FlatFunctions (u.defined_function z objects g body)
defined_is z objects g source.no_stat = tt
defined_is z objects g (source.a_stat body) =
    function_with_is z g (form_of_type g.type) (l.braces z objects 0 body) (braces_are z objects 0 body)

functions_are : (z : Setting) (objects : List source.DeclaredObject) (gs : List source.Function) → FlatFunctions (u.functions_of z objects gs)
functions_are z objects [] = tt
functions_are z objects (g ∷ gs) =
    append_functions (u.defined_function z objects g g.body) (u.functions_of z objects gs) (defined_is z objects g g.body) (functions_are z objects gs)

pub lowered_is_flat : (n : Naming) (core : source.Core) → FlatProgram (u.lowered_with n core)
lowered_is_flat n core = functions_are (record { naming = n; structs = core.structs }) core.objects core.functions
