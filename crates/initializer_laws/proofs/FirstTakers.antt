-- What is for an element or member at some depth is found from the first of them too.
use Rattle.std.proofs.Common.{◌≡◌, ℕ, zero, suc, Bool, true, false, cond, List, [], ◌∷◌, ◌++◌, find, Option, Some, None, option_map, subst, nat_lt, if◌then◌else◌}
use Rattle.model_types.specs.declared.types.StructId.{StructId}
use Rattle.model_types.specs.declared.types.Quals.{Quals}
use Rattle.model_types.specs.Types.{CType, typed, Form, Void, Integer, Enum, Pointer, Array, Struct, Function, form_of_type}
use Rattle.model_types.specs.Structures.{Structure}
use Rattle.model_types.specs.Layout.{complete_count}
use Rattle.model_checking.specs.Ways.{Step, Bare, reached, step, start, takes, inward, inward_form, inward_step, inward_struct, taker}
use Rattle.initializer_laws.proofs.ShiftedWays.{Way, Given}

-- what is found in fewer structures is found in more
abbrev Finds : (q : Way → Bool) → (x : Way) → Given → Given → Type 0
Finds q x fewer more = (whole : CType) (id : StructId) (way : Way) → find q (fewer whole id way) ≡ Some x → find q (more whole id way) ≡ Some x

cond_more : (b : Bool) (w x : Way) (o p : Option Way) → (o ≡ Some x → p ≡ Some x) → cond b (Some w) o ≡ Some x → cond b (Some w) p ≡ Some x
cond_more true w x o p more e = e
cond_more false w x o p more e = more e

mutual
  inward_more : (q : Way → Bool) (x : Way) (fewer more : Given) (finds : Finds q x fewer more) (type : CType) (way : Way) →
      find q (inward fewer type way) ≡ Some x → find q (inward more type way) ≡ Some x
  inward_more q x fewer more finds (typed form quals) way e =
      cond_more (q way) way x (find q (inward_form fewer (typed form quals) form way)) (find q (inward_form more (typed form quals) form way))
      (inward_form_more q x fewer more finds (typed form quals) form way) e

  inward_form_more : (q : Way → Bool) (x : Way) (fewer more : Given) (finds : Finds q x fewer more) (whole : CType) (form : Form) (way : Way) →
      find q (inward_form fewer whole form way) ≡ Some x → find q (inward_form more whole form way) ≡ Some x
  inward_form_more q x fewer more finds whole Void way e = e
  inward_form_more q x fewer more finds whole (Integer basic) way e = e
  inward_form_more q x fewer more finds whole (Enum basic order) way e = e
  inward_form_more q x fewer more finds whole (Pointer type) way e = e
  inward_form_more q x fewer more finds whole (Array type length) way e =
      inward_more q x fewer more finds type (record { whole = whole; rank = 0; part = type } ∷ way) e
  inward_form_more q x fewer more finds whole (Struct id) way e = finds whole id way e
  inward_form_more q x fewer more finds whole (Function result parameters variadic) way e = e

step_more : (q : Way → Bool) (x : Way) (fewer more : Given) (finds : Finds q x fewer more) (o : Option Step) (way : Way) →
    find q (inward_step fewer o way) ≡ Some x → find q (inward_step more o way) ≡ Some x
step_more q x fewer more finds None way e = e
step_more q x fewer more finds (Some last) way e = inward_more q x fewer more finds last.part (last ∷ way) e

none_found : {x : Way} {A : Type 0} → None ≡ Some x → A
none_found e = cc

struct_more : (q : Way → Bool) (x : Way) (structs : List Structure) (depth : ℕ) → Finds q x (inward_struct depth structs) (inward_struct (suc depth) structs)
struct_more q x structs zero whole id way e = none_found e
struct_more q x structs (suc depth) whole id way e =
    step_more q x (inward_struct depth structs) (inward_struct (suc depth) structs) (struct_more q x structs depth) (step structs whole 0) way e

-- ---- from a subobject, and from where its list begins

abbrev FoundFrom : (q : Way → Bool) → (x way : Way) → Given → CType → Way → Type 0
FoundFrom q x way given object v = find q (inward given (reached object (v ++ way)) (v ++ way)) ≡ Some x

pub some_same : {A : Type 0} {x y : A} → Some x ≡ Some y → x ≡ y
some_same e = cc

from_step : (q : Way → Bool) (x way v : Way) (structs : List Structure) (depth : ℕ) (object : CType) (o : Option Step) →
    option_map (λ l. l ∷ []) o ≡ Some v → find q (inward_step (inward_struct depth structs) o way) ≡ Some x →
    FoundFrom q x way (inward_struct (suc depth) structs) object v
from_step q x way v structs depth object None begins e = none_found begins
from_step q x way v structs depth object (Some l) begins e =
    subst (FoundFrom q x way (inward_struct (suc depth) structs) object) (some_same begins)
    (inward_more q x (inward_struct depth structs) (inward_struct (suc depth) structs) (struct_more q x structs depth) l.part (l ∷ way) e)

from_struct : (q : Way → Bool) (x way v : Way) (structs : List Structure) (count : ℕ) (object whole : CType) (id : StructId) →
    option_map (λ l. l ∷ []) (step structs whole 0) ≡ Some v → find q (inward_struct count structs whole id way) ≡ Some x →
    FoundFrom q x way (inward_struct count structs) object v
from_struct q x way v structs zero object whole id begins e = none_found e
from_struct q x way v structs (suc depth) object whole id begins e = from_step q x way v structs depth object (step structs whole 0) begins e

from_element : (q : Way → Bool) (x way v : Way) (given : Given) (object whole type : CType) (b : Bool) →
    option_map (λ l. l ∷ []) (option_map (λ part. record { whole = whole; rank = 0; part = part }) (if b then Some type else None)) ≡ Some v →
    find q (inward given type (record { whole = whole; rank = 0; part = type } ∷ way)) ≡ Some x →
    FoundFrom q x way given object v
from_element q x way v given object whole type false begins e = none_found begins
from_element q x way v given object whole type true begins e = subst (FoundFrom q x way given object) (some_same begins) e

from_form : (q : Way → Bool) (x way v : Way) (structs : List Structure) (count : ℕ) (object : CType) (form : Form) (quals : Quals) →
    start structs (typed form quals) ≡ Some v → find q (inward_form (inward_struct count structs) (typed form quals) form way) ≡ Some x →
    FoundFrom q x way (inward_struct count structs) object v
from_form q x way v structs count object Void quals begins e = none_found e
from_form q x way v structs count object (Integer basic) quals begins e = none_found e
from_form q x way v structs count object (Enum basic order) quals begins e = none_found e
from_form q x way v structs count object (Pointer type) quals begins e = none_found e
from_form q x way v structs count object (Array type None) quals begins e =
    from_element q x way v (inward_struct count structs) object (typed (Array type None) quals) type true begins e
from_form q x way v structs count object (Array type (Some length)) quals begins e =
    from_element q x way v (inward_struct count structs) object (typed (Array type (Some length)) quals) type (nat_lt 0 length) begins e
from_form q x way v structs count object (Struct id) quals begins e = from_struct q x way v structs count object (typed (Struct id) quals) id begins e
from_form q x way v structs count object (Function result parameters variadic) quals begins e = none_found e

skipped : (b : Bool) (w x : Way) (o : Option Way) → b ≡ false → cond b (Some w) o ≡ Some x → o ≡ Some x
skipped false w x o not_here e = e
skipped true w x o not_here e = cc

from_type : (q : Way → Bool) (x way v : Way) (structs : List Structure) (count : ℕ) (object type : CType) → q way ≡ false →
    start structs type ≡ Some v → find q (inward (inward_struct count structs) type way) ≡ Some x → FoundFrom q x way (inward_struct count structs) object v
from_type q x way v structs count object (typed form quals) not_here begins e =
    from_form q x way v structs count object form quals begins
    (skipped (q way) way x (find q (inward_form (inward_struct count structs) (typed form quals) form way)) not_here e)

-- what isn't for the whole of a subobject is for the same part, from where a list in it begins
pub taker_from_start : (structs : List Structure) (bare : Bare) (object : CType) (way v x : Way) →
    takes bare (form_of_type (reached object way)) ≡ false → start structs (reached object way) ≡ Some v →
    taker structs bare object way ≡ Some x → taker structs bare object (v ++ way) ≡ Some x
taker_from_start structs bare object way v x not_here begins e =
    from_type (λ w. takes bare (form_of_type (reached object w))) x way v structs (complete_count structs) object (reached object way) not_here begins e
