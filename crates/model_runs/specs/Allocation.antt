-- The five functions of <stdlib.h> that runs know (ISO/IEC 9899:2024, 7.24.3, 7.24.4): none makes an event.
use Rattle.std.specs.Prelude.{ℕ, suc, ◌*◌, pos, true, List, [], ◌∷◌, ◌++◌, Option, if◌then◌else◌, unsigned_abs}
use Rattle.std.specs.Ordering.{int_eq}
use Rattle.cake_base.specs.declared.places.Place.{Place}
use Rattle.model_types.specs.declared.outcomes.Cause.TheVariants.{BadCall, BadRelease}
use Rattle.model_runs.specs.Memory.{Heap, Scalar, Number, Null, Address, Value, Missing, Single, Contents, fresh, zeroed, with_block}
use Rattle.model_runs.specs.Accesses.{release_at}
use Rattle.model_runs.specs.Outside.{take_answer}
use Rattle.model_runs.specs.Run.{Took, Freed, Goes, Exited, Aborted, Undefined, Act, ◌▷◌, just, ends}
use Rattle.model_core.specs.BuiltinTypes.{Builtin, Malloc, Calloc, Free, Exit, Abort}

-- a new heap block
abbrev pub new_block : Contents → Act Value
new_block contents = λ s. Goes (Single (Address (Heap s.heaps) (pos 0))) (record s {
  memory = with_block s.memory (Heap s.heaps) contents;
  heaps = suc s.heaps;
  moves = s.moves ++ Took s.heaps contents.size ∷ [];
})

-- a block where the world has memory, else null
abbrev pub allocated : Contents → Act Value
allocated contents = take_answer ▷ (λ answer. if int_eq answer (pos 0) then just (Single Null) else new_block contents)

abbrev pub owned : Contents → Contents
owned contents = record contents { owned = true }

abbrev pub noted_free : (number : ℕ) → Act Value
noted_free number = λ s. Goes Missing (record s { moves = s.moves ++ Freed number ∷ [] })

-- null, or the start of a heap block that is not released
abbrev pub freed : Option Place → Scalar → Act Value
freed place Null = just Missing
freed place (Address (Heap number) offset) = release_at place (Address (Heap number) offset) ▷ (λ u. noted_free number)
freed place _ = ends (Undefined BadRelease place)

-- a call of one of them; the size of `calloc` is the whole product
abbrev pub call_builtin : Option Place → Builtin → List Value → Act Value
call_builtin place Malloc (Single (Number size) ∷ []) = allocated (owned (fresh (unsigned_abs size)))
call_builtin place Calloc (Single (Number count) ∷ Single (Number size) ∷ []) = allocated (owned (zeroed (unsigned_abs count * unsigned_abs size)))
call_builtin place Free (Single pointer ∷ []) = freed place pointer
call_builtin place Exit (Single (Number status) ∷ []) = ends (Exited status)
call_builtin place Abort [] = ends Aborted
call_builtin place _ _ = ends (Undefined BadCall place)
