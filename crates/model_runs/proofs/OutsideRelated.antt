-- Calls of outside functions don't look at turns.
use Rattle.std.proofs.Common.{ℕ, suc, ℤ, pos, Bool, List, [], ◌∷◌, Option, Some, None, if◌then◌else◌, refl, inl, arith}
use Rattle.std.specs.Prelude.{codes}
use Rattle.std.specs.Ordering.{int_eq}
use Rattle.std.specs.Str.{bytes_eq}
use Rattle.cake_base.specs.declared.places.Place.{Place}
use Rattle.model_runs.specs.Memory.{Block, Global, Local, Heap, Handle, HandleOf, Outside, Given, Scalar, Number, Null, Address, Code, Value, Missing, Single, StructureValue, Contents, contents_of}
use Rattle.model_runs.specs.Accesses.{release_at}
use Rattle.model_runs.specs.Outside.{Passed, Answering, NoAnswer, IntegerAnswer, HandleAnswer, OtherAnswer, Handed, Shown, TextAt, Refused, all_handed, text_of, text_at, block_size, shown, all_shown, released_value, owners_released, nothing, take_answer, new_handle, integer_result, result_of, null_value, note, answered, with_handed, call_outside}
use Rattle.model_runs.specs.Allocation.{new_block, allocated, noted_free, freed, call_builtin}
use Rattle.model_runs.specs.Run.{Argument, ◌▷◌, just, StringAt}
use Rattle.model_runs.proofs.Related.{Rel, then_related, just_related, ends_related, unless_undefined_related, if_related, release_related}
use Rattle.model_core.specs.BuiltinTypes.{Builtin, Malloc, Calloc, Free, Exit, Abort}

module _ (j d : ℕ) where
  text_related : (place : Option Place) (block : Block) (offset : ℤ) → Rel j d (text_of place block offset) (text_of place block offset)
  text_related place block offset = record { at = λ s le. (unless_undefined_related j d place (text_at (suc (block_size (contents_of s.memory block))) s.memory block offset)).at s le }

  shown_related : (place : Option Place) (handed : Handed) → Rel j d (shown place handed) (shown place handed)
  shown_related place (Shown argument) = just_related j d argument
  shown_related place Refused = ends_related j d _
  shown_related place (TextAt block offset) =
      then_related j d (text_of place block offset) (text_of place block offset) (λ bytes. just (StringAt bytes)) (λ bytes. just (StringAt bytes)) (text_related place block offset) (λ bytes. just_related j d (StringAt bytes))

  all_shown_related : (place : Option Place) (handed : List Handed) → Rel j d (all_shown place handed) (all_shown place handed)
  all_shown_related place [] = just_related j d []
  all_shown_related place (first ∷ others) =
      then_related j d (shown place first) (shown place first) _ _ (shown_related place first)
      (λ argument. then_related j d (all_shown place others) (all_shown place others) _ _ (all_shown_related place others) (λ arguments. just_related j d (argument ∷ arguments)))

  value_released : (place : Option Place) (v : Value) → Rel j d (released_value place v) (released_value place v)
  value_released place Missing = just_related j d tt
  value_released place (Single scalar) = release_related j d place scalar
  value_released place (StructureValue cells) = just_related j d tt

  owners_related : (place : Option Place) (passed : List Passed) → Rel j d (owners_released place passed) (owners_released place passed)
  owners_related place [] = just_related j d tt
  owners_related place (p ∷ ps) =
      then_related j d (if p.is_owner then released_value place p.value else nothing) (if p.is_owner then released_value place p.value else nothing) _ _
      (if_related j d p.is_owner _ _ _ _ (value_released place p.value) (just_related j d tt))
      (λ u. owners_related place ps)

  answer_related : Rel j d take_answer take_answer
  answer_related = record { at = λ s le. inl (refl, omega arith) }

  handle_related : (owned : Bool) → Rel j d (new_handle owned) (new_handle owned)
  handle_related owned = record { at = λ s le. inl (refl, omega arith) }

  note_related : (name : List ℕ) (arguments : List Argument) (answer : Option ℤ) → Rel j d (note name arguments answer) (note name arguments answer)
  note_related name arguments answer = record { at = λ s le. inl (refl, omega arith) }

  result_related : (answering : Answering) (answer : ℤ) → Rel j d (result_of answering answer) (result_of answering answer)
  result_related NoAnswer answer = just_related j d Missing
  result_related (IntegerAnswer basic) answer = just_related j d (integer_result basic answer)
  result_related (HandleAnswer owned) answer = if_related j d (int_eq answer (pos 0)) _ _ _ _ (just_related j d null_value) (handle_related owned)
  result_related OtherAnswer answer = ends_related j d _

  taken_related : (name : List ℕ) (arguments : List Argument) (answering : Answering) → Rel j d (take_answer ▷ (λ answer. result_of answering answer ▷ (λ value. note name arguments (Some answer) ▷ (λ u. just value)))) (take_answer ▷ (λ answer. result_of answering answer ▷ (λ value. note name arguments (Some answer) ▷ (λ u. just value))))
  taken_related name arguments answering =
      then_related j d take_answer take_answer _ _ answer_related
      (λ answer. then_related j d (result_of answering answer) (result_of answering answer) _ _ (result_related answering answer)
      (λ v. then_related j d (note name arguments (Some answer)) (note name arguments (Some answer)) _ _ (note_related name arguments (Some answer)) (λ u. just_related j d v)))

  answered_related : (name : List ℕ) (arguments : List Argument) (answering : Answering) → Rel j d (answered name arguments answering) (answered name arguments answering)
  answered_related name arguments NoAnswer =
      then_related j d (note name arguments None) (note name arguments None) _ _ (note_related name arguments None) (λ u. just_related j d Missing)
  answered_related name arguments (IntegerAnswer basic) = taken_related name arguments (IntegerAnswer basic)
  answered_related name arguments (HandleAnswer owned) = taken_related name arguments (HandleAnswer owned)
  answered_related name arguments OtherAnswer = taken_related name arguments OtherAnswer

  handed_related : (place : Option Place) (name : List ℕ) (passed : List Passed) (answering : Answering) (handed : List Handed) → Rel j d (all_shown place handed ▷ (λ arguments. owners_released place passed ▷ (λ u. answered name arguments answering))) (all_shown place handed ▷ (λ arguments. owners_released place passed ▷ (λ u. answered name arguments answering)))
  handed_related place name passed answering handed =
      then_related j d (all_shown place handed) (all_shown place handed) _ _ (all_shown_related place handed)
      (λ arguments. then_related j d (owners_released place passed) (owners_released place passed) _ _ (owners_related place passed) (λ u. answered_related name arguments answering))

  with_related : (place : Option Place) (name : List ℕ) (passed : List Passed) (answering : Answering) (handed : Option (List Handed)) → Rel j d (with_handed place name passed answering handed) (with_handed place name passed answering handed)
  with_related place name passed OtherAnswer handed = ends_related j d _
  with_related place name passed NoAnswer None = ends_related j d _
  with_related place name passed (IntegerAnswer basic) None = ends_related j d _
  with_related place name passed (HandleAnswer owned) None = ends_related j d _
  with_related place name passed NoAnswer (Some handed) = handed_related place name passed NoAnswer handed
  with_related place name passed (IntegerAnswer basic) (Some handed) = handed_related place name passed (IntegerAnswer basic) handed
  with_related place name passed (HandleAnswer owned) (Some handed) = handed_related place name passed (HandleAnswer owned) handed

  pub outside_related : (place : Option Place) (name : List ℕ) (passed : List Passed) (answering : Answering) → Rel j d (call_outside place name passed answering) (call_outside place name passed answering)
  outside_related place name passed answering =
      if_related j d (bytes_eq name (codes "realloc")) _ _ _ _ (ends_related j d _) (with_related place name passed answering (all_handed passed))

  block_related : (contents : Contents) → Rel j d (new_block contents) (new_block contents)
  block_related contents = record { at = λ s le. inl (refl, omega arith) }

  allocated_related : (contents : Contents) → Rel j d (allocated contents) (allocated contents)
  allocated_related contents =
      then_related j d take_answer take_answer _ _ answer_related (λ answer. if_related j d (int_eq answer (pos 0)) _ _ _ _ (just_related j d (Single Null)) (block_related contents))

  free_related : (number : ℕ) → Rel j d (noted_free number) (noted_free number)
  free_related number = record { at = λ s le. inl (refl, omega arith) }

  freed_related : (place : Option Place) (scalar : Scalar) → Rel j d (freed place scalar) (freed place scalar)
  freed_related place Null = just_related j d Missing
  freed_related place (Address (Heap number) offset) =
      then_related j d (release_at place (Address (Heap number) offset)) (release_at place (Address (Heap number) offset)) _ _ (release_related j d place (Address (Heap number) offset)) (λ u. free_related number)
  freed_related place (Address (Global id) offset) = ends_related j d _
  freed_related place (Address (Local call id) offset) = ends_related j d _
  freed_related place (Address (Handle n) offset) = ends_related j d _
  freed_related place (Address (HandleOf name) offset) = ends_related j d _
  freed_related place (Address (Outside name) offset) = ends_related j d _
  freed_related place (Address (Given n) offset) = ends_related j d _
  freed_related place (Number value) = ends_related j d _
  freed_related place (Code function) = ends_related j d _

  pub builtin_related : (place : Option Place) (b : Builtin) (vs : List Value) → Rel j d (call_builtin place b vs) (call_builtin place b vs)
  builtin_related place Malloc (Single (Number size) ∷ []) = allocated_related _
  builtin_related place Calloc (Single (Number count) ∷ Single (Number size) ∷ []) = allocated_related _
  builtin_related place Free (Single pointer ∷ []) = freed_related place pointer
  builtin_related place Exit (Single (Number status) ∷ []) = ends_related j d _
  builtin_related place Abort [] = ends_related j d _
  builtin_related place b vs = ends_related j d _
