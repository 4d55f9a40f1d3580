-- Operations on pointers (ISO/IEC 9899:2024, 6.5.7, 6.5.9, 6.5.10): sums, differences, order and equality.
use Rattle.std.specs.Prelude.{ℕ, ℤ, pos, ◌+ℤ◌, ◌-ℤ◌, ◌*ℤ◌, int_div, int_lt, int_le, Bool, true, false, ◌&&◌, not, Result, Ok, Err, if◌then◌else◌}
use Rattle.std.specs.Ordering.{int_eq}
use Rattle.model_types.specs.declared.numbers.BinOp.{BinOp}
use Rattle.model_types.specs.declared.numbers.BinOp.TheVariants.{Add, Sub, Less, Greater, LessEqual, GreaterEqual, Equal, NotEqual}
use Rattle.model_types.specs.declared.outcomes.Cause.{Cause}
use Rattle.model_types.specs.declared.outcomes.Cause.TheVariants.{Null as NullCause, Apart, Kind, Overflow}
use Rattle.model_types.specs.Operations.{truth, fits}
use Rattle.model_types.specs.declared.numbers.Basic.TheVariants.{Long}
use Rattle.model_runs.specs.Memory.{Scalar, Number, Null, Address, Code, same_block, same_identity}

-- equal pointers: both null, to one byte, or to one function
abbrev pub same_pointer : Scalar → Scalar → Bool
same_pointer Null Null = true
same_pointer (Address b m) (Address c n) = same_block b c && int_eq m n
same_pointer (Code f) (Code g) = same_identity f g
same_pointer _ _ = false

-- a pointer moved by so many elements of a size; there is no sum with null
abbrev pub moved : (element : ℕ) → Scalar → (count : ℤ) → Result Scalar Cause
moved element (Address block offset) count = Ok (Address block (offset +ℤ count *ℤ pos element))
moved element Null count = Err NullCause
moved element _ count = Err Kind

-- a difference has to be a `long` (6.5.7, paragraph 10)
abbrev pub difference : ℤ → Result Scalar Cause
difference count = if fits Long count then Ok (Number count) else Err Overflow

-- how many elements lie between two pointers into one block
abbrev pub distance : (element : ℕ) → Scalar → Scalar → Result Scalar Cause
distance element (Address b m) (Address c n) = if same_block b c then difference (int_div (m -ℤ n) (pos element)) else Err Apart
distance element Null right = Err NullCause
distance element left Null = Err NullCause
distance element _ _ = Err Kind

-- an order of two pointers: into one block, by their offsets; null is equal to null
abbrev pub ordered : (ℤ → ℤ → Bool) → Scalar → Scalar → Result Scalar Cause
ordered test Null Null = Ok (Number (truth (test (pos 0) (pos 0))))
ordered test (Address b m) (Address c n) = if same_block b c then Ok (Number (truth (test m n))) else Err Apart
ordered test (Code f) (Code g) = if same_identity f g then Ok (Number (truth (test (pos 0) (pos 0)))) else Err Apart
ordered test _ _ = Err Apart

-- a binary operator on two pointers
abbrev pub on_pointers : BinOp → (element : ℕ) → Scalar → Scalar → Result Scalar Cause
on_pointers Equal element left right = Ok (Number (truth (same_pointer left right)))
on_pointers NotEqual element left right = Ok (Number (truth (not (same_pointer left right))))
on_pointers Less element left right = ordered int_lt left right
on_pointers LessEqual element left right = ordered int_le left right
on_pointers Greater element left right = ordered (λ m n. int_lt n m) left right
on_pointers GreaterEqual element left right = ordered (λ m n. int_le n m) left right
on_pointers Sub element left right = distance element left right
on_pointers _ element left right = Err Kind

-- a pointer and an integer
abbrev pub on_pointer : BinOp → (element : ℕ) → Scalar → (count : ℤ) → Result Scalar Cause
on_pointer Add element pointer count = moved element pointer count
on_pointer Sub element pointer count = moved element pointer (pos 0 -ℤ count)
on_pointer _ element pointer count = Err Kind
