-- Where a list of specifiers stands, and the words of storage that it may have there (ISO/IEC 9899:2024, 6.7.2, 6.7.7.4,
-- 6.8.5, 6.8.6.4, 6.9.1).
use Rattle.std.specs.Prelude.{Bool, true, false}
use Rattle.model_grammar.specs.declared.syntax.StorageWord.{StorageWord}
use Rattle.model_grammar.specs.declared.syntax.StorageWord.TheVariants as word

-- in a declaration at file scope, in a block, or in the head of a `for` or an `if`; in the definition of a function, in a
-- parameter or a member, or in a type name
pub data Context : Type 0 where
  at_file : Context
  in_block : Context
  in_for : Context
  in_if : Context
  of_definition : Context
  of_parameter : Context
  of_member : Context
  of_type_name : Context

-- what is declared has file scope
abbrev pub is_outermost : Context → Bool
is_outermost at_file = true
is_outermost in_block = false
is_outermost in_for = false
is_outermost in_if = false
is_outermost of_definition = true
is_outermost of_parameter = false
is_outermost of_member = false
is_outermost of_type_name = false

-- what is declared has the scope of a block
abbrev pub is_inner : Context → Bool
is_inner at_file = false
is_inner in_block = true
is_inner in_for = true
is_inner in_if = true
is_inner of_definition = false
is_inner of_parameter = false
is_inner of_member = false
is_inner of_type_name = false

-- `register` is none at file scope, and `auto` only where the type is to be inferred
abbrev pub is_file_word : (infers : Bool) → StorageWord → Bool
is_file_word infers word.Register = false
is_file_word infers word.Auto = infers
is_file_word infers word.Typedef = true
is_file_word infers word.Extern = true
is_file_word infers word.Static = true
is_file_word infers word.Constexpr = true

-- the head of a `for` or an `if` declares objects of its own
abbrev pub is_head_word : StorageWord → Bool
is_head_word word.Typedef = false
is_head_word word.Extern = false
is_head_word word.Static = false
is_head_word word.Auto = true
is_head_word word.Register = true
is_head_word word.Constexpr = true

abbrev pub is_register : StorageWord → Bool
is_register word.Register = true
is_register word.Typedef = false
is_register word.Extern = false
is_register word.Static = false
is_register word.Auto = false
is_register word.Constexpr = false

-- a list may have this word of storage where it stands; `infers` says that it has no type specifier
abbrev pub takes_word : Context → (infers : Bool) → StorageWord → Bool
takes_word at_file infers word = is_file_word infers word
takes_word in_block infers word = true
takes_word in_for infers word = is_head_word word
takes_word in_if infers word = is_head_word word
takes_word of_definition infers word = is_file_word infers word
takes_word of_parameter infers word = is_register word
takes_word of_member infers word = false
takes_word of_type_name infers word = false
