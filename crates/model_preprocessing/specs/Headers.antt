-- The built-in headers (ISO/IEC 9899:2024, 7.1.2): their texts, by their names. Each text stands once, as a
-- constant that the code reads too.
use Rattle.std.specs.Prelude.{ℕ, List, Option, Some, None, if◌then◌else◌, codes}
use Rattle.model_preprocessing.specs.declared.headers.TheConstants.{STDDEF, STDBOOL, STDINT, LIMITS, STDLIB, STDIO, STRING, CTYPE, ASSERT}
use Rattle.model_types.specs.Texts.{same_text}

-- the text of the built-in header of a name
unfoldable pub built_in_text : List ℕ → Option (List ℕ)
built_in_text name =
    if same_text name (codes "stddef.h") then Some STDDEF.now
    else if same_text name (codes "stdbool.h") then Some STDBOOL.now
    else if same_text name (codes "stdint.h") then Some STDINT.now
    else if same_text name (codes "limits.h") then Some LIMITS.now
    else if same_text name (codes "stdlib.h") then Some STDLIB.now
    else if same_text name (codes "stdio.h") then Some STDIO.now
    else if same_text name (codes "string.h") then Some STRING.now
    else if same_text name (codes "ctype.h") then Some CTYPE.now
    else if same_text name (codes "assert.h") then Some ASSERT.now else None
