-- How a replacement list is read (ISO/IEC 9899:2024, 6.10.5.2 to 6.10.5.4).
use Rattle.std.specs.Prelude.{ℕ, suc, ◌+◌, ◌-◌, Bool, true, false, ◌&&◌, ◌||◌, not, ◌==◌, if◌then◌else◌, List, [], ◌∷◌, length, Option, Some, None, is_some, codes}
use Rattle.model_macros.specs.declared.macros.Role.{Role}
use Rattle.model_macros.specs.declared.macros.Role.TheVariants.{Plain, Paste, Replaced, Written, Quoted, Operand, Optional, QuotedOptional, OptionalOperand, Open, Close, File, Line}
use Rattle.model_tokens.specs.PpTokens.{PpToken}
use Rattle.model_macros.specs.Macros.{Piece, spells}
use Rattle.model_types.specs.Texts.{same_text}

-- what a replacement list is read by: whether its macro is like a function, its parameters, and
-- whether it takes variable arguments
pub record Signature : Type 0 where
  pub function : Bool
  pub names : List (List ℕ)
  pub variadic : Bool

abbrev pub VA_ARGS : List ℕ
VA_ARGS = codes "__VA_ARGS__"

abbrev pub VA_OPT : List ℕ
VA_OPT = codes "__VA_OPT__"

abbrev pub HASH : List ℕ
HASH = codes "#"

abbrev pub HASHES : List ℕ
HASHES = codes "##"

abbrev pub LEFT : List ℕ
LEFT = codes "("

abbrev pub RIGHT : List ℕ
RIGHT = codes ")"

abbrev pub one_more : Option ℕ → Option ℕ
one_more None = None
one_more (Some k) = Some (suc k)

-- the rank of a name in a list of names
abbrev pub rank : List ℕ → List (List ℕ) → Option ℕ
rank name [] = None
rank name (n ∷ ns) = if same_text name n then Some 0 else one_more (rank name ns)

-- the rank of the argument that a token stands for, if it is a parameter
abbrev pub variable : Signature → PpToken → Option ℕ
variable s t = if s.variadic && spells VA_ARGS t then Some (length s.names) else None

abbrev pub or_else : Option ℕ → Option ℕ → Option ℕ
or_else None other = other
or_else (Some k) other = Some k

abbrev pub parameter : Signature → PpToken → Option ℕ
parameter s t = or_else (rank t.spelling s.names) (variable s t)

-- whether a token begins `__VA_OPT__ ( .. )`
abbrev pub is_optional : Signature → PpToken → Bool
is_optional s t = s.variadic && spells VA_OPT t

-- whether a `#` may stand before the token
abbrev pub quotable : Signature → Option PpToken → Bool
quotable s None = false
quotable s (Some t) = is_some (parameter s t) || is_optional s t

abbrev pub first_spells : List ℕ → Option PpToken → Bool
first_spells text None = false
first_spells text (Some t) = spells text t

abbrev pub next_of : List PpToken → Option PpToken
next_of [] = None
next_of (t ∷ ts) = Some t

-- where the reading stands: the part of the token before, and how many parentheses are open since
-- `__VA_OPT__`
pub record Reading : Type 0 where
  pub last : Role
  pub depth : ℕ

abbrev pub beginning : Reading
beginning = record { last = Plain; depth = 0 }

abbrev pub quoted_role : Option ℕ → Role
quoted_role None = QuotedOptional
quoted_role (Some k) = Quoted k

abbrev pub quote_role : Signature → Option PpToken → Role
quote_role s None = Plain
quote_role s (Some t) = quoted_role (parameter s t)

abbrev pub argument_role : Bool → ℕ → Role
argument_role beside k = if beside then Written k else Replaced k

-- the part of a token that is no operator
abbrev pub operand_role : Signature → Bool → PpToken → Option ℕ → Role
operand_role s beside t (Some k) = argument_role beside k
operand_role s beside t None = if is_optional s t then Optional else Plain

-- the part of a token that no operator before it takes; `glued` where a `##` stands before it
abbrev pub free_role : Signature → Bool → ℕ → PpToken → Option PpToken → Role
free_role s glued depth t next =
    if s.function && spells HASH t && quotable s next then quote_role s next
    else if spells HASHES t && not glued then Paste
    else if spells RIGHT t && depth == 1 then Close
    else operand_role s (glued || first_spells HASHES next) t (parameter s t)

-- the part of a token, by the part of the one before it
abbrev pub role_after : Signature → Role → ℕ → PpToken → Option PpToken → Role
role_after s Plain depth t next = free_role s false depth t next
role_after s Paste depth t next = free_role s true depth t next
role_after s (Replaced k) depth t next = free_role s false depth t next
role_after s (Written k) depth t next = free_role s false depth t next
role_after s (Quoted k) depth t next = Operand
role_after s Operand depth t next = free_role s false depth t next
role_after s Optional depth t next = Open
role_after s QuotedOptional depth t next = OptionalOperand
role_after s OptionalOperand depth t next = Open
role_after s Open depth t next = free_role s false depth t next
role_after s Close depth t next = free_role s false depth t next
role_after s File depth t next = free_role s false depth t next
role_after s Line depth t next = free_role s false depth t next

abbrev pub deeper : ℕ → PpToken → ℕ
deeper depth t = if spells LEFT t then depth + 1 else (if spells RIGHT t then depth - 1 else depth)

abbrev pub depth_of : ℕ → PpToken → ℕ
depth_of depth t = if depth == 0 then 0 else deeper depth t

abbrev pub depth_after : Role → ℕ → PpToken → ℕ
depth_after Open depth t = depth + 1
depth_after Plain depth t = depth_of depth t
depth_after Paste depth t = depth
depth_after (Replaced k) depth t = depth
depth_after (Written k) depth t = depth
depth_after (Quoted k) depth t = depth
depth_after Operand depth t = depth
depth_after Optional depth t = depth
depth_after QuotedOptional depth t = depth
depth_after OptionalOperand depth t = depth
depth_after Close depth t = 0
depth_after File depth t = depth
depth_after Line depth t = depth

abbrev pub is_open : Role → Bool
is_open Open = true
is_open Plain = false
is_open Paste = false
is_open (Replaced k) = false
is_open (Written k) = false
is_open (Quoted k) = false
is_open Operand = false
is_open Optional = false
is_open QuotedOptional = false
is_open OptionalOperand = false
is_open Close = false
is_open File = false
is_open Line = false

abbrev pub is_close : Role → Bool
is_close Close = true
is_close Plain = false
is_close Paste = false
is_close (Replaced k) = false
is_close (Written k) = false
is_close (Quoted k) = false
is_close Operand = false
is_close Optional = false
is_close QuotedOptional = false
is_close OptionalOperand = false
is_close Open = false
is_close File = false
is_close Line = false

-- the tokens with their parts
abbrev pub pieces_from : Signature → Role → ℕ → List PpToken → List Piece
pieces_from s last depth [] = []
pieces_from s last depth (t ∷ ts) =
    let role : Role = role_after s last depth t (next_of ts) in
    record { tok = t; role = role } ∷ pieces_from s role (depth_after role depth t) ts

abbrev pub pieces : Signature → List PpToken → List Piece
pieces s body = pieces_from s Plain 0 body
