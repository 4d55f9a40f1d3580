-- The declaration to which a name is bound (ISO/IEC 9899:2024, 6.2.1, 6.2.3), and the linkage that it
-- gives to a later one (6.2.2).
use Rattle.std.specs.Prelude.{ℕ, Bool, true, false, nat_lt, if◌then◌else◌, List, [], ◌∷◌, Option, Some, None}
use Rattle.model_scopes.specs.declared.declarations.Linkage.{Linkage}
use Rattle.model_scopes.specs.declared.declarations.Linkage.TheVariants.{Absent, Internal, External}
use Rattle.model_scopes.specs.Declarations.{linkage_of}
use Rattle.model_scopes.specs.Scopes.{Declared, Level, Scopes, with_id}
use Rattle.model_types.specs.Texts.{same_text}

-- the id of a name
abbrev pub bound : List ℕ → List (List ℕ × ℕ) → Option ℕ
bound name [] = None
bound name (b ∷ bs) = if same_text name b.0 then Some b.1 else bound name bs

-- a name space of a scope: that of the tags, or that of the other names
abbrev pub name_space : (tag : Bool) → Level → List (List ℕ × ℕ)
name_space true l = l.tags
name_space false l = l.names

abbrev pub bound_in : (tag : Bool) → List ℕ → Level → Option ℕ
bound_in tag name l = bound name (name_space tag l)

abbrev pub or_else : Option ℕ → Option ℕ → Option ℕ
or_else (Some id) other = Some id
or_else None other = other

-- the innermost of these scopes that declares the name binds it
abbrev pub bound_among : (tag : Bool) → List ℕ → List Level → Option ℕ
bound_among tag name [] = None
bound_among tag name (l ∷ ls) = or_else (bound_in tag name l) (bound_among tag name ls)

-- the id of the innermost declaration of a name
abbrev pub look : (tag : Bool) → List ℕ → Scopes → Option ℕ
look tag name s = bound_among tag name (s.innermost ∷ s.around)

-- the same, in the innermost scope alone
abbrev pub here : (tag : Bool) → List ℕ → Scopes → Option ℕ
here tag name s = bound_in tag name s.innermost

-- what an id, if there is one, is declared as
abbrev pub declared_as : Option ℕ → Scopes → Option Declared
declared_as None s = None
declared_as (Some id) s = with_id id s.declared

-- ---- linkage of a declaration with `extern`, or of a function without storage word (6.2.2)

abbrev pub or_external : Linkage → Linkage
or_external Absent = External
or_external Internal = Internal
or_external External = External

abbrev pub linkage_after : Option Declared → Linkage
linkage_after None = External
linkage_after (Some earlier) = or_external (linkage_of earlier.latest)

-- that of the earlier declaration that is visible, where it has one; else external
abbrev pub extern_linkage : List ℕ → Scopes → Linkage
extern_linkage name s = linkage_after (declared_as (look false name s) s)

-- ---- function literals

abbrev pub innermost_literal : List Level → Option ℕ
innermost_literal [] = None
innermost_literal (l ∷ ls) = if l.literal then Some l.number else innermost_literal ls

abbrev pub is_outside : Option ℕ → Option Declared → Bool
is_outside None d = false
is_outside (Some number) None = false
is_outside (Some number) (Some d) = nat_lt d.scope number

-- whether a function literal is entered, and the latest declaration of the id stands outside the
-- innermost one; scopes are numbered as they are entered
abbrev pub is_surrounding : (id : ℕ) → Scopes → Bool
is_surrounding id s = is_outside (innermost_literal (s.innermost ∷ s.around)) (with_id id s.declared)
