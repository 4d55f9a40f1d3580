-- The built-in headers, one by one.
use Rattle.std.proofs.Common.{◌≡◌, ℕ, ◌<◌, true, false, List, length, Option, Some, None, refl, ap, sym, ◌∙◌, subst, codes, MatchOption}
use lib.Pointwise.{bytes_decides}
use Rattle.model_preprocessing.specs.declared.headers.TheConstants.{STDDEF, STDBOOL, STDINT, LIMITS, STDLIB, STDIO, STRING, CTYPE, ASSERT}
use Rattle.model_preprocessing.specs.Headers.{built_in_text}
use Rattle.model_preprocessing.specs.FileSearch.{shown}
use Rattle.model_types.specs.Texts.{same_text}

pub is-stddef : (name : List ℕ) → same_text name (codes "stddef.h") ≡ true → built_in_text name ≡ Some STDDEF.now
unfolding built_in_text
is-stddef name h0 = rw (h0) refl

pub is-stdbool : (name : List ℕ) → same_text name (codes "stddef.h") ≡ false → same_text name (codes "stdbool.h") ≡ true → built_in_text name ≡ Some STDBOOL.now
unfolding built_in_text
is-stdbool name h0 h1 = rw (h0, h1) refl

pub is-stdint : (name : List ℕ) → same_text name (codes "stddef.h") ≡ false → same_text name (codes "stdbool.h") ≡ false → same_text name (codes "stdint.h") ≡ true → built_in_text name ≡ Some STDINT.now
unfolding built_in_text
is-stdint name h0 h1 h2 = rw (h0, h1, h2) refl

pub is-limits : (name : List ℕ) → same_text name (codes "stddef.h") ≡ false → same_text name (codes "stdbool.h") ≡ false → same_text name (codes "stdint.h") ≡ false → same_text name (codes "limits.h") ≡ true → built_in_text name ≡ Some LIMITS.now
unfolding built_in_text
is-limits name h0 h1 h2 h3 = rw (h0, h1, h2, h3) refl

pub is-stdlib : (name : List ℕ) → same_text name (codes "stddef.h") ≡ false → same_text name (codes "stdbool.h") ≡ false → same_text name (codes "stdint.h") ≡ false → same_text name (codes "limits.h") ≡ false → same_text name (codes "stdlib.h") ≡ true → built_in_text name ≡ Some STDLIB.now
unfolding built_in_text
is-stdlib name h0 h1 h2 h3 h4 = rw (h0, h1, h2, h3, h4) refl

pub is-stdio : (name : List ℕ) → same_text name (codes "stddef.h") ≡ false → same_text name (codes "stdbool.h") ≡ false → same_text name (codes "stdint.h") ≡ false → same_text name (codes "limits.h") ≡ false → same_text name (codes "stdlib.h") ≡ false → same_text name (codes "stdio.h") ≡ true → built_in_text name ≡ Some STDIO.now
unfolding built_in_text
is-stdio name h0 h1 h2 h3 h4 h5 = rw (h0, h1, h2, h3, h4, h5) refl

pub is-string : (name : List ℕ) → same_text name (codes "stddef.h") ≡ false → same_text name (codes "stdbool.h") ≡ false → same_text name (codes "stdint.h") ≡ false → same_text name (codes "limits.h") ≡ false → same_text name (codes "stdlib.h") ≡ false → same_text name (codes "stdio.h") ≡ false → same_text name (codes "string.h") ≡ true → built_in_text name ≡ Some STRING.now
unfolding built_in_text
is-string name h0 h1 h2 h3 h4 h5 h6 = rw (h0, h1, h2, h3, h4, h5, h6) refl

pub is-ctype : (name : List ℕ) → same_text name (codes "stddef.h") ≡ false → same_text name (codes "stdbool.h") ≡ false → same_text name (codes "stdint.h") ≡ false → same_text name (codes "limits.h") ≡ false → same_text name (codes "stdlib.h") ≡ false → same_text name (codes "stdio.h") ≡ false → same_text name (codes "string.h") ≡ false → same_text name (codes "ctype.h") ≡ true → built_in_text name ≡ Some CTYPE.now
unfolding built_in_text
is-ctype name h0 h1 h2 h3 h4 h5 h6 h7 = rw (h0, h1, h2, h3, h4, h5, h6, h7) refl

pub is-assert : (name : List ℕ) → same_text name (codes "stddef.h") ≡ false → same_text name (codes "stdbool.h") ≡ false → same_text name (codes "stdint.h") ≡ false → same_text name (codes "limits.h") ≡ false → same_text name (codes "stdlib.h") ≡ false → same_text name (codes "stdio.h") ≡ false → same_text name (codes "string.h") ≡ false → same_text name (codes "ctype.h") ≡ false → same_text name (codes "assert.h") ≡ true → built_in_text name ≡ Some ASSERT.now
unfolding built_in_text
is-assert name h0 h1 h2 h3 h4 h5 h6 h7 h8 = rw (h0, h1, h2, h3, h4, h5, h6, h7, h8) refl

pub is-none : (name : List ℕ) → same_text name (codes "stddef.h") ≡ false → same_text name (codes "stdbool.h") ≡ false → same_text name (codes "stdint.h") ≡ false → same_text name (codes "limits.h") ≡ false → same_text name (codes "stdlib.h") ≡ false → same_text name (codes "stdio.h") ≡ false → same_text name (codes "string.h") ≡ false → same_text name (codes "ctype.h") ≡ false → same_text name (codes "assert.h") ≡ false → built_in_text name ≡ None
unfolding built_in_text
is-none name h0 h1 h2 h3 h4 h5 h6 h7 h8 = rw (h0, h1, h2, h3, h4, h5, h6, h7, h8) refl

pub header-of : {B : Type 0} (r : Option B) (f g : B → List ℕ) (name key angle text : List ℕ) → MatchOption r ⊥ (λ b. (f b ≡ angle) × (g b ≡ text)) → same_text name key ≡ true →
    shown key ≡ angle → built_in_text name ≡ Some text → length text < 65536 →
    MatchOption r (built_in_text name ≡ None) (λ b. (f b ≡ shown name) × (built_in_text name ≡ Some (g b)) × (length (g b) < 65536))
header-of None f g name key angle text h same angled is short = absurd h
header-of (Some b) f g name key angle text h same angled is short =
    let named : name ≡ key = (bytes_decides name key).0 same in
    (h.0 ∙ sym angled ∙ ap shown (sym named), is ∙ ap Some (sym h.1), subst (λ z. length z < 65536) (sym h.1) short)
