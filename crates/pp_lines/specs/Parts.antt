-- The parts of a list of tokens, put together line by line.
use Rattle.std.specs.Prelude.{ℕ, suc, Bool, true, false, not, ◌&&◌, if◌then◌else◌, List, [], ◌∷◌, ◌++◌}
use Rattle.std.specs.List.{prefix_len}
use Rattle.model_tokens.specs.PpTokens.{PpToken}
use Rattle.model_preprocessing.specs.Directives.{Part, part, is_text}

abbrev pub continues : PpToken → Bool
continues t = not t.first

-- how many tokens the first line has
abbrev pub line_length : List PpToken → ℕ
line_length [] = 0
line_length (t ∷ ts) = suc (prefix_len continues ts)

-- a part behind the others; text that follows text belongs to its run
abbrev pub added : List Part → Part → List Part
added [] p = p ∷ []
added (d ∷ []) p = if is_text d.kind && is_text p.kind then record d { tokens = d.tokens ++ p.tokens } ∷ [] else d ∷ p ∷ []
added (d ∷ (e ∷ ds)) p = d ∷ added (e ∷ ds) p

abbrev pub added_line : List Part → List PpToken → List Part
added_line ds [] = ds
added_line ds (t ∷ ts) = added ds (part t ts)
