-- What the code keeps of a piece: its heights, as far as the limit counts them, and no list of marks.
use Rattle.std.specs.Prelude.{ℕ, ◌≡◌, ◌+◌, min, max, Bool, true, false}
use Rattle.grammar_laws.specs.DepthPlace.{Mark, Piece, PassesLimit, AreShallow, max_parts}
use Rattle.c_parser.specs.declared.heights.Heights.{Heights}
use Rattle.c_parser.specs.declared.heights.Context.{Context}

-- a number past the limit stands as the first that passes it
abbrev pub counted : ℕ → ℕ
counted n = min n (max_parts + 1)

pub record Counts (h : Heights) (p : Piece) : Type 0 where
  pub height : h.piece ≡ counted p.height
  pub ended : h.ended ≡ counted p.ending

-- the mark of a token inside n parts, behind the piece
abbrev pub next_mark : ℕ → Piece → Mark
next_mark n p = record { inside = n; ended = max p.ending 0 }

-- inside n parts, behind a piece of which no token is met in too many
pub record Stands (context : Context) (h : Heights) (n : ℕ) (p : Piece) : Type 0 where
  pub parts : context.parts ≡ counted n
  pub heights : Counts h p
  pub shallow : AreShallow p.marks

-- whether the next token is met in too many
abbrev pub Tells : Context → Heights → Bool → Type 0
Tells context h true = (n : ℕ) (p : Piece) → Stands context h n p → PassesLimit (next_mark n p)
Tells context h false = (n : ℕ) (p : Piece) → Stands context h n p → PassesLimit (next_mark n p) → ⊥
