-- What is placed, as it stands for what the definition places.
use Rattle.std.specs.Prelude.{List, [], ◌∷◌}
use Rattle.model_checking.specs.Placing as p
use Rattle.check_base.specs.Meanings.{value_in}
use Rattle.check_placing.specs.declared.placed.Content.{Content}
use Rattle.check_placing.specs.declared.placed.Content.TheVariants as content
use Rattle.check_placing.specs.declared.placed.Placed.{Placed}

abbrev pub content_of : Content → p.Content
content_of (content.Value value later) = p.Value (value_in value) later
content_of (content.Text object bytes address) = p.Text object.0 bytes address
content_of content.Zeros = p.Zeros

abbrev pub placed_of : Placed → p.Placed
placed_of x = record { path = x.path; type = x.ty; content = content_of x.content; first = x.first }

abbrev pub all_placed : List Placed → List p.Placed
all_placed [] = []
all_placed (x ∷ xs) = placed_of x ∷ all_placed xs
