-- The lines of notes, one note further.
use Rattle.std.proofs.Common.{◌≡◌, ℕ, ◌+◌, List, ◌++◌, drop, slice_get, Some, sym, ap, ◌∙◌, append_assoc}
use Rattle.cake_base.specs.declared.rules.Note.{Note}
use Rattle.model_preprocessing.specs.Processes.{Log}
use Rattle.cake_cli.specs.ReportLines.{note_line, note_lines}
use Rattle.cake_cli.proofs.GetLaws.{drop_get}

pub one_note : (log : Log) (text text' all : List ℕ) (notes : List Note) (at : ℕ) (note : Note) → slice_get notes at ≡ Some note → text' ≡ text ++ note_line log note → text ++ note_lines log (drop at notes) ≡ all → text' ++ note_lines log (drop (at + 1) notes) ≡ all
one_note log text text' all notes at note is more h =
    ap (λ x. x ++ note_lines log (drop (at + 1) notes)) more
    ∙ append_assoc text (note_line log note) (note_lines log (drop (at + 1) notes))
    ∙ ap (λ ns. text ++ note_lines log ns) (sym (drop_get notes at note is))
    ∙ h
