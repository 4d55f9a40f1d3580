-- The lines that the command reports, each ended by a line feed.
use Rattle.std.specs.Prelude.{ℕ, zero, suc, nat_lt, if◌then◌else◌, List, [], ◌∷◌, ◌++◌, length, slice_get, unwrap_or, codes}
use Rattle.std.specs.Fmt.{decimal}
use Rattle.cake_base.specs.declared.places.Place.{Place}
use Rattle.cake_base.specs.declared.rules.Family.{Family}
use Rattle.cake_base.specs.declared.rules.Family.TheVariants.{P, L, S, C, F, G}
use Rattle.cake_base.specs.declared.rules.Fault.{Fault}
use Rattle.cake_base.specs.declared.rules.LimitHit.{LimitHit}
use Rattle.cake_base.specs.declared.rules.Mark.{Mark}
use Rattle.cake_base.specs.declared.rules.Note.{Note}
use Rattle.cake_base.specs.declared.rules.Severity.{Severity}
use Rattle.cake_base.specs.declared.rules.Severity.TheVariants.{Error, Warning, Ignored}
use Rattle.model_findings.specs.Severities.{severity_at}
use Rattle.model_findings.specs.Ownership.{Ownership, NotChecked, Checked}
use Rattle.model_preprocessing.specs.Processes.{Log}
use Rattle.cake_cli.specs.RuleTexts.{rule_text, limit_text}

-- the name of the file of a number; a number that no file has has the empty name
abbrev pub name_in : Log → (file : ℕ) → List ℕ
name_in log file = unwrap_or (slice_get log.names file) []

-- NAME:LINE:COLUMN
abbrev pub place_text : Log → Place → List ℕ
place_text log place = name_in log place.file ++ (codes ":" ++ (decimal place.line ++ (codes ":" ++ decimal place.column)))

-- two digits at least
abbrev pub two_digits : ℕ → List ℕ
two_digits number = if nat_lt number 10 then codes "0" ++ decimal number else decimal number

abbrev pub letter_of : Family → List ℕ
letter_of P = codes "P"
letter_of L = codes "L"
letter_of S = codes "S"
letter_of C = codes "C"
letter_of F = codes "F"
letter_of G = codes "G"

-- with this word behind the place
abbrev pub rule_line : (word : List ℕ) → Log → Fault → List ℕ
rule_line word log fault =
    place_text log fault.place
    ++ (word
    ++ (letter_of fault.rule.family
    ++ (two_digits fault.rule.number ++ (codes ": " ++ (rule_text fault.rule ++ codes "\n")))))

-- PLACE: error P10: TEXT
abbrev pub fault_line : Log → Fault → List ℕ
fault_line log fault = rule_line (codes ": error ") log fault

-- the line on a finding, by its severity
abbrev pub finding_line : Severity → Log → Fault → List ℕ
finding_line Error log finding = fault_line log finding
finding_line Warning log finding = rule_line (codes ": warning ") log finding
finding_line Ignored log finding = []

abbrev pub finding_lines : Log → List Mark → List Fault → List ℕ
finding_lines log marks [] = []
finding_lines log marks (finding ∷ findings) = finding_line (severity_at marks finding) log finding ++ finding_lines log marks findings

-- ownership: clean, or ownership: findings N, whatever their severities
abbrev pub ownership_line : (count : ℕ) → List ℕ
ownership_line zero = codes "ownership: clean\n"
ownership_line (suc others) = codes "ownership: findings " ++ (decimal (suc others) ++ codes "\n")

-- PLACE: limit M04: TEXT
abbrev pub limit_line : Log → LimitHit → List ℕ
limit_line log hit =
    place_text log hit.place ++ (codes ": limit M" ++ (two_digits hit.limit.number ++ (codes ": " ++ (limit_text hit.limit ++ codes "\n"))))

-- PLACE: note: TOKENS
abbrev pub note_line : Log → Note → List ℕ
note_line log note = place_text log note.place ++ (codes ": note: " ++ (note.text ++ codes "\n"))

abbrev pub note_lines : Log → List Note → List ℕ
note_lines log [] = []
note_lines log (note ∷ notes) = note_line log note ++ note_lines log notes

-- the notes of a log
abbrev pub notes_text : Log → List ℕ
notes_text log = note_lines log log.notes

-- the notes, and what is said of a unit's ownership: nothing, where nobody looked for findings
abbrev pub ownership_text : Log → List Mark → Ownership → List ℕ
ownership_text log marks NotChecked = notes_text log
ownership_text log marks (Checked findings) = notes_text log ++ (finding_lines log marks findings ++ ownership_line (length findings))

abbrev pub not_built_line : Log → Place → List ℕ
not_built_line log place = place_text log place ++ codes ": not built yet\n"

abbrev pub cannot_read_line : List ℕ → List ℕ
cannot_read_line name = codes "cake: cannot read " ++ (name ++ codes "\n")

abbrev pub usage_line : ℕ → List ℕ
usage_line number = codes "cake: usage: word " ++ (decimal number ++ codes "\n")
