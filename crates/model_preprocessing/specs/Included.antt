-- Inclusion of files (ISO/IEC 9899:2024, 6.10.3): the directive, and the lines of the file that it names.
use Rattle.std.specs.Prelude.{ℕ, zero, suc, if◌then◌else◌, List, [], slice_get, Option, Some, None, Result, Ok, Err}
use Rattle.cake_base.specs.declared.places.Place.{Place}
use Rattle.cake_base.specs.declared.rules.Fault.{Fault}
use Rattle.model_macros.specs.MacroArguments.{is_nil}
use Rattle.model_preprocessing.specs.Directives.{Part}
use Rattle.model_preprocessing.specs.Includes.{HeaderName, direct_name, replaced_name, candidates}
use Rattle.model_preprocessing.specs.Processes.{broken, Process, gives, and_then}
use Rattle.model_preprocessing.specs.Sources.{State, Source, here, stops, faults, limits}
use Rattle.model_preprocessing.specs.ControlLines.{replaced}
use Rattle.model_preprocessing.specs.Preprocessing.{all_lines}
use Rattle.model_preprocessing.specs.FileSearch.{Found, searched}

-- the lines of the file of a number
abbrev pub Enter : Type 0
Enter = (file : ℕ) → State → Process State

-- how the lines of a file are done one level further down; none where includes nest no deeper
abbrev pub Deeper : Type 0
Deeper = Option Enter

-- ---- the name on the line

abbrev pub name_or_fault : Place → State → Option HeaderName → Process (HeaderName × State)
name_or_fault at s None = faults s at 17
name_or_fault at s (Some h) = if is_nil h.name then faults s at 17 else gives (h, s)

-- where neither form stands on the line, its tokens are replaced
abbrev pub name_in : Part → State → Option HeaderName → Process (HeaderName × State)
name_in p s (Some h) = name_or_fault (here s p.at) s (Some h)
name_in p s None = replaced s p.tokens (λ ts s'. name_or_fault (here s p.at) s' (replaced_name ts))

abbrev pub header_of : Part → State → Process (HeaderName × State)
header_of p s = name_in p s (direct_name p.tokens)

-- ---- the directive

-- a file that has no number has the empty name
abbrev pub name_of : Option (List ℕ) → List ℕ
name_of None = []
name_of (Some name) = name

abbrev pub all_candidates : (dirs : List (List ℕ)) → (file : ℕ) → HeaderName → State → List (List ℕ)
all_candidates dirs file h s = candidates (name_of (slice_get s.log.names file)) dirs h

abbrev pub entered : Enter → Found → Process State
entered enter (None, s) = gives s
entered enter (Some file, s) = enter file s

abbrev pub sought : Deeper → List (List ℕ) → (file : ℕ) → Place → HeaderName → State → Process State
sought None dirs file at h s = limits s at 3
sought (Some enter) dirs file at h s = and_then (searched at h.name (all_candidates dirs file h s) s) (entered enter)

abbrev pub include_line : Deeper → List (List ℕ) → (file : ℕ) → Part → State → Process State
include_line deeper dirs file p s = and_then (header_of p s) (λ v. sought deeper dirs file (here s p.at) v.0 v.1)

-- ---- the lines of a file

abbrev pub lines_of : (include : Part → State → Process State) → (file : ℕ) → State → Result (List Part) Fault → Process State
lines_of include file s (Ok ps) = all_lines file include ps [] s
lines_of include file s (Err fault) = stops s (broken (record fault { place = here s fault.place }))

abbrev pub file_lines : (include : Part → State → Process State) → (file : ℕ) → State → Option Source → Process State
file_lines include file s None = gives s
file_lines include file s (Some f) = lines_of include file s f.lines

-- the lines of the file of this number
abbrev pub translated : Deeper → List (List ℕ) → Enter
translated deeper dirs file s = file_lines (include_line deeper dirs file) file s (slice_get s.sources file)

-- so many levels of includes are left
unfoldable pub levels : List (List ℕ) → ℕ → Deeper
levels dirs zero = None
levels dirs (suc n) = Some (translated (levels dirs n) dirs)
