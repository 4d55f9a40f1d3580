-- Files and a sink in memory, which fail where they are told to.
use Rattle.std.specs.Prelude.{ℕ, ◌-◌, min, List, [], ◌∷◌, ◌++◌, length, take, Option, Some, None, Bool, false, not, ◌||◌, ◌&&◌, ◌==◌, nat_lt, is_some, is_none, if◌then◌else◌}
use Rattle.cake_base.specs.Counts.{last_count, counted}
use Rattle.cake_base.specs.Outside.{Held, bytes_under, FilesView, SinkView}

-- files in memory: names with bytes, the numbers of the reads that are to fail, and three counts
pub record MemFilesView : Type 0 where
  pub held : Held
  pub failing : List ℕ
  pub calls : ℕ
  pub faults : ℕ
  pub misses : ℕ

-- a sink in memory: its bytes and room, the puts that are to fail with what each still takes, and two counts
pub record MemSinkView : Type 0 where
  pub bytes : List ℕ
  pub room : ℕ
  pub failing : List (ℕ × ℕ)
  pub calls : ℕ
  pub faults : ℕ

-- the number of calls is told below the counter's last value
abbrev pub told_calls : ℕ → Option ℕ
told_calls calls = if nat_lt calls last_count then Some calls else None

-- what the put of this number still takes, by the entry that was made first
abbrev pub listed_limit : List (ℕ × ℕ) → ℕ → Option ℕ
listed_limit [] number = None
listed_limit (entry ∷ entries) number = if entry.0 == number then Some entry.1 else listed_limit entries number

-- the number stands in the list
abbrev pub is_listed : List ℕ → ℕ → Bool
is_listed [] number = false
is_listed (other ∷ numbers) number = (other == number) || is_listed numbers number

-- the next read is to fail
abbrev pub read_fails : MemFilesView → Bool
read_fails files = is_listed files.failing (counted files.calls)

-- what the next read leaves
abbrev pub after_read : MemFilesView → List ℕ → MemFilesView
after_read files name = record files {
  calls = counted files.calls;
  faults = if read_fails files then counted files.faults else files.faults;
  misses = if not (read_fails files) && is_none (bytes_under files.held name) then counted files.misses else files.misses;
}

-- how much of a piece of this length fits
abbrev pub fitting : MemSinkView → ℕ → ℕ
fitting sink size = min size (sink.room - length sink.bytes)

-- a number, or a limit where there is a smaller one
abbrev pub limited : Option ℕ → ℕ → ℕ
limited None n = n
limited (Some limit) n = min limit n

-- how much of a piece of this length the next put takes
abbrev pub taken : MemSinkView → ℕ → ℕ
taken sink size = limited (listed_limit sink.failing (counted sink.calls)) (fitting sink size)

-- the next put fails: it is listed, or the piece doesn't fit
abbrev pub put_fails : MemSinkView → ℕ → Bool
put_fails sink size = is_some (listed_limit sink.failing (counted sink.calls)) || nat_lt (taken sink size) size

-- what the next put leaves
abbrev pub after_put : MemSinkView → List ℕ → MemSinkView
after_put sink piece = record {
  bytes = sink.bytes ++ take (taken sink (length piece)) piece;
  room = sink.room;
  failing = sink.failing;
  calls = counted sink.calls;
  faults = if put_fails sink (length piece) then counted sink.faults else sink.faults;
}

-- files in memory tell what they hold
abbrev pub files_view : MemFilesView → FilesView
files_view files = record { held = Some files.held; calls = told_calls files.calls; faults = files.faults; misses = files.misses }

-- a sink in memory tells its content
abbrev pub sink_view : MemSinkView → SinkView
sink_view sink = record { content = Some sink.bytes; faults = sink.faults }
