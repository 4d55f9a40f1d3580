-- What the errors and streams of the system are to the command.
use Rattle.std.specs.Prelude.{ℕ, None}
use Rattle.std.specs.declared.io.ErrorKind.{ErrorKind}
use Rattle.std.specs.declared.io.ErrorKind.TheVariants.{NotFound, NotADirectory, InvalidFilename, InvalidInput}
use Rattle.cake_base.specs.Outside.{SinkView}
use Rattle.cake_base.specs.declared.outside.ReadFault.{ReadFault}
use Rattle.cake_base.specs.declared.outside.ReadFault.TheVariants.{Missing, Failed}

-- no file has the name: none was found, what stands before a `/` of it is a plain file, or no file can have it;
-- else the system failed
abbrev pub opening_fault : ErrorKind → ReadFault
opening_fault NotFound = Missing
opening_fault NotADirectory = Missing
opening_fault InvalidFilename = Missing
opening_fault InvalidInput = Missing
opening_fault kind = Failed

-- a stream that tells no content
abbrev pub untold : (faults : ℕ) → SinkView
untold faults = record { content = None; faults = faults }
