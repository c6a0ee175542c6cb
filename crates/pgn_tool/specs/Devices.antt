-- **Definition**: the machine that the devices of a run are, by their states before and after it.
-- Files of games are of a type F, and a file that is being written of a type G.
use Rattle.std.specs.Prelude.{◌≡◌, false}
use Rattle.pgn_layout.specs.Device.{device}
use Rattle.pgn_layout.specs.declared.sink.Sink.{Ghosts as OfSink}
use Rattle.pgn_game.specs.declared.source.Source.{Ghosts as OfSource}
use Rattle.pgn_tool.specs.declared.files.GameFiles.{Ghosts as OfFiles}
use Rattle.pgn_tool.specs.declared.machine.Devices.{Devices}
use Rattle.pgn_tool.specs.declared.machine.Input.{Ghosts as OfInput}
use Rattle.pgn_tool.specs.declared.machine.Output.{Ghosts as OfOutput}
use Rattle.pgn_tool.specs.Machine.{Machine, Outputs, Reading}

-- what is read
abbrev pub reading : {I : Type 0} → OfSource I → OfInput I → I → I → Reading
reading source input old new = record {
  standard = device source.left source.failures old new;
  holding = input.holding old;
  refuses = input.refuses old;
}

-- There is a state of standard output with the bytes taken and the failures of the first one, in
-- which memory for its buffer is not lacking.
abbrev pub HasRoom : {O : Type 0} → OfSink O → OfOutput O → O → Type 0
HasRoom {O} sink output old =
    (reserved : O) × (sink.taken reserved ≡ sink.taken old)
    × (sink.failures reserved ≡ sink.failures old) × (output.lacks_memory reserved ≡ false)

-- what is written to these devices
abbrev pub outputs : {I O F G E : Type 0} → OfSink O → OfOutput O → OfFiles F G → OfSink E
    → Devices I O F E → Devices I O F E → Outputs
outputs sink output games errors old new = record {
  out = device sink.taken sink.failures old.out new.out;
  unflushed = sink.unflushed old.out;
  unflushed_after = sink.unflushed new.out;
  lacks_memory = output.lacks_memory new.out;
  has_room = HasRoom sink output old.out;
  files = games.log old.files;
  files_after = games.log new.files;
  err = device errors.taken errors.failures old.err new.err;
}

-- the machine of these devices
abbrev pub machine : {I O F G E : Type 0} → OfSource I → OfInput I → OfSink O → OfOutput O
    → OfFiles F G → OfSink E → Devices I O F E → Devices I O F E → Machine
machine source input sink output games errors old new = record {
  input = reading source input old.input new.input;
  second = reading source input old.second new.second;
  outputs = outputs sink output games errors old new;
}
