use lib.ListN.{take}
use Rattle.lines.specs.Readings.{ReadsOn}
use Rattle.lines.proofs.reading.read_bytes.Given as goal

abbrev pub invariant-loop-byte : goal.invariant-loop-byte
invariant-loop-byte l = ReadsOn l.initial.read l.initial.numbers (take l.byte-index l.piece) l.read l.numbers
