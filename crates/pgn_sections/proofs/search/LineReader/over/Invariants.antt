use Rattle.pgn_sections.proofs.Words.{◌≡◌, drop, reader_over}
use Rattle.pgn_sections.specs.LineReaders.{Reads}
use Rattle.pgn_sections.proofs.search.LineReader.over.Given as goal

-- the rest of the piece goes on from the reader so far
abbrev pub invariant-loop-byte : goal.invariant-loop-byte
invariant-loop-byte l =
    record {
      reader : reader_over l.initial.reader l.piece ≡ reader_over l.reader (drop l.byte-index l.piece);
      reads : Reads l.byte-index l.initial.reader l.reader;
    }
