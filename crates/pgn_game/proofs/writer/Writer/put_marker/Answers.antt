use Rattle.pgn_game.proofs.Words.{◌≡◌, ℕ, List, [], Option, OnOk, Result, Appends, Counts, PutsMarker, Written, Writer, Writes, is_nothing, mode_of_written, marker_text, Put, EndGame, line_at, text_at, rules}
use Rattle.pgn_game.specs.declared.mode.Written.TheVariants.{Nothing}
use Rattle.pgn_layout.specs.declared.sink.WriteFault.{WriteFault}
use Rattle.pgn_game.proofs.putting.ItemToMovetext.{from_to}
use Rattle.pgn_game.proofs.putting.SilentReader.{seen_if, writes_some}
use Rattle.pgn_game.proofs.putting.WritesInTurn.{counts_behind}
use Rattle.pgn_layout.proofs.OneWriteMore.{Writes-append}
use Rattle.pgn_game.proofs.writer.Writer.put_marker.Goals as goal

-- the marker was put, and then the game ended
module _ (old : Writer) (line : List ℕ) (marker : List ℕ) (r : Result (Unit {0}) WriteFault) (a b c : Option (List ℕ)) (n m k : ℕ)
    (put : Appends a b (text_at old.line (Put marker))) (rest : Writes b c r (text_at (line_at old.line (Put marker)) EndGame))
    (empty : OnOk r (line ≡ [])) (still : m ≡ n) (counted : Counts r m k) where
  ends : (w : Written) → (w ≡ Nothing → ⊥)
      → PutsMarker {A = Unit {0}} {E = WriteFault} (mode_of_written w) marker old (record old { line = line }) r (from_to a c n k)
  ends w some = search (rules, Writes-append, counts_behind)

pub returns : goal.returns
returns g c =
    let old = c.args.self.now in
    let writes = writes_some old.written c.in_default.not-Nothing in
    let put = rw c.text.ensures.text at c.in_ok-put.ensures.text in
    let rest = rw (c.in_ok-put.ensures.line, c.text.ensures.text) at c.end_game.ensures.text in
    record {
      writes = seen_if (λ d. PutsMarker {A = Unit {0}} {E = WriteFault} (mode_of_written old.written) (marker_text c.args.marker) old
          (record old { line = c.end_game.new.self }) c.end_game.result d) (is_nothing old.written) _ writes
          (ends old c.end_game.new.self (marker_text c.args.marker) c.end_game.result _ _ _ _ _ _ put rest c.end_game.ensures.line
          c.in_ok-put.ensures.counted c.end_game.ensures.counted old.written c.in_default.not-Nothing);
      silent = λ silent. absurd (cc (writes, silent));
    }
