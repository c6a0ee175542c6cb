-- What most proofs name.
pub use Rattle.pgn_layout.specs.Laws.{LinesAreThosePut, TokensDetermineLines, LinesKeepTokens, LinesOfKeepTokens}
pub use Rattle.pgn_layout.specs.Layout.{EndGame, Put, laid_from, ended, Laid}
pub use Rattle.pgn_layout.specs.LineText.{is_gap, IsTextOf, no_token, next_token}
pub use Rattle.pgn_layout.specs.Lines.{Line, AreFull, IsToken, Lines, full_lines, last_line, lines_of, text_of, tokens_over, tokens_on, spaced, text_on, has_room, lines_from}
pub use Rattle.pgn_layout.specs.TagLine.{needs_escape, escape_of, escaped}
pub use Rattle.std.proofs.Common.{◌≡◌, ℕ, ◌+◌, ◌<◌, ◌≤◌, Bool, if◌then◌else◌, List, [], ◌∷◌, ◌++◌, length, take, drop, get_or, ap, sym, ◌∙◌, add-one, append_assoc, append-nil, length-append, arith, refl, map, true, false, ◌-◌, Option, Result, Ok, Err}
pub use Rattle.std.proofs.Math.Seq.{take-suc, take-add, take-append-add}
pub use Rattle.std.proofs.lemmas.Bool.{false≢true, le-leb, lt-leb}
pub use Rattle.std.proofs.lemmas.Bool.Decides.{nat_tests}
pub use Rattle.std.proofs.lemmas.Grind.{common_steps}
pub use Rattle.std.proofs.lemmas.List.{take-append-drop, take-append-le, take_rest}
pub use Rattle.std.proofs.lemmas.List.Elements.{All-cons, All-nil, All-head, All-tail}
pub use Rattle.std.specs.Io.KnownBytes.{Appends}
pub use Rattle.std.specs.Prelude.{◌↔◌, All, codes, replicate, IsTrue}
