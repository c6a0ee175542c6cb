use Rattle.pgn_game.proofs.Words.{◌≡◌, ℕ, List, None, Option, Some, is_some, false, refl, sym, symbol, Marker, marker_of, is_score, rules}
use Rattle.pgn_game.proofs.ReaderLemmas.{reader_alike, number_no_score, number_free, number_leads, number_untried}
use Rattle.pgn_game.proofs.putting.TokenToEvent.{entry_means}
use Rattle.pgn_game.proofs.reader.Reader.accept_symbol.Goals as goal
use Rattle.pgn_game.proofs.reader.Reader.accept_symbol.Goals.{then-may_be_score_or_number+else-is_number+in_default, else-may_be_score_or_number}

-- a number is no marker
unmarked : (s : List ℕ) → is_score s ≡ false → marker_of (symbol s) ≡ None
unmarked s is = rw (is, marker_of) refl

pub returns-then-is_number : goal.returns-then-is_number
returns-then-is_number g c = search (rules, number_no_score, entry_means, unmarked, number_free, number_leads, number_untried)

pub returns-in-Some : goal.returns-in-Some
returns-in-Some g c = record { is = sym c.in-Some.ensures.text; same = refl }

no_marker : (o : Option Marker) → ((m : Marker) → o ≡ Some m → ⊥) → is_some o ≡ false
no_marker None other = refl
no_marker (Some m) other = absurd (other m refl)

pub accept_move-requires : goal.accept_move-requires
accept_move-requires g c = search (rules, then-may_be_score_or_number+else-is_number+in_default, no_marker, else-may_be_score_or_number, reader_alike)
