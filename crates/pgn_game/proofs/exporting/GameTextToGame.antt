-- The text of a game that sound tokens spelled: it spells the game with its defaults filled in, and
-- that game has the same text.
use Rattle.pgn_game.proofs.Words.{InOrder, ◌≡◌, ℕ, ◌≤◌, true, List, [], length, refl, sym, subst, arith, Option, codes, not, unwrap_or, IsTrue, Ok, AllByRecursion, list_all, is_position, ReadingIsSpelling, starts_symbol, continues_symbol, begins_with, IsSymbol, IsData, Parts, Mode, Game, Pair, value_of, Profile, Missing, first_position, position_of, is_result, result_for, exported_pairs, TagSectionFits, start_of, KeepsTags, IsPair, by_name, IsResult, roster, roster_pairs, exported, Marker, marker_text, rules}
use Rattle.chess_rules.specs.Square.{squares}
use Rattle.pgn_lexer.specs.Lexes.{is_barred}
use Rattle.pgn_game.proofs.MarkerTexts.{result_marker}
use Rattle.pgn_game.proofs.reading.PairsInTurn.{all-all}
use Rattle.pgn_game.proofs.pairs.ExportedValues.{on_roster, all-exported}
use Rattle.pgn_game.proofs.exporting.PairsExportedAgain.{keeps_exported, by_name_values, by_name_order}
use Rattle.pgn_game.proofs.exporting.PiecesToTokens.{IsSoundPair}
use Rattle.pgn_game.proofs.exporting.SpelledToSound.{SoundGame, marker_is_result}

-- The Result that is exported where it is missing.
same_result : (missing : Missing) (o : Option (List ℕ)) (m : List ℕ)
    → IsResult missing o m → unwrap_or o (result_for missing m) ≡ unwrap_or o m
same_result missing o m is = grind arith

roster_result : (r m : List ℕ) (ps : List Pair)
    → unwrap_or (value_of ps (codes "Result")) r ≡ unwrap_or (value_of ps (codes "Result")) m → roster_pairs r ps ≡ roster_pairs m ps
unfolding roster
roster_result r m ps e = cc

pub exported_result : (mode : Mode) (missing : Missing) (m : List ℕ) (ps : List Pair) → IsResult missing (value_of ps (codes "Result")) m
    → exported mode (result_for missing m) ps ≡ exported mode m ps
exported_result mode missing m ps is = grind (arith, same_result, roster_result)

pub given_result : (missing : Missing) (o : Option (List ℕ)) {m : List ℕ} → IsResult missing o m → m ≡ unwrap_or o m
given_result missing o is = search rules

-- Pairs that are exported are written as sound tokens.
symbol_of : {text : List ℕ} → IsTrue (begins_with starts_symbol text)
    → IsTrue (list_all continues_symbol text) → length text ≤ 255 → IsSymbol text
symbol_of begins bytes fits = record { begins = begins; bytes = bytes; fits = fits }

data_of : {text : List ℕ} → IsTrue (list_all (λ b. not (is_barred b)) text) → length text ≤ 255 → IsData text
data_of bytes fits = record { bytes = bytes; fits = fits }

marker_data : (m : Marker) → IsData (marker_text m)
marker_data m = search (rules, data_of)

unknown_pair : {name : List ℕ} → IsSymbol name → IsSoundPair (record { name = name; value = codes "?" })
unknown_pair {name} is = record { name = is; value = data_of refl (omega arith) }

sound_roster : (m : List ℕ) → is_result m ≡ true → AllByRecursion IsSoundPair (roster m)
sound_roster m is =
    on_roster _ m (unknown_pair (symbol_of refl refl (omega arith))) (unknown_pair (symbol_of refl refl (omega arith)))
    (record { name = search (rules, symbol_of); value = data_of refl (omega arith) })
    (unknown_pair (symbol_of refl refl (omega arith))) (unknown_pair (symbol_of refl refl (omega arith)))
    (unknown_pair (symbol_of refl refl (omega arith)))
    (record { name = symbol_of refl refl (omega arith); value = let marker = result_marker m is in rw marker.1 (marker_data marker.0) })

sound_exported : (mode : Mode) (m : List ℕ) (ps : List Pair) → is_result m ≡ true
    → AllByRecursion IsSoundPair ps → AllByRecursion IsSoundPair (exported mode m ps)
sound_exported mode m ps is h = search (rules, all-exported, symbol_of, data_of, sound_roster)

pub some_exported : (mode : Mode) (m : List ℕ) (ps : List Pair) → exported mode m ps ≡ [] → ⊥
unfolding roster
some_exported mode m ps e = search rules

first_is_position : IsTrue (is_position first_position)
unfolding first_position squares
first_is_position = refl

module _ (reads_fen : ReadingIsSpelling) where
  fen_is_position : (text : List ℕ) (start : Parts) → position_of text ≡ Ok start → IsTrue (is_position start)
  unfolding position_of
  fen_is_position text start e = ((reads_fen text start).1 e).position

  pub start_is_position : (ps : List Pair) → IsTrue (is_position (start_of ps))
  start_is_position ps = grind (arith, first_is_position, fen_is_position)

pub record ExportedPairs (p : Profile) (g : Game) : Type 0 where
  pub keeps : KeepsTags p (exported_pairs p.mode g)
  pub sound : AllByRecursion IsSoundPair (exported_pairs p.mode g)
  pub order : InOrder g.pairs
  pub each : AllByRecursion (IsPair p.mode) g.pairs
  pub same : (n : List ℕ) → value_of (by_name (exported_pairs p.mode g)) n ≡ value_of (exported_pairs p.mode g) n

pub exported_of : (p : Profile) (g : Game) → SoundGame p g → TagSectionFits p g → ExportedPairs p g
exported_of p g h room =
    let order = subst InOrder (sym h.sorted) (by_name_order p h.keeps) in
    let each = (rw (← h.sorted) at (all-all (IsPair _) [] h.given tt h.keeps.each)) in
    let sound = (rw (← h.sorted) at (all-all _ [] h.given tt h.sound_pairs)) in
    let is = marker_is_result h.last h.marker in
    let keeps = keeps_exported p g.marker g.pairs is order each room in search (rules, sound_exported, by_name_values)
