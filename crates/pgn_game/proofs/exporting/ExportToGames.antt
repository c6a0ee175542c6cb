-- The export text of games that some text spells: it spells them with their defaults filled in, and
-- these have the same text.
use Rattle.pgn_game.proofs.Words.{◌≡◌, ℕ, false, List, [], ◌∷◌, ◌++◌, map, refl, sym, ap, subst, ◌∙◌, append_assoc, append-nil, Some, codes, All-append, All-map, AllByRecursion, ReadingIsSpelling, lines_of, text_of as text_of_lines, KindsAreReadBack, TokensAreSound, IsSoundKind, CommentsClose, tokens_of, written, AreEnded, IsReadable, marker_of, exported_pairs, filled, TagSectionFits, AreExportable, TextSpells, Kind, Game, value_of, Profile, start_of, plies_of, Spells, by_name, IsResult, SpellsGame, SpellsGames, no_game, next_game, tag_lines, tokens_out, game_text, arith, rules, text_of_games as text_of, LinesOfKeepTokens}
use Rattle.pgn_lexer.specs.Tokens as tokens
use Rattle.pgn_game.proofs.AllOfJoined.{all_front, all_behind}
use Rattle.pgn_game.proofs.exporting.GameTextToGame.{ExportedPairs, exported_of, exported_result, given_result, some_exported, start_is_position}
use Rattle.pgn_game.proofs.exporting.PairsExportedAgain.{exported_again, start_again, is_set_up_again, result_again, by_name_order}
use Rattle.pgn_game.proofs.exporting.MovetextOfMode.{kept, KeptText, kept_text}
use Rattle.pgn_game.proofs.exporting.PiecesToTokens.{AllShown, none_shown, next_shown, single, shown-append, PiecesOf, no_pieces, both_pieces, at_text, line_feed, line_pieces, tag_kinds, tag_pieces, tags_spell, tags_close}
use Rattle.pgn_game.proofs.reading.RunsToEnd.{kinds}
use Rattle.pgn_game.proofs.exporting.SpelledToSound.{SoundGame, sound_game, marker_opens, marker_closed, marker_written, marker_writable}
use Rattle.pgn_game.proofs.exporting.MoveTextToMove.{MoveLaws}

pub record WrittenGame (p : Profile) (g : Game) : Type 0 where
  pub kinds : List Kind
  pub spells : SpellsGame p kinds (filled p.mode g)
  pub pieces : PiecesOf kinds (game_text p g)
  pub closes : (more : List Kind) → CommentsClose false more → CommentsClose false (kinds ++ more)
  pub again : game_text p (filled p.mode g) ≡ game_text p g
  pub plies : plies_of (filled p.mode g) ≡ plies_of g

abbrev game_tokens : Profile → Game → List (List ℕ)
game_tokens p g = tokens_out p.mode (start_of g.pairs) g.items ++ g.marker ∷ []

marker_shown : (k : Kind) {marker : List ℕ} → marker_of k ≡ Some marker → AllShown (k ∷ []) (marker ∷ [])
marker_shown k is = rw (marker_written k is) at (next_shown _ [] (written k) [] (single k) none_shown)

with_kinds : {ks ls : List Kind} {s : List ℕ} → ks ≡ ls → PiecesOf ks s → PiecesOf ls s
with_kinds e a = record { pieces = a.pieces; text = a.text; kinds = a.kinds ∙ e; sound = a.sound; ended = a.ended }

with_feed : {ks : List Kind} {s : List ℕ} → PiecesOf ks s → PiecesOf ks (s ++ 10 ∷ [])
with_feed {ks} a = with_kinds (append-nil ks) (both_pieces a line_feed)

-- the pieces of a tag section, of lines and of the empty line
section_pieces : {tags text : List Kind} {a b : List ℕ} → PiecesOf tags a
    → PiecesOf text b → PiecesOf (tags ++ text) ((a ++ 10 ∷ []) ++ b ++ 10 ∷ [])
section_pieces h k = with_feed (both_pieces (with_feed h) k)

-- What is shown of exportable games: their text spells them again, it is their text again, and they
-- have as many plies.
pub record ExportedGames (p : Profile) (gs : List Game) : Type 0 where
  pub spells : Spells p (tokens_of (text_of p gs)) (map (filled p.mode) gs)
  pub again : text_of p (map (filled p.mode) gs) ≡ text_of p gs
  pub plies : map plies_of (map (filled p.mode) gs) ≡ map plies_of gs

module _ (laws : MoveLaws) (reads_fen : ReadingIsSpelling) (lines_keep : LinesOfKeepTokens) where
  text_kept : {p : Profile} {g : Game} (h : SoundGame p g) → ExportedPairs p g → KeptText p.mode p (start_of g.pairs) h.text g.items
  text_kept h e = search (rules, start_is_position, kept_text)

  game_pieces : (p : Profile) (g : Game) (h : SoundGame p g) → ExportedPairs p g → (k : KeptText p.mode p (start_of g.pairs) h.text g.items)
      → PiecesOf (tag_kinds (exported_pairs p.mode g) ++ (k.kinds ++ h.last ∷ [])) (game_text p g)
  game_pieces p g h e k =
      let lines = text_of_lines (lines_of (game_tokens p g)) in
      let text = k.kinds ++ h.last ∷ [] in
      at_text
      (ap (λ ps. (tag_lines ps ++ 10 ∷ []) ++ lines ++ 10 ∷ []) (sym (exported_result _ p.missing_result _ _ h.result)))
      (section_pieces (tag_pieces _ e.sound) (line_pieces (shown-append k.shown (marker_shown _ h.marker))
      (All-append _ k.kinds _ k.writable (marker_writable _ h.marker h.sound_marker, tt)) (lines_keep _)))

  result_meets : (p : Profile) (g : Game) → SoundGame p g → ExportedPairs p g
      → IsResult p.missing_result (value_of (by_name (exported_pairs p.mode g)) (codes "Result")) g.marker
  result_meets p g h e =
      rw (result_again p.mode g.marker g.pairs (by_name (exported_pairs p.mode g)) e.same)
      (given_result p.missing_result (value_of g.pairs (codes "Result")) h.result)

  same_start : (p : Profile) (g : Game) → ExportedPairs p g → start_of (by_name (exported_pairs p.mode g)) ≡ start_of g.pairs
  same_start p g e = start_again p.mode g.marker g.pairs (by_name (exported_pairs _ g)) e.each e.same

  game_spells : (p : Profile) (g : Game) (h : SoundGame p g) → ExportedPairs p g → (k : KeptText p.mode p (start_of g.pairs) h.text g.items)
      → SpellsGame p (tag_kinds (exported_pairs p.mode g) ++ (k.kinds ++ h.last ∷ [])) (filled p.mode g)
  game_spells p g h e k = record {
    before = [];
    tags = tag_kinds _;
    text = k.kinds;
    last = h.last;
    given = exported_pairs _ g;
    tokens = refl;
    dropped = refl;
    pairs = tags_spell _;
    keeps = e.keeps;
    sorted = refl;
    set_up = is_set_up_again p.mode g.marker g.pairs (by_name (exported_pairs _ g)) h.set_up e.same;
    bare = λ none. absurd (some_exported _ _ _ none);
    items = rw (same_start p g e) k.spells;
    marker = h.marker;
    result = result_meets p g h e;
  }

  game_closed : {p : Profile} (g : Game) (h : SoundGame p g) (k : KeptText p.mode p (start_of g.pairs) h.text g.items) (more : List Kind)
      → CommentsClose false more → CommentsClose false ((tag_kinds (exported_pairs p.mode g) ++ (k.kinds ++ h.last ∷ [])) ++ more)
  game_closed g h k more closes =
      simp append_assoc (tags_close (exported_pairs _ g) (k.kinds ++ h.last ∷ more)
      (k.closes (h.last ∷ h.later) _ (λ d c. marker_opens _ d _ more h.marker c closes)
      (marker_closed _ more h.marker closes) h.closes))

  game_again : {p : Profile} {g : Game} (h : SoundGame p g) → ExportedPairs p g → KeptText p.mode p (start_of g.pairs) h.text g.items
      → game_text p (filled p.mode g) ≡ game_text p g
  game_again h e k = grind (arith, exported_result, exported_again, by_name_order, kept, result_meets, same_start)

  written_game : (p : Profile) (g : Game) → SoundGame p g → TagSectionFits p g → WrittenGame p g
  written_game p g h room =
      let e = exported_of p g h room in
      let k = text_kept h e in
      record {
        kinds = tag_kinds _ ++ (k.kinds ++ h.last ∷ []);
        spells = game_spells p g h e k;
        pieces = game_pieces p g h e k;
        closes = game_closed g h k;
        again = game_again h e k;
        plies = cc;
      }

  pub record WrittenGames (p : Profile) (gs : List Game) : Type 0 where
    pub kinds : List Kind
    pub spells : SpellsGames p (kinds ++ tokens.end ∷ []) (map (filled p.mode) gs)
    pub pieces : PiecesOf kinds (text_of p gs)
    pub closes : CommentsClose false kinds
    pub again : text_of p (map (filled p.mode) gs) ≡ text_of p gs
    pub plies : map plies_of (map (filled p.mode) gs) ≡ map plies_of gs

  one_more_game : {p : Profile} {g : Game} {gs : List Game} → WrittenGame p g → WrittenGames p gs → WrittenGames p (g ∷ gs)
  one_more_game a b = record {
    kinds = a.kinds ++ b.kinds;
    spells =
        rw (append_assoc a.kinds b.kinds (tokens.end ∷ []))
        (next_game a.kinds (b.kinds ++ tokens.end ∷ []) _ _ a.spells b.spells);
    pieces = both_pieces a.pieces b.pieces;
    closes = a.closes _ b.closes;
    again = cc;
    plies = cc;
  }

  written_games : {p : Profile} {ks : List Kind} {gs : List Game} → SpellsGames p ks gs → AllByRecursion IsSoundKind ks → CommentsClose false ks
      → AllByRecursion (TagSectionFits p) gs → WrittenGames p gs
  written_games (no_game ks are) sound closes room =
      record { kinds = []; spells = no_game [] refl; pieces = no_pieces; closes = tt; again = refl; plies = refl }
  written_games {p} (next_game ks ls g gs first rest) sound closes room =
      let this = sound_game ls first (all_front _ ks ls sound) closes in
      one_more_game (written_game p g this.0 room.0) (written_games rest (all_behind _ ks ls sound) this.1 room.1)

  module _ (sound : TokensAreSound) (read_back : KindsAreReadBack) where
    exportable_written : {p : Profile} {gs : List Game} → AreExportable p gs → WrittenGames p gs
    exportable_written h =
        let is = sound h.source in search (rules, written_games, All-map)

    pub text_spells : TextSpells
    text_spells p gs h =
        let w = exportable_written h in
        let ps = w.pieces.pieces in
        let readable : IsReadable ps =
        record {
          pieces = w.pieces.sound;
          ended = subst AreEnded (append-nil ps) (w.pieces.ended [] tt);
          comments = (rw w.pieces.kinds w.closes);
        } in
        let same =
        ap (λ s. kinds (tokens_of s)) (sym w.pieces.text) ∙ read_back ps readable ∙ ap (λ ks. ks ++ tokens.end ∷ []) w.pieces.kinds in search rules

    pub exported_games : (p : Profile) (gs : List Game) → AreExportable p gs → ExportedGames p gs
    exported_games p gs h =
        let w = exportable_written h in search (rules, text_spells)
